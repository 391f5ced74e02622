use Rattle.fab_flow_laws.proofs.DesignRight.{features_right}
use Rattle.fab_flow_laws.proofs.design_features_are_right.Goals as goal

pub returns : goal.returns
returns c = features_right
