use Rattle.fab_judged_laws.proofs.FeatureTexts.{fasm_judged}
use Rattle.fab_judged_laws.proofs.features_are_judged.Goals as goal

pub returns : goal.returns
returns c = fasm_judged
