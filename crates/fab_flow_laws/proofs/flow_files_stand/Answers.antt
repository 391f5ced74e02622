use Rattle.fab_flow_laws.proofs.Stored.{holds_flow}
use Rattle.fab_flow_laws.proofs.flow_files_stand.Goals as goal

pub returns : goal.returns
returns c = holds_flow
