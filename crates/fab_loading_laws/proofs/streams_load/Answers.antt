use Rattle.fab_loading_laws.proofs.Turns.{loaded}
use Rattle.fab_loading_laws.proofs.streams_load.Goals as goal

pub returns : goal.returns
returns c = loaded
