use Rattle.fab_nested_laws.proofs.LoadingTakes.{loading_takes_one}
use Rattle.fab_nested_laws.proofs.loading_takes_one.Goals as goal

pub returns : goal.returns
returns c = loading_takes_one
