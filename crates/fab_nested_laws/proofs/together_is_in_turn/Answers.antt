use Rattle.fab_nested_laws.proofs.InTurn.{together_is_in_turn}
use Rattle.fab_nested_laws.proofs.together_is_in_turn.Goals as goal

pub returns : goal.returns
returns c = together_is_in_turn
