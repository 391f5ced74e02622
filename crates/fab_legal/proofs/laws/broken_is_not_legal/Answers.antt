use Rattle.fab_legal.proofs.NotLegal.{broken_is_not_legal}
use Rattle.fab_legal.proofs.laws.broken_is_not_legal.Goals as goal

pub returns : goal.returns
returns c = broken_is_not_legal
