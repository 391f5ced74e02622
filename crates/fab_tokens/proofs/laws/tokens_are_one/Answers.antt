use Rattle.fab_tokens.proofs.Cut.{spelled_once}
use Rattle.fab_tokens.proofs.laws.tokens_are_one.Goals as goal

pub returns : goal.returns
returns c = spelled_once
