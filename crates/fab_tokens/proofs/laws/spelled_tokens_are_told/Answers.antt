use Rattle.fab_tokens.proofs.Cut.{spelled_told}
use Rattle.fab_tokens.proofs.laws.spelled_tokens_are_told.Goals as goal

pub returns : goal.returns
returns c = spelled_told
