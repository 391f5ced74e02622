use Rattle.fab_vread.proofs.Lexemes.{same_tokens}
use Rattle.fab_vread.proofs.laws.lexemes_are_tokens.Goals as goal

pub returns : goal.returns
returns c = same_tokens
