use Rattle.fab_impl.proofs.ReadBack.{spelled_is_read}
use Rattle.fab_impl.proofs.laws.spelled_implementations_are_read.Goals as goal

pub returns : goal.returns
returns c = λ fabric rows it is all spells. spelled_is_read fabric is all rows it spells
