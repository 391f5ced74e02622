use Rattle.fab_vread.proofs.Printable.{spelled_printable}
use Rattle.fab_vread.proofs.laws.spelled_texts_are_printable.Goals as goal

pub returns : goal.returns
returns c = spelled_printable
