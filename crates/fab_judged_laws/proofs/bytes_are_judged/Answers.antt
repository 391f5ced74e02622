use Rattle.fab_judged_laws.proofs.Bytes.{bytes_judged}
use Rattle.fab_judged_laws.proofs.bytes_are_judged.Goals as goal

pub returns : goal.returns
returns c = bytes_judged
