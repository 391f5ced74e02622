use Rattle.std.proofs.Common.{true, false, ap, arith}
use Rattle.fab_ternary.specs.Terns.{plain_tern}
use Rattle.fab_compiled.proofs.indices.with_bit.Goals as goal

pub returns-in-No : goal.returns-in-No
returns-in-No c = (false, ap plain_tern c.in-No.is, omega arith)

pub returns-in-Yes : goal.returns-in-Yes
returns-in-Yes c = (true, ap plain_tern c.in-Yes.is, omega arith)
