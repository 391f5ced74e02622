use Rattle.std.proofs.Common.{arith}
use Rattle.fab_syntax.specs.Plain.{plain_text}
use Rattle.fab_equations.proofs.Located.{points_end}
use Rattle.fab_equations.proofs.equations.Equations.points_of.Goals as goal

pub overflow_add-result : goal.overflow_add-result
overflow_add-result c =
    omega (arith, c.bits.ensures, points_end (plain_text c.args.self.now) c.args.instance c.here-here.result c.here-here.ensures)
