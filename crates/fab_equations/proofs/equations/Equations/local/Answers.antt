use Rattle.std.proofs.Common.{arith}
use Rattle.fab_syntax.specs.Plain.{plain_text}
use Rattle.fab_equations.proofs.Located.{local_within}
use Rattle.fab_equations.proofs.equations.Equations.local.Goals as goal

pub overflow_add-result : goal.overflow_add-result
overflow_add-result c =
    omega (arith, local_within (plain_text c.args.self.now) c.args.instance c.here-here.result c.here-here.ensures c.args.name.now c.in_ok-local.local c.in_ok-local.ensures)
