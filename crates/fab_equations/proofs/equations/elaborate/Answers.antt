use Rattle.std.proofs.Common.{◌≡◌, ◌<◌, ◌≤◌, length, refl, sym, ap, subst, ◌∙◌, arith}
use Rattle.fab_syntax.specs.Plain.{plain_text}
use Rattle.fab_equations.specs.Tables.{AreTables}
use Rattle.fab_equations.proofs.equations.elaborate.Goals as goal

pub placed_instances-requires-clause-tables : goal.placed_instances-requires-clause-tables
placed_instances-requires-clause-tables c =
    rw c.deref.ensures.value c.in_ok-tables.ensures.tables
