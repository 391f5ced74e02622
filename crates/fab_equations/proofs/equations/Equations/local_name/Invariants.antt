use Rattle.std.proofs.Common.{length}
use Rattle.fab_syntax.specs.Plain.{plain_text}
use Rattle.fab_equations.specs.Lookups.{IsRead}
use Rattle.fab_equations.proofs.equations.Equations.local_name.Given as goal

abbrev pub invariant-loop-dot : goal.invariant-loop-dot
invariant-loop-dot l = IsRead (plain_text l.self) l.name l.instance l.rest

abbrev pub decreases-loop-dot : goal.decreases-loop-dot
decreases-loop-dot l = length l.rest
