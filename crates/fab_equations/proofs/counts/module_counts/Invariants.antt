use Rattle.std.proofs.Common.{map, take, reverse}
use Rattle.fab_syntax.specs.Plain.{plain_module}
use Rattle.fab_equations.specs.Counting.{AreCounts}
use Rattle.fab_equations.proofs.counts.module_counts.Given as goal

abbrev pub invariant-loop-module : goal.invariant-loop-module
invariant-loop-module l = AreCounts (reverse (map plain_module (take l.module-index l.modules))) l.counts.entries
