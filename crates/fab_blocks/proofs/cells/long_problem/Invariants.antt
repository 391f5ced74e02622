use Rattle.std.proofs.Common.{◌≡◌, drop}
use Rattle.fab_blocks.specs.Cells.{long_problem}
use Rattle.fab_blocks.proofs.cells.long_problem.Given as goal

abbrev pub invariant-loop-name : goal.invariant-loop-name
invariant-loop-name l = long_problem (drop l.name-index l.names) ≡ long_problem l.names
