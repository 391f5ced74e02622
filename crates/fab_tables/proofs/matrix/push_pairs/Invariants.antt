use Rattle.std.proofs.Common.{◌≡◌, ◌++◌, take}
use Rattle.fab_tables.specs.Matrix.{pairs_with}
use Rattle.fab_tables.proofs.matrix.push_pairs.Given as goal

abbrev pub invariant-loop-place : goal.invariant-loop-place
invariant-loop-place l = l.pairs.items ≡ l.fn.pairs.items ++ pairs_with l.output (take l.place l.inputs) (take l.place l.digits)
