use Rattle.std.proofs.Common.{◌≡◌, ◌++◌}
use Rattle.std.specs.Prelude.{replicate}
use Rattle.fab_tables.proofs.matrix_names.push_sides.Given as goal

abbrev pub invariant-loop-bit : goal.invariant-loop-bit
invariant-loop-bit l = l.sides.items ≡ l.fn.sides.items ++ replicate l._bit l.side
