use Rattle.std.proofs.Common.{◌≡◌, ◌++◌, map}
use Rattle.fab_model.specs.Tiles.{bel_pin, counted, is_matrix_output}
use Rattle.fab_tables.proofs.matrix_names.push_bel.Given as goal

abbrev pub invariant-loop-pin : goal.invariant-loop-pin
invariant-loop-pin l = l.sides.items ≡ l.fn.sides.items ++ map is_matrix_output (counted l.pin (bel_pin l.bel))
