use Rattle.std.proofs.Common.{◌≡◌, ◌++◌, map, take}
use Rattle.std.specs.List.{flat_map}
use Rattle.fab_model.specs.Tiles.{bel_wires, is_matrix_output}
use Rattle.fab_route.proofs.driven.mark_bels.Given as goal

abbrev pub invariant-loop-bel : goal.invariant-loop-bel
invariant-loop-bel l = l.marks.items ≡ l.fn.marks.items ++ map is_matrix_output (flat_map bel_wires (take l.bel-index l.bels))
