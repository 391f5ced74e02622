use Rattle.std.proofs.Common.{◌≡◌, ◌++◌, map, take}
use Rattle.std.specs.List.{flat_map}
use Rattle.fab_model.specs.Tiles.{bel_wires, is_matrix_output}
use Rattle.fab_gen_tile.proofs.matrix.push_bels_outputs.Given as goal

-- those of the bels so far
abbrev pub invariant-loop-bel : goal.invariant-loop-bel
invariant-loop-bel l = l.outputs.items ≡ l.initial.outputs.items ++ map is_matrix_output (flat_map bel_wires (take l.bel-index l.bels))
