use Rattle.std.proofs.Common.{◌≡◌, ◌++◌, map, take}
use Rattle.std.specs.List.{flat_map}
use Rattle.fab_syntax.specs.Plain.{plain_join}
use Rattle.fab_model.specs.Tiles.{bel_wires}
use Rattle.fab_gen_tile.specs.Names.{same_join}
use Rattle.fab_gen_tile.specs.TileModule.{side_names}
use Rattle.fab_gen_tile.proofs.joins.push_bels_side.Given as goal

-- the joins so far are those of the BELs so far
abbrev pub invariant-loop-bel : goal.invariant-loop-bel
invariant-loop-bel l = map plain_join l.joins.items ≡ map plain_join l.initial.joins.items ++ map same_join (side_names l.output (flat_map bel_wires (take l.bel-index l.bels)))
