use Rattle.std.proofs.Common.{◌≡◌, ◌++◌, map, take}
use Rattle.fab_syntax.specs.declared.tree.Shape.TheVariants.{Scalar}
use Rattle.fab_syntax.specs.Plain.{plain_item, wire}
use Rattle.fab_model.specs.Tiles.{matrix_names}
use Rattle.fab_gen_tile.proofs.tile.push_name_wires.Given as goal

-- the wires so far are those of the names so far
abbrev pub invariant-loop-number : goal.invariant-loop-number
invariant-loop-number l = map plain_item l.items.items ≡ map plain_item l.initial.items.items ++ map (wire Scalar) (take l.number (matrix_names l.tile))
