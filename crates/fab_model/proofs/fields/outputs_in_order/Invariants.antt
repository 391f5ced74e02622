use Rattle.std.proofs.Common.{◌≡◌, map, nat_eq, take}
use Rattle.fab_select.specs.Selection.{in_order}
use Rattle.fab_model.specs.Tiles.{pair_numbers}
use Rattle.fab_model.proofs.fields.outputs_in_order.Given as goal

abbrev pub invariant-loop-pair : goal.invariant-loop-pair
invariant-loop-pair l = l.order.keys ≡ in_order nat_eq (map pair_numbers (take l.pair-index l.pairs))
