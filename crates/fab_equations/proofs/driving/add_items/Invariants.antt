use Rattle.std.proofs.Common.{◌≡◌, ◌++◌, List, [], map, take}
use Rattle.std.specs.List.{flat_map}
use Rattle.fab_syntax.specs.Plain.{PlainExpr, plain_item}
use Rattle.fab_syntax.specs.Sound.{item_expressions}
use Rattle.fab_values.specs.Declarations.{declarations}
use Rattle.fab_equations.specs.Instances.{expressions}
use Rattle.fab_equations.specs.inner.Building.{listed, IsBefore, IsInside, Spot}
use Rattle.fab_equations.proofs.driving.add_items.Given as goal

abbrev pub invariant-loop-item : goal.invariant-loop-item
invariant-loop-item l =
    (listed l.exprs.items ≡ listed l.initial.exprs.items ++ flat_map item_expressions (map plain_item (take l.item-index l.items)))
    × ((spot : Spot) (more : List PlainExpr) → l.names ≡ declarations spot.here → IsBefore spot.text spot.number l.before →
    spot.here.items ≡ map plain_item l.items → listed l.initial.exprs.items ++ (flat_map item_expressions spot.here.items ++ more) ≡ expressions spot.text →
    IsInside spot [] l.initial.inside → IsInside spot (map plain_item (take l.item-index l.items)) l.inside)
