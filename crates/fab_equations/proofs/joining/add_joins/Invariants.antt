use Rattle.std.proofs.Common.{◌≡◌, ◌++◌, List, [], map, take}
use Rattle.std.specs.List.{flat_map}
use Rattle.fab_syntax.specs.Plain.{PlainExpr, PlainItem, PlainJoin, PlainModule, plain_join}
use Rattle.fab_syntax.specs.Sound.{joined_expressions}
use Rattle.fab_values.specs.Declarations.{declarations}
use Rattle.fab_equations.specs.Instances.{expressions}
use Rattle.fab_equations.specs.Children.{Child}
use Rattle.fab_equations.specs.inner.Building.{listed, AreJoinedSoFar, IsInstance, Spot}
use Rattle.fab_equations.proofs.joining.add_joins.Given as goal

abbrev pub invariant-loop-join : goal.invariant-loop-join
invariant-loop-join l =
    (listed l.exprs.items ≡ listed l.initial.exprs.items ++ flat_map (λ (join : PlainJoin). joined_expressions join.to) (map plain_join (take l.join-index l.joins)))
    × ((spot : Spot) (items : List PlainItem) (child : Child) (below : PlainModule) (more : List PlainExpr) →
    l.names ≡ declarations spot.here → l.below_names ≡ declarations below → IsInstance spot l.number child below → child.joins ≡ map plain_join l.joins →
    listed l.initial.exprs.items ++ (flat_map (λ (join : PlainJoin). joined_expressions join.to) child.joins ++ more) ≡ expressions spot.text →
    AreJoinedSoFar spot items child below [] l.initial.drivers.items l.initial.inputs.items →
    AreJoinedSoFar spot items child below (map plain_join (take l.join-index l.joins)) l.drivers.items l.inputs.items)
