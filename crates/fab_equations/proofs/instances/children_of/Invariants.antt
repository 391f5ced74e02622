use Rattle.std.proofs.Common.{◌≡◌, List, map, take}
use Rattle.fab_syntax.specs.Plain.{PlainModule, plain_item}
use Rattle.fab_equations.specs.Numbers.{AreNumbers, child_numbers}
use Rattle.fab_equations.proofs.instances.children_of.Given as goal

abbrev pub invariant-loop-item : goal.invariant-loop-item
invariant-loop-item l =
    (before : List PlainModule) → AreNumbers before l.fn.numbers.entries →
    l.children.items ≡ child_numbers before (map plain_item (take l.item-index l.fn.definition.items.items))
