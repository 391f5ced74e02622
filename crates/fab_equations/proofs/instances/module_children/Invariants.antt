use Rattle.std.proofs.Common.{◌≡◌, length, map, take, reverse}
use Rattle.fab_syntax.specs.Plain.{plain_module}
use Rattle.fab_equations.specs.Numbers.{AreNumbers, children_behind, lists}
use Rattle.fab_equations.proofs.instances.module_children.Given as goal

abbrev pub invariant-loop-definition : goal.invariant-loop-definition
invariant-loop-definition l =
    (lists l.children.items ≡ children_behind (reverse (map plain_module (take l.definition-index l.modules))))
    × AreNumbers (reverse (map plain_module (take l.definition-index l.modules))) l.numbers.entries
    × (length l.children.items ≡ l.definition-index)
