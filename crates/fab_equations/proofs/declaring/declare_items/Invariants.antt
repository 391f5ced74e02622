use Rattle.std.proofs.Common.{◌≡◌, ◌++◌, map, take}
use Rattle.fab_syntax.specs.Plain.{plain_item}
use Rattle.fab_values.specs.Declarations.{item_declarations}
use Rattle.fab_equations.specs.Tables.{firsts_of}
use Rattle.fab_equations.proofs.declaring.declare_items.Given as goal

abbrev pub invariant-loop-item : goal.invariant-loop-item
invariant-loop-item l =
    (l.declared.names ≡ l.initial.declared.names ++ item_declarations (map plain_item (take l.item-index l.items)))
    × (l.initial.declared.firsts.items ≡ firsts_of l.initial.declared.names → l.declared.firsts.items ≡ firsts_of l.declared.names)
