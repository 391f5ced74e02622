use Rattle.std.proofs.Common.{◌≡◌, ◌++◌, drop, map}
use Rattle.fab_syntax.specs.Plain.{plain_item}
use Rattle.fab_syntax.specs.Spelling.{items_text}
use Rattle.fab_syntax.proofs.printer.put_items.Given as goal

abbrev pub invariant-loop-item : goal.invariant-loop-item
invariant-loop-item l =
    l.out.items ++ items_text (map plain_item (drop l.item-index l.items)) ≡ l.initial.out.items ++ items_text (map plain_item l.items)
