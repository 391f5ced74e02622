use Rattle.std.proofs.Common.{◌≡◌, List, map, take}
use Rattle.fab_syntax.specs.Plain.{PlainModule, plain_item}
use Rattle.fab_equations.specs.Counting.{AreCounts, count_of_module}
use Rattle.fab_equations.proofs.counts.module_count.Given as goal

abbrev pub invariant-loop-item : goal.invariant-loop-item
invariant-loop-item l =
    (before : List PlainModule) → AreCounts before l.fn.counts.entries →
    l.count ≡ count_of_module before (record { name = l.fn.definition.name; ports = l.fn.definition.ports.items; items = map plain_item (take l.item-index l.fn.definition.items.items) })
