use Rattle.std.proofs.Common.{◌≡◌, length, map, take, min}
use Rattle.std.specs.List.{flat_map}
use Rattle.fab_tables.specs.Config.{item_bits}
use Rattle.fab_tables.proofs.ranges.listed_count.Given as goal

abbrev pub invariant-loop-item : goal.invariant-loop-item
invariant-loop-item l = l.count ≡ min (length (flat_map item_bits (map (λ item. item.now) (take l.item-index l.items)))) 33
