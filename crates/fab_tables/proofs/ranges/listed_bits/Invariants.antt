use Rattle.std.proofs.Common.{◌≡◌, true, map, take}
use Rattle.std.specs.List.{flat_map}
use Rattle.fab_tables.specs.Config.{item_bits, are_below}
use Rattle.fab_tables.proofs.ranges.listed_bits.Given as goal

abbrev pub invariant-loop-item : goal.invariant-loop-item
invariant-loop-item l = record {
  so_far : l.bits.items ≡ flat_map item_bits (map (λ item. item.now) (take l.item-index l.items));
  below : are_below l.bound (flat_map item_bits (map (λ item. item.now) (take l.item-index l.items))) ≡ true;
}
