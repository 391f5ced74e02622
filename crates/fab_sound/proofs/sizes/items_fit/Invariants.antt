use Rattle.std.proofs.Common.{◌≡◌, drop, map}
use Rattle.std.specs.List.{list_all}
use Rattle.fab_syntax.specs.Plain.{plain_item}
use Rattle.fab_sound.specs.inner.Checks.{item_passes, item_narrow}
use Rattle.fab_sound.proofs.sizes.items_fit.Given as goal

abbrev pub invariant-loop-item : goal.invariant-loop-item
invariant-loop-item l =
    (list_all (item_passes l.rule l.known.names) (map plain_item (drop l.item-index l.item-items))
    ≡ list_all (item_passes l.rule l.known.names) (map plain_item l.item-items))
    × (list_all (item_narrow l.known.names) (map plain_item (drop l.item-index l.item-items))
    ≡ list_all (item_narrow l.known.names) (map plain_item l.item-items))
