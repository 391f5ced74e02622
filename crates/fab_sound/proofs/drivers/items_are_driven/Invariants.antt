use Rattle.std.proofs.Common.{◌≡◌, drop, map}
use Rattle.std.specs.List.{list_all}
use Rattle.fab_syntax.specs.Plain.{plain_item}
use Rattle.fab_sound.specs.inner.Checks.{count_at}
use Rattle.fab_sound.specs.inner.Rules.{item_is_driven}
use Rattle.fab_sound.proofs.drivers.items_are_driven.Given as goal

abbrev pub invariant-loop-item : goal.invariant-loop-item
invariant-loop-item l =
    list_all (item_is_driven (count_at l.drives.driven) (count_at l.drives.held)) (map plain_item (drop l.item-index l.items))
    ≡ list_all (item_is_driven (count_at l.drives.driven) (count_at l.drives.held)) (map plain_item l.items)
