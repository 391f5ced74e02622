use Rattle.std.proofs.Common.{◌≡◌, ℕ, drop, List, [], map}
use Rattle.std.specs.Option.{option_or}
use Rattle.std.specs.List.{flat_map}
use Rattle.fab_syntax.specs.Plain.{plain_item}
use Rattle.fab_syntax.specs.Sound.{Mention, item_mentions, refusals}
use Rattle.fab_sound.specs.inner.Checks.{Notes, found, net_declared, net_of}
use Rattle.fab_sound.proofs.names.name_items.Given as goal

abbrev pub invariant-loop-item : goal.invariant-loop-item
invariant-loop-item l =
    ((before : List Mention) → Notes l.initial.names before →
    (after : List Mention) × Notes l.names after
    × (refusals before (flat_map item_mentions (map plain_item l.items))
    ≡ refusals after (flat_map item_mentions (map plain_item (drop l.item-index l.items)))))
    × ((name : List ℕ) → option_or (net_declared (found l.names name)) (net_of [] (map plain_item (drop l.item-index l.items)) name)
    ≡ option_or (net_declared (found l.initial.names name)) (net_of [] (map plain_item l.items) name))
