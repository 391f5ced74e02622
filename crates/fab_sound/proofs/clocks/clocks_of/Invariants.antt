use Rattle.std.proofs.Common.{◌≡◌, ◌||◌, ℕ, List, drop, map}
use Rattle.std.specs.List.{list_all, list_any}
use Rattle.fab_syntax.specs.Plain.{plain_item}
use Rattle.fab_sound.specs.inner.Checks.{found, is_scalar_entry}
use Rattle.fab_sound.specs.inner.Rules.{is_counted, serves_in, item_serves, item_clocks}
use Rattle.fab_sound.proofs.clocks.clocks_of.Given as goal

abbrev pub invariant-loop-item : goal.invariant-loop-item
invariant-loop-item l = record {
  fit : list_all (item_clocks (λ name. is_scalar_entry (found l.known.names name)) (serves_in l.library l.serving)) (map plain_item (drop l.item-index l.known.«module».now.items.items))
      ≡ list_all (item_clocks (λ name. is_scalar_entry (found l.known.names name)) (serves_in l.library l.serving)) (map plain_item l.known.«module».now.items.items);
  serve : (name : List ℕ) →
      (list_any (item_serves (serves_in l.library l.serving) name) (map plain_item (drop l.item-index l.known.«module».now.items.items)) || is_counted l.clocks name)
      ≡ list_any (item_serves (serves_in l.library l.serving) name) (map plain_item l.known.«module».now.items.items);
}
