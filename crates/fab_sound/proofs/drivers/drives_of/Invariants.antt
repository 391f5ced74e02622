use Rattle.std.proofs.Common.{◌≡◌, ◌+◌, ℕ, List, drop, map}
use Rattle.fab_syntax.specs.Plain.{plain_item}
use Rattle.fab_syntax.specs.Declarations.{times_driven, times_held}
use Rattle.fab_sound.specs.inner.Checks.{count_at, library_text}
use Rattle.fab_sound.proofs.drivers.drives_of.Given as goal

-- what is counted so far and what is to come is all
abbrev pub invariant-loop-item : goal.invariant-loop-item
invariant-loop-item l = record {
  driven : (other : List ℕ) → times_driven (library_text l.library) (map plain_item (drop l.item-index l.items)) other + count_at l.driven other
      ≡ times_driven (library_text l.library) (map plain_item l.items) other;
  held : (other : List ℕ) → times_held (map plain_item (drop l.item-index l.items)) other + count_at l.held other ≡ times_held (map plain_item l.items) other;
}
