-- Values that have changed, and readers that are stale for that.
use Rattle.std.proofs.Common.{◌≡◌, ℕ, ◌<◌, List, length, refl, sym, ◌∙◌, subst, inl, inr, slice_index, slice_set}
use Rattle.std.proofs.lemmas.Bool.{cases_eq}
use Rattle.fab_ternary.specs.declared.Tern.{Tern}
use Rattle.fab_network.proofs.Kept.{kept_other}
use Rattle.fab_changes.specs.declared.fanout.Fanout.{Fanout}
use Rattle.fab_changes.specs.Fanout.{HasReader, HasTouched, IsFresh, IsReader, Lists}

-- nothing has changed
pub touched_none : (own : List ℕ) (terns : List Tern) (fanout : Fanout) → HasTouched own terns terns fanout fanout
touched_none own terns fanout = record { readers = refl; long = refl; fresh = λ reader is. is; same = λ reader is point reads. refl }

-- one change after another
pub touched_then : (own : List ℕ) (old mid new : List Tern) (before between after : Fanout) → HasTouched own old mid before between →
    HasTouched own mid new between after → HasTouched own old new before after
touched_then own old mid new before between after one two = record {
  readers = two.readers ∙ one.readers;
  long = two.long ∙ one.long;
  fresh = λ reader is. one.fresh reader (two.fresh reader is);
  same = λ reader is point reads.
      two.same reader is point (subst (λ (lists : Lists). HasReader own lists reader point) (sym one.readers) reads)
      ∙ one.same reader (two.fresh reader is) point reads;
}

-- the same values and readers
pub touched_by : (own other_own : List ℕ) (old new other_old other_new : List Tern) (before after : Fanout) → other_own ≡ own →
    other_old ≡ old → other_new ≡ new →
    HasTouched other_own other_old other_new before after → HasTouched own old new before after
touched_by own other_own old new other_old other_new before after e f g touched =
    subst (λ (xs : List ℕ). HasTouched xs old new before after) e
    (subst (λ (xs : List Tern). HasTouched other_own xs new before after) f
    (subst (λ (xs : List Tern). HasTouched other_own other_old xs before after) g touched))

-- the point at a place has another value, and its readers are stale
pub touched_at : (own : List ℕ) (old : List Tern) (place : ℕ) (tern : Tern) (before after : Fanout) → place < length own →
    after.readers.items ≡ before.readers.items → length after.stale ≡ length before.stale →
    ((reader : ℕ) → IsFresh after.stale reader → IsFresh before.stale reader) →
    ((reader : ℕ) → IsReader before.readers.items place reader → IsFresh after.stale reader → ⊥) →
    HasTouched own old (slice_set old (slice_index own place) tern) before after
touched_at own old place tern before after l readers long fresh touched = record {
  readers = readers;
  long = long;
  fresh = fresh;
  same = λ reader is point reads.
      elim (cases_eq point (slice_index own place)) [
        | inl e ↦ absurd (touched reader (reads place l (sym e)) is)
        | inr n ↦ kept_other old (slice_index own place) tern point n
      ];
}
