-- A point comes to be done.
use Rattle.std.proofs.Common.{◌≡◌, ◌⊎◌, ℕ, ◌<◌, Bool, true, false, List, Some, length, sym, ap, ◌∙◌, subst, inl, inr, slice_get, slice_set, slice_index}
use Rattle.std.proofs.lemmas.Bool.{cases_eq}
use Rattle.fab_systems_laws.specs.Ternary.{unknown}
use Rattle.fab_compiled.specs.Leading.{PointTerns, IsMarked}
use Rattle.fab_network.specs.declared.network.Clock.{Clock}
use Rattle.fab_network.specs.declared.network.Drive.TheVariants.{Flop}
use Rattle.fab_network.specs.declared.network.Network.{Network}
use Rattle.fab_network.specs.declared.network.Source.{Source}
use Rattle.fab_network.specs.Passes.{kept_tern, IsListed}
use Rattle.fab_network.specs.Solved.{Solves}
use Rattle.fab_demand.specs.Asked.{Asked, IsPossible, IsWhole}
use Rattle.fab_demand.specs.Demand.{IsDecided, IsKept, IsLooked, StandsForItself}
use Rattle.fab_demand.proofs.Growing.{Grows, decided_grows, stands_grows}
use Rattle.fab_demand.proofs.Lists.{get_same, get_other, get_within, mark_stays, not_both}

-- what is known of the point and of all others
pub record Closing (network : Network) (clock : Clock) (given : PointTerns) (old new : Asked) (done : List Bool) (point : ℕ) : Type 0 where
  pub waits : slice_get done point ≡ Some false
  pub grows : Grows old new
  pub whole : IsWhole new
  pub sound : (later t : PointTerns) → IsKept network clock given new.terns new.leads later → Solves network.trees.items network.drives.items later t →
      IsPossible new t
  pub own : (q : ℕ) → IsListed old.own q → IsListed new.own q
  pub own_back : (q : ℕ) → IsListed new.own q → IsListed old.own q ⊎ ((q ≡ point) × StandsForItself network clock given new point)
  pub once : (place later : ℕ) → place < later → later < length new.own → slice_index new.own place ≡ slice_index new.own later → ⊥
  pub kept : (q : ℕ) → (q ≡ point → ⊥) → kept_tern new.terns q ≡ kept_tern old.terns q
  pub leads : (q : ℕ) → (q ≡ point → ⊥) → slice_index new.leads q ≡ slice_index old.leads q
  pub enough : IsListed new.own point ⊎ IsDecided network clock given new point
  pub registers : (next : Source) → slice_get network.drives.items point ≡ Some (Flop clock next) → IsListed new.own point
  pub led : (slice_index new.leads point ≡ point) ⊎ IsMarked done (slice_index new.leads point)
  pub last : slice_index new.leads (slice_index new.leads point) ≡ slice_index new.leads point

module _ (network : Network) (clock : Clock) (given : PointTerns) (old new : Asked) (done : List Bool) (point : ℕ)
    (looked : IsLooked network clock given old done) (closing : Closing network clock given old new done point) where
  abbrev after : List Bool
  after = slice_set done point true

  point_done : IsMarked after point
  point_done = get_same done point true (get_within done point false closing.waits)

  -- a point that was done before
  done_before : (q : ℕ) → (q ≡ point → ⊥) → IsMarked after q → IsMarked done q
  done_before q apart marked = sym (get_other done point true q apart) ∙ marked

  apart_from : (q : ℕ) → IsMarked done q → q ≡ point → ⊥
  apart_from q marked e = not_both done point (ap (slice_get done) (sym e) ∙ marked) closing.waits

  enough_after : (q : ℕ) → IsMarked after q → IsListed new.own q ⊎ IsDecided network clock given new q
  enough_after q marked =
      elim (cases_eq q point) [
        | inl e ↦ subst (λ n. IsListed new.own n ⊎ IsDecided network clock given new n) (sym e) closing.enough
        | inr n ↦ elim (looked.enough q (done_before q n marked)) [
          | inl listed ↦ inl (closing.own q listed)
          | inr decided ↦ inr (decided_grows network clock given old new closing.grows q decided)
        ]
      ]

  own_after : (q : ℕ) → IsListed new.own q → IsMarked after q × StandsForItself network clock given new q
  own_after q listed =
      elim (closing.own_back q listed) [
        | inl before ↦ (let known = looked.own q before in (
          mark_stays done point q known.0,
          stands_grows network clock given old new closing.grows q (closing.kept q (apart_from q known.0) ∙ known.1.not_kept) known.1,
        ))
        | inr now ↦ subst (λ n. IsMarked after n × StandsForItself network clock given new n) (sym now.0) (point_done, now.1)
      ]

  registers_after : (q : ℕ) (next : Source) → IsMarked after q → slice_get network.drives.items q ≡ Some (Flop clock next) → IsListed new.own q
  registers_after q next marked drive =
      elim (cases_eq q point) [
        | inl e ↦ subst (IsListed new.own) (sym e) (closing.registers next (ap (slice_get network.drives.items) (sym e) ∙ drive))
        | inr n ↦ closing.own q (looked.registers q next (done_before q n marked) drive)
      ]

  led_point : IsMarked after (slice_index new.leads point)
  led_point =
      elim closing.led [
        | inl itself ↦ subst (IsMarked after) (sym itself) point_done
        | inr other ↦ mark_stays done point (slice_index new.leads point) other
      ]

  led_after : (q : ℕ) → IsMarked after q → IsMarked after (slice_index new.leads q)
  led_after q marked =
      elim (cases_eq q point) [
        | inl e ↦ subst (λ n. IsMarked after (slice_index new.leads n)) (sym e) led_point
        | inr n ↦ subst (IsMarked after) (sym (closing.leads q n)) (mark_stays done point (slice_index old.leads q) (looked.led q (done_before q n marked)))
      ]

  last_after : (q : ℕ) → IsMarked after q → slice_index new.leads (slice_index new.leads q) ≡ slice_index new.leads q
  last_after q marked =
      elim (cases_eq q point) [
        | inl e ↦ subst (λ n. slice_index new.leads (slice_index new.leads n) ≡ slice_index new.leads n) (sym e) closing.last
        | inr n ↦ (let before = done_before q n marked in
            let lead = slice_index old.leads q in
            ap (slice_index new.leads) (closing.leads q n) ∙ closing.leads lead (apart_from lead (looked.led q before)) ∙ looked.last q before
            ∙ sym (closing.leads q n))
      ]

  others_after : (q : ℕ) → slice_get after q ≡ Some false → (slice_index new.leads q ≡ q) × (kept_tern new.terns q ≡ unknown)
  others_after q waits =
      let apart : q ≡ point → ⊥ = λ e. not_both after q (ap (slice_get after) e ∙ point_done) waits in
      let before = looked.others q (sym (get_other done point true q apart) ∙ waits) in
      (closing.leads q apart ∙ before.0, closing.kept q apart ∙ before.1)

  pub closed_looked : IsLooked network clock given new after
  closed_looked = record {
    whole = closing.whole;
    sound = closing.sound;
    enough = enough_after;
    own = own_after;
    once = closing.once;
    registers = registers_after;
    led = led_after;
    last = last_after;
    others = others_after;
  }
