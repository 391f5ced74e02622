-- Inputs and flip-flops that wait to be taken.
use Rattle.std.proofs.Common.{◌≡◌, ◌⊎◌, ℕ, zero, suc, ◌+◌, ◌<◌, true, false, List, Option, None, Some, length, replicate, refl, sym, ap, ◌∙◌, subst, inl, inr, arith}
use Rattle.std.proofs.Common.{slice_get, slice_index, slice_set}
use Rattle.std.proofs.lemmas.Bool.{cases_eq, cases_lt}
use Rattle.fab_ternary.specs.declared.Tern.{Tern}
use Rattle.fab_network.specs.declared.network.Drive.TheVariants.{Hold}
use Rattle.fab_network.specs.declared.network.Network.{Network}
use Rattle.fab_network.specs.declared.network.Source.{Source}
use Rattle.fab_network.specs.Passes.{kept_tern, IsListed}
use Rattle.fab_demand.specs.Asked.{Asked}
use Rattle.fab_demand.proofs.Lists.{get_other, get_same, listed_or_not}
use Rattle.fab_changes.specs.declared.changes.Changes.{Changes}
use Rattle.fab_changes.specs.Changes.{drive_at, takes_given, AreChangesOf, AreGroups, AreWaiting, HasGiven, TakesGiven, WaitsAt}
use Rattle.fab_changes.specs.Fanout.{IsOnce, Lists}
use Rattle.fab_changes.specs.declared.groups.Group.{Group}
use Rattle.fab_changes.specs.inner.Grouping.{ArePlacedBy}
use Rattle.fab_changes.specs.inner.Looking.{HaveTaken}

-- ---- places by points

pub none_placed : (count point place : ℕ) → slice_get (replicate count 0) point ≡ Some (place + 1) → ⊥
none_placed zero point place e = cc
none_placed (suc count) zero place e = let n : 0 ≡ place + 1 = cc in omega (arith, n)
none_placed (suc count) (suc point) place e = none_placed count point place e

-- a point stands at one place
pub own_place : (own : List ℕ) → IsOnce own → (place other : ℕ) → place < length own → other < length own → slice_index own place ≡ slice_index own other →
    place ≡ other
own_place own once place other l m e =
    elim (cases_lt place other) [
      | inl early ↦ absurd (once place other early m e)
      | inr later ↦ elim (cases_eq place other) [ inl is ↦ is | inr n ↦ absurd (once other place (omega (arith, later, n)) l (sym e)) ]
    ]

-- one more place
module _ (own taken : List ℕ) (count : ℕ) (places : List ℕ) (once : IsOnce own)
    (within : (k : ℕ) → k < length taken → slice_index taken k < length own) (l : count < length taken)
    (room : slice_index own (slice_index taken count) < length places) (before : ArePlacedBy own taken count places) where
  abbrev one : ℕ
  one = slice_index taken count

  abbrev more : List ℕ
  more = slice_set places (slice_index own one) (one + 1)

  found_more : (k : ℕ) → k < count + 1 → slice_get more (slice_index own (slice_index taken k)) ≡ Some (slice_index taken k + 1)
  found_more k m =
      elim (cases_eq (slice_index own (slice_index taken k)) (slice_index own one)) [
        | inl e ↦ (let same : slice_index taken k ≡ one = own_place own once (slice_index taken k) one (within k (omega (arith, l, m))) (within count l) e in
            ap (slice_get more) e ∙ get_same places (slice_index own one) (one + 1) room ∙ ap (λ (n : ℕ). Some (n + 1)) (sym same))
        | inr n ↦ elim (cases_eq k count) [
          | inl e ↦ absurd (n (ap (λ (i : ℕ). slice_index own (slice_index taken i)) e))
          | inr other ↦ get_other places (slice_index own one) (one + 1) (slice_index own (slice_index taken k)) n ∙ before.found k (omega (arith, m, other))
        ]
      ]

  placed_more : (point place : ℕ) → slice_get more point ≡ Some (place + 1) → IsListed taken place × (slice_index own place ≡ point)
  placed_more point place is =
      elim (cases_eq point (slice_index own one)) [
        | inl e ↦ (let both : Some (one + 1) ≡ Some (place + 1) = sym (get_same places (slice_index own one) (one + 1) room) ∙ ap (slice_get more) (sym e) ∙ is in
            let behind : one + 1 ≡ place + 1 = cc in
            let same : one ≡ place = omega (arith, behind) in
            ((count, l, same), ap (slice_index own) (sym same) ∙ sym e))
        | inr n ↦ before.placed point place (sym (get_other places (slice_index own one) (one + 1) point n) ∙ is)
      ]

  pub places_more : ArePlacedBy own taken (count + 1) more
  places_more = record { found = found_more; placed = placed_more }

-- the places of all, where none waits
pub waiting_made : (own : List ℕ) (changes : Changes) → ArePlacedBy own changes.taken.items (length changes.taken.items) changes.places.items →
    length changes.waiting.items ≡ 0 → AreWaiting own changes
waiting_made own changes placed none = record {
  found = λ place (k, l, is). subst (λ (n : ℕ). slice_get changes.places.items (slice_index own n) ≡ Some (n + 1)) is (placed.found k l);
  placed = placed.placed;
  among = λ place (k, l, is). absurd (omega (arith, l, none));
}

-- ---- what is noted

-- Nothing differs but what waits.
pub changes_noted : (network : Network) (asked : Asked) (old new : Changes) → new ≡ record old { waiting = new.waiting; all_wait = new.all_wait } →
    ((place : ℕ) → IsListed new.waiting.items place → IsListed old.taken.items place) → AreChangesOf network asked old → AreChangesOf network asked new
changes_noted network asked old new e among are =
    subst (AreChangesOf network asked) (sym e)
    (record {
      groups = are.groups;
      waiting = record { found = are.waiting.found; placed = are.waiting.placed; among = among };
      long = are.long;
      room = are.room;
      right = are.right;
    })

-- A latch takes nothing of what is given.
pub hold_waits : (network : Network) (asked : Asked) (changes : Changes) → AreChangesOf network asked changes → (point : ℕ) (gate latched : Source) →
    slice_get network.drives.items point ≡ Some (Hold gate latched) → WaitsAt changes point
hold_waits network asked changes are point gate latched drive =
    inr (λ place at.
    let placed = are.waiting.placed point place at in
    let takes : TakesGiven (drive_at network asked.own place) = (are.groups.takes place placed.0).1 in
    let both : true ≡ false = sym takes ∙ ap takes_given (ap (slice_get network.drives.items) placed.1 ∙ drive) in
    cc)

-- Each point that is given something else waits.
pub given_noted : (terns old new : List Tern) (before after : Changes) → HasGiven terns old before →
    ((point : ℕ) → WaitsAt before point → WaitsAt after point) →
    ((point : ℕ) → WaitsAt after point ⊎ (kept_tern new point ≡ kept_tern old point)) → HasGiven terns new after
given_noted terns old new before after has more noted point =
    elim (noted point) [
      | inl waits ↦ inl waits
      | inr same ↦ elim (has point) [ inl waits ↦ inl (more point waits) | inr is ↦ inr (is ∙ sym same) ]
    ]

-- ---- what is taken

-- Where those that wait have been taken, all have what is given to them.
module _ (changes : Changes) (given : List Tern) (old mid : Asked) (are : AreWaiting old.own changes) (has : HasGiven old.terns given changes)
    (some : changes.all_wait ≡ false) (have : HaveTaken changes.waiting.items (length changes.waiting.items) given old mid) where
  abbrev point_of : ℕ → ℕ
  point_of place = slice_index old.own place

  -- one that waits
  taken_listed : (place : ℕ) → IsListed changes.waiting.items place → kept_tern mid.terns (point_of place) ≡ kept_tern given (point_of place)
  taken_listed place (k, l, is) = subst (λ (n : ℕ). kept_tern mid.terns (point_of n) ≡ kept_tern given (point_of n)) is (have.values k l)

  -- and one that does not
  taken_other : (place : ℕ) → IsListed changes.taken.items place → (IsListed changes.waiting.items place → ⊥) →
      kept_tern mid.terns (point_of place) ≡ kept_tern old.terns (point_of place)
  taken_other place at none =
      have.others (point_of place) (λ k l e.
      let other = slice_index changes.waiting.items k in
      let found : Some (other + 1) ≡ Some (place + 1) = sym (are.found other (are.among other (k, l, refl))) ∙ ap (slice_get changes.places.items) e
      ∙ are.found place at in
      let behind : other + 1 ≡ place + 1 = cc in
      none (k, l, omega (arith, behind)))

  taken_at : (place : ℕ) → IsListed changes.taken.items place → kept_tern mid.terns (point_of place) ≡ kept_tern given (point_of place)
  taken_at place at =
      elim (listed_or_not changes.waiting.items place) [
        | inl listed ↦ taken_listed place listed
        | inr none ↦ elim (has (point_of place)) [
          | inl waits ↦ elim waits [
            | inl all ↦ (let both : true ≡ false = sym all ∙ some in cc)
            | inr waits_at ↦ absurd (none (waits_at place (are.found place at)))
          ]
          | inr is ↦ taken_other place at none ∙ is
        ]
      ]

  pub all_taken : HaveTaken changes.taken.items (length changes.taken.items) given old mid
  all_taken = record {
    points = have.points;
    values = λ k l. taken_at (slice_index changes.taken.items k) (k, l, refl);
    others = λ point none. have.others point (λ k l e.
        let (i, m, is) = are.among (slice_index changes.waiting.items k) (k, l, refl) in
        none i m (ap (slice_index old.own) is ∙ e));
  }

-- each point has what is given to it, where all that take it have taken it
module _ (network : Network) (old new : Asked) (given : List Tern) (lists : Lists) (groups : List Group) (before after : Changes)
    (are : AreGroups network old.own old.leads lists before.taken.items groups) (waiting : AreWaiting old.own before)
    (same : after.places.items ≡ before.places.items)
    (taken : (place : ℕ) → place < length old.own → TakesGiven (drive_at network old.own place) →
    kept_tern new.terns (slice_index old.own place) ≡ kept_tern given (slice_index old.own place)) where
  given_at : (point : ℕ) (behind : Option ℕ) → slice_get after.places.items point ≡ behind →
      WaitsAt after point ⊎ (kept_tern new.terns point ≡ kept_tern given point)
  given_at point None e = inl (inr (λ place is. let both : None ≡ Some (place + 1) = sym e ∙ is in cc))
  given_at point (Some zero) e =
      inl (inr (λ place is.
      let both : Some 0 ≡ Some (place + 1) = sym e ∙ is in
      let n : 0 ≡ place + 1 = cc in
      absurd (omega (arith, n))))
  given_at point (Some (suc place)) e =
      let behind : suc place ≡ place + 1 = omega arith in
      let placed = waiting.placed point place (ap (λ (xs : List ℕ). slice_get xs point) (sym same) ∙ e ∙ ap (λ (n : ℕ). Some n) behind) in
      let takes = are.takes place placed.0 in
      inr (subst (λ (n : ℕ). kept_tern new.terns n ≡ kept_tern given n) placed.1 (taken place takes.0 takes.1))

  pub given_held : HasGiven new.terns given after
  given_held point = given_at point (slice_get after.places.items point) refl
