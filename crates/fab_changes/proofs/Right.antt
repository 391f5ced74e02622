-- What a look at a group leaves right.
use Rattle.std.proofs.Common.{◌≡◌, ◌≢◌, ◌⊎◌, ℕ, ◌+◌, ◌-◌, ◌<◌, ◌≤◌, Bool, true, false, List, Option, Some, length, refl, sym, ap, ◌∙◌, subst, inl, inr, arith}
use Rattle.std.proofs.Common.{slice_get, slice_index, slice_set}
use Rattle.std.proofs.lemmas.Bool.{cases_eq, cases_lt}
use Rattle.std.proofs.lemmas.List.{length-set}
use Rattle.fab_systems_laws.specs.Ternary.{Tern as PlainTern}
use Rattle.fab_ternary.specs.declared.Tern.{Tern}
use Rattle.fab_ternary.specs.Terns.{plain_tern}
use Rattle.fab_compiled.specs.Terns.{seen}
use Rattle.fab_network.specs.declared.network.Drive.{Drive}
use Rattle.fab_network.specs.declared.network.Drive.TheVariants.{Value}
use Rattle.fab_network.specs.declared.network.Network.{Network}
use Rattle.fab_network.specs.declared.network.Source.{Source}
use Rattle.fab_network.specs.Network.{AreFit}
use Rattle.fab_network.specs.Passes.{kept_tern}
use Rattle.fab_network.proofs.Kept.{kept_other, kept_same}
use Rattle.fab_demand.specs.Asked.{Asked}
use Rattle.fab_demand.proofs.Lists.{get_other}
use Rattle.fab_changes.specs.declared.fanout.Fanout.{Fanout}
use Rattle.fab_changes.specs.declared.groups.Group.{Group}
use Rattle.fab_changes.specs.Changes.{drive_at, takes_given, AreGroups, IsInGroup, IsRightGroup, TakesGiven}
use Rattle.fab_changes.specs.Fanout.{HasReader, HasTouched, IsFresh, Lists}
use Rattle.fab_changes.specs.inner.Looking.{value_tern, AreFound, AreSamePoints, HasTaken, HasTakenGroup, HasWritten, HaveTaken}
use Rattle.fab_changes.proofs.Reading.{drive_before, right_at, right_stays}

-- ---- points

pub points_same : (asked : Asked) → AreSamePoints asked asked
points_same asked = record { leads = refl; marks = refl; own = refl; long = refl }

pub points_then : (old mid new : Asked) → AreSamePoints old mid → AreSamePoints mid new → AreSamePoints old new
points_then old mid new one two = record {
  leads = two.leads ∙ one.leads;
  marks = two.marks ∙ one.marks;
  own = two.own ∙ one.own;
  long = two.long ∙ one.long;
}

-- a point is set
pub taken_set : (old new : Asked) (point : ℕ) (tern : Tern) → point < length old.terns → new ≡ record old { terns = slice_set old.terns point tern } →
    HasTaken point (plain_tern tern) old new
taken_set old new point tern l e =
    subst (HasTaken point (plain_tern tern) old) (sym e)
    (record {
      points = record { leads = refl; marks = refl; own = refl; long = length-set old.terns point tern };
      has = kept_same old.terns point tern l;
      others = λ other n. kept_other old.terns point tern other n;
    })

-- a point has the value already
pub taken_same : (asked : Asked) (point : ℕ) (value : PlainTern) → kept_tern asked.terns point ≡ value → HasTaken point value asked asked
taken_same asked point value is = record { points = points_same asked; has = is; others = λ other n. refl }

pub taken_by : (point other : ℕ) (value found : PlainTern) (old new : Asked) → point ≡ other → value ≡ found →
    HasTaken point value old new → HasTaken other found old new
taken_by point other value found old new e f taken =
    subst (λ (n : ℕ). HasTaken n found old new) e (subst (λ (x : PlainTern). HasTaken point x old new) f taken)

-- a value does not take what is given to it
pub not_both : (drive : Option Drive) (source : Source) → drive ≡ Some (Value source) → TakesGiven drive → ⊥
not_both drive source is takes = let both : true ≡ false = sym takes ∙ ap takes_given is in cc

-- ---- one value after another

module _ (group : Group) (found : List Tern) (old mid new : Asked) (place : ℕ) (inside : IsInGroup group place)
    (apart : (other : ℕ) → IsInGroup group other → other < place → slice_index old.own other ≢ slice_index old.own place)
    (taken : HasTaken (slice_index old.own place) (kept_tern found (place - group.begin)) mid new) (before : HasTakenGroup group place found old mid) where
  values_more : (other : ℕ) → IsInGroup group other → other < place + 1 →
      kept_tern new.terns (slice_index old.own other) ≡ kept_tern found (other - group.begin)
  values_more other at l =
      elim (cases_eq other place) [
        | inl e ↦ subst (λ (n : ℕ). kept_tern new.terns (slice_index old.own n) ≡ kept_tern found (n - group.begin)) (sym e) taken.has
        | inr n ↦ (let early : other < place = omega (arith, l, n) in
            taken.others (slice_index old.own other) (apart other at early) ∙ before.values other at early)
      ]

  pub group_more : HasTakenGroup group (place + 1) found old new
  group_more = record {
    points = points_then old mid new before.points taken.points;
    values = values_more;
    others = λ point none. taken.others point (λ e. none place inside (sym e)) ∙ before.others point none;
  }

-- nothing is taken below the first place of a group
pub group_none : (group : Group) (found : List Tern) (asked : Asked) → HasTakenGroup group group.begin found asked asked
group_none group found asked = record {
  points = points_same asked;
  values = λ place inside l. absurd (omega (arith, inside.low, l));
  others = λ point none. refl;
}

-- one more point takes what is given to it
module _ (taken : List ℕ) (count : ℕ) (given : List Tern) (old mid new : Asked)
    (one : HasTaken (slice_index old.own (slice_index taken count)) (kept_tern given (slice_index old.own (slice_index taken count))) mid new)
    (before : HaveTaken taken count given old mid) where
  abbrev at : ℕ → ℕ
  at k = slice_index old.own (slice_index taken k)

  given_more : (k : ℕ) → k < count + 1 → kept_tern new.terns (at k) ≡ kept_tern given (at k)
  given_more k l =
      elim (cases_eq (at k) (at count)) [
        | inl e ↦ ap (kept_tern new.terns) e ∙ one.has ∙ ap (kept_tern given) (sym e)
        | inr n ↦ elim (cases_lt k count) [
          | inl early ↦ one.others (at k) n ∙ before.values k early
          | inr after ↦ (let e : k ≡ count = omega (arith, l, after) in absurd (n (ap at e)))
        ]
      ]

  pub taken_one : HaveTaken taken (count + 1) given old new
  taken_one = record {
    points = points_then old mid new before.points one.points;
    values = given_more;
    others = λ point none. one.others point (λ e. none count (omega arith) (sym e)) ∙ before.others point (λ k l. none k (omega (arith, l)));
  }

pub taken_zero : (taken : List ℕ) (given : List Tern) (asked : Asked) → HaveTaken taken 0 given asked asked
taken_zero taken given asked = record { points = points_same asked; values = λ k l. absurd (omega (arith, l)); others = λ point none. refl }

-- ---- groups

pub groups_by : (network : Network) (own other_own leads other_leads : List ℕ) (lists other_lists : Lists) (taken other_taken : List ℕ)
    (groups other_groups : List Group) → other_own ≡ own → other_leads ≡ leads → other_lists ≡ lists → other_taken ≡ taken → other_groups ≡ groups →
    AreGroups network own leads lists taken groups → AreGroups network other_own other_leads other_lists other_taken other_groups
groups_by network own other_own leads other_leads lists other_lists taken other_taken groups other_groups e f g h i are =
    subst (λ (xs : List ℕ). AreGroups network xs other_leads other_lists other_taken other_groups) (sym e)
    (subst (λ (xs : List ℕ). AreGroups network own xs other_lists other_taken other_groups) (sym f)
    (subst (λ (xs : Lists). AreGroups network own leads xs other_taken other_groups) (sym g)
    (subst (λ (xs : List ℕ). AreGroups network own leads lists xs other_groups) (sym h)
    (subst (AreGroups network own leads lists taken) (sym i) are))))

module _ (network : Network) (old new : Asked) (lists : Lists) (taken : List ℕ) (groups : List Group) (fit : AreFit network.trees.items network.drives.items)
    (are : AreGroups network old.own old.leads lists taken groups) where
  -- a place of a group is not one of another group
  pub groups_apart : (number later : ℕ) (group next : Group) → number < later → slice_get groups number ≡ Some group → slice_get groups later ≡ Some next →
      (place other : ℕ) → IsInGroup group place → IsInGroup next other → slice_index old.own place ≢ slice_index old.own other
  groups_apart number later group next l there after place other inside at =
      let rises : group.end ≤ next.begin = are.rises number later group next l there after in
      are.once place other (omega (arith, inside.below, rises, at.low)) (omega (arith, at.below, (are.each later next after).ends))

  -- ---- what a group takes

  module _ (number : ℕ) (group : Group) (found : List Tern) (there : slice_get groups number ≡ Some group)
      (wrote : HasTakenGroup group group.end found old new) where
    is_value : (place : ℕ) → IsInGroup group place → TakesGiven (drive_at network old.own place) → ⊥
    is_value place inside takes =
        let bit = (are.each number group there).bits place inside in
        not_both (drive_at network old.own place) bit.source bit.drive takes

    pub group_written : HasWritten network old new
    group_written = record {
      points = wrote.points;
      others = λ point none.
          wrote.others point (λ place inside e. is_value place inside (none place (omega (arith, inside.below, (are.each number group there).ends)) e));
    }

    -- what an earlier group or the group itself reads has what it had
    reads_stay : (early : ℕ) (before : Group) → slice_get groups early ≡ Some before → before.begin ≤ group.begin → (point : ℕ) →
        HasReader old.own lists early point → kept_tern new.terns point ≡ kept_tern old.terns point
    reads_stay early before first l point reads =
        wrote.others point (λ place inside e.
        let in_own : place < length old.own = omega (arith, inside.below, (are.each number group there).ends) in
        elim (are.ordered early before first place in_own (reads place in_own e)) [
          | inl takes ↦ is_value place inside takes
          | inr begins ↦ (let low : group.begin ≤ place = inside.low in omega (arith, begins, l, low))
        ])

    -- the group itself
    pub group_right : AreFound network old group group.end found → IsRightGroup network new group
    group_right are_found place inside source drive =
        let is = are.each number group there in
        right_at network old new lists number group fit is wrote.points place inside source drive
        (reads_stay number group there (omega arith))
        (wrote.values place inside inside.below
        ∙ are_found place inside inside.below
        ∙ ap (value_tern network.trees.items (seen old.terns old.leads))
        (drive_before network old new lists number group fit is wrote.points place source drive))

    -- a group before it
    pub earlier_right : (early : ℕ) (before : Group) → early < number → slice_get groups early ≡ Some before → IsRightGroup network old before →
        IsRightGroup network new before
    earlier_right early before l first right =
        let rises : before.end ≤ group.begin = are.rises early number before group l first there in
        right_stays network old new lists early before fit (are.each early before first) wrote.points right
        (λ place inside. reads_stay early before first (omega (arith, inside.low, inside.below, rises)))
        (λ place inside. wrote.others (slice_index old.own place) (λ other at e.
        groups_apart early number before group l first there place other inside at (sym e)))

    -- a group behind it that reads nothing of it
    pub later_right : (later : ℕ) (next : Group) → number < later → slice_get groups later ≡ Some next →
        ((point : ℕ) → HasReader old.own lists later point → kept_tern new.terns point ≡ kept_tern old.terns point) → IsRightGroup network old next →
        IsRightGroup network new next
    later_right later next l after stays right =
        right_stays network old new lists later next fit (are.each later next after) wrote.points right (λ place inside. stays)
        (λ place inside. wrote.others (slice_index old.own place) (λ other at. groups_apart number later group next l there after other place at inside))

    -- ---- all groups

    pub all_right : (old_stale : List Bool) (before after : Fanout) → before.readers.items ≡ lists → before.stale ≡ slice_set old_stale number false →
        HasTouched old.own old.terns new.terns before after → AreFound network old group group.end found →
        ((early : ℕ) (other : Group) → early < number → slice_get groups early ≡ Some other → IsRightGroup network old other) →
        ((later : ℕ) (other : Group) → slice_get groups later ≡ Some other → IsFresh old_stale later → IsRightGroup network old other) →
        (at : ℕ) (other : Group) → (at < number + 1) ⊎ IsFresh after.stale at → slice_get groups at ≡ Some other → IsRightGroup network new other
    all_right old_stale before after same_lists marked touched are_found done rest at other which first =
        elim (cases_lt at number) [
          | inl l ↦ earlier_right at other l first (done at other l first)
          | inr m ↦ elim (cases_eq at number) [
            | inl e ↦ (let both : Some group ≡ Some other = sym there ∙ ap (slice_get groups) (sym e) ∙ first in
                let same : group ≡ other = cc in
                subst (IsRightGroup network new) same (group_right are_found))
            | inr n ↦ (let fresh : IsFresh after.stale at = elim which [ inl l ↦ absurd (omega (arith, l, m, n)) | inr is ↦ is ] in
                let was : IsFresh old_stale at =
                sym (get_other old_stale number false at n) ∙ ap (λ (xs : List Bool). slice_get xs at) (sym marked) ∙ touched.fresh at fresh in
                later_right at other (omega (arith, m, n)) first
                (λ point reads. touched.same at fresh point (subst (λ (xs : Lists). HasReader old.own xs at point) (sym same_lists) reads))
                (rest at other first was))
          ]
        ]

  -- ---- what inputs and flip-flops take

  pub given_right : (given : List Tern) (before after : Fanout) → before.readers.items ≡ lists →
      HaveTaken taken (length taken) given old new → HasTouched old.own old.terns new.terns before after →
      ((number : ℕ) (group : Group) → slice_get groups number ≡ Some group → IsFresh before.stale number → IsRightGroup network old group) →
      (number : ℕ) (group : Group) → slice_get groups number ≡ Some group → IsFresh after.stale number → IsRightGroup network new group
  given_right given before after same_lists have touched right number group there fresh =
      let is = are.each number group there in
      right_stays network old new lists number group fit is have.points (right number group there (touched.fresh number fresh))
      (λ place inside point reads. touched.same number fresh point (subst (λ (xs : Lists). HasReader old.own xs number point) (sym same_lists) reads))
      (λ place inside. have.others (slice_index old.own place) (λ k l e.
      let bit = is.bits place inside in
      let takes = (are.takes (slice_index taken k) (k, l, refl)).1 in
      not_both (drive_at network old.own place) bit.source bit.drive
      (subst (λ (n : ℕ). TakesGiven (slice_get network.drives.items n)) e takes)))

-- ---- values that are found

pub found_none : (network : Network) (asked : Asked) (group : Group) (found : List Tern) → AreFound network asked group group.begin found
found_none network asked group found place inside l = absurd (omega (arith, inside.low, l))

pub found_more : (network : Network) (asked : Asked) (group : Group) (found : List Tern) (place : ℕ) (tern : Tern) → group.begin ≤ place →
    place - group.begin < length found →
    plain_tern tern ≡ value_tern network.trees.items (seen asked.terns asked.leads) (drive_at network asked.own place) →
    AreFound network asked group place found → AreFound network asked group (place + 1) (slice_set found (place - group.begin) tern)
found_more network asked group found place tern low room is before other inside l =
    elim (cases_eq other place) [
      | inl e ↦ subst
          (λ (n : ℕ). kept_tern (slice_set found (place - group.begin) tern) (n - group.begin)
          ≡ value_tern network.trees.items (seen asked.terns asked.leads) (drive_at network asked.own n))
          (sym e) (kept_same found (place - group.begin) tern room ∙ is)
      | inr n ↦ (let early : other < place = omega (arith, l, n) in
          kept_other found (place - group.begin) tern (other - group.begin) (λ e. n (omega (arith, e, inside.low, low, early))) ∙ before other inside early)
    ]

-- ---- one look after another

pub written_then : (network : Network) (old mid new : Asked) → HasWritten network old mid → HasWritten network mid new → HasWritten network old new
written_then network old mid new one two = record {
  points = points_then old mid new one.points two.points;
  others = λ point each.
      two.others point
      (subst (λ (own : List ℕ). (place : ℕ) → place < length own → slice_index own place ≡ point → TakesGiven (drive_at network own place))
      (sym one.points.own) each)
      ∙ one.others point each;
}
