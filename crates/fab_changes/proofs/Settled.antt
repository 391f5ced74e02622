-- Where all groups are right, all that has been asked for has the values of the least solution.
use Rattle.std.proofs.Common.{◌≡◌, ◌⊎◌, ℕ, zero, suc, ◌+◌, ◌<◌, List, [], ◌∷◌, None, Option, Some, length, refl, sym, ap, ◌∙◌, subst, inl, inr, arith}
use Rattle.std.proofs.Common.{slice_get, slice_index, slice_set}
use Rattle.std.proofs.lemmas.Bool.{cases_eq, cases_lt}
use Rattle.fab_systems_laws.specs.Ternary.{no, yes, unknown, IsBelow}
use Rattle.fab_systems_laws.specs.Ternary.{Tern as PlainTern}
use Rattle.fab_systems_laws.proofs.Order.{below_equal}
use Rattle.fab_ternary.specs.declared.Tern.{Tern}
use Rattle.fab_ternary.specs.declared.Tern.TheVariants.{Open}
use Rattle.fab_compiled.specs.declared.tree.Tree.{Tree}
use Rattle.fab_compiled.specs.Leading.{PointTerns, AreAbove}
use Rattle.fab_compiled.specs.Terns.{seen}
use Rattle.fab_compiled.specs.Trees.{EachPlace}
use Rattle.fab_network.specs.declared.network.Drive.{Drive}
use Rattle.fab_network.specs.declared.network.Drive.TheVariants.{Given, Flop, Same, Value, Hold}
use Rattle.fab_network.specs.declared.network.Network.{Network}
use Rattle.fab_network.specs.declared.network.Source.{Source}
use Rattle.fab_network.specs.Network.{drive_tern, source_tern, AreFit, IsFitSource}
use Rattle.fab_network.specs.Passes.{kept_tern, shows, AreLed, AreSolved, IsListed}
use Rattle.fab_network.proofs.Kept.{kept_other}
use Rattle.fab_network.proofs.Sources.{source_grows}
use Rattle.fab_demand.specs.Asked.{Asked, DiffersInOwn}
use Rattle.fab_demand.specs.Demand.{ShowsLeast}
use Rattle.fab_demand.specs.inner.Cycles.{start_tern, IsSettled}
use Rattle.fab_demand.proofs.Lists.{listed_or_not}
use Rattle.fab_demand.proofs.Settling.{cycle_shows, differs_after, settled_of}
use Rattle.fab_changes.specs.declared.groups.Group.{Group}
use Rattle.fab_changes.specs.Changes.{drive_at, AreGroups, IsGrouped, IsRightGroup, TakesGiven}
use Rattle.fab_changes.specs.Fanout.{IsReader, IsWatched, Lists}
use Rattle.fab_changes.specs.inner.Looking.{AreSamePoints, HasWritten, HaveTaken}
use Rattle.fab_changes.proofs.Right.{groups_by, not_both, points_then}
use Rattle.fab_changes.proofs.Reading.{same_source, source_kept}

-- ---- values are opened

abbrev open_at : Option Drive → ℕ → List Tern → List Tern
open_at None q terns = terns
open_at (Some Given) q terns = terns
open_at (Some (Flop clock next)) q terns = terns
open_at (Some (Same other)) q terns = terns
open_at (Some (Value source)) q terns = slice_set terns q Open
open_at (Some (Hold gate latched)) q terns = terns

-- what is kept, but nothing for those of these points that are values
abbrev opened : List Drive → List ℕ → List Tern → List Tern
opened drives [] terns = terns
opened drives (q ∷ own) terns = open_at (slice_get drives q) q (opened drives own terns)

set_open : (terns : List Tern) (q : ℕ) → kept_tern (slice_set terns q Open) q ≡ unknown
set_open [] q = refl
set_open (t ∷ terns) zero = refl
set_open (t ∷ terns) (suc q) = set_open terns q

-- a point that is opened stays so
open_stays : (drive : Option Drive) (q : ℕ) (terns : List Tern) (point : ℕ) → kept_tern terns point ≡ unknown →
    kept_tern (open_at drive q terns) point ≡ unknown
open_stays None q terns point is = is
open_stays (Some Given) q terns point is = is
open_stays (Some (Flop clock next)) q terns point is = is
open_stays (Some (Same other)) q terns point is = is
open_stays (Some (Value source)) q terns point is =
    elim (cases_eq point q) [ inl e ↦ ap (kept_tern (slice_set terns q Open)) e ∙ set_open terns q | inr n ↦ kept_other terns q Open point n ∙ is ]
open_stays (Some (Hold gate latched)) q terns point is = is

open_here : (drive : Option Drive) (source : Source) (q : ℕ) (terns : List Tern) → drive ≡ Some (Value source) → kept_tern (open_at drive q terns) q ≡ unknown
open_here drive source q terns e =
    subst (λ (d : Option Drive). kept_tern (open_at d q terns) q ≡ unknown) (sym e) (set_open terns q)

-- all other points have what they had
open_other : (drive : Option Drive) (q : ℕ) (terns : List Tern) (point : ℕ) → (point ≡ q → ⊥) → kept_tern (open_at drive q terns) point ≡ kept_tern terns point
open_other None q terns point n = refl
open_other (Some Given) q terns point n = refl
open_other (Some (Flop clock next)) q terns point n = refl
open_other (Some (Same other)) q terns point n = refl
open_other (Some (Value source)) q terns point n = kept_other terns q Open point n
open_other (Some (Hold gate latched)) q terns point n = refl

open_taken : (drive : Option Drive) (q : ℕ) (terns : List Tern) (point : ℕ) → TakesGiven drive → kept_tern (open_at drive q terns) point ≡ kept_tern terns point
open_taken None q terns point takes = cc
open_taken (Some Given) q terns point takes = refl
open_taken (Some (Flop clock next)) q terns point takes = refl
open_taken (Some (Same other)) q terns point takes = cc
open_taken (Some (Value source)) q terns point takes = cc
open_taken (Some (Hold gate latched)) q terns point takes = cc

module _ (drives : List Drive) (terns : List Tern) where
  opened_value : (own : List ℕ) (source : Source) (point : ℕ) → IsListed own point → slice_get drives point ≡ Some (Value source) →
      kept_tern (opened drives own terns) point ≡ unknown
  opened_value [] source point (place, l, is) drive = absurd (omega (arith, l))
  opened_value (q ∷ own) source point (zero, l, is) drive =
      subst (λ (n : ℕ). kept_tern (open_at (slice_get drives q) q (opened drives own terns)) n ≡ unknown) is
      (open_here (slice_get drives q) source q (opened drives own terns) (ap (slice_get drives) is ∙ drive))
  opened_value (q ∷ own) source point (suc place, l, is) drive =
      open_stays (slice_get drives q) q (opened drives own terns) point (opened_value own source point (place, omega (arith, l), is) drive)

  opened_taken : (own : List ℕ) (point : ℕ) → TakesGiven (slice_get drives point) → kept_tern (opened drives own terns) point ≡ kept_tern terns point
  opened_taken [] point takes = refl
  opened_taken (q ∷ own) point takes =
      elim (cases_eq point q) [
        | inl e ↦ open_taken (slice_get drives q) q (opened drives own terns) point (subst (λ (n : ℕ). TakesGiven (slice_get drives n)) e takes)
        | inr n ↦ open_other (slice_get drives q) q (opened drives own terns) point n
      ] ∙ opened_taken own point takes

  opened_other : (own : List ℕ) (point : ℕ) → (IsListed own point → ⊥) → kept_tern (opened drives own terns) point ≡ kept_tern terns point
  opened_other [] point none = refl
  opened_other (q ∷ own) point none =
      open_other (slice_get drives q) q (opened drives own terns) point (λ e. none (0, omega arith, sym e))
      ∙ opened_other own point (λ (place, l, is). none (suc place, omega (arith, l), is))

-- ---- the greatest value below two

abbrev meet : PlainTern → PlainTern → PlainTern
meet no no = no
meet no yes = unknown
meet no unknown = unknown
meet yes no = unknown
meet yes yes = yes
meet yes unknown = unknown
meet unknown x = unknown

meet_below : (x y : PlainTern) → IsBelow (meet x y) y
meet_below no no = refl
meet_below no yes = tt
meet_below no unknown = tt
meet_below yes no = tt
meet_below yes yes = refl
meet_below yes unknown = tt
meet_below unknown y = tt

meet_is : (x y : PlainTern) → IsBelow x y → x ≡ meet x y
meet_is no no below = refl
meet_is no yes below = cc
meet_is no unknown below = cc
meet_is yes no below = cc
meet_is yes yes below = refl
meet_is yes unknown below = cc
meet_is unknown y below = refl

-- one of two values
abbrev either_of : {A : Type 0} {B : Type 0} → A ⊎ B → PlainTern → PlainTern → PlainTern
either_of (inl a) x y = x
either_of (inr b) x y = y

either_below : {A : Type 0} {B : Type 0} (which : A ⊎ B) (x y z : PlainTern) → (B → ⊥) → IsBelow x z → IsBelow (either_of which x y) z
either_below (inl a) x y z none below = below
either_below (inr b) x y z none below = absurd (none b)

either_is : {A : Type 0} {B : Type 0} (which : A ⊎ B) (x y : PlainTern) → (A → y ≡ x) → y ≡ either_of which x y
either_is (inl a) x y same = same a
either_is (inr b) x y same = refl

-- A source has no more than where all that it reads has no less.
source_below : (trees : List Tree) (count : ℕ) (Has : ℕ → Type 0) (v t : PointTerns) (source : Source) (tree : Tree) → IsFitSource trees count source →
    slice_get trees source.tree ≡ Some tree → EachPlace Has tree →
    ((place : ℕ) → Has place → source.first + place < count → IsBelow (v (source.first + place)) (t (source.first + place))) →
    IsBelow (source_tern trees v source) (source_tern trees t source)
source_below trees count Has v t source tree fit there reads below =
    let u : PointTerns = λ q. either_of (cases_lt q count) (meet (v q) (t q)) (v q) in
    let same : source_tern trees v source ≡ source_tern trees u source =
    source_kept trees Has v u source tree there reads
    (λ place has. either_is (cases_lt (source.first + place) count) (meet (v (source.first + place)) (t (source.first + place))) (v (source.first + place))
    (λ l. meet_is (v (source.first + place)) (t (source.first + place)) (below place has l))) in
    subst (λ (x : PlainTern). IsBelow x (source_tern trees t source)) (sym same)
    (source_grows trees count u t
    (λ q l. either_below (cases_lt q count) (meet (v q) (t q)) (v q) (t q) (λ m. omega (arith, l, m)) (meet_below (v q) (t q))) source fit)

-- ---- what points start with

start_taken : (held : PlainTern) (drive : Option Drive) → TakesGiven drive → start_tern held drive ≡ held
start_taken held None takes = cc
start_taken held (Some Given) takes = refl
start_taken held (Some (Flop clock next)) takes = refl
start_taken held (Some (Same other)) takes = cc
start_taken held (Some (Value source)) takes = cc
start_taken held (Some (Hold gate latched)) takes = cc

shown_taken : (trees : List Tree) (held : PlainTern) (t : PointTerns) (point : ℕ) (drive : Option Drive) → TakesGiven drive →
    t point ≡ drive_tern trees held t point drive
shown_taken trees held t point None takes = cc
shown_taken trees held t point (Some Given) takes = refl
shown_taken trees held t point (Some (Flop clock next)) takes = refl
shown_taken trees held t point (Some (Same other)) takes = cc
shown_taken trees held t point (Some (Value source)) takes = cc
shown_taken trees held t point (Some (Hold gate latched)) takes = cc

-- ---- all groups are right

module _ (network : Network) (asked : Asked) (given old : List Tern) (lists : Lists) (taken : List ℕ) (groups : List Group)
    (fit : AreFit network.trees.items network.drives.items) (points : length network.drives.items ≡ length asked.leads)
    (are : AreGroups network asked.own asked.leads lists taken groups)
    (right : (number : ℕ) (group : Group) → slice_get groups number ≡ Some group → IsRightGroup network asked group)
    (takes : (place : ℕ) → place < length asked.own → TakesGiven (drive_at network asked.own place) →
    kept_tern asked.terns (slice_index asked.own place) ≡ kept_tern given (slice_index asked.own place))
    (others : (point : ℕ) → (IsListed asked.own point → ⊥) → kept_tern asked.terns point ≡ kept_tern old point) where
  abbrev own_at : ℕ → ℕ
  own_at place = slice_index asked.own place

  abbrev started : List Tern
  started = opened network.drives.items asked.own asked.terns

  -- the point at a place takes what is given, or is a value that is right
  record IsValue (place : ℕ) : Type 0 where
    grouped : IsGrouped groups place
    source : Source
    drive : drive_at network asked.own place ≡ Some (Value source)
    is : kept_tern asked.terns (own_at place) ≡ source_tern network.trees.items (seen asked.terns asked.leads) source

  which : (place : ℕ) → place < length asked.own → TakesGiven (drive_at network asked.own place) ⊎ IsValue place
  which place l =
      elim (are.all place l) [
        | inl listed ↦ inl (are.takes place listed).1
        | inr grouped ↦ (let bit = (are.each grouped.number grouped.group grouped.there).bits place grouped.inside in
            inr (record {
              grouped = grouped;
              source = bit.source;
              drive = bit.drive;
              is = right grouped.number grouped.group grouped.there place grouped.inside bit.source bit.drive;
            }))
      ]

  seen_own : (terns : List Tern) (place : ℕ) → place < length asked.own → seen terns asked.leads (own_at place) ≡ kept_tern terns (own_at place)
  seen_own terns place l = ap (kept_tern terns) (are.unled place l).1

  starts_at : (place : ℕ) → place < length asked.own →
      kept_tern started (own_at place) ≡ start_tern (kept_tern given (own_at place)) (drive_at network asked.own place)
  starts_at place l =
      elim (which place l) [
        | inl is ↦ opened_taken network.drives.items asked.terns asked.own (own_at place) is ∙ takes place l is
            ∙ sym (start_taken (kept_tern given (own_at place)) (drive_at network asked.own place) is)
        | inr value ↦ opened_value network.drives.items asked.terns asked.own value.source (own_at place) (place, l, refl) value.drive
            ∙ sym (ap (start_tern (kept_tern given (own_at place))) value.drive)
      ]

  own_rising : (place : ℕ) → place < length asked.own → IsBelow (kept_tern started (own_at place)) (kept_tern asked.terns (own_at place))
  own_rising place l =
      elim (which place l) [
        | inl is ↦ below_equal (kept_tern started (own_at place)) (kept_tern asked.terns (own_at place))
            (opened_taken network.drives.items asked.terns asked.own (own_at place) is)
        | inr value ↦ subst (λ (x : PlainTern). IsBelow x (kept_tern asked.terns (own_at place)))
            (sym (opened_value network.drives.items asked.terns asked.own value.source (own_at place) (place, l, refl) value.drive)) tt
      ]

  rising_at : (point : ℕ) → IsBelow (kept_tern started point) (kept_tern asked.terns point)
  rising_at point =
      elim (listed_or_not asked.own point) [
        | inl at ↦ subst (λ (n : ℕ). IsBelow (kept_tern started n) (kept_tern asked.terns n)) at.2 (own_rising at.0 at.1)
        | inr none ↦ below_equal (kept_tern started point) (kept_tern asked.terns point) (opened_other network.drives.items asked.terns asked.own point none)
      ]

  solved_at : (place : ℕ) → place < length asked.own →
      seen asked.terns asked.leads (own_at place) ≡ shows network.trees.items network.drives.items given (seen asked.terns asked.leads) (own_at place)
  solved_at place l =
      elim (which place l) [
        | inl is ↦ shown_taken network.trees.items (kept_tern given (own_at place)) (seen asked.terns asked.leads) (own_at place)
            (drive_at network asked.own place) is
        | inr value ↦ seen_own asked.terns place l ∙ value.is
            ∙ sym (ap (drive_tern network.trees.items (kept_tern given (own_at place)) (seen asked.terns asked.leads) (own_at place)) value.drive)
      ]

  -- ---- below all solutions

  module _ (t : PointTerns) (solved : AreSolved network.trees.items network.drives.items given asked.own t) (led : AreLed asked.leads t)
      (above : AreAbove started asked.leads t) where
    abbrev IsBelowAt : ℕ → Type 0
    IsBelowAt place = IsBelow (kept_tern asked.terns (own_at place)) (t (own_at place))

    taken_below : (place : ℕ) → place < length asked.own → TakesGiven (drive_at network asked.own place) → IsBelowAt place
    taken_below place l is =
        subst (λ (x : PlainTern). IsBelow x (t (own_at place)))
        (seen_own started place l ∙ opened_taken network.drives.items asked.terns asked.own (own_at place) is) (above (own_at place) (are.unled place l).0)

    -- what a value reads is below
    module _ (place : ℕ) (l : place < length asked.own) (value : IsValue place)
        (before : (earlier : ℕ) → earlier < place → earlier < length asked.own → IsBelowAt earlier) where
      abbrev group : Group
      group = value.grouped.group

      lead_below : (other : ℕ) → other < length asked.own → IsReader lists other value.grouped.number → IsBelowAt other
      lead_below other m reads =
          elim (are.ordered value.grouped.number group value.grouped.there other m reads) [
            | inl is ↦ taken_below other m is
            | inr early ↦ before other (omega (arith, early, value.grouped.inside.low)) m
          ]

      read_below : (point : ℕ) → IsWatched asked.own asked.leads lists value.grouped.number point → point < length network.drives.items →
          IsBelow (seen asked.terns asked.leads point) (t point)
      read_below point watched inside =
          let within : point < length asked.leads = omega (arith, inside, points) in
          let lead = slice_index asked.leads point in
          elim (listed_or_not asked.own lead) [
            | inl at ↦ subst (λ (x : PlainTern). IsBelow (kept_tern asked.terns lead) x) (sym (led point within))
                (subst (λ (n : ℕ). IsBelow (kept_tern asked.terns n) (t n)) at.2 (lead_below at.0 at.1 (watched at.0 at.1 at.2)))
            | inr none ↦ subst (λ (x : PlainTern). IsBelow x (t point)) (opened_other network.drives.items asked.terns asked.own lead none) (above point within)
          ]

      value_below : IsBelowAt place
      value_below =
          let is = are.each value.grouped.number group value.grouped.there in
          let bit = is.bits place value.grouped.inside in
          let same : value.source ≡ bit.source = same_source (drive_at network asked.own place) value.source bit.source value.drive bit.drive in
          let fits : IsFitSource network.trees.items (length network.drives.items) value.source = fit (own_at place) (Value value.source) value.drive in
          let tree : value.source.tree ≡ group.source.tree = ap (λ (s : Source). s.tree) same ∙ bit.tree in
          let first : group.source.first ≡ value.source.first = sym (ap (λ (s : Source). s.first) same ∙ bit.first) in
          let there : slice_get network.trees.items group.source.tree ≡ Some fits.tree = ap (slice_get network.trees.items) (sym tree) ∙ fits.is in
          let below : IsBelow (source_tern network.trees.items (seen asked.terns asked.leads) value.source) (source_tern network.trees.items t value.source) =
          source_below network.trees.items (length network.drives.items)
          (λ k. IsWatched asked.own asked.leads lists value.grouped.number (value.source.first + k))
          (seen asked.terns asked.leads) t value.source fits.tree fits fits.is
          (subst (λ (n : ℕ). EachPlace (λ k. IsWatched asked.own asked.leads lists value.grouped.number (n + k)) fits.tree) first (is.watched fits.tree there))
          (λ k watched m. read_below (value.source.first + k) watched m) in
          let shown : t (own_at place) ≡ source_tern network.trees.items t value.source =
          solved place l ∙ ap (drive_tern network.trees.items (kept_tern given (own_at place)) t (own_at place)) value.drive in
          subst (λ (x : PlainTern). IsBelow (kept_tern asked.terns (own_at place)) x) (sym shown)
          (subst (λ (x : PlainTern). IsBelow x (source_tern network.trees.items t value.source)) (sym value.is) below)

    below_all : (count place : ℕ) → place < count → place < length asked.own → IsBelowAt place
    below_all zero place l m = absurd (omega (arith, l))
    below_all (suc count) place l m =
        elim (which place m) [
          | inl is ↦ taken_below place m is
          | inr value ↦ value_below place m value (λ earlier early. below_all count earlier (omega (arith, early, l)))
        ]

    below_point : (point : ℕ) → point < length asked.leads → IsBelow (seen asked.terns asked.leads point) (t point)
    below_point point within =
        let lead = slice_index asked.leads point in
        elim (listed_or_not asked.own lead) [
          | inl at ↦ subst (λ (x : PlainTern). IsBelow (kept_tern asked.terns lead) x) (sym (led point within))
              (subst (λ (n : ℕ). IsBelow (kept_tern asked.terns n) (t n)) at.2 (below_all (length asked.own) at.0 at.1 at.1))
          | inr none ↦ subst (λ (x : PlainTern). IsBelow x (t point)) (opened_other network.drives.items asked.terns asked.own lead none) (above point within)
        ]

  pub settled : IsSettled network given asked.own asked.leads old asked.terns
  settled = record {
    started = started;
    starts = starts_at;
    rising = rising_at;
    below = below_point;
    solved = solved_at;
    kept_first = λ point none. opened_other network.drives.items asked.terns asked.own point none ∙ others point none;
    kept_then = λ point none. sym (opened_other network.drives.items asked.terns asked.own point none);
  }

-- ---- a cycle

module _ (network : Network) (old mid new : Asked) (given : List Tern) (lists : Lists) (taken : List ℕ) (groups : List Group)
    (fit : AreFit network.trees.items network.drives.items) (points : length network.drives.items ≡ length old.leads)
    (are : AreGroups network old.own old.leads lists taken groups) (have : HaveTaken taken (length taken) given old mid) (wrote : HasWritten network mid new)
    (right : (number : ℕ) (group : Group) → slice_get groups number ≡ Some group → IsRightGroup network new group) where
  pub cycle_points : AreSamePoints old new
  cycle_points = points_then old mid new have.points wrote.points

  -- all that holds of the points that stand for themselves, over an equal list of them
  over_own : (P : List ℕ → Type 0) → P old.own → P new.own
  over_own P is = subst P (sym cycle_points.own) is

  stays_written : (point : ℕ) → ((place : ℕ) → place < length old.own → slice_index old.own place ≡ point → TakesGiven (drive_at network old.own place)) →
      kept_tern new.terns point ≡ kept_tern mid.terns point
  stays_written point each =
      wrote.others point
      (subst (λ (own : List ℕ). (place : ℕ) → place < length own → slice_index own place ≡ point → TakesGiven (drive_at network own place))
      (sym have.points.own) each)

  pub has_given : (place : ℕ) → place < length old.own → TakesGiven (drive_at network old.own place) →
      kept_tern new.terns (slice_index old.own place) ≡ kept_tern given (slice_index old.own place)
  has_given place l is =
      let point = slice_index old.own place in
      stays_written point (λ other m e. subst (λ (n : ℕ). TakesGiven (slice_get network.drives.items n)) (sym e) is)
      ∙ elim (are.all place l) [
        | inl at ↦ subst (λ (n : ℕ). kept_tern mid.terns (slice_index old.own n) ≡ kept_tern given (slice_index old.own n)) at.2 (have.values at.0 at.1)
        | inr grouped ↦ (let bit = (are.each grouped.number grouped.group grouped.there).bits place grouped.inside in
            absurd (not_both (drive_at network old.own place) bit.source bit.drive is))
      ]

  has_stayed : (point : ℕ) → (IsListed old.own point → ⊥) → kept_tern new.terns point ≡ kept_tern old.terns point
  has_stayed point none =
      stays_written point (λ place l e. absurd (none (place, l, e)))
      ∙ have.others point (λ k l e. none (slice_index taken k, (are.takes (slice_index taken k) (k, l, refl)).0, e))

  abbrev cycle_settled : IsSettled network given new.own new.leads old.terns new.terns
  cycle_settled =
      settled network new given old.terns lists taken groups fit (points ∙ ap length (sym cycle_points.leads))
      (groups_by network old.own new.own old.leads new.leads lists lists taken taken groups groups cycle_points.own cycle_points.leads refl refl refl are) right
      (over_own (λ own. (place : ℕ) → place < length own → TakesGiven (drive_at network own place) →
      kept_tern new.terns (slice_index own place) ≡ kept_tern given (slice_index own place)) has_given)
      (over_own (λ own. (point : ℕ) → (IsListed own point → ⊥) → kept_tern new.terns point ≡ kept_tern old.terns point) has_stayed)

  pub cycle_is : IsSettled network given old.own old.leads old.terns new.terns
  cycle_is =
      settled_of network given new.own old.own new.leads old.leads old.terns old.terns new.terns new.terns cycle_points.own
      cycle_points.leads refl refl cycle_settled

  pub changed_shows : ShowsLeast network given old new
  changed_shows = cycle_shows network given old new fit points cycle_points.leads cycle_points.marks cycle_points.own cycle_is

  pub changed_stays : (asked : Asked) → DiffersInOwn asked old → DiffersInOwn asked new
  changed_stays asked before = differs_after network given old new fit points cycle_points.leads cycle_points.marks cycle_points.own cycle_is asked before
