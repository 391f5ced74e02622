-- What has been asked for has the values of the least solution.
use Rattle.std.proofs.Common.{◌≡◌, ℕ, ◌<◌, Bool, true, false, List, Option, None, Some, length, refl, sym, ap, ◌∙◌, subst, inl, inr, arith, ltb}
use Rattle.std.proofs.Common.{slice_get, slice_index}
use Rattle.std.specs.List.{range_with_len}
use Rattle.std.proofs.lemmas.Bool.{lt-ltb, ltb-true}
use Rattle.std.proofs.lemmas.List.FromFn.{get_or-range_with_len, length-range_with_len}
use Rattle.fab_systems_laws.specs.System.{AreListed}
use Rattle.fab_systems_laws.specs.Ternary.{unknown, IsBelow, IsMonotone, Tern as PlainTern}
use Rattle.fab_systems_laws.proofs.Order.{below_self, below_equal, below_both}
use Rattle.fab_ternary.specs.declared.Tern.{Tern}
use Rattle.fab_network.proofs.fab_solutions_laws_Demanded.{demanded_least}
use Rattle.fab_network.proofs.fab_solutions_laws_Orders.{through_grows}
use Rattle.fab_compiled.specs.declared.tree.Tree.{Tree}
use Rattle.fab_compiled.specs.Leading.{PointTerns, AreAbove, IsMarked}
use Rattle.fab_compiled.specs.Terns.{seen}
use Rattle.fab_equations.proofs.Numbering.{some_there}
use Rattle.fab_network.specs.declared.network.Clock.{Clock}
use Rattle.fab_network.specs.declared.network.Drive.{Drive}
use Rattle.fab_network.specs.declared.network.Drive.TheVariants.{Given, Flop, Same, Value, Hold}
use Rattle.fab_network.specs.declared.network.Network.{Network}
use Rattle.fab_network.specs.Network.{drive_tern, source_tern, AreFit, IsFitDrive}
use Rattle.fab_network.specs.Passes.{kept_tern, shows, AreLed, AreSolved, IsListed}
use Rattle.fab_network.specs.Solved.{asked_by, IsLeast}
use Rattle.fab_network.proofs.Sources.{source_grows}
use Rattle.fab_demand.specs.Asked.{Asked, DiffersInOwn, IsPossible}
use Rattle.fab_demand.specs.Demand.{shown_of, GivesOwn, IsAsked, IsKept, Shows, ShowsLeast}
use Rattle.fab_demand.specs.inner.Cycles.{start_tern, IsSettled}
use Rattle.fab_demand.proofs.Lists.{bool_there, get_within, listed_or_not}

-- ---- what a drive asks

-- what is asked of a point grows with the assignment
asked_grows : (trees : List Tree) (count : ℕ) (t u : PointTerns) → ((point : ℕ) → point < count → IsBelow (t point) (u point)) →
    (held : PlainTern) (drive : Drive) →
    IsFitDrive trees count drive → IsBelow (asked_by trees held t (Some drive)) (asked_by trees held u (Some drive))
asked_grows trees count t u grow held Given fit = below_self held
asked_grows trees count t u grow held (Flop clock next) fit = below_self held
asked_grows trees count t u grow held (Same other) fit = grow other fit
asked_grows trees count t u grow held (Value source) fit = source_grows trees count t u grow source fit
asked_grows trees count t u grow held (Hold gate latched) fit =
    through_grows (source_tern trees t gate) (source_tern trees t latched) held (source_tern trees u gate) (source_tern trees u latched) held
    (source_grows trees count t u grow gate fit.0) (source_grows trees count t u grow latched fit.1) (below_self held)

-- a point that has what is asked of it shows what it has
shows_asked : (trees : List Tree) (held : PlainTern) (t : PointTerns) (point : ℕ) (drive : Option Drive) → t point ≡ asked_by trees held t drive →
    t point ≡ drive_tern trees held t point drive
shows_asked trees held t point None is = is
shows_asked trees held t point (Some Given) is = refl
shows_asked trees held t point (Some (Flop clock next)) is = refl
shows_asked trees held t point (Some (Same other)) is = is
shows_asked trees held t point (Some (Value source)) is = is
shows_asked trees held t point (Some (Hold gate latched)) is = is

-- what a point starts with is below what it has where all is solved
start_below : (trees : List Tree) (held : PlainTern) (t : PointTerns) (point : ℕ) (drive : Option Drive) → t point ≡ asked_by trees held t drive →
    IsBelow (start_tern held drive) (t point)
start_below trees held t point None is = tt
start_below trees held t point (Some Given) is = below_equal held (t point) (sym is)
start_below trees held t point (Some (Flop clock next)) is = below_equal held (t point) (sym is)
start_below trees held t point (Some (Same other)) is = tt
start_below trees held t point (Some (Value source)) is = tt
start_below trees held t point (Some (Hold gate latched)) is = tt

-- A point that started so, shows what it has, and has no more than a solution, has what is asked of it.
settled_asked : (trees : List Tree) (held : PlainTern) (w t : PointTerns) (point : ℕ) (drive : Option Drive) → w point ≡ drive_tern trees held w point drive →
    IsBelow (start_tern held drive) (w point) → IsBelow (w point) (t point) → t point ≡ asked_by trees held t drive → asked_by trees held w drive ≡ w point
settled_asked trees held w t point None is from below solves = sym is
settled_asked trees held w t point (Some Given) is from below solves = below_both held (w point) from
    (subst (λ (x : PlainTern). IsBelow (w point) x) solves below)
settled_asked trees held w t point (Some (Flop clock next)) is from below solves = below_both held (w point) from
    (subst (λ (x : PlainTern). IsBelow (w point) x) solves below)
settled_asked trees held w t point (Some (Same other)) is from below solves = sym is
settled_asked trees held w t point (Some (Value source)) is from below solves = sym is
settled_asked trees held w t point (Some (Hold gate latched)) is from below solves = sym is

-- ---- marks as a set

abbrev marked_of : Option Bool → Bool
marked_of None = false
marked_of (Some b) = b

marked_is : (o : Option Bool) → marked_of o ≡ true → o ≡ Some true
marked_is None e = cc
marked_is (Some b) e = ap Some e

listed_below : (count : ℕ) → AreListed (λ point. ltb point count) (range_with_len 0 count)
listed_below count point is =
    let l : point < count = ltb-true point count is in
    (point, omega (arith, l, length-range_with_len 0 count), get_or-range_with_len 0 count point point l ∙ omega arith)

-- ---- a view of what has been asked for

module _ (network : Network) (clock : Clock) (given : PointTerns) (asked now : Asked) (looked : IsAsked network clock given asked)
    (differs : DiffersInOwn asked now) where
  abbrev view : PointTerns
  view = seen now.terns now.leads

  view_is : (q : ℕ) → view q ≡ kept_tern now.terns (slice_index asked.leads q)
  view_is q = ap (λ (leads : List ℕ). seen now.terns leads q) differs.leads

  -- what was known before is known now
  kept_below : (q : ℕ) → IsBelow (kept_tern asked.terns q) (kept_tern now.terns q)
  kept_below q =
      elim (listed_or_not asked.own q) [
        | inl listed ↦ subst (λ (x : PlainTern). IsBelow x (kept_tern now.terns q)) (sym (looked.own q listed).1.not_kept) tt
        | inr none ↦ below_equal (kept_tern asked.terns q) (kept_tern now.terns q) (sym (differs.others q none))
      ]

  pub view_possible : IsPossible asked view
  view_possible = record {
    above = λ q l. subst (λ (x : PlainTern). IsBelow (seen asked.terns asked.leads q) x) (sym (view_is q)) (kept_below (slice_index asked.leads q));
    follows = λ q m. view_is q ∙ ap (kept_tern now.terns) (sym (looked.last q m)) ∙ sym (view_is (slice_index asked.leads q));
  }

  -- an assignment that has the same on all points that have been asked for
  same_possible : (s : PointTerns) → ((q : ℕ) → IsMarked asked.marks q → s q ≡ view q) → IsPossible asked s
  same_possible s same = record {
    above = λ q l. elim (bool_there asked.marks q (omega (arith, l, looked.whole.marks))) [
      | inl m ↦ subst (λ (x : PlainTern). IsBelow (seen asked.terns asked.leads q) x) (sym (same q m)) (view_possible.above q l)
      | inr n ↦ (let rest = looked.others q n in
          let none : seen asked.terns asked.leads q ≡ unknown = ap (kept_tern asked.terns) rest.0 ∙ rest.1 in
          subst (λ (x : PlainTern). IsBelow x (s q)) (sym none) tt)
    ];
    follows = λ q m. same q m ∙ view_possible.follows q m ∙ sym (same (slice_index asked.leads q) (looked.led q m));
  }

  -- in a possible assignment all points have what those have to which they are led
  pub led_all : (t : PointTerns) → IsPossible asked t → AreLed asked.leads t
  led_all t possible q l =
      elim (bool_there asked.marks q (omega (arith, l, looked.whole.marks))) [
        | inl m ↦ possible.follows q m
        | inr n ↦ ap t (sym (looked.others q n).0)
      ]

-- ---- a cycle

module _ (network : Network) (clock : Clock) (given : PointTerns) (asked old now : Asked) (held : List Tern)
    (fit : AreFit network.trees.items network.drives.items) (points : length network.drives.items ≡ length asked.leads)
    (looked : IsAsked network clock given asked) (before : DiffersInOwn asked old) (differs : DiffersInOwn asked now)
    (settled : IsSettled network held asked.own asked.leads old.terns now.terns)
    (later t : PointTerns) (kept : IsKept network clock given asked.terns asked.leads later) (gives : GivesOwn asked held later)
    (least : IsLeast network.trees.items network.drives.items later t) where
  abbrev count : ℕ
  count = length network.drives.items

  abbrev w : PointTerns
  w = seen now.terns now.leads

  w_is : (q : ℕ) → w q ≡ kept_tern now.terns (slice_index asked.leads q)
  w_is q = view_is network clock given asked now looked differs q

  possible : IsPossible asked t
  possible = looked.sound later t kept least.solves

  led : AreLed asked.leads t
  led = led_all network clock given asked now looked differs t possible

  own_inside : (q : ℕ) → IsListed asked.own q → q < count
  own_inside q listed = omega (arith, get_within asked.marks q true (looked.own q listed).0, looked.whole.marks, points)

  -- what an own point has in the solution
  own_solves : (q : ℕ) → IsListed asked.own q → t q ≡ asked_by network.trees.items (kept_tern held q) t (slice_get network.drives.items q)
  own_solves q listed =
      least.solves q (own_inside q listed) ∙ ap (λ (x : PlainTern). asked_by network.trees.items x t (slice_get network.drives.items q)) (sym (gives q listed))

  all_solved : AreSolved network.trees.items network.drives.items held asked.own t
  all_solved place l =
      let q = slice_index asked.own place in
      shows_asked network.trees.items (kept_tern held q) t q (slice_get network.drives.items q) (own_solves q (place, l, refl))

  starts_at : (q : ℕ) → IsListed asked.own q → kept_tern settled.started q ≡ start_tern (kept_tern held q) (slice_get network.drives.items q)
  starts_at q (place, l, is) =
      subst (λ n. kept_tern settled.started n ≡ start_tern (kept_tern held n) (slice_get network.drives.items n)) is (settled.starts place l)

  started_above : AreAbove settled.started asked.leads t
  started_above q l =
      let lead = slice_index asked.leads q in
      let there : IsBelow (kept_tern settled.started lead) (t lead) =
      elim (listed_or_not asked.own lead) [
        | inl listed ↦ subst (λ (x : PlainTern). IsBelow x (t lead)) (sym (starts_at lead listed))
            (start_below network.trees.items (kept_tern held lead) t lead (slice_get network.drives.items lead) (own_solves lead listed))
        | inr none ↦ (let same : kept_tern settled.started lead ≡ kept_tern asked.terns lead = settled.kept_first lead none ∙ before.others lead none in
            let above : IsBelow (kept_tern asked.terns lead) (t lead) = subst (λ (x : PlainTern). IsBelow (kept_tern asked.terns lead) x) (led q l)
            (possible.above q l) in
            subst (λ (x : PlainTern). IsBelow x (t lead)) (sym same) above)
      ] in
      subst (λ (x : PlainTern). IsBelow (kept_tern settled.started lead) x) (sym (led q l)) there

  w_below : (q : ℕ) → q < length asked.leads → IsBelow (w q) (t q)
  w_below q l = subst (λ (x : PlainTern). IsBelow x (t q)) (sym (w_is q)) (settled.below t all_solved led started_above q l)

  inside : (q : ℕ) → IsMarked asked.marks q → q < length asked.leads
  inside q m = omega (arith, get_within asked.marks q true m, looked.whole.marks)

  w_possible : IsPossible asked w
  w_possible = view_possible network clock given asked now looked differs

  own_w : (q : ℕ) → IsListed asked.own q → w q ≡ kept_tern now.terns q
  own_w q (place, l, is) = w_is q ∙ ap (kept_tern now.terns) (subst (λ n. slice_index asked.leads n ≡ n) is (looked.whole.own place l).1)

  solved_at : (q : ℕ) → IsListed asked.own q → w q ≡ drive_tern network.trees.items (kept_tern held q) w q (slice_get network.drives.items q)
  solved_at q (place, l, is) =
      let W : List ℕ → PointTerns = λ leads. seen now.terns leads in
      subst (λ n. w n ≡ drive_tern network.trees.items (kept_tern held n) w n (slice_get network.drives.items n)) is
      (subst (λ (leads : List ℕ). W leads (slice_index asked.own place) ≡ shows network.trees.items network.drives.items held (W leads)
      (slice_index asked.own place))
      (sym differs.leads) (settled.solved place l))

  -- an own point shows what it has
  own_shows : (q : ℕ) → IsListed asked.own q → shown_of network later w q ≡ w q
  own_shows q listed =
      let drive = slice_get network.drives.items q in
      let solved : w q ≡ drive_tern network.trees.items (kept_tern held q) w q drive = solved_at q listed in
      let from : IsBelow (start_tern (kept_tern held q) drive) (w q) =
      subst (λ (x : PlainTern). IsBelow (start_tern (kept_tern held q) drive) x) (sym (own_w q listed))
      (subst (λ (x : PlainTern). IsBelow x (kept_tern now.terns q)) (starts_at q listed) (settled.rising q)) in
      ap (λ (x : PlainTern). asked_by network.trees.items x w drive) (sym (gives q listed))
      ∙ settled_asked network.trees.items (kept_tern held q) w t q drive solved from (w_below q (inside q (looked.own q listed).0)) (own_solves q listed)

  -- a point that has been asked for shows what it has, as soon as all of them have it
  suffices : (s : PointTerns) → ((q : ℕ) → IsMarked asked.marks q → s q ≡ w q) → (q : ℕ) → IsMarked asked.marks q → shown_of network later s q ≡ w q
  suffices s same q m =
      let at_s : IsPossible asked s = same_possible network clock given asked now looked differs s same in
      elim (looked.enough q m) [
        | inl listed ↦ (looked.own q listed).1.enough later s w kept at_s w_possible same ∙ own_shows q listed
        | inr decided ↦ decided later s kept at_s ∙ same q m
      ]

  abbrev has : ℕ → Bool
  has q = ltb q count

  abbrev demanded : ℕ → Bool
  demanded q = marked_of (slice_get asked.marks q)

  is_demanded : (q : ℕ) → IsMarked asked.marks q → demanded q ≡ true
  is_demanded q m = ap marked_of m

  is_marked : (q : ℕ) → demanded q ≡ true → IsMarked asked.marks q
  is_marked q d = marked_is (slice_get asked.marks q) d

  abbrev show : ℕ → PointTerns → PlainTern
  show q s = shown_of network later s q

  show_grows : IsMonotone has show
  show_grows q s u h grow =
      let there = some_there network.drives.items q (ltb-true q count h) in
      subst (λ (o : Option Drive). IsBelow (asked_by network.trees.items (later q) s o) (asked_by network.trees.items (later q) u o)) (sym there.1)
      (asked_grows network.trees.items count s u (λ k l. grow k) (later q) there.0 (fit q there.0 there.1))

  pub points_least : (q : ℕ) → IsMarked asked.marks q → w q ≡ t q
  points_least q m =
      sym (demanded_least has demanded (range_with_len 0 count) show (listed_below count) show_grows t w (λ k h. least.solves k (ltb-true k count h))
      (λ u solves k h. least.least u (λ n l. solves n (lt-ltb n count l)) k (ltb-true k count h))
      (λ k d. let l : k < count = omega (arith, inside k (is_marked k d), points) in lt-ltb k count l)
      (λ k d. w_below k (inside k (is_marked k d)))
      (λ s same k d. suffices s (λ n marked. same n (is_demanded n marked)) k (is_marked k d)) q (is_demanded q m))

  pub shows_least : Shows network asked now t
  shows_least = record {
    points = points_least;
    sources = λ source is_asked. is_asked w t w_possible possible points_least;
  }

-- the same of equal lists
pub settled_of : (network : Network) (held : List Tern) (own other_own leads other_leads : List ℕ) (old other_old new other_new : List Tern) →
    own ≡ other_own → leads ≡ other_leads →
    old ≡ other_old → new ≡ other_new → IsSettled network held own leads old new → IsSettled network held other_own other_leads other_old other_new
settled_of network held own other_own leads other_leads old other_old new other_new e f g h settled =
    subst (λ (xs : List Tern). IsSettled network held other_own other_leads other_old xs) h
    (subst (λ (xs : List Tern). IsSettled network held other_own other_leads xs new) g
    (subst (λ (xs : List ℕ). IsSettled network held other_own xs old new) f
    (subst (λ (xs : List ℕ). IsSettled network held xs leads old new) e settled)))

module _ (network : Network) (held : List Tern) (old now : Asked) (fit : AreFit network.trees.items network.drives.items)
    (points : length network.drives.items ≡ length old.leads)
    (leads : now.leads ≡ old.leads) (marks : now.marks ≡ old.marks) (own : now.own ≡ old.own)
    (settled : IsSettled network held old.own old.leads old.terns now.terns) where
  pub differs_after : (asked : Asked) → DiffersInOwn asked old → DiffersInOwn asked now
  differs_after asked before = record {
    leads = leads ∙ before.leads;
    marks = marks ∙ before.marks;
    own = own ∙ before.own;
    others = λ q none.
        let apart : IsListed old.own q → ⊥ = λ listed. none (subst (λ (xs : List ℕ). IsListed xs q) before.own listed) in
        settled.kept_then q apart ∙ settled.kept_first q apart ∙ before.others q none;
  }

  pub cycle_shows : ShowsLeast network held old now
  cycle_shows clock given asked looked before later t kept gives least =
      shows_least network clock given asked old now held fit (points ∙ ap length before.leads) looked before (differs_after asked before)
      (settled_of network held old.own asked.own old.leads asked.leads old.terns old.terns now.terns now.terns before.own before.leads refl refl settled)
      later t kept gives least
