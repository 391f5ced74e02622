-- What each turn of the search keeps.
use Rattle.std.proofs.Common.{◌≡◌, ◌≢◌, ℕ, zero, suc, ◌+◌, ◌-◌, ◌*◌, ◌≤◌, ◌<◌, true, false, List, [], ◌∷◌, ◌++◌, Vec, map, length, get_or, set, take, replicate, sum_by, All, Contains, Option, Some, None, refl, sym, ap, ◌∙◌, subst, inl, inr, arith}
use Rattle.std.proofs.lemmas.Bool.{cases_Bool, cases_eq, cases_lt, false≢true}
use Rattle.std.proofs.lemmas.List.{length-set, length-append, length-take-le, length-replicate, length-map, get_or-set_same, get_or-set_other, get_or_past, get_or_append_left, get_or-append_right, get_or-take, get_or-map, get_or_default}
use Rattle.std.proofs.lemmas.List.Elements.{All-contains}
use Rattle.std.proofs.lemmas.List.Sums.{sum_by-set, sum_by-cons}
use Rattle.fab_netlist.proofs.Members.{in_none, first_or_later}
use Rattle.fab_legal.proofs.Members.{in_pushed, still_in, last_in}
use Rattle.fab_timing.specs.declared.search.Mark.{Mark}
use Rattle.fab_timing.specs.declared.search.Mark.TheVariants as marks
use Rattle.fab_timing.specs.declared.steps.Steps.{Steps}
use Rattle.fab_timing.specs.inner.Arrivals.{IsRanked, IsLatest, latest_by}
use Rattle.fab_timing.specs.inner.Tables.{plain_steps, sum_at, before_in, IsShortStep, AreTables, AreSums, AreAtMost, AreSmall}
use Rattle.fab_timing.specs.inner.Search.{is_settled, mark_at, turns_of, one_if_settled, settled, first_of, unsettled, IsSearch, StaysMet}
use Rattle.fab_timing.proofs.Latest.{either, by_which, latest_same, known_are_latest}

-- ---- marks

-- what is no new node has a mark
marked_inside : (list : List Mark) (node : ℕ) → (mark_at list node ≡ marks.New → ⊥) → node < length list
marked_inside list node met =
    elim (cases_lt node (length list)) [
      | inl inside ↦ inside
      | inr past ↦ absurd (met (get_or_past list node marks.New past))
    ]

waiting_met : (m : Mark) → m ≡ marks.Waiting → m ≡ marks.New → ⊥
waiting_met m waits new = (let worse : ⊥ = cc in worse)

settled_met : (m : Mark) → is_settled m ≡ true → m ≡ marks.New → ⊥
settled_met m is new = false≢true (sym (ap is_settled new) ∙ is)

-- a node that is neither settled nor on the path is new
is_new : (m : Mark) → is_settled m ≡ false → (m ≡ marks.Waiting → ⊥) → m ≡ marks.New
is_new marks.New undone apart = refl
is_new marks.Waiting undone apart = absurd (apart refl)
is_new marks.Settled undone apart = absurd (false≢true (sym undone))

-- a node that was met and does not wait is settled
pub is_done : (m : Mark) → (m ≡ marks.New → ⊥) → (m ≡ marks.Waiting → ⊥) → is_settled m ≡ true
is_done marks.New met apart = absurd (met refl)
is_done marks.Waiting met apart = absurd (apart refl)
is_done marks.Settled met apart = refl

here_is : (list : List Mark) (node : ℕ) (m : Mark) → node < length list → mark_at (set list node m) node ≡ m
here_is list node m inside = get_or-set_same list node m marks.New inside

other_is : (list : List Mark) (node other : ℕ) (m : Mark) → other ≢ node → mark_at (set list node m) other ≡ mark_at list other
other_is list node other m apart = get_or-set_other list node other m marks.New apart

-- what a node was met as stays, if another mark than New is set
pub stays_met : (list : List Mark) (node : ℕ) (m : Mark) → (m ≡ marks.New → ⊥) → StaysMet list (set list node m)
stays_met list node m met other was_met is_new_now =
    elim (cases_eq other node) [
      | inl same ↦ (
          let inside : node < length list = subst (λ (n : ℕ). n < length list) same (marked_inside list other was_met) in
          met (sym (here_is list node m inside) ∙ ap (mark_at (set list node m)) (sym same) ∙ is_new_now))
      | inr apart ↦ was_met (sym (other_is list node other m apart) ∙ is_new_now)
    ]

pub met_again : (old middle new : List Mark) → StaysMet old middle → StaysMet middle new → StaysMet old new
met_again old middle new first second node met = second node (first node met)

-- ---- turns and counts

pub enter_turns : (list : List Mark) (node : ℕ) → node < length list → mark_at list node ≡ marks.New → sum_by turns_of (set list node marks.Waiting) + 1 ≡ sum_by turns_of list
enter_turns list node inside new =
    let counts : sum_by turns_of (set list node marks.Waiting) + turns_of (mark_at list node) ≡ sum_by turns_of list + 1 = sum_by-set turns_of list node marks.Waiting marks.New inside in
    let was : turns_of (mark_at list node) ≡ 2 = ap turns_of new in
    omega (arith, counts, was)

pub leave_turns : (list : List Mark) (node : ℕ) → node < length list → mark_at list node ≡ marks.Waiting → sum_by turns_of (set list node marks.Settled) + 1 ≡ sum_by turns_of list
leave_turns list node inside waits =
    let counts : sum_by turns_of (set list node marks.Settled) + turns_of (mark_at list node) ≡ sum_by turns_of list + 0 = sum_by-set turns_of list node marks.Settled marks.New inside in
    let was : turns_of (mark_at list node) ≡ 1 = ap turns_of waits in
    omega (arith, counts, was)

enter_count : (list : List Mark) (node : ℕ) → node < length list → mark_at list node ≡ marks.New → settled (set list node marks.Waiting) ≡ settled list
enter_count list node inside new =
    let counts : settled (set list node marks.Waiting) + one_if_settled (mark_at list node) ≡ settled list + 0 = sum_by-set one_if_settled list node marks.Waiting marks.New inside in
    let was : one_if_settled (mark_at list node) ≡ 0 = ap one_if_settled new in
    omega (arith, counts, was)

leave_count : (list : List Mark) (node : ℕ) → node < length list → mark_at list node ≡ marks.Waiting → settled (set list node marks.Settled) ≡ settled list + 1
leave_count list node inside waits =
    let counts : settled (set list node marks.Settled) + one_if_settled (mark_at list node) ≡ settled list + 1 = sum_by-set one_if_settled list node marks.Settled marks.New inside in
    let was : one_if_settled (mark_at list node) ≡ 0 = ap one_if_settled waits in
    omega (arith, counts, was)

one_at_most : (m : Mark) → one_if_settled m ≤ 1
one_at_most marks.New = omega arith
one_at_most marks.Waiting = omega arith
one_at_most marks.Settled = omega arith

settled_most : (list : List Mark) → settled list ≤ length list
settled_most [] = omega arith
settled_most (m ∷ list) = omega (arith, sum_by-cons one_if_settled m list, one_at_most m, settled_most list)

-- ---- nodes that are not settled

none_first : (a b : Option ℕ) → first_of a b ≡ None → (a ≡ None) × (b ≡ None)
none_first None b is = (refl, is)
none_first (Some x) b is = absurd (let worse : ⊥ = cc in worse)

pub all_settled : (list : List Mark) (before : List (ℕ × ℕ)) → unsettled list before ≡ None → (step : ℕ × ℕ) → Contains before step → is_settled (mark_at list step.0) ≡ true
all_settled list [] none step among = absurd (in_none step among)
all_settled list (first ∷ more) none step among =
    elim (cases_Bool (is_settled (mark_at list first.0))) [
      | inl is ↦ elim (first_or_later first more step among) [
        | inl same ↦ ap (λ (s : ℕ × ℕ). is_settled (mark_at list s.0)) (sym same) ∙ is
        | inr later ↦ (let rest : unsettled list more ≡ None = rw is at none in all_settled list more rest step later)
      ]
      | inr is_not ↦ absurd (let bad : first_of (Some first.0) (unsettled list more) ≡ None = rw is_not at none in let worse : ⊥ = cc in worse)
    ]

-- a step from a node that is not settled
pub record IsOpen (list : List Mark) (before : List (ℕ × ℕ)) (node : ℕ) : Type 0 where
  pub units : ℕ
  pub among : Contains before (node, units)
  pub undone : is_settled (mark_at list node) ≡ false

pub some_open : (list : List Mark) (before : List (ℕ × ℕ)) (node : ℕ) → unsettled list before ≡ Some node → IsOpen list before node
some_open list [] node is = absurd (let worse : ⊥ = cc in worse)
some_open list (first ∷ more) node is =
    elim (cases_Bool (is_settled (mark_at list first.0))) [
      | inl done ↦ (
          let rest : unsettled list more ≡ Some node = rw done at is in
          let found = some_open list more node rest in
          record { units = found.units; among = later first more (node, found.units) found.among; undone = found.undone })
      | inr is_not ↦ (
          let here : first_of (Some first.0) (unsettled list more) ≡ Some node = rw is_not at is in
          let same : first.0 ≡ node = cc in
          record {
            units = first.1;
            among = (zero, omega arith, ap (λ (n : ℕ). (n, first.1)) same);
            undone = ap (λ (n : ℕ). is_settled (mark_at list n)) (sym same) ∙ is_not;
          })
    ]
  where
    later : (y : ℕ × ℕ) (ys : List (ℕ × ℕ)) (x : ℕ × ℕ) → Contains ys x → Contains (y ∷ ys) x
    later y ys x here = (suc here.0, omega (arith, here.1), here.2)

-- ---- groups

-- the steps into a node as they are read
pub group_read : {A : Type 0} (groups : List (Vec (ℕ × ℕ) A)) (node : ℕ) (group : Vec (ℕ × ℕ) A) → node < length groups → group ≡ get_or groups node group → group.items ≡ before_in groups node
group_read {A} groups node group within read =
    ap (λ (g : Vec (ℕ × ℕ) A). g.items) read ∙ sym (get_or-map (λ (g : Vec (ℕ × ℕ) A). g.items) groups node group [] within)

-- these steps are short
pub short_here : {A : Type 0} (starts : List (Option ℕ)) (groups : List (Vec (ℕ × ℕ) A)) (count node : ℕ) (group : Vec (ℕ × ℕ) A) (list : List (ℕ × ℕ)) → count ≡ length starts → length groups ≡ length starts →
    ((other : ℕ) → All (IsShortStep (length starts)) (before_in groups other)) → node < count → group ≡ get_or groups node group → list ≡ group.items → All (IsShortStep count) list
short_here {A} starts groups count node group list count_is lengths short within read is =
    subst (λ (n : ℕ). All (IsShortStep n) list) (sym count_is)
    (subst (λ (steps : List (ℕ × ℕ)). All (IsShortStep (length starts)) steps) (sym (is ∙ group_read groups node group (omega (arith, within, count_is, lengths)) read)) (short node))

-- ---- the turns

-- the last node of a path
abbrev pub EndsWith : (path : List ℕ) → (last : ℕ) → Type 0
EndsWith path last = (0 < length path) × (last ≡ get_or path (length path - 1) 0)

pub ends_with : (seen path : List ℕ) (last : ℕ) → seen ≡ path → 0 < length seen → last ≡ get_or seen (length seen - 1) 0 → EndsWith path last
ends_with seen path last same some is_last = subst (λ (list : List ℕ). EndsWith list last) same (some, is_last)

module _ (steps : Steps) (tables : AreTables steps) where
  -- a sum by settled nodes has one step more
  latest_small : (count : ℕ) (sums : List (Option ℕ)) → AreAtMost count sums → (node sum : ℕ) → latest_by (plain_steps steps) (sum_at sums) node ≡ Some sum → sum ≤ (count + 1) * 127
  latest_small count sums most node sum is =
      elim (either (sum_at steps.starts.items node) _ sum is) [
        | inl start ↦ (let few = tables.starts node sum start in omega (arith, few))
        | inr came ↦ (
            let by = by_which (sum_at sums) (before_in steps.before.items node) sum came in
            let low : by.old ≤ count * 127 = most by.step.0 by.old by.old_is in
            let short : IsShortStep (length steps.starts.items) by.step = All-contains (IsShortStep (length steps.starts.items)) (before_in steps.before.items node) by.step (tables.short node) by.among in
            omega (arith, low, short.few, by.sum_is))
      ]

  -- a node before another is there
  step_inside : (node from units : ℕ) → Contains (before_in steps.before.items node) (from, units) → from < length steps.starts.items
  step_inside node from units among =
      (All-contains (IsShortStep (length steps.starts.items)) (before_in steps.before.items node) (from, units) (tables.short node) among).within

  module _ (list : List Mark) (sums : List (Option ℕ)) (path : List ℕ) (search_is : IsSearch steps list sums path) where
    -- a new node is put onto the path
    enter : (next : ℕ) → next < length list → mark_at list next ≡ marks.New →
        ((rank : ℕ → ℕ) → IsRanked (plain_steps steps) rank → (j : ℕ) → j < length path → rank next < rank (get_or path j 0)) →
        IsSearch steps (set list next marks.Waiting) sums (path ++ next ∷ [])
    enter next inside new lower = record {
      marked = length-set list next marks.Waiting ∙ search_is.marked;
      summed = search_is.summed;
      known = record {
        closed = λ node step is among. settled_new step.0 (search_is.known.closed node step (settled_old node is) among);
        by = λ node is. search_is.known.by node (settled_old node is);
      };
      small = λ node sum is. (let old = search_is.small node sum is in let count = enter_count list next inside new in omega (arith, old, count));
      on_path = λ node is. elim (cases_eq node next) [
        | inl same ↦ subst (λ (n : ℕ). Contains (path ++ next ∷ []) n) (sym same) (last_in path next)
        | inr apart ↦ still_in path next node (search_is.on_path node (sym (other_is list next node marks.Waiting apart) ∙ is))
      ];
      waits = λ node here. elim (in_pushed path next node here) [
        | inl before ↦ (
            let waited = search_is.waits node before in
            other_is list next node marks.Waiting (λ same. waiting_met (mark_at list node) waited (ap (mark_at list) same ∙ new)) ∙ waited)
        | inr same ↦ ap (mark_at (set list next marks.Waiting)) (sym same) ∙ here_is list next marks.Waiting inside
      ];
      falls = λ rank ranked j k less within. elim (cases_lt k (length path)) [
        | inl earlier ↦ (
            let first : get_or (path ++ next ∷ []) j 0 ≡ get_or path j 0 = get_or_append_left path (next ∷ []) 0 j (omega (arith, less, earlier)) in
            let second : get_or (path ++ next ∷ []) k 0 ≡ get_or path k 0 = get_or_append_left path (next ∷ []) 0 k earlier in
            let old = search_is.falls rank ranked j k less earlier in
            omega (arith, old, ap rank first, ap rank second))
        | inr last ↦ (
            let place : k ≡ length path = omega (arith, last, within, length-append path (next ∷ [])) in
            let first : get_or (path ++ next ∷ []) j 0 ≡ get_or path j 0 = get_or_append_left path (next ∷ []) 0 j (omega (arith, less, place)) in
            let second : get_or (path ++ next ∷ []) k 0 ≡ next =
            get_or-append_right path (next ∷ []) (length path) k 0 refl (omega (arith, place)) ∙ ap (λ (n : ℕ). get_or (next ∷ []) n 0) (let none : k - length path ≡ 0 = omega (arith, place) in none) in
            let new_low = lower rank ranked j (omega (arith, less, place)) in
            omega (arith, new_low, ap rank first, ap rank second))
      ];
    }
      where
        settled_old : (node : ℕ) → is_settled (mark_at (set list next marks.Waiting) node) ≡ true → is_settled (mark_at list node) ≡ true
        settled_old node is = elim (cases_eq node next) [
          | inl same ↦ absurd (false≢true (ap is_settled (sym (ap (mark_at (set list next marks.Waiting)) same ∙ here_is list next marks.Waiting inside)) ∙ is))
          | inr apart ↦ ap is_settled (sym (other_is list next node marks.Waiting apart)) ∙ is
        ]

        settled_new : (node : ℕ) → is_settled (mark_at list node) ≡ true → is_settled (mark_at (set list next marks.Waiting) node) ≡ true
        settled_new node is =
            ap is_settled (other_is list next node marks.Waiting (λ same. settled_met (mark_at list node) is (ap (mark_at list) same ∙ new))) ∙ is

    -- the first node of a path
    pub begin : (next : ℕ) → path ≡ [] → next < length list → mark_at list next ≡ marks.New → IsSearch steps (set list next marks.Waiting) sums (path ++ next ∷ [])
    begin next empty inside new = enter next inside new (λ rank ranked j low. absurd (let none : length path ≡ 0 = ap length empty in omega (arith, low, none)))

    module _ (reader : ℕ) (ends : EndsWith path reader) where
      reader_in : Contains path reader
      reader_in = (let some = ends.0 in (length path - 1, omega (arith, some), get_or_default path (length path - 1) reader 0 (omega (arith, some)) ∙ sym ends.1))

      pub reader_waits : mark_at list reader ≡ marks.Waiting
      reader_waits = search_is.waits reader reader_in

      pub reader_marked : reader < length list
      reader_marked = marked_inside list reader (waiting_met (mark_at list reader) reader_waits)

      pub reader_small : reader < length steps.starts.items
      reader_small = omega (arith, reader_marked, search_is.marked)

      -- what stands before the last node is of lower rank than all nodes of the path
      lower_than_all : (from units : ℕ) → Contains (before_in steps.before.items reader) (from, units) → (rank : ℕ → ℕ) → IsRanked (plain_steps steps) rank → (j : ℕ) → j < length path → rank from < rank (get_or path j 0)
      lower_than_all from units among rank ranked j inside =
          let lower : rank from < rank reader = ranked reader (from, units) among in
          let last : rank reader ≡ rank (get_or path (length path - 1) 0) = ap rank ends.1 in
          elim (cases_lt j (length path - 1)) [
            | inl less ↦ (let old = search_is.falls rank ranked j (length path - 1) less (omega (arith, inside)) in omega (arith, old, lower, last))
            | inr more ↦ (
                let place : length path - 1 ≡ j = omega (arith, more, inside) in
                let same : rank (get_or path (length path - 1) 0) ≡ rank (get_or path j 0) = ap (λ (n : ℕ). rank (get_or path n 0)) place in
                omega (arith, lower, last, same))
          ]

      module _ (rank : ℕ → ℕ) (ranked : IsRanked (plain_steps steps) rank) where
        -- so a node before it that is not settled is new
        pub next_new : (from : ℕ) → unsettled list (before_in steps.before.items reader) ≡ Some from → (from < length list) × (mark_at list from ≡ marks.New)
        next_new from is =
            let found = some_open list (before_in steps.before.items reader) from is in
            let inside = step_inside reader from found.units found.among in (
              omega (arith, inside, search_is.marked),
              is_new (mark_at list from) found.undone (λ waits.
                  let here = search_is.on_path from waits in
                  let low = lower_than_all from found.units found.among rank ranked here.0 here.1 in
                  let same : get_or path here.0 0 ≡ from = get_or_default path here.0 0 from here.1 ∙ here.2 in
                  let rank_same = ap rank same in
                  omega (arith, low, rank_same)),
            )

        pub go_on : (from : ℕ) → unsettled list (before_in steps.before.items reader) ≡ Some from → IsSearch steps (set list from marks.Waiting) sums (path ++ from ∷ [])
        go_on from is =
            let found = some_open list (before_in steps.before.items reader) from is in
            let new = next_new from is in
            enter from new.0 new.1 (lower_than_all from found.units found.among)

        -- the last node gets its sum and leaves the path
        pub leave : unsettled list (before_in steps.before.items reader) ≡ None →
            IsSearch steps (set list reader marks.Settled) (set sums reader (latest_by (plain_steps steps) (sum_at sums) reader)) (take (length path - 1) path)
        leave none = record {
          marked = length-set list reader marks.Settled ∙ search_is.marked;
          summed = length-set sums reader value ∙ search_is.summed;
          known = record {
            closed = λ node step is among. elim (cases_eq node reader) [
              | inl same ↦ stays_settled step.0 (all_before step (subst (λ (n : ℕ). Contains (before_in steps.before.items n) step) same among))
              | inr apart ↦ stays_settled step.0 (search_is.known.closed node step (was_settled node apart is) among)
            ];
            by = λ node is. elim (cases_eq node reader) [
              | inl same ↦ (
                  ap (sum_at new_sums) same
                  ∙ get_or-set_same sums reader value None (omega (arith, reader_small, search_is.summed))
                  ∙ sym (latest_same (plain_steps steps) (sum_at sums) (sum_at new_sums) reader (λ step among. sum_stays step.0 (all_before step among)))
                  ∙ ap (latest_by (plain_steps steps) (sum_at new_sums)) (sym same))
              | inr apart ↦ (
                  get_or-set_other sums reader node value None apart
                  ∙ search_is.known.by node (was_settled node apart is)
                  ∙ sym (latest_same (plain_steps steps) (sum_at sums) (sum_at new_sums) node (λ step among. sum_stays step.0 (search_is.known.closed node step (was_settled node apart is) among))))
            ];
          };
          small = λ node sum is. elim (cases_eq node reader) [
            | inl same ↦ (
                let got : value ≡ Some sum = sym (get_or-set_same sums reader value None (omega (arith, reader_small, search_is.summed))) ∙ ap (sum_at new_sums) (sym same) ∙ is in
                let few = latest_small (settled list) sums search_is.small reader sum got in
                let count = leave_count list reader reader_marked reader_waits in
                omega (arith, few, count))
            | inr apart ↦ (
                let few = search_is.small node sum (sym (get_or-set_other sums reader node value None apart) ∙ is) in
                let count = leave_count list reader reader_marked reader_waits in
                omega (arith, few, count))
          ];
          on_path = λ node is. in_front node (not_reader node is) (search_is.on_path node (sym (other_is list reader node marks.Settled (not_reader node is)) ∙ is));
          waits = λ node here.
              let inside : here.0 < length path - 1 = subst (λ (n : ℕ). here.0 < n) front_length here.1 in
              let there : get_or path here.0 node ≡ node = sym (get_or-take (length path - 1) path here.0 node inside) ∙ here.2 in
              let waited = search_is.waits node (here.0, omega (arith, inside), there) in
              let lower = search_is.falls rank ranked here.0 (length path - 1) inside (omega (arith, inside)) in
              let node_is : rank (get_or path here.0 0) ≡ rank node = ap rank (get_or_default path here.0 0 node (omega (arith, inside)) ∙ there) in
              let reader_is : rank reader ≡ rank (get_or path (length path - 1) 0) = ap rank ends.1 in
              other_is list reader node marks.Settled (λ same. let equal : rank node ≡ rank reader = ap rank same in omega (arith, lower, node_is, reader_is, equal)) ∙ waited;
          falls = λ other other_ranked j k less within.
              let inside : k < length path - 1 = subst (λ (n : ℕ). k < n) front_length within in
              let first : get_or (take (length path - 1) path) j 0 ≡ get_or path j 0 = get_or-take (length path - 1) path j 0 (omega (arith, less, inside)) in
              let second : get_or (take (length path - 1) path) k 0 ≡ get_or path k 0 = get_or-take (length path - 1) path k 0 inside in
              let old = search_is.falls other other_ranked j k less (omega (arith, inside)) in
              omega (arith, old, ap other first, ap other second);
        }
          where
            value : Option ℕ
            value = latest_by (plain_steps steps) (sum_at sums) reader

            new_sums : List (Option ℕ)
            new_sums = set sums reader value

            front_length : length (take (length path - 1) path) ≡ length path - 1
            front_length = length-take-le (length path - 1) path (omega arith)

            all_before : (step : ℕ × ℕ) → Contains (before_in steps.before.items reader) step → is_settled (mark_at list step.0) ≡ true
            all_before = all_settled list (before_in steps.before.items reader) none

            not_settled_reader : (node : ℕ) → is_settled (mark_at list node) ≡ true → node ≢ reader
            not_settled_reader node is same = false≢true (sym (ap is_settled (ap (mark_at list) same ∙ reader_waits)) ∙ is)

            stays_settled : (node : ℕ) → is_settled (mark_at list node) ≡ true → is_settled (mark_at (set list reader marks.Settled) node) ≡ true
            stays_settled node is = ap is_settled (other_is list reader node marks.Settled (not_settled_reader node is)) ∙ is

            was_settled : (node : ℕ) → node ≢ reader → is_settled (mark_at (set list reader marks.Settled) node) ≡ true → is_settled (mark_at list node) ≡ true
            was_settled node apart is = ap is_settled (sym (other_is list reader node marks.Settled apart)) ∙ is

            sum_stays : (node : ℕ) → is_settled (mark_at list node) ≡ true → sum_at new_sums node ≡ sum_at sums node
            sum_stays node is = get_or-set_other sums reader node value None (not_settled_reader node is)

            not_reader : (node : ℕ) → mark_at (set list reader marks.Settled) node ≡ marks.Waiting → node ≢ reader
            not_reader node is same =
                let settled_here : mark_at (set list reader marks.Settled) node ≡ marks.Settled = ap (mark_at (set list reader marks.Settled)) same ∙ here_is list reader marks.Settled reader_marked in
                let worse : ⊥ = cc in
                worse

            in_front : (node : ℕ) → node ≢ reader → Contains path node → Contains (take (length path - 1) path) node
            in_front node apart here = elim (cases_lt here.0 (length path - 1)) [
              | inl less ↦ (here.0, subst (λ (n : ℕ). here.0 < n) (sym front_length) less, get_or-take (length path - 1) path here.0 node less ∙ here.2)
              | inr more ↦ absurd (apart (
                  let inside = here.1 in
                  let place : here.0 ≡ length path - 1 = omega (arith, more, inside) in
                  sym here.2 ∙ get_or_default path here.0 node 0 inside ∙ ap (λ (n : ℕ). get_or path n 0) place ∙ sym ends.1))
            ]

-- all sums of a search are small
pub search_small : (steps : Steps) (list : List Mark) (sums : List (Option ℕ)) (path : List ℕ) → IsSearch steps list sums path → AreSmall sums
search_small steps list sums path search_is node sum is =
    let few = search_is.small node sum is in
    let most = settled_most list in
    omega (arith, few, most, search_is.marked, search_is.summed)

-- ---- the beginning and the end

news_at : (count node : ℕ) → mark_at (replicate count marks.New) node ≡ marks.New
news_at zero node = refl
news_at (suc count) zero = refl
news_at (suc count) (suc node) = news_at count node

nones_at : (count node : ℕ) → sum_at (replicate count None) node ≡ None
nones_at zero node = refl
nones_at (suc count) zero = refl
nones_at (suc count) (suc node) = nones_at count node

pub nothing_met : (steps : Steps) (count : ℕ) → count ≡ length steps.starts.items → IsSearch steps (replicate count marks.New) (replicate count None) []
nothing_met steps count is = record {
  marked = length-replicate count marks.New ∙ is;
  summed = length-replicate count None ∙ is;
  known = record {
    closed = λ node step done among. absurd (settled_met (mark_at (replicate count marks.New) node) done (news_at count node));
    by = λ node done. absurd (settled_met (mark_at (replicate count marks.New) node) done (news_at count node));
  };
  small = λ node sum some. absurd (let none = nones_at count node in let worse : ⊥ = cc in worse);
  on_path = λ node waits. absurd (waiting_met (mark_at (replicate count marks.New) node) waits (news_at count node));
  waits = λ node here. absurd (in_none node here);
  falls = λ rank ranked j k less within. absurd (omega (arith, within));
}

-- where no node waits, one that was met is settled
pub met_settled : (steps : Steps) (list : List Mark) (sums : List (Option ℕ)) (node : ℕ) → IsSearch steps list sums [] → (mark_at list node ≡ marks.New → ⊥) → is_settled (mark_at list node) ≡ true
met_settled steps list sums node search_is met = is_done (mark_at list node) met (λ waits. in_none node (search_is.on_path node waits))

module _ (steps : Steps) (tables : AreTables steps) (list : List Mark) (sums : List (Option ℕ)) (search_is : IsSearch steps list sums [])
    (all : (node : ℕ) → node < length steps.starts.items → is_settled (mark_at list node) ≡ true) where
  pub sums_are : AreSums steps sums
  sums_are node = elim (cases_lt node (length steps.starts.items)) [
    | inl inside ↦ search_is.known.by node (all node inside)
    | inr past ↦ (
        let no_sum : sum_at sums node ≡ None = get_or_past sums node None (omega (arith, past, search_is.summed)) in
        let no_start : sum_at steps.starts.items node ≡ None = get_or_past steps.starts.items node None past in
        let no_step : before_in steps.before.items node ≡ [] =
        get_or_past (map (λ group. group.items) steps.before.items) node [] (let same = tables.lengths in let long = length-map steps.before.items (λ group. group.items) in omega (arith, past, same, long)) in
        rw (no_sum, no_start, no_step) refl)
  ]

  pub sums_latest : (rank : ℕ → ℕ) → IsRanked (plain_steps steps) rank → (node : ℕ) → IsLatest (plain_steps steps) node (sum_at sums node)
  sums_latest rank ranked node =
      known_are_latest (plain_steps steps) rank (λ other. true) (sum_at sums) ranked (record { closed = λ other step known among. refl; by = λ other known. sums_are other }) node refl

-- ---- one node after another

-- a node that is not settled begins a path
pub begun : (steps : Steps) (tables : AreTables steps) (list : List Mark) (sums : List (Option ℕ)) (path : List ℕ) (node : ℕ) → IsSearch steps list sums [] → path ≡ [] → node < length steps.starts.items →
    is_settled (mark_at list node) ≡ false → IsSearch steps (set list node marks.Waiting) sums (path ++ node ∷ [])
begun steps tables list sums path node search_is empty inside undone =
    begin steps tables list sums path (subst (λ (places : List ℕ). IsSearch steps list sums places) (sym empty) search_is) node empty (omega (arith, inside, search_is.marked))
    (is_new (mark_at list node) undone (λ waits. in_none node (search_is.on_path node waits)))

-- and is settled when the path is empty again
pub done_again : (steps : Steps) (list new : List Mark) (sums : List (Option ℕ)) (node : ℕ) → node < length list → StaysMet (set list node marks.Waiting) new → IsSearch steps new sums [] → is_settled (mark_at new node) ≡ true
done_again steps list new sums node inside met search_is =
    met_settled steps new sums node search_is (met node (waiting_met (mark_at (set list node marks.Waiting) node) (here_is list node marks.Waiting inside)))

waits_not_new : marks.Waiting ≡ marks.New → ⊥
waits_not_new same = waiting_met marks.Waiting refl same

settled_not_new : marks.Settled ≡ marks.New → ⊥
settled_not_new same = settled_met marks.Settled refl same

pub met_by_waiting : (old list new : List Mark) (node : ℕ) → StaysMet old list → new ≡ set list node marks.Waiting → StaysMet old new
met_by_waiting old list new node met is = met_again old list new met (subst (λ (l : List Mark). StaysMet list l) (sym is) (stays_met list node marks.Waiting waits_not_new))

pub met_by_settling : (old list new : List Mark) (node : ℕ) → StaysMet old list → new ≡ set list node marks.Settled → StaysMet old new
met_by_settling old list new node met is = met_again old list new met (subst (λ (l : List Mark). StaysMet list l) (sym is) (stays_met list node marks.Settled settled_not_new))
