-- The end of greatest delay, and the way back from it.
use Rattle.std.proofs.Common.{◌≡◌, ◌⊎◌, ℕ, ◌+◌, ◌<◌, true, false, List, [], ◌∷◌, ◌++◌, length, get_or, take, reverse, All, Contains, Option, Some, None, option_map, nat_lt, refl, sym, ap, ◌∙◌, subst, inl, inr, arith, eqb-true}
use Rattle.std.proofs.lemmas.Bool.{cases_Bool, cases_lt, ltb-true, ltb-false, eqb-false}
use Rattle.std.proofs.lemmas.List.{reverse-append, get_or_past, take_more}
use Rattle.std.proofs.lemmas.List.Elements.{All-contains}
use Rattle.fab_fabric.specs.Wires.{numbered_wire}
use Rattle.fab_netlist.proofs.Members.{in_none, first_or_later, first_in, later_in}
use Rattle.fab_legal.proofs.Members.{in_pushed, still_in, last_in}
use Rattle.fab_timing.specs.declared.steps.Steps.{Steps}
use Rattle.fab_timing.specs.Walks.{Stop}
use Rattle.fab_timing.specs.inner.Arrivals.{PlainSteps, by_steps}
use Rattle.fab_timing.specs.inner.Tables.{plain_steps, sum_at, before_in, IsShortStep, AreTables, AreSums, GoesTo, IsTrail, EndsWith, IsLatestEnd}
use Rattle.fab_timing.specs.inner.Trails.{better, stop_at, gives, source_of, ComesFrom}
use Rattle.fab_timing.proofs.Latest.{either, by_which}

-- ---- the best end

module _ (latest : ℕ → Option ℕ) where
  still_ends : (ends : List (ℕ × ℕ)) (end : ℕ × ℕ) (node delay : ℕ) → EndsWith ends latest node delay → EndsWith (ends ++ end ∷ []) latest node delay
  still_ends ends end node delay is = record { units = is.units; listed = still_in ends end (node, is.units) is.listed; sum = is.sum; comes = is.comes; delay_is = is.delay_is }

  -- an end of a longer list is an earlier one, or the last with its own delay
  ends_before : (ends : List (ℕ × ℕ)) (end : ℕ × ℕ) (node delay : ℕ) → EndsWith (ends ++ end ∷ []) latest node delay →
      EndsWith ends latest node delay ⊎ ((sum : ℕ) × (latest end.0 ≡ Some sum) × (delay ≡ sum + end.1))
  ends_before ends end node delay is =
      elim (in_pushed ends end (node, is.units) is.listed) [
        | inl before ↦ inl (record { units = is.units; listed = before; sum = is.sum; comes = is.comes; delay_is = is.delay_is })
        | inr same ↦ inr (
            let node_is : end.0 ≡ node = ap (λ (e : ℕ × ℕ). e.0) same in
            let units_is : end.1 ≡ is.units = ap (λ (e : ℕ × ℕ). e.1) same in
            (is.sum, ap latest node_is ∙ is.comes, is.delay_is ∙ ap (λ (u : ℕ). is.sum + u) (sym units_is)))
      ]

  last_ends : (ends : List (ℕ × ℕ)) (end : ℕ × ℕ) (sum : ℕ) → latest end.0 ≡ Some sum → EndsWith (ends ++ end ∷ []) latest end.0 (sum + end.1)
  last_ends ends end sum is = record { units = end.1; listed = last_in ends end; sum = sum; comes = is; delay_is = refl }

  pub best_more : (ends : List (ℕ × ℕ)) (end : ℕ × ℕ) (best : Option (ℕ × ℕ)) (o : Option ℕ) → latest end.0 ≡ o → IsLatestEnd ends latest best → IsLatestEnd (ends ++ end ∷ []) latest (better best end o)
  best_more ends end None None none old = λ node delay is. elim (ends_before ends end node delay is) [
    | inl before ↦ old node delay before
    | inr last ↦ (let sum_is = last.1 in let worse : ⊥ = cc in worse)
  ]
  best_more ends end (Some best) None none old = (
    still_ends ends end best.0 best.1 old.0,
    λ node delay is. elim (ends_before ends end node delay is) [
      | inl before ↦ old.1 node delay before
      | inr last ↦ absurd (let sum_is = last.1 in let worse : ⊥ = cc in worse)
    ],
  )
  best_more ends end None (Some sum) some old = (
    last_ends ends end sum some,
    λ node delay is. elim (ends_before ends end node delay is) [
      | inl before ↦ absurd (old node delay before)
      | inr last ↦ (let sum_is = last.1 in let same : last.0 ≡ sum = cc in omega (arith, same, last.2))
    ],
  )
  best_more ends end (Some best) (Some sum) some old = elim (cases_Bool (nat_lt best.1 (sum + end.1))) [
    | inl less ↦ rw less (
      last_ends ends end sum some,
      λ node delay is. elim (ends_before ends end node delay is) [
        | inl before ↦ (let most = old.1 node delay before in omega (arith, most, ltb-true best.1 (sum + end.1) less))
        | inr last ↦ (let sum_is = last.1 in let same : last.0 ≡ sum = cc in omega (arith, same, last.2))
      ],
    )
    | inr not_less ↦ rw not_less (
      still_ends ends end best.0 best.1 old.0,
      λ node delay is. elim (ends_before ends end node delay is) [
        | inl before ↦ old.1 node delay before
        | inr last ↦ (let sum_is = last.1 in let same : last.0 ≡ sum = cc in omega (arith, same, last.2, ltb-false best.1 (sum + end.1) not_less))
      ],
    )
  ]

  pub no_end : IsLatestEnd [] latest None
  no_end node delay is = in_none (node, is.units) is.listed

  -- ---- the step by which a sum came

  pub record IsSource (before : List (ℕ × ℕ)) (sum from : ℕ) : Type 0 where
    pub units : ℕ
    pub among : Contains before (from, units)
    pub old : ℕ
    pub old_is : latest from ≡ Some old
    pub sum_is : sum ≡ old + units

  gives_sum : (o : Option ℕ) (units sum : ℕ) → gives o units sum ≡ true → (old : ℕ) × (o ≡ Some old) × (sum ≡ old + units)
  gives_sum None units sum is = absurd (let worse : ⊥ = cc in worse)
  gives_sum (Some old) units sum is = (old, refl, sym (eqb-true (old + units) sum is))

  pub some_source : (before : List (ℕ × ℕ)) (sum from : ℕ) → source_of latest sum before ≡ Some from → IsSource before sum from
  some_source [] sum from is = absurd (let worse : ⊥ = cc in worse)
  some_source (step ∷ more) sum from is = elim (cases_Bool (gives (latest step.0) step.1 sum)) [
    | inl same_sum ↦ (
        let here : Some step.0 ≡ Some from = rw same_sum at is in
        let same : step.0 ≡ from = cc in
        let found = gives_sum (latest step.0) step.1 sum same_sum in
        record { units = step.1; among = first_in step more (from, step.1) (ap (λ (n : ℕ). (n, step.1)) same); old = found.0; old_is = ap latest (sym same) ∙ found.1; sum_is = found.2 })
    | inr other_sum ↦ (
        let rest : source_of latest sum more ≡ Some from = rw other_sum at is in
        let found = some_source more sum from rest in
        record { units = found.units; among = later_in step more (from, found.units) found.among; old = found.old; old_is = found.old_is; sum_is = found.sum_is })
  ]

  given : (o : Option ℕ) (old units sum : ℕ) → o ≡ Some old → sum ≡ old + units → gives o units sum ≡ false → ⊥
  given None old units sum is sum_is other_sum = (let worse : ⊥ = cc in worse)
  given (Some other) old units sum is sum_is other_sum =
      (let same : other ≡ old = cc in eqb-false (other + units) sum other_sum (omega (arith, same, sum_is)))

  pub none_source : (before : List (ℕ × ℕ)) (sum : ℕ) → source_of latest sum before ≡ None → by_steps latest before ≡ Some sum → ⊥
  none_source before sum none came = (let by = by_which latest before sum came in apart before none by.step by.among by.old by.old_is by.sum_is)
    where
      apart : (list : List (ℕ × ℕ)) → source_of latest sum list ≡ None → (step : ℕ × ℕ) → Contains list step → (old : ℕ) → latest step.0 ≡ Some old → sum ≡ old + step.1 → ⊥
      apart [] is step among old old_is sum_is = in_none step among
      apart (first ∷ more) is step among old old_is sum_is = elim (cases_Bool (gives (latest first.0) first.1 sum)) [
        | inl same_sum ↦ (let bad : Some first.0 ≡ None = rw same_sum at is in let worse : ⊥ = cc in worse)
        | inr other_sum ↦ elim (first_or_later first more step among) [
          | inl same ↦ given (latest first.0) old first.1 sum (ap (λ (s : ℕ × ℕ). latest s.0) same ∙ old_is) (sum_is ∙ ap (λ (s : ℕ × ℕ). old + s.1) (sym same)) other_sum
          | inr later ↦ (let rest : source_of latest sum more ≡ None = rw other_sum at is in apart more rest step later old old_is sum_is)
        ]
      ]

-- where no step gives the sum of a node, its start does
pub begins_here : (steps : Steps) (sums : List (Option ℕ)) (node sum : ℕ) → AreSums steps sums → sum_at sums node ≡ Some sum → source_of (sum_at sums) sum (before_in steps.before.items node) ≡ None →
    sum_at steps.starts.items node ≡ Some sum
begins_here steps sums node sum are is none =
    elim (either (sum_at steps.starts.items node) (by_steps (sum_at sums) (before_in steps.before.items node)) sum (sym (are node) ∙ is)) [
      | inl start ↦ start
      | inr came ↦ absurd (none_source (sum_at sums) (before_in steps.before.items node) sum none came)
    ]

pub comes_from : (steps : Steps) (sums : List (Option ℕ)) (node sum from : ℕ) → source_of (sum_at sums) sum (before_in steps.before.items node) ≡ Some from →
    ComesFrom (plain_steps steps) (sum_at sums) (node, sum) (stop_at (sum_at sums) from)
comes_from steps sums node sum from is =
    let found = some_source (sum_at sums) (before_in steps.before.items node) sum from is in
    let there : stop_at (sum_at sums) from ≡ Some (from, found.old) = ap (option_map (λ s. (from, s))) found.old_is in
    subst (λ (o : Option (ℕ × ℕ)). ComesFrom (plain_steps steps) (sum_at sums) (node, sum) o) (sym there) (found.units, found.among, found.old_is, found.sum_is)

-- ---- the way back

abbrev pub wire_stop : ℕ × ℕ → Stop
wire_stop at = (numbered_wire at.0, at.1)

-- the sum of the node that comes next
abbrev pub IsHere : (latest : ℕ → Option ℕ) → Option (ℕ × ℕ) → Type 0
IsHere latest None = Unit {0}
IsHere latest (Some at) = latest at.0 ≡ Some at.1

-- the stops so far, turned round, go on from the node that comes next, or begin
abbrev pub IsWay : PlainSteps → Option (ℕ × ℕ) → List Stop → (last : Stop) → Type 0
IsWay steps None stops last = IsTrail steps (reverse stops) last
IsWay steps (Some at) stops last = GoesTo steps (wire_stop at) (reverse stops) last

-- how far it may be to the start
abbrev pub left_of : Option (ℕ × ℕ) → ℕ
left_of None = 0
left_of (Some at) = at.1 + 1

pub here_first : (latest : ℕ → Option ℕ) (end : ℕ) → IsHere latest (stop_at latest end)
here_first latest end = by_sum (latest end) refl
  where
    by_sum : (o : Option ℕ) → latest end ≡ o → IsHere latest (option_map (λ sum. (end, sum)) o)
    by_sum None is = tt
    by_sum (Some sum) is = is

pub way_first : (steps : PlainSteps) (latest : ℕ → Option ℕ) (end sum : ℕ) → latest end ≡ Some sum → IsWay steps (stop_at latest end) [] (wire_stop (end, sum))
way_first steps latest end sum is =
    let at : stop_at latest end ≡ Some (end, sum) = ap (option_map (λ s. (end, s))) is in
    subst (λ (o : Option (ℕ × ℕ)). IsWay steps o [] (wire_stop (end, sum))) (sym at) refl

pub here_next : (steps : PlainSteps) (latest : ℕ → Option ℕ) (at : ℕ × ℕ) (next : Option (ℕ × ℕ)) → ComesFrom steps latest at next → IsHere latest next
here_next steps latest at None comes = tt
here_next steps latest at (Some from) comes = comes.2

turned : (stops : List Stop) (stop : Stop) → reverse (stops ++ stop ∷ []) ≡ stop ∷ reverse stops
turned stops stop = reverse-append stops (stop ∷ [])

pub way_next : (steps : PlainSteps) (latest : ℕ → Option ℕ) (at : ℕ × ℕ) (next : Option (ℕ × ℕ)) (stops : List Stop) (last : Stop) → ComesFrom steps latest at next → IsWay steps (Some at) stops last →
    IsWay steps next (stops ++ wire_stop at ∷ []) last
way_next steps latest at None stops last comes way = subst (λ (list : List Stop). IsTrail steps list last) (sym (turned stops (wire_stop at))) (comes, way)
way_next steps latest at (Some from) stops last comes way =
    subst (λ (list : List Stop). GoesTo steps (wire_stop from) list last) (sym (turned stops (wire_stop at))) (comes.0, comes.1, comes.3, way)

pub way_shorter : (steps : Steps) (tables : AreTables steps) (latest : ℕ → Option ℕ) (at : ℕ × ℕ) (next : Option (ℕ × ℕ)) → ComesFrom (plain_steps steps) latest at next → left_of next < left_of (Some at)
way_shorter steps tables latest at None comes = omega arith
way_shorter steps tables latest at (Some from) comes =
    let step = All-contains (IsShortStep (length steps.starts.items)) (before_in steps.before.items at.0) (from.0, comes.0) (tables.short at.0) comes.1 in
    omega (arith, step.some, comes.3)

-- a node with a sum is there
pub summed_inside : (sums : List (Option ℕ)) (node sum : ℕ) → sum_at sums node ≡ Some sum → node < length sums
summed_inside sums node sum is = elim (cases_lt node (length sums)) [
  | inl inside ↦ inside
  | inr past ↦ absurd (let none : sum_at sums node ≡ None = get_or_past sums node None past in let worse : ⊥ = cc in worse)
]

-- ---- turns of loops

-- one end more
pub best_turn : (latest : ℕ → Option ℕ) (ends : List (ℕ × ℕ)) (place : ℕ) (d : ℕ × ℕ) (best new : Option (ℕ × ℕ)) → place < length ends → IsLatestEnd (take place ends) latest best →
    new ≡ better best (get_or ends place d) (latest (get_or ends place d).0) → IsLatestEnd (take (place + 1) ends) latest new
best_turn latest ends place d best new within old is =
    subst (λ (list : List (ℕ × ℕ)). IsLatestEnd list latest new) (sym (take_more ends place d within))
    (subst (λ (o : Option (ℕ × ℕ)). IsLatestEnd (take place ends ++ get_or ends place d ∷ []) latest o) (sym is)
    (best_more latest (take place ends) (get_or ends place d) best (latest (get_or ends place d).0) refl old))

-- what the steps into a node say of the node before it
pub stop_is : (steps : Steps) (sums : List (Option ℕ)) (node sum : ℕ) (before : List (ℕ × ℕ)) (source : Option ℕ) → AreSums steps sums → sum_at sums node ≡ Some sum → before ≡ before_in steps.before.items node →
    source ≡ source_of (sum_at sums) sum before → source ≡ None → ComesFrom (plain_steps steps) (sum_at sums) (node, sum) None
stop_is steps sums node sum before source are is before_is source_is none =
    begins_here steps sums node sum are is (ap (source_of (sum_at sums) sum) (sym before_is) ∙ sym source_is ∙ none)

pub stop_from : (steps : Steps) (sums : List (Option ℕ)) (node sum from : ℕ) (before : List (ℕ × ℕ)) (source : Option ℕ) (stop : Option (ℕ × ℕ)) → before ≡ before_in steps.before.items node →
    source ≡ source_of (sum_at sums) sum before → source ≡ Some from → stop ≡ stop_at (sum_at sums) from → ComesFrom (plain_steps steps) (sum_at sums) (node, sum) stop
stop_from steps sums node sum from before source stop before_is source_is some stop_is_at =
    subst (λ (o : Option (ℕ × ℕ)). ComesFrom (plain_steps steps) (sum_at sums) (node, sum) o) (sym stop_is_at)
    (comes_from steps sums node sum from (ap (source_of (sum_at sums) sum) (sym before_is) ∙ sym source_is ∙ some))

-- a source is a node
pub source_inside : (latest : ℕ → Option ℕ) (before : List (ℕ × ℕ)) (nodes sum from : ℕ) → All (IsShortStep nodes) before → source_of latest sum before ≡ Some from → from < nodes
source_inside latest before nodes sum from short is =
    let found = some_source latest before sum from is in
    (All-contains (IsShortStep nodes) before (from, found.units) short found.among).within
