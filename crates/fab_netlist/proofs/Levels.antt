-- A rank of covers as one of nets, and one below the number of covers.
use Rattle.std.proofs.Common.{◌≡◌, ℕ, suc, ◌+◌, ◌<◌, ◌≤◌, Bool, true, false, List, [], ◌∷◌, length, Contains, if◌then◌else◌, nat_eq, nat_lt, refl, sym, ap, ◌∙◌, subst, inl, inr, arith, eq-eqb, eqb-true}
use Rattle.std.proofs.lemmas.Bool.{cases_Bool, lt-ltb, ltb-true, false≢true}
use Rattle.std.proofs.lemmas.List.{get_or_default}
use Rattle.fab_netlist.specs.Plain.{PlainCover, PlainNetlist, IsAt, no_cover, cover_at}
use Rattle.fab_netlist.specs.WellMade.{times, cover_outputs}
use Rattle.fab_netlist.specs.Cycles.{IsRank}
use Rattle.fab_netlist.proofs.Members.{in_none, first_or_later}
use Rattle.fab_netlist.proofs.Counts.{one_place, at_mapped}

-- how many pass a test
abbrev pub passing : {X : Type 0} → (X → Bool) → List X → ℕ
passing test [] = 0
passing test (x ∷ xs) = (if test x then 1 else 0) + passing test xs

-- no more pass than there are
passing_most : {X : Type 0} (test : X → Bool) (xs : List X) → passing test xs ≤ length xs
passing_most test [] = omega arith
passing_most test (x ∷ xs) =
    elim (cases_Bool (test x)) [
      | inl passes ↦ rw passes (omega (arith, passing_most test xs))
      | inr fails ↦ rw fails (omega (arith, passing_most test xs))
    ]

-- fewer pass a stricter test
passing_fewer : {X : Type 0} (strict loose : X → Bool) → ((x : X) → strict x ≡ true → loose x ≡ true) → (xs : List X) → passing strict xs ≤ passing loose xs
passing_fewer strict loose implies [] = omega arith
passing_fewer strict loose implies (x ∷ xs) =
    elim (cases_Bool (strict x)) [
      | inl passes ↦ rw (passes, implies x passes) (omega (arith, passing_fewer strict loose implies xs))
      | inr fails ↦ elim (cases_Bool (loose x)) [
        | inl passes ↦ rw (fails, passes) (omega (arith, passing_fewer strict loose implies xs))
        | inr not_loose ↦ rw (fails, not_loose) (omega (arith, passing_fewer strict loose implies xs))
      ]
    ]

-- and truly fewer where a member passes the loose test alone
pub passing_less : {X : Type 0} (strict loose : X → Bool) → ((x : X) → strict x ≡ true → loose x ≡ true) → (xs : List X) (x : X) → Contains xs x → strict x ≡ false → loose x ≡ true → passing strict xs < passing loose xs
passing_less strict loose implies [] x here fails passes = absurd (in_none x here)
passing_less {X} strict loose implies (y ∷ xs) x here fails passes =
    elim (first_or_later y xs x here) [
      | inl same ↦ (
          let fails_y : strict y ≡ false = ap strict same ∙ fails in
          let passes_y : loose y ≡ true = ap loose same ∙ passes in
          rw (fails_y, passes_y) (omega (arith, passing_fewer strict loose implies xs)))
      | inr later ↦ (
          let rest = passing_less strict loose implies xs x later fails passes in
          elim (cases_Bool (strict y)) [
            | inl passes_y ↦ rw (passes_y, implies y passes_y) (omega (arith, rest))
            | inr fails_y ↦ elim (cases_Bool (loose y)) [
              | inl loose_y ↦ rw (fails_y, loose_y) (omega (arith, rest))
              | inr not_loose ↦ rw (fails_y, not_loose) (omega (arith, rest))
            ]
          ])
    ]

-- all pass where the test is true
passing_all : {X : Type 0} (xs : List X) → passing (λ x. true) xs ≡ length xs
passing_all [] = refl
passing_all (x ∷ xs) = omega (arith, passing_all xs)

-- no number is below itself
ltb_self : (n : ℕ) → nat_lt n n ≡ false
ltb_self n =
    elim (cases_Bool (nat_lt n n)) [
      | inl less ↦ absurd (omega (arith, ltb-true n n less))
      | inr not_less ↦ not_less
    ]

-- the first place of a net among the outputs of covers
abbrev pub place_of : ℕ → List PlainCover → ℕ
place_of net [] = 0
place_of net (cover ∷ covers) = if nat_eq cover.output net then 0 else suc (place_of net covers)

-- the first place of an output has that output
place_found : (covers : List PlainCover) (cover : PlainCover) (place : ℕ) → IsAt covers place cover → IsAt (cover_outputs covers) (place_of cover.output covers) cover.output
place_found [] cover place at = absurd (omega (arith, at.0))
place_found (first ∷ covers) cover place at =
    elim (cases_Bool (nat_eq first.output cover.output)) [
      | inl equal ↦ rw equal (omega arith, eqb-true first.output cover.output equal)
      | inr other ↦ rw other (
          let rest : IsAt (cover_outputs covers) (place_of cover.output covers) cover.output = elim (first_or_later first covers cover (place, at.0, at.1)) [
            | inl same ↦ absurd (false≢true (sym other ∙ eq-eqb first.output cover.output (ap (λ (z : PlainCover). z.output) same)))
            | inr later ↦ place_found covers cover later.0 (later.1, later.2)
          ] in
          (omega (arith, rest.0), rest.1))
    ]

-- its place is the one of its cover, where no net is driven twice
pub place_is : (covers : List PlainCover) (cover : PlainCover) (place : ℕ) → times cover.output (cover_outputs covers) ≤ 1 → IsAt covers place cover → place_of cover.output covers ≡ place
place_is covers cover place once at =
    one_place cover.output (cover_outputs covers) (place_of cover.output covers) place once (place_found covers cover place at) (at_mapped (λ (z : PlainCover). z.output) covers place cover at)

module _ (netlist : PlainNetlist) (once : (net : ℕ) → times net (cover_outputs netlist.covers) ≤ 1) (rank : ℕ → ℕ) (ranks : IsRank netlist rank) where
  -- the rank of a net is that of the cover that drives it
  abbrev rank_of : ℕ → ℕ
  rank_of net = rank (place_of net netlist.covers)

  -- covers read nets of lower rank
  falls : (reader source : PlainCover) → Contains netlist.covers reader → Contains netlist.covers source → Contains reader.inputs source.output → rank_of source.output < rank_of reader.output
  falls reader source (j, small_j, at_j) (k, small_k, at_k) reads =
      let is_j : cover_at netlist j ≡ reader = get_or_default netlist.covers j no_cover reader small_j ∙ at_j in
      let is_k : cover_at netlist k ≡ source = get_or_default netlist.covers k no_cover source small_k ∙ at_k in
      let by_j : Contains (cover_at netlist j).inputs source.output = subst (λ (z : PlainCover). Contains z.inputs source.output) (sym is_j) reads in
      let by_k : Contains (cover_at netlist j).inputs (cover_at netlist k).output = subst (λ (z : PlainCover). Contains (cover_at netlist j).inputs z.output) (sym is_k) by_j in
      let less : rank k < rank j = ranks j k (small_j, small_k, by_k) in
      let place_j : place_of reader.output netlist.covers ≡ j = place_is netlist.covers reader j (once reader.output) (small_j, at_j) in
      let place_k : place_of source.output netlist.covers ≡ k = place_is netlist.covers source k (once source.output) (small_k, at_k) in
      omega (arith, less, ap rank place_j, ap rank place_k)

  -- how many covers have a lower rank
  abbrev pub level : ℕ → ℕ
  level net = passing (λ (cover : PlainCover). nat_lt (rank_of cover.output) (rank_of net)) netlist.covers

  -- and of lower level
  pub levels_fall : (reader source : PlainCover) → Contains netlist.covers reader → Contains netlist.covers source → Contains reader.inputs source.output → level source.output < level reader.output
  levels_fall reader source reader_in source_in reads =
      let less : rank_of source.output < rank_of reader.output = falls reader source reader_in source_in reads in
      passing_less (λ (cover : PlainCover). nat_lt (rank_of cover.output) (rank_of source.output)) (λ (cover : PlainCover). nat_lt (rank_of cover.output) (rank_of reader.output))
      (λ cover below. lt-ltb (rank_of cover.output) (rank_of reader.output) (omega (arith, less, ltb-true (rank_of cover.output) (rank_of source.output) below)))
      netlist.covers source source_in (ltb_self (rank_of source.output)) (lt-ltb (rank_of source.output) (rank_of reader.output) less)

  -- levels are below the number of covers
  pub level_small : (cover : PlainCover) → Contains netlist.covers cover → level cover.output < length netlist.covers
  level_small cover here =
      omega (arith, passing_all netlist.covers, passing_less (λ (other : PlainCover). nat_lt (rank_of other.output) (rank_of cover.output)) (λ (other : PlainCover). true) (λ other below. refl) netlist.covers cover here (ltb_self (rank_of cover.output)) refl)
