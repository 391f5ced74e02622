-- Marks of the nets that something reads.
use Rattle.std.proofs.Common.{◌≡◌, ℕ, zero, suc, ◌+◌, ◌<◌, ◌≤◌, Bool, true, false, ◌||◌, List, [], ◌∷◌, ◌++◌, length, get_or, set, drop, replicate, Contains, nat_eq, nat_lt, count_by, refl, sym, ap, ◌∙◌, inl, inr, arith, eqb-true}
use Rattle.std.specs.List.{filter, flat_map, list_any}
use Rattle.std.proofs.lemmas.Bool.{cases_Bool, eqb-false, lt-ltb, ltb-true}
use Rattle.std.proofs.lemmas.List.{length-set, get_or-set_same, get_or-set_other, get_or-replicate, drop_more, length-map, length-replicate}
use Rattle.std.proofs.lemmas.List.Sums.{length-filter}
use Rattle.fab_netlist.specs.Plain.{PlainCover, PlainNetlist, bit_at}
use Rattle.fab_netlist.specs.WellMade.{IsWired, times, cover_outputs, latch_outputs, latch_inputs, read}
use Rattle.fab_netlist.specs.Kept.{marked, is_kept, kept}
use Rattle.fab_netlist.proofs.Members.{first_in, later_in, in_left}
use Rattle.fab_netlist.proofs.Meaning.{covers_once, output_small}
use Rattle.fab_netlist.proofs.Levels.{passing}

-- marks of joined lists
pub marked_joined : (xs ys : List ℕ) (marks : List Bool) → marked (xs ++ ys) marks ≡ marked ys (marked xs marks)
marked_joined [] ys marks = refl
marked_joined (x ∷ xs) ys marks = marked_joined xs ys (set marks x true)

-- marking keeps the length
pub marked_length : (nets : List ℕ) (marks : List Bool) → length (marked nets marks) ≡ length marks
marked_length [] marks = refl
marked_length (net ∷ nets) marks = marked_length nets (set marks net true) ∙ length-set marks net true

-- marks of the nets of one more item
pub marked_more : {X : Type 0} (nets : X → List ℕ) (xs : List X) (marks : List Bool) (turn : ℕ) (d : X) → turn < length xs →
    marked (flat_map nets (drop turn xs)) marks ≡ marked (flat_map nets (drop (turn + 1) xs)) (marked (nets (get_or xs turn d)) marks)
marked_more nets xs marks turn d small =
    ap (λ rest. marked (flat_map nets rest) marks) (drop_more xs turn d small)
    ∙ marked_joined (nets (get_or xs turn d)) (flat_map nets (drop (turn + 1) xs)) marks

-- one true side is enough
or_right : (a b : Bool) → b ≡ true → (a || b) ≡ true
or_right true b given = refl
or_right false b given = given

-- a net is marked where it was, or where it stands in the list
pub marked_at : (nets : List ℕ) (marks : List Bool) (net : ℕ) → net < length marks → bit_at (marked nets marks) net ≡ (bit_at marks net || list_any (λ other. nat_eq other net) nets)
marked_at [] marks net small = or_none (bit_at marks net)
  where
    -- a false side adds nothing
    or_none : (a : Bool) → a ≡ (a || false)
    or_none true = refl
    or_none false = refl
marked_at (first ∷ nets) marks net small =
    let rest = marked_at nets (set marks first true) net (omega (arith, small, length-set marks first true)) in
    elim (cases_Bool (nat_eq first net)) [
      | inl equal ↦ (
          let same : first ≡ net = eqb-true first net equal in
          let here : bit_at (set marks first true) net ≡ true = ap (λ place. bit_at (set marks first true) place) (sym same) ∙ get_or-set_same marks first true false (omega (arith, same, small)) in
          rest ∙ rw (here, equal) (sym (or_right (bit_at marks net) true refl)))
      | inr other ↦ (
          let here : bit_at (set marks first true) net ≡ bit_at marks net = get_or-set_other marks first net true false (λ same. eqb-false first net other (sym same)) in
          rest ∙ rw (here, other) refl)
    ]

-- tests that agree on the members leave the same
filter_same : {X : Type 0} (first second : X → Bool) (xs : List X) → ((x : X) → Contains xs x → first x ≡ second x) → filter first xs ≡ filter second xs
filter_same first second [] agree = refl
filter_same first second (x ∷ xs) agree =
    let here : first x ≡ second x = agree x (first_in x xs x refl) in
    let rest : filter first xs ≡ filter second xs = filter_same first second xs (λ y later. agree y (later_in x xs y later)) in
    rw (here, rest) refl

-- tests that agree on the members of a list count the same
count_same : {X : Type 0} (first second : X → Bool) (xs : List X) → ((x : X) → Contains xs x → first x ≡ second x) → count_by first xs ≡ count_by second xs
count_same first second xs agree = sym (length-filter first xs) ∙ ap length (filter_same first second xs agree) ∙ length-filter second xs

-- one number more is below the next number as often as it stands in the list
below_next : (bound : ℕ) (xs : List ℕ) → passing (λ x. nat_lt x (suc bound)) xs ≤ passing (λ x. nat_lt x bound) xs + times bound xs
below_next bound [] = omega arith
below_next bound (x ∷ xs) =
    elim (cases_Bool (nat_eq x bound)) [
      | inl equal ↦ (
          let same : x ≡ bound = eqb-true x bound equal in
          let less : nat_lt x (suc bound) ≡ true = lt-ltb x (suc bound) (omega (arith, same)) in
          rw (equal, less) (omega (arith, below_next bound xs)))
      | inr other ↦ elim (cases_Bool (nat_lt x (suc bound))) [
        | inl less ↦ (
            let really : nat_lt x bound ≡ true = lt-ltb x bound (omega (arith, ltb-true x (suc bound) less, eqb-false x bound other)) in
            rw (other, less, really) (omega (arith, below_next bound xs)))
        | inr more ↦ rw (other, more) (omega (arith, below_next bound xs))
      ]
    ]

-- few numbers are below a bound where none stands twice
below_few : (bound : ℕ) (xs : List ℕ) → ((x : ℕ) → times x xs ≤ 1) → passing (λ x. nat_lt x bound) xs ≤ bound
below_few zero xs once = none_below xs
  where
    -- no number is below 0
    none_below : (ys : List ℕ) → passing (λ x. nat_lt x 0) ys ≤ 0
    none_below [] = omega arith
    none_below (y ∷ ys) =
        elim (cases_Bool (nat_lt y 0)) [
          | inl less ↦ absurd (omega (arith, ltb-true y 0 less))
          | inr more ↦ rw more (omega (arith, none_below ys))
        ]
below_few (suc bound) xs once = omega (arith, below_next bound xs, below_few bound xs once, once bound)

-- all are counted where all are below the bound
all_below : (bound : ℕ) (xs : List ℕ) → ((x : ℕ) → Contains xs x → x < bound) → passing (λ x. nat_lt x bound) xs ≡ length xs
all_below bound [] below = refl
all_below bound (x ∷ xs) below =
    let less : nat_lt x bound ≡ true = lt-ltb x bound (below x (first_in x xs x refl)) in
    rw less (omega (arith, all_below bound xs (λ y later. below y (later_in x xs y later))))

-- a list of numbers below a bound, none of which stands twice, is no longer than the bound
pub few_numbers : (bound : ℕ) (xs : List ℕ) → ((x : ℕ) → times x xs ≤ 1) → ((x : ℕ) → Contains xs x → x < bound) → length xs ≤ bound
few_numbers bound xs once below = omega (arith, all_below bound xs below, below_few bound xs once)

module _ (netlist : PlainNetlist) (wiring : IsWired netlist) where
  -- there are no more covers than nets
  pub few_covers : length netlist.covers ≤ 16384
  few_covers =
      omega (
        arith,
        wiring.small,
        length-map netlist.covers (λ (cover : PlainCover). cover.output),
        few_numbers (length netlist.nets) (cover_outputs netlist.covers) (covers_once netlist wiring) (λ net here.
            wiring.driven_below net (in_left (cover_outputs netlist.covers) (latch_outputs netlist ++ netlist.inputs) net here)),
      )

  -- the three steps mark all that is read
  pub marked_by_parts : (none first second third : List Bool) → first ≡ marked (flat_map (λ (cover : PlainCover). cover.inputs) netlist.covers) none → second ≡ marked (latch_inputs netlist) first → third ≡ marked netlist.outputs second →
      third ≡ marked (read netlist) none
  marked_by_parts none first second third is_first is_second is_third =
      is_third
      ∙ ap (marked netlist.outputs) (is_second ∙ ap (marked (latch_inputs netlist)) is_first)
      ∙ sym (marked_joined (flat_map (λ (cover : PlainCover). cover.inputs) netlist.covers) (latch_inputs netlist ++ netlist.outputs) none
      ∙ marked_joined (latch_inputs netlist) netlist.outputs (marked (flat_map (λ (cover : PlainCover). cover.inputs) netlist.covers) none))

  -- what is counted by the marks of all readers
  kept_by : (marks : List Bool) → marks ≡ marked (read netlist) (replicate 16384 false) → count_by (λ (cover : PlainCover). bit_at marks cover.output) netlist.covers ≡ kept netlist
  kept_by marks all =
      count_same (λ (cover : PlainCover). bit_at marks cover.output) (is_kept netlist) netlist.covers (λ cover here.
      let small : cover.output < 16384 = omega (arith, wiring.small, output_small netlist wiring cover here) in
      let zeros : List Bool = replicate 16384 false in
      let unmarked : bit_at (replicate 16384 false) cover.output ≡ false = get_or-replicate 16384 cover.output false false small in
      ap (λ list. bit_at list cover.output) all
      ∙ marked_at (read netlist) (replicate 16384 false) cover.output (omega (arith, small, length-replicate 16384 false))
      ∙ ap (λ bit. bit || is_kept netlist cover) unmarked)

  -- the same for an equal list of covers
  pub kept_by_marks : (covers : List PlainCover) (marks : List Bool) → covers ≡ netlist.covers → marks ≡ marked (read netlist) (replicate 16384 false) → count_by (λ (cover : PlainCover). bit_at marks cover.output) covers ≡ kept netlist
  kept_by_marks covers marks same all = ap (count_by (λ (cover : PlainCover). bit_at marks cover.output)) same ∙ kept_by marks all
