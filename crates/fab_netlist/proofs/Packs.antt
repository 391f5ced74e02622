-- Packing by the tables of a netlist gives what its definition says.
use Rattle.std.proofs.Common.{◌≡◌, ℕ, zero, suc, ◌+◌, ◌<◌, ◌≤◌, Bool, true, false, not, ◌&&◌, List, [], ◌∷◌, ◌++◌, length, get_or, map, Contains, Option, Some, None, option_map, is_some, if◌then◌else◌, nat_eq, nat_lt, refl, sym, ap, ◌∙◌, subst, inl, inr, arith, eq-eqb, eqb-true}
use Rattle.std.specs.List.{All, filter, flat_map, list_any}
use Rattle.std.proofs.lemmas.Bool.{cases_Bool, eqb-false, ltb-true, ltb-false}
use Rattle.std.proofs.lemmas.List.{length-map}
use Rattle.std.proofs.lemmas.List.Elements.{Contains-append_cases}
use Rattle.fab_netlist.specs.declared.netlist.Latch.{Latch}
use Rattle.fab_netlist.specs.declared.net_id.NetId.{NetId}
use Rattle.fab_netlist.specs.declared.net_id.NetId.TheVariants as ids
use Rattle.fab_netlist.specs.Plain.{PlainCover, PlainNetlist, IsAt, name_of}
use Rattle.fab_netlist.specs.WellMade.{IsWired, times, cover_outputs, latch_inputs, read, ports}
use Rattle.fab_netlist.specs.Kept.{is_kept}
use Rattle.fab_netlist.specs.Packed.{PlainCell, PlainPacked}
use Rattle.fab_netlist.specs.Packing.{Work, of_cover, of_latch, no_latch, latch_at, inner_reads, is_alone, place_of, pair, is_paired, others, works, output_of, input_or, cell_or, net_of, cell_of, packed}
use Rattle.fab_netlist.specs.inner.Survey.{is_nobody, is_one, readers_at, few, reader_table, place_table, survey_of, kept_by, pair_by, paired_by}
use Rattle.fab_netlist.specs.inner.Places.{IsFor, paired_or, net_by, nets_by, ids_by, table_by, id_at, cell_by, latch_cell_by, cells_by, packed_by}
use Rattle.fab_netlist.proofs.Members.{in_none, first_or_later, first_in, later_in, mapped_in, in_left, in_right}
use Rattle.fab_netlist.proofs.Counts.{times_joined, nowhere_or_at}
use Rattle.fab_netlist.proofs.Marks.{few_numbers, few_covers}
use Rattle.fab_netlist.proofs.Meaning.{output_small, latch_small, input_small}
use Rattle.fab_netlist.proofs.Stepping.{all_of, in_flat}
use Rattle.fab_netlist.proofs.Noting.{reader_table_at, reader_table_length, place_table_at, place_table_length}
use Rattle.fab_netlist.proofs.Surveying.{few_latches}

-- different numbers are told apart
apart : (a b : ℕ) → (a ≡ b → ⊥) → false ≡ nat_eq a b
apart a b differ =
    elim (cases_Bool (nat_eq a b)) [
      | inl equal ↦ absurd (differ (eqb-true a b equal))
      | inr other ↦ sym other
    ]

-- nobody reads what has no readers
nobody_few : (count : ℕ) → is_nobody (few count) ≡ nat_eq count 0
nobody_few zero = refl
nobody_few (suc zero) = refl
nobody_few (suc (suc count)) = apart (suc (suc count)) 0 (λ same. omega (arith, same))

-- one reads what has one reader
one_few : (count : ℕ) → is_one (few count) ≡ nat_eq count 1
one_few zero = refl
one_few (suc zero) = refl
one_few (suc (suc count)) = apart (suc (suc count)) 1 (λ same. omega (arith, same))

-- a net is found where it is counted
found_counted : (net : ℕ) (nets : List ℕ) → list_any (λ other. nat_eq other net) nets ≡ not (nat_eq (times net nets) 0)
found_counted net [] = refl
found_counted net (other ∷ nets) =
    elim (cases_Bool (nat_eq other net)) [
      | inl equal ↦ rw equal (ap not (apart (1 + times net nets) 0 (λ same. omega (arith, same))))
      | inr differ ↦ rw differ (found_counted net nets ∙ ap (λ count. not (nat_eq count 0)) (omega arith))
    ]

-- two counts that are 0 together
zero_together : (a b : ℕ) → (a ≡ 0 → b ≡ 0) → (b ≡ 0 → a ≡ 0) → nat_eq a 0 ≡ nat_eq b 0
zero_together a b there back =
    elim (cases_Bool (nat_eq a 0)) [
      | inl none ↦ none ∙ sym (eq-eqb b 0 (there (eqb-true a 0 none)))
      | inr some ↦ elim (cases_Bool (nat_eq b 0)) [
        | inl none ↦ absurd (eqb-false a 0 some (back (eqb-true b 0 none)))
        | inr also ↦ some ∙ sym also
      ]
    ]

-- a false side
and_false : (a : Bool) → (a && false) ≡ false
and_false true = refl
and_false false = refl

-- a true side
and_true : (a : Bool) → (a && true) ≡ a
and_true true = refl
and_true false = refl

-- outputs count twice
one_and_none : (inner outer : ℕ) → nat_eq (inner + (outer + outer)) 1 ≡ (nat_eq inner 1 && nat_eq outer 0)
one_and_none inner outer =
    elim (cases_Bool (nat_eq outer 0)) [
      | inl none ↦ (
          let sum : inner + (outer + outer) ≡ inner = omega (arith, eqb-true outer 0 none) in
          ap (λ z. nat_eq z 1) sum ∙ sym (and_true (nat_eq inner 1)) ∙ ap (λ z. nat_eq inner 1 && z) (sym none))
      | inr some ↦ elim (cases_Bool (nat_eq (inner + (outer + outer)) 1)) [
        | inl one ↦ absurd (eqb-false outer 0 some (omega (arith, eqb-true (inner + (outer + outer)) 1 one)))
        | inr more ↦ more ∙ sym (and_false (nat_eq inner 1)) ∙ ap (λ z. nat_eq inner 1 && z) (sym some)
      ]
    ]

-- the first place is one of the list
pub place_small : (net : ℕ) (nets : List ℕ) (place : ℕ) → place_of net nets ≡ Some place → place < length nets
place_small net [] place found = absurd (let bad : ⊥ = cc in bad)
place_small net (other ∷ nets) place found =
    elim (cases_Bool (nat_eq other net)) [
      | inl equal ↦ (let at : Some 0 ≡ Some place = rw equal at found in let same : 0 ≡ place = cc in omega (arith, same))
      | inr differ ↦ (
          let at : option_map (λ k. suc k) (place_of net nets) ≡ Some place = rw differ at found in
          later (place_small net nets) (place_of net nets) refl at)
    ]
  where
    -- by the place in the rest
    later : ((k : ℕ) → place_of net nets ≡ Some k → k < length nets) → (rest : Option ℕ) → place_of net nets ≡ rest → option_map (λ k. suc k) rest ≡ Some place → place < suc (length nets)
    later small None is at = absurd (let bad : ⊥ = cc in bad)
    later small (Some k) is at = let same : suc k ≡ place = cc in omega (arith, same, small k is)

-- past the end of a list
past_end : {X : Type 0} (xs : List X) (place : ℕ) (d : X) → length xs ≤ place → get_or xs place d ≡ d
past_end [] place d past = refl
past_end (x ∷ xs) zero d past = absurd (omega (arith, past))
past_end (x ∷ xs) (suc place) d past = past_end xs place d (omega (arith, past))

-- what two maps and two tests that agree on the members leave
mapped_same : {X Y : Type 0} (f g : X → Y) (p q : X → Bool) (xs : List X) → ((x : X) → Contains xs x → p x ≡ q x) → ((x : X) → Contains xs x → f x ≡ g x) → map f (filter p xs) ≡ map g (filter q xs)
mapped_same f g p q [] tests values = refl
mapped_same f g p q (x ∷ xs) tests values =
    let test : p x ≡ q x = tests x (first_in x xs x refl) in
    let value : f x ≡ g x = values x (first_in x xs x refl) in
    let rest : map f (filter p xs) ≡ map g (filter q xs) = mapped_same f g p q xs (λ y later. tests y (later_in x xs y later)) (λ y later. values y (later_in x xs y later)) in
    elim (cases_Bool (q x)) [
      | inl passes ↦ (let also : p x ≡ true = test ∙ passes in rw (passes, also) (ap (λ z. z ∷ map f (filter p xs)) value ∙ ap (λ zs. g x ∷ zs) rest))
      | inr not_so ↦ (let also : p x ≡ false = test ∙ not_so in rw (not_so, also) rest)
    ]

-- maps that agree on the members
map_same : {X Y : Type 0} (f g : X → Y) (xs : List X) → ((x : X) → Contains xs x → f x ≡ g x) → map f xs ≡ map g xs
map_same f g [] values = refl
map_same f g (x ∷ xs) values =
    ap (λ z. z ∷ map f xs) (values x (first_in x xs x refl)) ∙ ap (λ zs. g x ∷ zs) (map_same f g xs (λ y later. values y (later_in x xs y later)))

-- a map after a map
pub map_twice : {X Y Z : Type 0} (f : Y → Z) (g : X → Y) (xs : List X) → map f (map g xs) ≡ map (λ x. f (g x)) xs
map_twice f g [] = refl
map_twice f g (x ∷ xs) = ap (λ zs. f (g x) ∷ zs) (map_twice f g xs)

-- a map of joined lists
map_joined : {X Y : Type 0} (f : X → Y) (xs ys : List X) → map f (xs ++ ys) ≡ map f xs ++ map f ys
map_joined f [] ys = refl
map_joined f (x ∷ xs) ys = ap (λ zs. f x ∷ zs) (map_joined f xs ys)

-- a filtered list is no longer
filter_short : {X : Type 0} (p : X → Bool) (xs : List X) → length (filter p xs) ≤ length xs
filter_short p [] = omega arith
filter_short p (x ∷ xs) =
    elim (cases_Bool (p x)) [
      | inl passes ↦ rw passes (omega (arith, filter_short p xs))
      | inr not_so ↦ rw not_so (omega (arith, filter_short p xs))
    ]

-- a length of joined lists
pub length_joined : {X : Type 0} (xs ys : List X) → length (xs ++ ys) ≡ length xs + length ys
length_joined [] ys = omega arith
length_joined (x ∷ xs) ys = omega (arith, length_joined xs ys)

-- members of a filtered list
pub filtered_in : {X : Type 0} (p : X → Bool) (xs : List X) (x : X) → Contains (filter p xs) x → Contains xs x
filtered_in p [] x here = absurd (in_none x here)
filtered_in p (y ∷ ys) x here =
    elim (cases_Bool (p y)) [
      | inl passes ↦ (
          let there : Contains (y ∷ filter p ys) x = rw passes at here in
          elim (first_or_later y (filter p ys) x there) [
            | inl same ↦ first_in y ys x same
            | inr later ↦ later_in y ys x (filtered_in p ys x later)
          ])
      | inr not_so ↦ (let there : Contains (filter p ys) x = rw not_so at here in later_in y ys x (filtered_in p ys x there))
    ]

-- what is made of two tables
ids_at : (inputs cells : List (Option ℕ)) (net : ℕ) → net < length inputs → length cells ≡ length inputs → id_at (ids_by inputs cells) net ≡ input_or (get_or inputs net None) (cell_or (get_or cells net None) ids.Zero)
ids_at [] cells net small fits = absurd (omega arith)
ids_at (input ∷ inputs) [] net small fits = absurd (omega (arith, fits))
ids_at (input ∷ inputs) (cell ∷ cells) zero small fits = refl
ids_at (input ∷ inputs) (cell ∷ cells) (suc net) small fits = ids_at inputs cells net (omega arith) (omega (arith, fits))

-- it has a net for each place
ids_length : (inputs cells : List (Option ℕ)) → length cells ≡ length inputs → length (ids_by inputs cells) ≡ length inputs
ids_length [] cells fits = refl
ids_length (input ∷ inputs) [] fits = absurd (omega (arith, fits))
ids_length (input ∷ inputs) (cell ∷ cells) fits = ap suc (ids_length inputs cells (omega (arith, fits)))

-- what has one place in a list stands once
one_time : (net : ℕ) (nets : List ℕ) → ((j k : ℕ) → IsAt nets j net → IsAt nets k net → j ≡ k) → times net nets ≤ 1
one_time net [] one = omega arith
one_time net (other ∷ nets) one =
    elim (cases_Bool (nat_eq other net)) [
      | inl equal ↦ elim (nowhere_or_at net nets) [
        | inl none ↦ rw equal (omega (arith, none))
        | inr at ↦ absurd (let same : zero ≡ suc at.0 = one zero (suc at.0) (omega arith, eqb-true other net equal) (omega (arith, at.1.0), at.1.1) in omega (arith, same))
      ]
      | inr differ ↦ (
          let rest = one_time net nets (λ j k at_j at_k.
          let same : suc j ≡ suc k = one (suc j) (suc k) (omega (arith, at_j.0), at_j.1) (omega (arith, at_k.0), at_k.1) in omega (arith, same)) in
          rw differ (omega (arith, rest)))
    ]

-- what stands at a place is a member
pub stands : {X : Type 0} (list : List X) (place : ℕ) (d : X) → place < length list → Contains list (get_or list place d)
stands [] place d small = absurd (omega arith)
stands (x ∷ list) zero d small = first_in x list x refl
stands (x ∷ list) (suc place) d small = later_in x list (get_or list place d) (stands list place d (omega arith))

-- what a mapped item comes from
pub from_mapped : {X Y : Type 0} (f : X → Y) (xs : List X) (y : Y) → Contains (map f xs) y → (x : X) × Contains xs x × (f x ≡ y)
from_mapped f [] y here = absurd (in_none y here)
from_mapped f (x ∷ xs) y here =
    elim (first_or_later (f x) (map f xs) y here) [
      | inl same ↦ (x, first_in x xs x refl, same)
      | inr later ↦ (let rest = from_mapped f xs y later in (rest.0, later_in x xs rest.0 rest.1, rest.2))
    ]

-- a cell of its parts
abbrev the_cell : ℕ → List NetId → Option ℕ → PlainCell
the_cell table inputs latch = record { table = table; inputs = inputs; latch = latch }

-- a packed netlist of its parts
abbrev the_packed : List PlainCell → List (List ℕ) → List (List ℕ × NetId) → Option ℕ → PlainPacked
the_packed cells inputs outputs reset = record { cells = cells; inputs = inputs; outputs = outputs; reset = reset }

module _ (netlist : PlainNetlist) (wiring : IsWired netlist) where
  -- there are few ports
  pub few_ports : length (ports netlist) ≤ 16384
  few_ports =
      omega (
        arith,
        wiring.small,
        few_numbers (length netlist.nets) (ports netlist) (λ net. one_time net (ports netlist) (λ j k at_j at_k. wiring.ports_differ j k net net at_j at_k refl)) port_small,
      )
    where
      -- ports are nets
      port_small : (net : ℕ) → Contains (ports netlist) net → net < length netlist.nets
      port_small net here =
          elim (Contains-append_cases netlist.inputs netlist.outputs net here) [
            | inl input ↦ input_small netlist wiring net input
            | inr output ↦ wiring.read_below net (in_right (flat_map (λ (cover : PlainCover). cover.inputs) netlist.covers) (latch_inputs netlist ++ netlist.outputs) net (in_right (latch_inputs netlist) netlist.outputs net output))
          ]

  -- so there are few inputs
  pub few_inputs : (nets : List ℕ) → nets ≡ netlist.inputs → length nets ≤ 65536
  few_inputs nets same = subst (λ (list : List ℕ). length list ≤ 65536) (sym same) (omega (arith, few_ports, length_joined netlist.inputs netlist.outputs))

  -- the tests and pairs by the tables are those of the definitions
  alone_by : (net : ℕ) → net < length netlist.nets → is_one (readers_at (reader_table netlist) net) ≡ is_alone netlist net
  alone_by net small =
      let inner = times net (inner_reads netlist) in
      let outer = times net netlist.outputs in
      let counts : times net (inner_reads netlist ++ (netlist.outputs ++ netlist.outputs)) ≡ inner + (outer + outer) =
      omega (arith, times_joined net (inner_reads netlist) (netlist.outputs ++ netlist.outputs), times_joined net netlist.outputs netlist.outputs) in
      ap is_one (reader_table_at netlist net small)
      ∙ one_few (times net (inner_reads netlist ++ (netlist.outputs ++ netlist.outputs)))
      ∙ ap (λ z. nat_eq z 1) counts
      ∙ one_and_none inner outer

  -- covers are kept alike
  kept_alike : (cover : PlainCover) → Contains netlist.covers cover → kept_by (survey_of netlist) cover ≡ is_kept netlist cover
  kept_alike cover here =
      let net = cover.output in
      let all = inner_reads netlist ++ (netlist.outputs ++ netlist.outputs) in
      let reads = flat_map (λ (z : PlainCover). z.inputs) netlist.covers in
      let counts : times net all ≡ times net (inner_reads netlist) + (times net netlist.outputs + times net netlist.outputs) =
      omega (arith, times_joined net (inner_reads netlist) (netlist.outputs ++ netlist.outputs), times_joined net netlist.outputs netlist.outputs) in
      let inner : times net (inner_reads netlist) ≡ times net reads + times net (latch_inputs netlist) = times_joined net reads (latch_inputs netlist) in
      let once : times net (read netlist) ≡ times net reads + (times net (latch_inputs netlist) + times net netlist.outputs) =
      omega (arith, times_joined net reads (latch_inputs netlist ++ netlist.outputs), times_joined net (latch_inputs netlist) netlist.outputs) in
      ap (λ z. not (is_nobody z)) (reader_table_at netlist net (output_small netlist wiring cover here))
      ∙ ap not (nobody_few (times net all) ∙ zero_together (times net all) (times net (read netlist)) (λ none. omega (arith, none, counts, inner, once)) (λ none. omega (arith, none, counts, inner, once)))
      ∙ sym (found_counted net (read netlist))

  -- and paired alike
  pair_alike : (cover : PlainCover) → Contains netlist.covers cover → pair_by (survey_of netlist) cover ≡ pair netlist cover
  pair_alike cover here =
      let small = output_small netlist wiring cover here in
      ap (λ test. if test then get_or (place_table (length netlist.nets) (latch_inputs netlist)) cover.output None else None) (alone_by cover.output small)
      ∙ ap (λ found. if is_alone netlist cover.output then found else None) (place_table_at (length netlist.nets) (latch_inputs netlist) cover.output small)

  -- what a latch takes is a net
  taken_below : (latch : Latch) → Contains netlist.latches latch → latch.input < length netlist.nets
  taken_below latch here =
      wiring.read_below latch.input (in_right (flat_map (λ (cover : PlainCover). cover.inputs) netlist.covers) (latch_inputs netlist ++ netlist.outputs) latch.input
      (in_left (latch_inputs netlist) netlist.outputs latch.input (mapped_in (λ (z : Latch). z.input) netlist.latches latch here)))

  -- latches are paired alike
  paired_alike : (latch : Latch) → Contains netlist.latches latch → paired_by (survey_of netlist) latch ≡ is_paired netlist latch
  paired_alike latch here =
      let small = taken_below latch here in
      ap (λ test. test && is_some (get_or (place_table (length netlist.nets) (cover_outputs netlist.covers)) latch.input None)) (alone_by latch.input small)
      ∙ ap (λ found. is_alone netlist latch.input && is_some found) (place_table_at (length netlist.nets) (cover_outputs netlist.covers) latch.input small)

  -- the tables fit
  pub is_for : IsFor netlist (survey_of netlist)
  is_for = record {
    readers = reader_table_length netlist;
    takers = place_table_length (length netlist.nets) (latch_inputs netlist);
    drivers = place_table_length (length netlist.nets) (cover_outputs netlist.covers);
    latches = λ net place found.
        elim (cases_Bool (nat_lt net (length netlist.nets))) [
          | inl less ↦ omega (
            arith,
            place_small net (latch_inputs netlist) place (sym (place_table_at (length netlist.nets) (latch_inputs netlist) net (ltb-true net (length netlist.nets) less)) ∙ found),
            length-map netlist.latches (λ (latch : Latch). latch.input),
          )
          | inr more ↦ absurd (
              let none : get_or (place_table (length netlist.nets) (latch_inputs netlist)) net None ≡ None =
              past_end (place_table (length netlist.nets) (latch_inputs netlist)) net None (omega (arith, place_table_length (length netlist.nets) (latch_inputs netlist), ltb-false net (length netlist.nets) more)) in
              let bad : None ≡ Some place = sym none ∙ found in
              let worse : ⊥ = cc in
              worse)
        ];
  }

  -- the latches without a cover, by their numbers
  others_mapped : {Y : Type 0} (f : Latch → Y) (g : ℕ → Y) (place : ℕ) (latches : List Latch) → ((latch : Latch) → Contains latches latch → Contains netlist.latches latch) →
      ((turn : ℕ) → turn < length latches → f (get_or latches turn no_latch) ≡ g (place + turn)) → map f (filter (λ latch. not (paired_by (survey_of netlist) latch)) latches) ≡ map g (others netlist place latches)
  others_mapped f g place [] members values = refl
  others_mapped f g place (latch ∷ latches) members values =
      let alike : paired_by (survey_of netlist) latch ≡ is_paired netlist latch = paired_alike latch (members latch (first_in latch latches latch refl)) in
      let value : f latch ≡ g place = values 0 (omega arith) ∙ ap g (omega arith) in
      let rest = others_mapped f g (suc place) latches (λ other later. members other (later_in latch latches other later)) (λ turn small. values (suc turn) (omega (arith, small)) ∙ ap g (omega arith)) in
      elim (cases_Bool (is_paired netlist latch)) [
        | inl passes ↦ (let also : paired_by (survey_of netlist) latch ≡ true = alike ∙ passes in rw (passes, also) rest)
        | inr not_so ↦ (let also : paired_by (survey_of netlist) latch ≡ false = alike ∙ not_so in rw (not_so, also)
            (ap (λ z. z ∷ map f (filter (λ other. not (paired_by (survey_of netlist) other)) latches)) value ∙ ap (λ zs. g place ∷ zs) rest))
      ]

  -- what is made of each cell, made by the tables
  made_alike : {Y : Type 0} (h : Work → Y) (f : PlainCover → Y) (g : Latch → Y) → ((cover : PlainCover) → Contains netlist.covers cover → f cover ≡ h (of_cover cover (pair netlist cover))) →
      ((place : ℕ) → place < length netlist.latches → g (latch_at netlist place) ≡ h (of_latch place)) →
      map f (filter (kept_by (survey_of netlist)) netlist.covers) ++ map g (filter (λ latch. not (paired_by (survey_of netlist) latch)) netlist.latches) ≡ map h (works netlist)
  made_alike h f g covers latches =
      let firsts = map (λ cover. of_cover cover (pair netlist cover)) (filter (is_kept netlist) netlist.covers) in
      let lasts = map of_latch (others netlist 0 netlist.latches) in
      let left : map f (filter (kept_by (survey_of netlist)) netlist.covers) ≡ map h firsts =
      mapped_same f (λ cover. h (of_cover cover (pair netlist cover))) (kept_by (survey_of netlist)) (is_kept netlist) netlist.covers kept_alike covers
      ∙ sym (map_twice h (λ cover. of_cover cover (pair netlist cover)) (filter (is_kept netlist) netlist.covers)) in
      let right : map g (filter (λ latch. not (paired_by (survey_of netlist) latch)) netlist.latches) ≡ map h lasts =
      others_mapped g (λ place. h (of_latch place)) 0 netlist.latches (λ latch here. here) (λ turn small. latches turn small ∙ ap (λ z. h (of_latch z)) (omega arith))
      ∙ sym (map_twice h of_latch (others netlist 0 netlist.latches)) in
      ap (λ zs. zs ++ map g (filter (λ latch. not (paired_by (survey_of netlist) latch)) netlist.latches)) left
      ∙ ap (λ zs. map h firsts ++ zs) right
      ∙ sym (map_joined h firsts lasts)

  -- a cover's cell drives the output of its latch, if it has one
  paired_output : (cover : PlainCover) (latch : Option ℕ) → paired_or netlist latch cover.output ≡ output_of netlist (of_cover cover latch)
  paired_output cover None = refl
  paired_output cover (Some place) = refl

  -- the nets of the cells
  pub nets_alike : nets_by netlist (survey_of netlist) ≡ map (output_of netlist) (works netlist)
  nets_alike =
      made_alike (output_of netlist) (net_by netlist (survey_of netlist)) (λ latch. latch.output)
      (λ cover here. ap (λ latch. paired_or netlist latch cover.output) (pair_alike cover here) ∙ paired_output cover (pair netlist cover)) (λ place small. refl)

  -- there are as many as cells
  pub nets_length : length (nets_by netlist (survey_of netlist)) ≡ length (works netlist)
  nets_length = ap length nets_alike ∙ length-map (works netlist) (output_of netlist)

  -- and few of them
  pub few_nets : length (nets_by netlist (survey_of netlist)) ≤ 32768
  few_nets =
      let covers = filter (kept_by (survey_of netlist)) netlist.covers in
      let latches = filter (λ latch. not (paired_by (survey_of netlist) latch)) netlist.latches in
      omega (
        arith,
        few_covers netlist wiring,
        few_latches netlist wiring,
        length_joined (map (net_by netlist (survey_of netlist)) covers) (map (λ (latch : Latch). latch.output) latches),
        length-map covers (net_by netlist (survey_of netlist)),
        length-map latches (λ (latch : Latch). latch.output),
        filter_short (kept_by (survey_of netlist)) netlist.covers,
        filter_short (λ latch. not (paired_by (survey_of netlist) latch)) netlist.latches,
      )

  -- a latch drives a net
  latch_output_small : (latch : Latch) → Contains netlist.latches latch → latch.output < length netlist.nets
  latch_output_small latch here = latch_small netlist wiring latch.output (mapped_in (λ (z : Latch). z.output) netlist.latches latch here)

  -- what a cover's cell drives is a net
  net_small : (cover : PlainCover) (latch : Option ℕ) → Contains netlist.covers cover → ((place : ℕ) → latch ≡ Some place → place < length netlist.latches) → paired_or netlist latch cover.output < length netlist.nets
  net_small cover None here latches = output_small netlist wiring cover here
  net_small cover (Some place) here latches = latch_output_small (latch_at netlist place) (stands netlist.latches place no_latch (latches place refl))

  -- the place of a pair is that of a latch
  pair_place : (cover : PlainCover) (place : ℕ) → pair_by (survey_of netlist) cover ≡ Some place → place < length netlist.latches
  pair_place cover place found =
      elim (cases_Bool (is_one (readers_at (reader_table netlist) cover.output))) [
        | inl one ↦ (let at : get_or (place_table (length netlist.nets) (latch_inputs netlist)) cover.output None ≡ Some place = rw one at found in is_for.latches cover.output place at)
        | inr other ↦ absurd (let bad : None ≡ Some place = rw other at found in let worse : ⊥ = cc in worse)
      ]

  -- what a cell drives is a net
  net_below : (net : ℕ) → Contains (nets_by netlist (survey_of netlist)) net → net < length netlist.nets
  net_below net here =
      let covers = filter (kept_by (survey_of netlist)) netlist.covers in
      let latches = filter (λ latch. not (paired_by (survey_of netlist) latch)) netlist.latches in
      elim (Contains-append_cases (map (net_by netlist (survey_of netlist)) covers) (map (λ (latch : Latch). latch.output) latches) net here) [
        | inl of_covers ↦ (
            let cover = from_mapped (net_by netlist (survey_of netlist)) covers net of_covers in
            omega (arith, cover.2, net_small cover.0 (pair_by (survey_of netlist) cover.0) (filtered_in (kept_by (survey_of netlist)) netlist.covers cover.0 cover.1) (pair_place cover.0)))
        | inr of_latches ↦ (
            let latch = from_mapped (λ (latch : Latch). latch.output) latches net of_latches in
            omega (arith, latch.2, latch_output_small latch.0 (filtered_in (λ latch. not (paired_by (survey_of netlist) latch)) netlist.latches latch.0 latch.1)))
      ]

  -- all of them are nets
  pub nets_below : (nets : List ℕ) → nets ≡ nets_by netlist (survey_of netlist) → All (λ net. net < length netlist.nets) nets
  nets_below nets same = subst (λ (list : List ℕ). All (λ net. net < length netlist.nets) list) (sym same) (all_of (λ net. net < length netlist.nets) (nets_by netlist (survey_of netlist)) net_below)

  -- a table has each net
  pub table_length : (nets : List ℕ) → length (table_by netlist nets) ≡ length netlist.nets
  table_length nets =
      ids_length (place_table (length netlist.nets) netlist.inputs) (place_table (length netlist.nets) nets) (place_table_length (length netlist.nets) nets ∙ sym (place_table_length (length netlist.nets) netlist.inputs))
      ∙ place_table_length (length netlist.nets) netlist.inputs

  abbrev table : List NetId
  table = table_by netlist (nets_by netlist (survey_of netlist))

  -- the packed nets
  ids_alike : (net : ℕ) → net < length netlist.nets → id_at table net ≡ net_of netlist net
  ids_alike net small =
      let size = length netlist.nets in
      let nets = nets_by netlist (survey_of netlist) in
      ids_at (place_table size netlist.inputs) (place_table size nets) net (omega (arith, small, place_table_length size netlist.inputs)) (place_table_length size nets ∙ sym (place_table_length size netlist.inputs))
      ∙ ap (λ found. input_or found (cell_or (get_or (place_table size nets) net None) ids.Zero)) (place_table_at size netlist.inputs net small)
      ∙ ap (λ found. input_or (place_of net netlist.inputs) (cell_or found ids.Zero)) (place_table_at size nets net small ∙ ap (place_of net) nets_alike)

  -- the cells of covers
  cover_alike : (cover : PlainCover) → Contains netlist.covers cover → cell_by netlist (survey_of netlist) table cover ≡ cell_of netlist (of_cover cover (pair netlist cover))
  cover_alike cover here =
      let inputs : map (id_at table) cover.inputs ≡ map (net_of netlist) cover.inputs = map_same (id_at table) (net_of netlist) cover.inputs (λ net reads.
      ids_alike net (wiring.read_below net (in_left (flat_map (λ (z : PlainCover). z.inputs) netlist.covers) (latch_inputs netlist ++ netlist.outputs) net (in_flat (λ (z : PlainCover). z.inputs) netlist.covers cover net here reads)))) in
      ap (λ (latch : Option ℕ). the_cell cover.table (map (id_at table) cover.inputs) (option_map (λ place. (latch_at netlist place).init) latch)) (pair_alike cover here)
      ∙ ap (λ (nets : List NetId). the_cell cover.table nets (option_map (λ place. (latch_at netlist place).init) (pair netlist cover))) inputs

  -- the cells of latches
  latch_alike : (place : ℕ) → place < length netlist.latches → latch_cell_by table (latch_at netlist place) ≡ cell_of netlist (of_latch place)
  latch_alike place small =
      ap (λ (net : NetId). the_cell 43690 (net ∷ []) (Some (latch_at netlist place).init)) (ids_alike (latch_at netlist place).input (taken_below (latch_at netlist place) (stands netlist.latches place no_latch small)))

  -- all of it
  pub packed_alike : packed_by netlist (survey_of netlist) ≡ packed netlist
  packed_alike =
      let cells : cells_by netlist (survey_of netlist) table ≡ map (cell_of netlist) (works netlist) =
      made_alike (cell_of netlist) (cell_by netlist (survey_of netlist) table) (latch_cell_by table) cover_alike latch_alike in
      let outputs : map (λ net. (name_of netlist net, id_at table net)) netlist.outputs ≡ map (λ net. (name_of netlist net, net_of netlist net)) netlist.outputs =
      map_same (λ net. (name_of netlist net, id_at table net)) (λ net. (name_of netlist net, net_of netlist net)) netlist.outputs (λ net here.
      ap (λ id. (name_of netlist net, id)) (ids_alike net (output_below net here))) in
      ap (λ (list : List PlainCell). the_packed list (map (name_of netlist) netlist.inputs) (map (λ net. (name_of netlist net, id_at table net)) netlist.outputs) netlist.reset) cells
      ∙ ap (λ (list : List (List ℕ × NetId)). the_packed (map (cell_of netlist) (works netlist)) (map (name_of netlist) netlist.inputs) list netlist.reset) outputs
    where
      -- outputs are nets
      output_below : (net : ℕ) → Contains netlist.outputs net → net < length netlist.nets
      output_below net here = wiring.read_below net (in_right (flat_map (λ (cover : PlainCover). cover.inputs) netlist.covers) (latch_inputs netlist ++ netlist.outputs) net (in_right (latch_inputs netlist) netlist.outputs net here))
