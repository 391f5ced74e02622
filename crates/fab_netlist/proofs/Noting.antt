-- Tables by net: how many readers, and first places.
use Rattle.std.proofs.Common.{◌≡◌, ℕ, zero, suc, ◌+◌, ◌<◌, true, List, [], ◌∷◌, ◌++◌, length, get_or, set, drop, if◌then◌else◌, replicate, Option, Some, None, option_map, is_some, nat_eq, refl, sym, ap, ◌∙◌, inl, inr, arith, eqb-true}
use Rattle.std.specs.List.{flat_map}
use Rattle.std.proofs.lemmas.Bool.{cases_Bool, eqb-false}
use Rattle.std.proofs.lemmas.List.{length-set, get_or-set_same, get_or-set_other, get_or-replicate, drop_more, length-replicate}
use Rattle.fab_netlist.specs.declared.survey.Readers.{Readers}
use Rattle.fab_netlist.specs.declared.survey.Readers.TheVariants as readers
use Rattle.fab_netlist.specs.Plain.{PlainCover, PlainNetlist}
use Rattle.fab_netlist.specs.WellMade.{times, latch_inputs}
use Rattle.fab_netlist.specs.inner.Search.{first_of}
use Rattle.fab_netlist.specs.Packing.{inner_reads, place_of}
use Rattle.fab_netlist.specs.inner.Survey.{more, readers_at, counted, noted, place_table, few, reader_table}

-- counting joined lists
pub counted_joined : (xs ys : List ℕ) (table : List Readers) → counted (xs ++ ys) table ≡ counted ys (counted xs table)
counted_joined [] ys table = refl
counted_joined (x ∷ xs) ys table = counted_joined xs ys (set table x (more (readers_at table x)))

-- counting the nets of one more item
pub counted_more : {X : Type 0} (nets : X → List ℕ) (xs : List X) (table : List Readers) (turn : ℕ) (d : X) → turn < length xs →
    counted (flat_map nets (drop turn xs)) table ≡ counted (flat_map nets (drop (turn + 1) xs)) (counted (nets (get_or xs turn d)) table)
counted_more nets xs table turn d small =
    ap (λ rest. counted (flat_map nets rest) table) (drop_more xs turn d small)
    ∙ counted_joined (nets (get_or xs turn d)) (flat_map nets (drop (turn + 1) xs)) table

-- one reader more
more_few : (count : ℕ) → more (few count) ≡ few (suc count)
more_few zero = refl
more_few (suc zero) = refl
more_few (suc (suc count)) = refl

-- a net has as many readers as before and as often as it stands in the list
pub counted_at : (nets : List ℕ) (table : List Readers) (net before : ℕ) → net < length table → readers_at table net ≡ few before → readers_at (counted nets table) net ≡ few (before + times net nets)
counted_at [] table net before small at = at ∙ ap few (omega arith)
counted_at (other ∷ nets) table net before small at =
    let longer : net < length (set table other (more (readers_at table other))) = omega (arith, small, length-set table other (more (readers_at table other))) in
    elim (cases_Bool (nat_eq other net)) [
      | inl equal ↦ (
          let same : other ≡ net = eqb-true other net equal in
          let here : readers_at (set table other (more (readers_at table other))) net ≡ few (suc before) =
          ap (λ z. readers_at (set table z (more (readers_at table z))) net) same
          ∙ get_or-set_same table net (more (readers_at table net)) readers.Nobody small
          ∙ ap more at
          ∙ more_few before in
          let counts : times net (other ∷ nets) ≡ 1 + times net nets = rw equal refl in
          counted_at nets (set table other (more (readers_at table other))) net (suc before) longer here ∙ ap few (omega (arith, counts)))
      | inr differ ↦ (
          let here : readers_at (set table other (more (readers_at table other))) net ≡ few before =
          get_or-set_other table other net (more (readers_at table other)) readers.Nobody (λ same. eqb-false other net differ (sym same)) ∙ at in
          let counts : times net (other ∷ nets) ≡ times net nets = rw differ (omega arith) in
          counted_at nets (set table other (more (readers_at table other))) net before longer here ∙ ap few (omega (arith, counts)))
    ]

-- the counts of a netlist by its parts
pub counted_by_parts : (netlist : PlainNetlist) (none first second third fourth : List Readers) → first ≡ counted (flat_map (λ (cover : PlainCover). cover.inputs) netlist.covers) none →
    second ≡ counted (latch_inputs netlist) first → third ≡ counted netlist.outputs second → fourth ≡ counted netlist.outputs third →
    fourth ≡ counted (inner_reads netlist ++ (netlist.outputs ++ netlist.outputs)) none
counted_by_parts netlist none first second third fourth is_first is_second is_third is_fourth =
    is_fourth
    ∙ ap (counted netlist.outputs) (is_third ∙ ap (counted netlist.outputs) (is_second ∙ ap (counted (latch_inputs netlist)) is_first))
    ∙ sym (counted_joined (inner_reads netlist) (netlist.outputs ++ netlist.outputs) none
    ∙ counted_joined netlist.outputs netlist.outputs (counted (inner_reads netlist) none)
    ∙ ap (λ list. counted netlist.outputs (counted netlist.outputs list)) (counted_joined (flat_map (λ (cover : PlainCover). cover.inputs) netlist.covers) (latch_inputs netlist) none))

-- how many read a net
pub reader_table_at : (netlist : PlainNetlist) (net : ℕ) → net < length netlist.nets → readers_at (reader_table netlist) net ≡ few (times net (inner_reads netlist ++ (netlist.outputs ++ netlist.outputs)))
reader_table_at netlist net small =
    counted_at (inner_reads netlist ++ (netlist.outputs ++ netlist.outputs)) (replicate (length netlist.nets) readers.Nobody) net 0 (omega (arith, small, length-replicate (length netlist.nets) readers.Nobody))
    (get_or-replicate (length netlist.nets) net readers.Nobody readers.Nobody small)
    ∙ ap few (omega arith)

-- counting keeps the length
pub counted_length : (nets : List ℕ) (table : List Readers) → length (counted nets table) ≡ length table
counted_length [] table = refl
counted_length (net ∷ nets) table = counted_length nets (set table net (more (readers_at table net))) ∙ length-set table net (more (readers_at table net))

-- each net has a count
pub reader_table_length : (netlist : PlainNetlist) → length (reader_table netlist) ≡ length netlist.nets
reader_table_length netlist =
    counted_length (inner_reads netlist ++ (netlist.outputs ++ netlist.outputs)) (replicate (length netlist.nets) readers.Nobody) ∙ length-replicate (length netlist.nets) readers.Nobody

-- what becomes of a table where one net has its place
abbrev noted_one : ℕ → ℕ → List (Option ℕ) → List (Option ℕ)
noted_one place net table = if is_some (get_or table net None) then table else set table net (Some place)

-- it keeps its length
noted_one_length : (place net : ℕ) (table : List (Option ℕ)) → length (noted_one place net table) ≡ length table
noted_one_length place net table =
    elim (cases_Bool (is_some (get_or table net None))) [
      | inl some ↦ rw some refl
      | inr none ↦ rw none (length-set table net (Some place))
    ]

-- noting keeps the length
noted_length : (place : ℕ) (nets : List ℕ) (table : List (Option ℕ)) → length (noted place nets table) ≡ length table
noted_length place [] table = refl
noted_length place (net ∷ nets) table = noted_length (suc place) nets (noted_one place net table) ∙ noted_one_length place net table

-- other nets keep what they have
noted_one_other : (place other net : ℕ) (table : List (Option ℕ)) → (net ≡ other → ⊥) → get_or (noted_one place other table) net None ≡ get_or table net None
noted_one_other place other net table differ =
    elim (cases_Bool (is_some (get_or table other None))) [
      | inl some ↦ rw some refl
      | inr none ↦ rw none (get_or-set_other table other net (Some place) None differ)
    ]

-- a net that has none takes the place
noted_one_same : (place net : ℕ) (table : List (Option ℕ)) → net < length table → get_or (noted_one place net table) net None ≡ first_of (get_or table net None) (Some place)
noted_one_same place net table small = by_cases (get_or table net None) refl
  where
    -- by what it has
    by_cases : (old : Option ℕ) → get_or table net None ≡ old → get_or (noted_one place net table) net None ≡ first_of (get_or table net None) (Some place)
    by_cases None at = rw at (get_or-set_same table net (Some place) None small)
    by_cases (Some old) at = let some : is_some (get_or table net None) ≡ true = ap is_some at in rw some (at ∙ sym (ap (λ z. first_of z (Some place)) at))

-- what has a place keeps it
first_twice : (old : Option ℕ) (place : ℕ) (later : Option ℕ) → first_of (first_of old (Some place)) later ≡ first_of old (Some place)
first_twice None place later = refl
first_twice (Some x) place later = refl

-- places count on
shifted : (place : ℕ) (found : Option ℕ) → option_map (λ k. suc place + k) found ≡ option_map (λ k. place + k) (option_map (λ k. suc k) found)
shifted place None = refl
shifted place (Some k) = ap Some (omega arith)

-- a net has what it had, else its first place
noted_at : (place : ℕ) (nets : List ℕ) (table : List (Option ℕ)) (net : ℕ) → net < length table → get_or (noted place nets table) net None ≡ first_of (get_or table net None) (option_map (λ k. place + k) (place_of net nets))
noted_at place [] table net small = sym (first_none (get_or table net None))
  where
    -- nothing follows
    first_none : (old : Option ℕ) → first_of old None ≡ old
    first_none None = refl
    first_none (Some x) = refl
noted_at place (other ∷ nets) table net small =
    let rest = noted_at (suc place) nets (noted_one place other table) net (omega (arith, small, noted_one_length place other table)) in
    elim (cases_Bool (nat_eq other net)) [
      | inl equal ↦ (
          let same : other ≡ net = eqb-true other net equal in
          let here : get_or (noted_one place other table) net None ≡ first_of (get_or table net None) (Some place) = ap (λ z. get_or (noted_one place z table) net None) same ∙ noted_one_same place net table small in
          let at : option_map (λ k. place + k) (place_of net (other ∷ nets)) ≡ Some place = rw equal (ap Some (omega arith)) in
          rest
          ∙ ap (λ old. first_of old (option_map (λ k. suc place + k) (place_of net nets))) here
          ∙ first_twice (get_or table net None) place (option_map (λ k. suc place + k) (place_of net nets))
          ∙ ap (first_of (get_or table net None)) (sym at))
      | inr differ ↦ (
          let here : get_or (noted_one place other table) net None ≡ get_or table net None = noted_one_other place other net table (λ same. eqb-false other net differ (sym same)) in
          let at : option_map (λ k. place + k) (place_of net (other ∷ nets)) ≡ option_map (λ k. suc place + k) (place_of net nets) = rw differ (sym (shifted place (place_of net nets))) in
          rest
          ∙ ap (λ old. first_of old (option_map (λ k. suc place + k) (place_of net nets))) here
          ∙ ap (first_of (get_or table net None)) (sym at))
    ]

-- nothing is added
unshifted : (found : Option ℕ) → option_map (λ k. 0 + k) found ≡ found
unshifted None = refl
unshifted (Some k) = ap Some (omega arith)

-- from an empty table on, the first places are noted
pub place_table_at : (size : ℕ) (nets : List ℕ) (net : ℕ) → net < size → get_or (place_table size nets) net None ≡ place_of net nets
place_table_at size nets net small =
    noted_at 0 nets (replicate size None) net (omega (arith, small, length-replicate {A = Option ℕ} size None))
    ∙ ap (λ old. first_of old (option_map (λ k. 0 + k) (place_of net nets))) (get_or-replicate size net None None small)
    ∙ unshifted (place_of net nets)

-- a table has as many places as asked for
pub place_table_length : (size : ℕ) (nets : List ℕ) → length (place_table size nets) ≡ size
place_table_length size nets = noted_length 0 nets (replicate size None) ∙ length-replicate size None
