-- What a tile reads by the chain: the wire behind the tile before it.
use Rattle.std.proofs.Common.{◌≡◌, ℕ, zero, suc, ◌+◌, ◌<◌, ◌&&◌, nat_eq, List, [], ◌∷◌, length, map, AllPairs, Option, Some, None, slice_get, get_or, option_map, refl, sym, ap, ◌∙◌, subst, arith, inl, inr, add-one}
use Rattle.std.proofs.lemmas.Bool.{cases_Bool}
use Rattle.std.proofs.lemmas.Bool.Decides.{nat_tests}
use Rattle.std.proofs.lemmas.Option.{slice_get-map, slice_get-get_or, slice_get_within, get_or_from_slice_get}
use Rattle.fab_meaning.specs.Loading.{write_data_name}
use Rattle.fab_model.specs.Grid.{PlainFabric}
use Rattle.fab_drives_laws.proofs.Chains.{first_reads}
use Rattle.fab_text_sound_laws.proofs.Standing.{IsElsewhere, placed_apart}
use Rattle.fab_text_loads_laws.specs.fab_fabric_text_defs_Names.{chain_wire_name}
use Rattle.fab_drives_laws.specs.fab_fabric_text_defs_Chain.{chain_from}
use Rattle.fab_text_loads_laws.specs.fab_fabric_text_defs_Places.{PlacedTile, placed_tiles}
use Rattle.fab_gen_top.specs.declared.places.Place.{Place}
use Rattle.fab_gen_top.specs.inner.Standing.{placed_of, place_before, IsBehind}

-- a tile at another place does not look at the first
past_first : (before : List ℕ) (p q : PlacedTile) (more : List PlacedTile) → IsElsewhere p q →
    chain_from before (p ∷ more) q.x q.y ≡ chain_from (chain_wire_name p.x p.y) more q.x q.y
past_first before p q more apart =
    elim (cases_Bool (nat_eq p.x q.x && nat_eq p.y q.y)) [
      | inl same ↦ absurd (let x : p.x ≡ q.x = grind (arith, nat_tests) in let y : p.y ≡ q.y = grind (arith, nat_tests) in apart x y)
      | inr other ↦ rw other refl
    ]

pairs_head : {X : Type 0} (R : X → X → Type 0) (x y : X) (xs : List X) (i : ℕ) → AllPairs R (x ∷ xs) → slice_get xs i ≡ Some y → R x y
pairs_head R x y xs i pairs got =
    subst (R x) (get_or_from_slice_get xs i y y got) (pairs 0 (suc i) y (omega arith) (omega (arith, slice_get_within xs i y got)))

pairs_tail : {X : Type 0} (R : X → X → Type 0) (x : X) (xs : List X) → AllPairs R (x ∷ xs) → AllPairs R xs
pairs_tail R x xs pairs i j d before within = pairs (suc i) (suc j) d (omega arith) (omega arith)

reads_before : (before : List ℕ) (all : List PlacedTile) (q : PlacedTile) → slice_get all 0 ≡ Some q → chain_from before all q.x q.y ≡ before
reads_before before [] q got = absurd cc
reads_before before (p ∷ more) q got = let is : p ≡ q = cc in subst (λ (r : PlacedTile). chain_from before (p ∷ more) r.x r.y ≡ before) is (first_reads before p more)

reads_behind : (before : List ℕ) (all : List PlacedTile) (i : ℕ) (p q : PlacedTile) → AllPairs IsElsewhere all → slice_get all i ≡ Some p → slice_get all (suc i) ≡ Some q →
    chain_from before all q.x q.y ≡ chain_wire_name p.x p.y
reads_behind before [] i p q apart at next = absurd cc
reads_behind before (first ∷ more) zero p q apart at next =
    let is : first ≡ p = cc in
    past_first before first q more (pairs_head IsElsewhere first q more 0 apart next)
    ∙ reads_before (chain_wire_name first.x first.y) more q next
    ∙ ap (λ (r : PlacedTile). chain_wire_name r.x r.y) is
reads_behind before (first ∷ more) (suc i) p q apart at next =
    past_first before first q more (pairs_head IsElsewhere first q more (suc i) apart next)
    ∙ reads_behind (chain_wire_name first.x first.y) more i p q (pairs_tail IsElsewhere first more apart) at next

-- a place of all places, and the one before it
pub is_behind : (fabric : PlainFabric) (places : List Place) (i : ℕ) (place : Place) → map (placed_of fabric) places ≡ placed_tiles fabric → slice_get places i ≡ Some place →
    IsBehind fabric (place_before places i) place
is_behind fabric places zero place are got =
    let first : slice_get (map (placed_of fabric) places) 0 ≡ Some (placed_of fabric place) =
    slice_get-map (placed_of fabric) places 0 ∙ ap (option_map (placed_of fabric)) got in
    reads_before write_data_name (placed_tiles fabric) (placed_of fabric place) (ap (λ ps. slice_get ps 0) (sym are) ∙ first)
is_behind fabric places (suc i) place are got =
    let within : suc i < length places = slice_get_within places (suc i) place got in
    let p : Place = get_or places i place in
    let before : slice_get places i ≡ Some p = slice_get-get_or places i place (omega (arith, within)) in
    let seen : (n : ℕ) (q : Place) → slice_get places n ≡ Some q → slice_get (placed_tiles fabric) n ≡ Some (placed_of fabric q) =
    λ n q found. ap (λ ps. slice_get ps n) (sym are) ∙ slice_get-map (placed_of fabric) places n ∙ ap (option_map (placed_of fabric)) found in
    subst (λ (b : Option Place). IsBehind fabric b place) (sym before)
    (reads_behind write_data_name (placed_tiles fabric) i (placed_of fabric p) (placed_of fabric place) (placed_apart fabric) (seen i p before) (seen (suc i) place got))

-- ---- the place before one, as it is looked up

pub none_before : (places : List Place) (i : ℕ) → i < 1 → place_before places i ≡ None
none_before places zero few = refl
none_before places (suc i) few = absurd (omega (arith, few))

pub one_before : (places : List Place) (i before : ℕ) → i ≡ before + 1 → place_before places i ≡ slice_get places before
one_before places i before next = ap (place_before places) (next ∙ add-one before)
