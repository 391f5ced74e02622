-- The tiles of a fabric that files spell have names, and they are within the limits of a tile.
use Rattle.std.proofs.Common.{◌≡◌, ℕ, ◌<◌, ◌≤◌, Bool, true, false, List, [], ◌∷◌, map, filter, length, get_or, nat_eq, nat_lt, cond, Option, Some, None, refl, sym, ap, subst, ◌∙◌, inl, inr, arith, suc}
use Rattle.std.specs.Prelude.{find, not}
use Rattle.std.specs.List.{position_or_len}
use Rattle.std.proofs.lemmas.Bool.{cases_lt, eqb-true}
use Rattle.std.proofs.lemmas.Bool.Decides.{nat_tests}
use Rattle.std.proofs.lemmas.List.{get_or-map, length-map}
use Rattle.std.proofs.lemmas.List.Folds.{find_at}
use Rattle.std.proofs.lemmas.List.Sums.{fails_before_first}
use Rattle.std.proofs.lemmas.Option.{slice_get-get_or}
use Rattle.fab_base.specs.declared.problem.Problem.{Problem}
use Rattle.fab_kinds.specs.declared.kind.Kind.{Kind}
use Rattle.fab_desk.specs.Files.{Map}
use Rattle.fab_lines.specs.Names.{is_identifier}
use Rattle.fab_select.specs.Selection.{inputs_of}
use Rattle.fab_model.specs.Tiles.{PlainTile, numbered_pairs, pair_numbers, tile_bits, with_pairs, with_table}
use Rattle.fab_names.proofs.Families.{both_first}
use Rattle.fab_read.specs.fab_blocks_Cells.{is_null, is_tile_name}
use Rattle.fab_read.specs.fab_blocks_Blocks.{PlainBlock, bare}
use Rattle.fab_read.specs.fab_blocks_Rows.{with_bel_of}
use Rattle.fab_read.specs.fab_list_files_Sides.{crowd, input_count}
use Rattle.fab_read.specs.Tiles.{End, ReadsTile, bits_problem, crowd_or, paired}
use Rattle.fab_spelled_fabrics_laws.proofs.Keeping.{Keeps}

-- a tile with a name
abbrev pub HasName : PlainTile → Type 0
HasName tile = is_identifier tile.name ≡ true

-- a tile within the limits
pub record IsSized (tile : PlainTile) : Type 0 where
  pub name : HasName tile
  pub few_bits : tile_bits tile ≤ 640
  pub few_inputs : (output : ℕ) → length (inputs_of nat_eq (numbered_pairs tile) output) ≤ 256

-- ---- inputs of an output

-- where nothing is found, nothing passes
none_passes : {X : Type 0} (test : X → Bool) (xs : List X) → find test xs ≡ None → (k : ℕ) (d : X) → k < length xs → test (get_or xs k d) ≡ false
none_passes test xs none k d below = elim (cases_lt (position_or_len test xs) (length xs)) [
  | inl inside ↦ (let found : find test xs ≡ Some (get_or xs (position_or_len test xs) d) = find_at test xs ∙ slice_get-get_or xs (position_or_len test xs) d inside in absurd cc)
  | inr past ↦ fails_before_first test xs k d (omega (arith, past, below))
]

-- an output with an input has a pair
has_pair : (pairs : List (ℕ × ℕ)) (output : ℕ) → 0 < length (inputs_of nat_eq pairs output) → (k : ℕ) × (k < length pairs) × ((get_or pairs k (0, 0)).0 ≡ output)
has_pair [] output some = absurd (omega (arith, some))
has_pair (pair ∷ pairs) output some = by (nat_eq pair.0 output) refl (λ given. has_pair pairs output given) some where
  by : (same : Bool) → nat_eq pair.0 output ≡ same → (0 < length (inputs_of nat_eq pairs output) → (k : ℕ) × (k < length pairs) × ((get_or pairs k (0, 0)).0 ≡ output))
      → 0 < length (map (λ (p : ℕ × ℕ). p.1) (cond same (pair ∷ filter (λ (p : ℕ × ℕ). nat_eq p.0 output) pairs) (filter (λ (p : ℕ × ℕ). nat_eq p.0 output) pairs)))
      → (k : ℕ) × (k < length (pair ∷ pairs)) × ((get_or (pair ∷ pairs) k (0, 0)).0 ≡ output)
  by true is rest given = (0, omega arith, eqb-true pair.0 output is)
  by false is rest given = let found = rest given in (suc found.0, omega (arith, found.1), found.2)

few_by : (pairs : List (ℕ × ℕ)) (output count : ℕ) → length (inputs_of nat_eq pairs output) ≡ count → crowd nat_eq pairs ≡ None → count ≤ 256
few_by pairs output count is none = elim (cases_lt 0 count) [
  | inl some ↦
      let at = has_pair pairs output (omega (arith, some, is)) in
      let counts = map (λ (pair : ℕ × ℕ). input_count nat_eq pairs pair.0) pairs in
      let within : at.0 < length counts = omega (arith, at.1, length-map pairs (λ (pair : ℕ × ℕ). input_count nat_eq pairs pair.0)) in
      let fails : nat_lt 256 (get_or counts at.0 0) ≡ false = none_passes (nat_lt 256) counts none at.0 0 within in
      let this : get_or counts at.0 0 ≡ count =
      get_or-map (λ (pair : ℕ × ℕ). input_count nat_eq pairs pair.0) pairs at.0 (0, 0) 0 at.1 ∙ ap (λ (o : ℕ). length (inputs_of nat_eq pairs o)) at.2 ∙ is in
      not_above count (ap (nat_lt 256) (sym this) ∙ fails)
  | inr none_there ↦ omega (arith, none_there)
]
  where
    not_above : (n : ℕ) → nat_lt 256 n ≡ false → n ≤ 256
    not_above n is = grind (arith, nat_tests)

-- ---- the two limits of a tile

none_over : (bits : ℕ) (problem : Problem) (over : Bool) → nat_lt 640 bits ≡ over → cond over (Some problem) None ≡ None → bits ≤ 640
none_over bits problem true is none = absurd cc
none_over bits problem false is none = grind (arith, nat_tests)

bits_within : (bits : ℕ) → bits_problem bits ≡ None → bits ≤ 640
bits_within bits none = none_over bits _ (nat_lt 640 bits) refl none

no_crowd : (found : Option ℕ) (next : Option Problem) → crowd_or found next ≡ None → (found ≡ None) × (next ≡ None)
no_crowd None next none = (refl, none)
no_crowd (Some inputs) next none = absurd cc

sized_tile : (files : Map) (end : End) (block : PlainBlock) (tile : PlainTile) → HasName (bare block) → ReadsTile files end block tile → IsSized tile
sized_tile files end block tile named read =
    let limits = no_crowd (crowd nat_eq (map pair_numbers read.pairs)) (bits_problem (tile_bits (with_pairs (bare block) read.pairs))) read.fitting in
    let sized : IsSized (with_table (paired block read.pairs) read.table) = record {
      name = named;
      few_bits = bits_within (tile_bits (with_pairs (bare block) read.pairs)) limits.1;
      few_inputs = λ output. few_by (map pair_numbers read.pairs) output (length (inputs_of nat_eq (map pair_numbers read.pairs) output)) refl limits.0;
    } in
    subst IsSized (sym read.is) sized

-- ---- rows of a block

unfolded_name : (name : List ℕ) → is_tile_name name ≡ true → is_identifier name ≡ true
unfolding is_tile_name
unfolded_name name is = both_first (is_identifier name) (not (is_null name)) is

named_bel : (block : PlainBlock) (kind : Option Kind) (prefix : List ℕ) → HasName (bare block) → HasName (bare (with_bel_of block kind prefix))
named_bel block None prefix named = named
named_bel block (Some kind) prefix named = named

pub sizes_kept : Keeps HasName IsSized
sizes_kept = record {
  new = unfolded_name;
  wire = λ block cells named fine. named;
  bel = λ block kind holder file prefix named fine. named_bel block kind prefix named;
  matrix = λ block file named. named;
  tile = sized_tile;
}
