-- The pairs of a tile by places give the matrix of the tile.
use Rattle.std.proofs.Common.{◌≡◌, ℕ, ◌+◌, ◌<◌, suc, Bool, true, false, not, cond, List, [], ◌∷◌, length, map, filter, take, count_by, get_or, slice_get, All, Option, Some, None, refl, sym, ap, ◌∙◌, arith, inl, inr, nat_eq, option_map, subst}
use Rattle.std.specs.List.{enumerate_from}
use Rattle.std.proofs.lemmas.Bool.{cases_Bool, false≢true}
use Rattle.std.proofs.lemmas.List.{length-map}
use Rattle.std.proofs.lemmas.List.Elements.{All-cons, All-map, All-head, All-tail}
use Rattle.std.proofs.lemmas.Option.{slice_get_within, get_or_from_slice_get, slice_get-map}
use Rattle.fab_select.specs.declared.pair.Pair.{Pair}
use Rattle.fab_model.specs.Tiles.{PlainTile, IsTile, TileWire, tile_wires, wire_name, matrix_names, is_matrix_output, wire_passes}
use Rattle.fab_matrix.specs.Matrix.{matrix, numbered_outputs as by_number, named}
use Rattle.fab_matrix.proofs.Renamed.{matrix_renamed}
use Rattle.fab_gen_tile.specs.Names.{matrix_module_name}
use Rattle.fab_gen_tile.specs.TileModule.{is_on_side, matrix_input_names, matrix_output_names}
use Rattle.fab_gen_tile.specs.MatrixModule.{numbered_outputs, named_pairs, matrix_module}
use Rattle.fab_gen_tile.specs.inner.Places.{HasPlaces, placed_pair}
use Rattle.fab_gen_tile.proofs.Placing.{count_first, nth_passing, same_places}

-- a wire that passes a test is there
pub record Wired (ws : List TileWire) (test : TileWire → Bool) (n : ℕ) : Type 0 where
  pub wire : TileWire
  pub there : slice_get ws n ≡ Some wire
  pub passes : test wire ≡ true

pub wired : (test : TileWire → Bool) (tile : PlainTile) (n : ℕ) → wire_passes test tile n ≡ true → Wired (tile_wires tile) test n
wired test tile n passes = at (slice_get (tile_wires tile) n) refl
  where
    at : (found : Option TileWire) → slice_get (tile_wires tile) n ≡ found → Wired (tile_wires tile) test n
    at None is = let never : false ≡ true = rw is at passes in absurd (false≢true never)
    at (Some wire) is = let here : test wire ≡ true = rw is at passes in record { wire = wire; there = is; passes = here }

not_true : (b : Bool) → not b ≡ true → b ≡ false
not_true true is = absurd (false≢true is)
not_true false is = refl

count_by_first : (w : TileWire) (ws : List TileWire) (i : ℕ) → is_matrix_output w ≡ true → count_by (is_on_side true) (take (suc i) (w ∷ ws)) ≡ 1 + count_by (is_on_side true) (take i ws)
count_by_first w ws i t = count_first (is_on_side true) w ws i ∙ ap (λ b. cond b 1 0 + count_by (is_on_side true) (take i ws)) t

count_by_other : (w : TileWire) (ws : List TileWire) (i : ℕ) → is_matrix_output w ≡ false → count_by (is_on_side true) (take (suc i) (w ∷ ws)) ≡ count_by (is_on_side true) (take i ws)
count_by_other w ws i f = count_first (is_on_side true) w ws i ∙ ap (λ b. cond b 1 0 + count_by (is_on_side true) (take i ws)) f ∙ omega arith

-- outputs by their places
outputs_by_place : (g : ℕ → ℕ) (k o : ℕ) (ws : List TileWire) →
    ((i : ℕ) → Wired ws is_matrix_output i → g (k + i) ≡ o + count_by (is_on_side true) (take i ws)) →
    map (λ (out : ℕ × List ℕ). (g out.0, out.1)) (map (λ (placed : ℕ × TileWire). (placed.0, wire_name placed.1)) (filter (λ (placed : ℕ × TileWire). is_matrix_output placed.1) (enumerate_from k ws)))
    ≡ enumerate_from o (map wire_name (filter (is_on_side true) ws))
outputs_by_place g k o [] places = refl
outputs_by_place g k o (w ∷ ws) places =
    elim (cases_Bool (is_matrix_output w)) [
      | inl t ↦
          let first : Wired (w ∷ ws) is_matrix_output 0 = record { wire = w; there = refl; passes = t } in
          let here : g k ≡ o = ap g (let e : k ≡ k + 0 = omega arith in e) ∙ places 0 first ∙ omega arith in
          let rest = outputs_by_place g (k + 1) (o + 1) ws
          (λ i wire.
          let next : k + 1 + i ≡ k + suc i = omega arith in
          let count = count_by_first w ws i t in
          ap g next ∙ places (suc i) (record { wire = wire.wire; there = wire.there; passes = wire.passes }) ∙ omega (arith, count)) in
          rw t (λ j. (here j, wire_name w) ∷ rest j)
      | inr f ↦
          let rest = outputs_by_place g (k + 1) o ws
          (λ i wire.
          let next : k + 1 + i ≡ k + suc i = omega arith in
          let count = count_by_other w ws i f in
          ap g next ∙ places (suc i) (record { wire = wire.wire; there = wire.there; passes = wire.passes }) ∙ ap (λ n. o + n) count) in
          rw f rest
    ]

-- what holds of the numbers of all outputs
outputs_all : (P : ℕ → Type 0) (k : ℕ) (ws : List TileWire) → ((i : ℕ) → Wired ws is_matrix_output i → P (k + i)) →
    All (λ (out : ℕ × List ℕ). P out.0) (map (λ (placed : ℕ × TileWire). (placed.0, wire_name placed.1)) (filter (λ (placed : ℕ × TileWire). is_matrix_output placed.1) (enumerate_from k ws)))
outputs_all P k [] each = λ i d less. absurd (omega (arith, less))
outputs_all P k (w ∷ ws) each =
    let Q : ℕ × List ℕ → Type 0 = λ out. P out.0 in
    let rest = outputs_all P (k + 1) ws (λ i wire. subst P (let e : k + suc i ≡ k + 1 + i = omega arith in e) (each (suc i) (record { wire = wire.wire; there = wire.there; passes = wire.passes }))) in
    elim (cases_Bool (is_matrix_output w)) [
      | inl t ↦ rw t (All-cons Q (k, wire_name w) _ (subst P (let e : k + 0 ≡ k = omega arith in e) (each 0 (record { wire = w; there = refl; passes = t }))) rest)
      | inr f ↦ rw f rest
    ]

module _ (tile : PlainTile) (is : IsTile tile) (places : List ℕ) (has : HasPlaces (tile_wires tile) places) where
  abbrev ws : List TileWire
  ws = tile_wires tile

  abbrev place : ℕ → ℕ
  place n = get_or places n 0

  place_of_output : (n : ℕ) → Wired ws is_matrix_output n → place n ≡ count_by (is_on_side true) (take n ws)
  place_of_output n wire = has.each n wire.wire wire.there ∙ ap (λ b. count_by (is_on_side b) (take n ws)) wire.passes

  place_of_input : (n : ℕ) → Wired ws (λ wire. not (is_matrix_output wire)) n → place n ≡ count_by (is_on_side false) (take n ws)
  place_of_input n wire = has.each n wire.wire wire.there ∙ ap (λ b. count_by (is_on_side b) (take n ws)) (not_true (is_matrix_output wire.wire) wire.passes)

  stands_at : (b : Bool) (n : ℕ) (wire : TileWire) → slice_get ws n ≡ Some wire → is_on_side b wire ≡ true →
      slice_get (filter (is_on_side b) ws) (count_by (is_on_side b) (take n ws)) ≡ Some wire
  stands_at b n wire there on = nth_passing (is_on_side b) ws n wire there on

  agree : (a b : ℕ) → Wired ws is_matrix_output a → Wired ws is_matrix_output b → nat_eq (place a) (place b) ≡ nat_eq a b
  agree a b first second =
      (λ j. nat_eq (place_of_output a first j) (place_of_output b second j))
      ∙ same_places (is_on_side true) ws a b first.wire second.wire first.there first.passes second.there second.passes

  pub inputs_within : All (λ pair. pair.input < length (matrix_input_names tile)) (map (placed_pair places) tile.pairs)
  inputs_within =
      All-map (λ (pair : Pair). pair.input < length (matrix_input_names tile)) (placed_pair places) tile.pairs
      (λ k d less.
      let wire = wired (λ wire. not (is_matrix_output wire)) tile (get_or tile.pairs k d).input (is.pairs k d less).input in
      let stands = stands_at false (get_or tile.pairs k d).input wire.wire wire.there wire.passes in
      omega (arith, slice_get_within (filter (is_on_side false) ws) _ wire.wire stands, length-map (filter (is_on_side false) ws) wire_name, place_of_input (get_or tile.pairs k d).input wire))

  pub outputs_within : All (λ pair. pair.output < length (matrix_output_names tile)) (map (placed_pair places) tile.pairs)
  outputs_within =
      All-map (λ (pair : Pair). pair.output < length (matrix_output_names tile)) (placed_pair places) tile.pairs
      (λ k d less.
      let wire = wired is_matrix_output tile (get_or tile.pairs k d).output (is.pairs k d less).output in
      let stands = stands_at true (get_or tile.pairs k d).output wire.wire wire.there wire.passes in
      omega (arith, slice_get_within (filter (is_on_side true) ws) _ wire.wire stands, length-map (filter (is_on_side true) ws) wire_name, place_of_output (get_or tile.pairs k d).output wire))

  -- the name of an input by its place
  input_named : (n : ℕ) → Wired ws (λ wire. not (is_matrix_output wire)) n → get_or (matrix_input_names tile) (place n) [] ≡ get_or (matrix_names tile) n []
  input_named n wire =
      let stands = stands_at false n wire.wire wire.there wire.passes in
      ap (λ k. get_or (matrix_input_names tile) k []) (place_of_input n wire)
      ∙ get_or_from_slice_get (matrix_input_names tile) (count_by (is_on_side false) (take n ws)) (wire_name wire.wire) []
      (slice_get-map wire_name (filter (is_on_side false) ws) (count_by (is_on_side false) (take n ws)) ∙ ap (option_map wire_name) stands)
      ∙ sym (get_or_from_slice_get (matrix_names tile) n (wire_name wire.wire) [] (slice_get-map wire_name ws n ∙ ap (option_map wire_name) wire.there))

  pairs_named : (pairs : List Pair) → All (λ (pair : Pair). Wired ws (λ wire. not (is_matrix_output wire)) pair.input) pairs →
      map (λ (pair : ℕ × List ℕ). (place pair.0, pair.1)) (named (matrix_names tile) pairs) ≡ named (matrix_input_names tile) (map (placed_pair places) pairs)
  pairs_named [] all = refl
  pairs_named (pair ∷ pairs) all =
      let P : Pair → Type 0 = λ p. Wired ws (λ wire. not (is_matrix_output wire)) p.input in
      let here = input_named pair.input (All-head P pair pairs all) in
      let rest = pairs_named pairs (All-tail P pair pairs all) in
      λ j. (place pair.output, sym here j) ∷ rest j

  pub matrix_by_places : matrix nat_eq (matrix_module_name tile) (matrix_input_names tile) (by_number (matrix_output_names tile)) (named (matrix_input_names tile) (map (placed_pair places) tile.pairs))
      ≡ matrix_module tile
  matrix_by_places =
      let P = Wired ws is_matrix_output in
      let first : (i : ℕ) → 0 + i ≡ i = λ i. omega arith in
      let outputs = outputs_by_place place 0 0 ws (λ i wire. ap place (first i) ∙ place_of_output i wire ∙ sym (first (count_by (is_on_side true) (take i ws)))) in
      let pairs = pairs_named tile.pairs (λ k d less. wired (λ wire. not (is_matrix_output wire)) tile (get_or tile.pairs k d).input (is.pairs k d less).input) in
      let keys : All (λ (pair : ℕ × List ℕ). P pair.0) (named_pairs tile) =
      All-map (λ (pair : ℕ × List ℕ). P pair.0) (λ (pair : Pair). (pair.output, get_or (matrix_names tile) pair.input [])) tile.pairs
      (λ k d less. wired is_matrix_output tile (get_or tile.pairs k d).output (is.pairs k d less).output) in
      (λ j. matrix nat_eq (matrix_module_name tile) (matrix_input_names tile) (sym outputs j) (sym pairs j))
      ∙ matrix_renamed P nat_eq nat_eq place agree (named_pairs tile) keys (matrix_module_name tile) (matrix_input_names tile) (numbered_outputs tile) (outputs_all P 0 ws (λ i wire. subst P (sym (first i)) wire))
