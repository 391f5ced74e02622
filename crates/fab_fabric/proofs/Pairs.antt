-- The pairs of a tile lead between its wires.
use Rattle.std.proofs.Common.{◌≡◌, ℕ, ◌<◌, ◌≤◌, Bool, true, false, not, List, [], ◌∷◌, suc, zero, length, get_or, slice_get, refl, ap, arith, None, inl, inr}
use Rattle.std.proofs.lemmas.Bool.{cases_lt, false≢true}
use Rattle.std.proofs.lemmas.List.{length-map}
use Rattle.fab_model.specs.fab_select.specs.declared.pair.Pair.{Pair}
use Rattle.fab_model.specs.Tiles.{PlainTile, TileWire, tile_wires, wire_name, matrix_names, wire_passes, is_matrix_output, IsTile}

-- nothing stands past the end
slice_get_past : {X : Type 0} (xs : List X) (i : ℕ) → length xs ≤ i → slice_get xs i ≡ None
slice_get_past [] i past = refl
slice_get_past (x ∷ xs) zero past = absurd (omega (arith, past))
slice_get_past (x ∷ xs) (suc i) past = slice_get_past xs i (omega (arith, past))

-- a wire that passes a test is there
pub passes_named : (test : TileWire → Bool) (tile : PlainTile) (number : ℕ) → wire_passes test tile number ≡ true → number < length (matrix_names tile)
passes_named test tile number passes =
    elim (cases_lt number (length (tile_wires tile))) [
      | inl within ↦ omega (arith, within, length-map (tile_wires tile) wire_name)
      | inr past ↦ (
          let none : slice_get (tile_wires tile) number ≡ None = slice_get_past (tile_wires tile) number past in
          let never : false ≡ true = rw none at passes in
          absurd (false≢true never))
    ]

-- the outputs of all pairs are matrix names
pub outputs_named : (tile : PlainTile) → IsTile tile → (pairs : List Pair) (names : ℕ) → pairs ≡ tile.pairs → names ≡ length (matrix_names tile) → (k : ℕ) (d : Pair) → k < length pairs → (get_or pairs k d).output < names
outputs_named tile is pairs names pairs_are names_are k d within =
    let inside : k < length tile.pairs = omega (arith, within, ap length pairs_are) in
    let here = passes_named is_matrix_output tile (get_or tile.pairs k d).output (is.pairs k d inside).output in
    let same : (get_or pairs k d).output ≡ (get_or tile.pairs k d).output = ap (λ ps. (get_or ps k d).output) pairs_are in
    omega (arith, here, same, names_are)

pub inputs_named : (tile : PlainTile) → IsTile tile → (k : ℕ) (d : Pair) → k < length tile.pairs → (get_or tile.pairs k d).input < length (matrix_names tile)
inputs_named tile is k d within = passes_named (λ wire. not (is_matrix_output wire)) tile (get_or tile.pairs k d).input (is.pairs k d within).input
