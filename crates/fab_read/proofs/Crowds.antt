-- Inputs of outputs by number.
use Rattle.std.proofs.Common.{◌≡◌, ◌<◌, ℕ, List, [], ◌∷◌, All, get_or, length, map, nat_eq, nat_lt, ap, refl, arith}
use Rattle.std.specs.Prelude.{find}
use Rattle.fab_select.specs.declared.pair.Pair.{Pair as NumberPair}
use Rattle.fab_model.specs.Tiles.{PlainTile, IsPair, pair_numbers, matrix_names, is_matrix_output}
use Rattle.fab_fabric.proofs.Pairs.{passes_named}
use Rattle.fab_list_files.specs.Sides.{crowd, input_count, most_inputs}

counts_along : (counts : List ℕ) (count : ℕ → ℕ) → ((output : ℕ) → get_or counts output 0 ≡ count output) → (pairs : List NumberPair)
    → map (λ pair. get_or counts pair.output 0) pairs ≡ map (λ numbers. count numbers.0) (map pair_numbers pairs)
counts_along counts count each [] = refl
counts_along counts count each (pair ∷ pairs) =
    let here : get_or counts pair.output 0 ≡ count pair.output = each pair.output in
    let rest : map (λ pair. get_or counts pair.output 0) pairs ≡ map (λ numbers. count numbers.0) (map pair_numbers pairs) = counts_along counts count each pairs in
    λ j. here j ∷ rest j

-- the first output with too many inputs is found by the counts of all outputs
pub crowd_found : (counts : List ℕ) (pairs : List NumberPair) → ((output : ℕ) → get_or counts output 0 ≡ input_count nat_eq (map pair_numbers pairs) output)
    → find (nat_lt most_inputs) (map (λ pair. get_or counts pair.output 0) pairs) ≡ crowd nat_eq (map pair_numbers pairs)
crowd_found counts pairs each = ap (find (nat_lt most_inputs)) (counts_along counts (input_count nat_eq (map pair_numbers pairs)) each pairs)

-- the outputs of pairs are matrix names
pub outputs_named : (tile : PlainTile) (names : ℕ) (pairs : List NumberPair) → names ≡ length (matrix_names tile) → All (IsPair tile) pairs → All (λ pair. pair.output < names) pairs
outputs_named tile names pairs is all = λ k d below. omega (arith, is, passes_named is_matrix_output tile (get_or pairs k d).output (all k d below).output)
