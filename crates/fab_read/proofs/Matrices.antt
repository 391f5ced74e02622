-- Pairs by number are pairs of the tile.
use Rattle.std.proofs.Common.{◌≡◌, ℕ, Bool, true, not, List, [], ◌∷◌, Option, Some, None, All, refl, ap, subst}
use Rattle.std.specs.Prelude.{is_some, unwrap_or}
use Rattle.std.specs.List.{cons_option}
use Rattle.std.proofs.lemmas.List.Elements.{All-nil, All-cons}
use Rattle.fab_select.specs.declared.pair.Pair.{Pair as NumberPair}
use Rattle.fab_model.specs.Tiles.{PlainTile, TileWire, IsPair, is_matrix_output, wire_passes}
use Rattle.fab_tables.specs.Lists.{Pair}
use Rattle.fab_tables.specs.Matrix.{number_with, output_number, input_number, pair_with}
use Rattle.fab_tables.proofs.Wired.{number_passes}
use Rattle.fab_read.specs.Tiles.{pair_of, number_pair, pairs_by_number}

number_is : (test : TileWire → Bool) (tile : PlainTile) (name : List ℕ) (number : ℕ) → number_with test tile name ≡ Some number → wire_passes test tile number ≡ true
number_is test tile name number is =
    let there : is_some (number_with test tile name) ≡ true = ap is_some is in
    let same : unwrap_or (number_with test tile name) 0 ≡ number = ap (λ o. unwrap_or o 0) is in
    subst (λ (n : ℕ). wire_passes test tile n ≡ true) same (number_passes test tile name there)

some_is : {a b : NumberPair} → Some a ≡ Some b → a ≡ b
some_is same = cc

pair_is : (tile : PlainTile) (pair : Pair) (output input : Option ℕ) (number : NumberPair) → output_number tile pair.0 ≡ output → input_number tile pair.1 ≡ input → pair_of output input ≡ Some number → IsPair tile number
pair_is tile pair None input number there here is = absurd cc
pair_is tile pair (Some output) None number there here is = absurd cc
pair_is tile pair (Some output) (Some input) number there here is =
    let made : IsPair tile (pair_with output input) = record {
      output = number_is is_matrix_output tile pair.0 output there;
      input = number_is (λ wire. not (is_matrix_output wire)) tile pair.1 input here;
    } in
    subst (IsPair tile) (some_is is) made

with_number : (tile : PlainTile) (found : Option NumberPair) (rest : List NumberPair) → ((number : NumberPair) → found ≡ Some number → IsPair tile number) → All (IsPair tile) rest
    → All (IsPair tile) (cons_option found rest)
with_number tile None rest one all = all
with_number tile (Some number) rest one all = All-cons (IsPair tile) number rest (one number refl) all

-- all pairs by number are pairs of the tile
pub numbered_paired : (tile : PlainTile) (pairs : List Pair) → All (IsPair tile) (pairs_by_number tile pairs)
numbered_paired tile [] = All-nil (IsPair tile)
numbered_paired tile (pair ∷ pairs) =
    with_number tile (number_pair tile pair) (pairs_by_number tile pairs) (λ number is. pair_is tile pair (output_number tile pair.0) (input_number tile pair.1) number refl refl is) (numbered_paired tile pairs)
