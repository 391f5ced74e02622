-- The tiles of the tests are tiles.
use Rattle.std.proofs.Common.{◌≡◌, ◌≢◌, ℕ, List, [], ◌∷◌, All, AllPairs, length, refl, sym, subst, arith, codes, decimal, ◌++◌}
use Rattle.std.specs.Str.{bytes_eq}
use Rattle.std.specs.List.{IsDistinct}
use Rattle.std.proofs.lemmas.List.Elements.{All-nil, All-from_recursion}
use Rattle.std.proofs.lemmas.Fmt.{decimal_digit}
use Rattle.std.proofs.lemmas.Map.Made.{AllPairs-from_IsDistinct}
use Rattle.std.proofs.lemmas.Slice.Eq.{bytes_eq-Decides}
use Rattle.fab_select.specs.Selection.{firsts}
use Rattle.fab_select.proofs.Firsts.{firsts_distinct}
use Rattle.fab_model.specs.Rows.{IsWireRow}
use Rattle.fab_model.specs.Tiles.{bare_tile, counted, matrix_names, IsTile, IsPair}
use Rattle.fab_model.specs.Examples.{five_rows, one_lut, six_pairs, nine_bels}

-- names that are all kept as first ones differ
names_differ : (names : List (List ℕ)) → firsts bytes_eq names ≡ names → AllPairs (λ first second. first ≢ second) names
names_differ names same = AllPairs-from_IsDistinct bytes_eq-Decides names (subst (IsDistinct bytes_eq) same (firsts_distinct bytes_eq bytes_eq-Decides names))

rows_are : All IsWireRow five_rows
rows_are = All-from_recursion IsWireRow five_rows (
  record { has_wires = omega arith; span_is = (omega arith, omega arith); has_ends = refl },
  (
    record { has_wires = omega arith; span_is = refl; has_ends = refl },
    (
      record { has_wires = omega arith; span_is = refl; has_ends = refl },
      (
        record { has_wires = omega arith; span_is = (omega arith, omega arith); has_ends = refl },
        (record { has_wires = omega arith; span_is = (omega arith, omega arith); has_ends = refl }, tt),
      ),
    ),
  ),
)

-- the names of the tile of five rows, where the digits of numbers are these
abbrev five_names : (zero_text one_text two_text three_text : List ℕ) → List (List ℕ)
five_names zero_text one_text two_text three_text =
    (codes "N1BEG" ++ zero_text) ∷ (codes "N1BEG" ++ one_text) ∷ (codes "N1BEG" ++ two_text) ∷ (codes "N1BEG" ++ three_text)
    ∷ (codes "N1END" ++ zero_text) ∷ (codes "N1END" ++ one_text) ∷ (codes "N1END" ++ two_text) ∷ (codes "N1END" ++ three_text)
    ∷ (codes "J_BEG" ++ zero_text) ∷ (codes "J_BEG" ++ one_text) ∷ (codes "J_END" ++ zero_text) ∷ (codes "J_END" ++ one_text)
    ∷ (codes "GND" ++ zero_text) ∷ (codes "W1END" ++ zero_text) ∷ (codes "W1END" ++ one_text) ∷ (codes "W1END" ++ two_text)
    ∷ (codes "E2BEG" ++ zero_text) ∷ (codes "E2BEG" ++ one_text) ∷ (codes "E2BEG" ++ two_text) ∷ (codes "E2BEG" ++ three_text)
    ∷ codes "LA_I0" ∷ codes "LA_I1" ∷ codes "LA_I2" ∷ codes "LA_I3" ∷ codes "LA_Ci" ∷ codes "LA_SR" ∷ codes "LA_EN" ∷ codes "LA_O" ∷ codes "LA_Co" ∷ []

five_rows_names : (name : List ℕ) → matrix_names (bare_tile name five_rows one_lut) ≡ five_names (48 ∷ []) (49 ∷ []) (50 ∷ []) (51 ∷ [])
unfolding counted
five_rows_names name =
    let zero_is : decimal 0 ≡ 48 ∷ [] = decimal_digit 0 (omega arith) in
    let one_is : decimal 1 ≡ 49 ∷ [] = decimal_digit 1 (omega arith) in
    let two_is : decimal 2 ≡ 50 ∷ [] = decimal_digit 2 (omega arith) in
    let three_is : decimal 3 ≡ 51 ∷ [] = decimal_digit 3 (omega arith) in
    λ j. five_names (zero_is j) (one_is j) (two_is j) (three_is j)

five_names_once : firsts bytes_eq (five_names (48 ∷ []) (49 ∷ []) (50 ∷ []) (51 ∷ [])) ≡ five_names (48 ∷ []) (49 ∷ []) (50 ∷ []) (51 ∷ [])
five_names_once = refl

five_rows_few : (name : List ℕ) → length (matrix_names (bare_tile name five_rows one_lut)) ≡ 29
unfolding counted
five_rows_few name = refl

nine_bels_names : (name : List ℕ) → firsts bytes_eq (matrix_names (bare_tile name [] nine_bels)) ≡ matrix_names (bare_tile name [] nine_bels)
unfolding counted
nine_bels_names name = refl

nine_bels_few : (name : List ℕ) → length (matrix_names (bare_tile name [] nine_bels)) ≡ 88
unfolding counted
nine_bels_few name = refl

pub five_rows_tile : (name : List ℕ) → IsTile (bare_tile name five_rows one_lut)
five_rows_tile name = record {
  rows = rows_are;
  apart = subst (AllPairs (λ first second. first ≢ second)) (sym (five_rows_names name)) (names_differ (five_names (48 ∷ []) (49 ∷ []) (50 ∷ []) (51 ∷ [])) five_names_once);
  few = omega (arith, five_rows_few name);
  pairs = All-nil (IsPair (bare_tile name five_rows one_lut));
}

pub nine_bels_tile : (name : List ℕ) → IsTile (bare_tile name [] nine_bels)
nine_bels_tile name = record {
  rows = All-nil IsWireRow;
  apart = names_differ (matrix_names (bare_tile name [] nine_bels)) (nine_bels_names name);
  few = omega (arith, nine_bels_few name);
  pairs = All-nil (IsPair (bare_tile name [] nine_bels));
}

pub six_pairs_fit : (name : List ℕ) → All (IsPair (bare_tile name five_rows one_lut)) six_pairs
unfolding counted
six_pairs_fit name = All-from_recursion (IsPair (bare_tile name five_rows one_lut)) six_pairs (
  record { output = refl; input = refl },
  (
    record { output = refl; input = refl },
    (
      record { output = refl; input = refl },
      (
        record { output = refl; input = refl },
        (
          record { output = refl; input = refl },
          (record { output = refl; input = refl }, tt),
        ),
      ),
    ),
  ),
)
