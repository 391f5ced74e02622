-- The tile of the tests is a tile.
use Rattle.std.proofs.Common.{◌≡◌, ◌≢◌, ℕ, List, [], ◌∷◌, All, AllPairs, length, refl, subst, arith}
use Rattle.std.specs.Str.{bytes_eq}
use Rattle.std.specs.List.{IsDistinct}
use Rattle.std.proofs.lemmas.List.Elements.{All-nil}
use Rattle.std.proofs.lemmas.Map.Made.{AllPairs-from_IsDistinct}
use Rattle.std.proofs.lemmas.Slice.Eq.{bytes_eq-Decides}
use Rattle.fab_select.specs.Selection.{firsts}
use Rattle.fab_select.proofs.Firsts.{firsts_distinct}
use Rattle.fab_model.specs.Rows.{IsWireRow}
use Rattle.fab_model.specs.Tiles.{bare_tile, counted, matrix_names, IsTile, IsPair}
use Rattle.fab_model.specs.Examples.{one_lut}

names_differ : (names : List (List ℕ)) → firsts bytes_eq names ≡ names → AllPairs (λ first second. first ≢ second) names
names_differ names same = AllPairs-from_IsDistinct bytes_eq-Decides names (subst (IsDistinct bytes_eq) same (firsts_distinct bytes_eq bytes_eq-Decides names))

one_lut_names : (name : List ℕ) → firsts bytes_eq (matrix_names (bare_tile name [] one_lut)) ≡ matrix_names (bare_tile name [] one_lut)
unfolding counted
one_lut_names name = refl

one_lut_few : (name : List ℕ) → length (matrix_names (bare_tile name [] one_lut)) ≡ 9
unfolding counted
one_lut_few name = refl

pub one_lut_tile : (name : List ℕ) → IsTile (bare_tile name [] one_lut)
one_lut_tile name = record {
  rows = All-nil IsWireRow;
  apart = names_differ (matrix_names (bare_tile name [] one_lut)) (one_lut_names name);
  few = omega (arith, one_lut_few name);
  pairs = All-nil (IsPair (bare_tile name [] one_lut));
}
