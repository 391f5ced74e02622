-- The tiles and fabrics of the tests on spans are tiles and fabrics.
use Rattle.std.proofs.Common.{◌≡◌, ◌≢◌, ◌<◌, ◌≤◌, ℕ, List, [], ◌∷◌, ◌++◌, AllPairs, Some, length, refl, sym, subst, arith, codes, decimal}
use Rattle.std.proofs.lemmas.Bool.{false≢true}
use Rattle.std.proofs.lemmas.List.Elements.{All-nil, All-from_recursion, All-replicate}
use Rattle.std.proofs.lemmas.Fmt.{decimal_digit}
use Rattle.std.proofs.lemmas.Slice.Eq.{bytes_eq-Decides}
use Rattle.fab_model.specs.Rows.{IsWireRow}
use Rattle.fab_model.specs.declared.tiles.WireRow.{WireRow}
use Rattle.fab_model.specs.Tiles.{bare_tile, counted, matrix_names, IsTile, IsPair}
use Rattle.fab_model.specs.Grid.{PlainFabric}
use Rattle.fab_fabric.specs.Sums.{sum_to}
use Rattle.fab_model.specs.Tables.{HasTable}
use Rattle.fab_fabric.specs.Fabric.{fabric_of, wire_count, IsPlace, IsFabric}
use Rattle.fab_fabric.specs.Examples.{pass_rows, last_rows, pass, last, five_places, long_rows, long, many_places}
use Rattle.fab_fabric.proofs.Samples.{names_differ, no_pairs, one_of, two_of}

-- a tile without BELs needs no places
bare_table : (name : List ℕ) (rows : List WireRow) → HasTable (bare_tile name rows [])
bare_table name rows = record { as_many = refl; in_frames = All-nil (λ place. (place.0 < 20) × (place.1 < 32)); apart = no_pairs (λ first second. first ≢ second) }

-- ---- two borders

abbrev pass_names : (zero_text one_text : List ℕ) → List (List ℕ)
pass_names zero_text one_text =
    (codes "E2BEG" ++ zero_text) ∷ (codes "E2BEG" ++ one_text) ∷ (codes "E2END" ++ zero_text) ∷ (codes "E2END" ++ one_text) ∷ []

pass_names_are : matrix_names pass ≡ pass_names (48 ∷ []) (49 ∷ [])
unfolding counted
pass_names_are =
    let zero_is : decimal 0 ≡ 48 ∷ [] = decimal_digit 0 (omega arith) in
    let one_is : decimal 1 ≡ 49 ∷ [] = decimal_digit 1 (omega arith) in
    λ j. pass_names (zero_is j) (one_is j)

pass_few : length (matrix_names pass) ≡ 4
unfolding counted
pass_few = refl

pub pass_tile : IsTile pass
pass_tile = record {
  rows = All-from_recursion IsWireRow pass_rows (record { has_wires = omega arith; span_is = (omega arith, omega arith); has_ends = refl }, tt);
  apart = subst (AllPairs (λ first second. first ≢ second)) (sym pass_names_are) (names_differ (pass_names (48 ∷ []) (49 ∷ [])) refl);
  few = omega (arith, pass_few);
  pairs = All-nil (IsPair pass);
}

abbrev last_names : (zero_text one_text two_text three_text : List ℕ) → List (List ℕ)
last_names zero_text one_text two_text three_text =
    (codes "E4END" ++ zero_text) ∷ (codes "E4END" ++ one_text) ∷ (codes "E4END" ++ two_text) ∷ (codes "E4END" ++ three_text)
    ∷ (codes "W1BEG" ++ zero_text) ∷ (codes "E1BEG" ++ zero_text) ∷ []

last_names_are : matrix_names last ≡ last_names (48 ∷ []) (49 ∷ []) (50 ∷ []) (51 ∷ [])
unfolding counted
last_names_are =
    let zero_is : decimal 0 ≡ 48 ∷ [] = decimal_digit 0 (omega arith) in
    let one_is : decimal 1 ≡ 49 ∷ [] = decimal_digit 1 (omega arith) in
    let two_is : decimal 2 ≡ 50 ∷ [] = decimal_digit 2 (omega arith) in
    let three_is : decimal 3 ≡ 51 ∷ [] = decimal_digit 3 (omega arith) in
    λ j. last_names (zero_is j) (one_is j) (two_is j) (three_is j)

last_few : length (matrix_names last) ≡ 6
unfolding counted
last_few = refl

pub last_tile : IsTile last
last_tile = record {
  rows = All-from_recursion IsWireRow last_rows (
    record { has_wires = omega arith; span_is = (omega arith, omega arith); has_ends = refl },
    (record { has_wires = omega arith; span_is = (omega arith, omega arith); has_ends = refl }, (record { has_wires = omega arith; span_is = (omega arith, omega arith); has_ends = refl }, tt)),
  );
  apart = subst (AllPairs (λ first second. first ≢ second)) (sym last_names_are) (names_differ (last_names (48 ∷ []) (49 ∷ []) (50 ∷ []) (51 ∷ [])) refl);
  few = omega (arith, last_few);
  pairs = All-nil (IsPair last);
}

abbrev four_tiles : PlainFabric
four_tiles = fabric_of (pass ∷ last ∷ []) 5 five_places

four_tiles_wires : wire_count four_tiles ≡ 18
unfolding sum_to counted
four_tiles_wires = refl

pub four_tiles_fabric : IsFabric four_tiles
four_tiles_fabric = record {
  some_columns = omega arith;
  few_columns = omega arith;
  some_rows = omega arith;
  few_rows = omega arith;
  places = refl;
  numbers = All-from_recursion (IsPlace (pass ∷ last ∷ [])) five_places (omega arith, (omega arith, (omega arith, (omega arith, (tt, tt)))));
  few_types = omega arith;
  names = two_of (λ first second. first.name ≢ second.name) pass last (λ same. false≢true ((bytes_eq-Decides (codes "PASS") (codes "LAST")).1 same));
  few_bels = All-from_recursion (λ tile. length tile.bels ≤ 26) (pass ∷ last ∷ []) (omega arith, (omega arith, tt));
  tables = All-from_recursion HasTable (pass ∷ last ∷ []) (bare_table (codes "PASS") pass_rows, (bare_table (codes "LAST") last_rows, tt));
  few_wires = omega (arith, four_tiles_wires);
}

-- ---- 31 borders

abbrev long_names : (zero_text : List ℕ) → List (List ℕ)
long_names zero_text = (codes "E31BEG" ++ zero_text) ∷ (codes "E31END" ++ zero_text) ∷ []

long_names_are : matrix_names long ≡ long_names (48 ∷ [])
unfolding counted
long_names_are =
    let zero_is : decimal 0 ≡ 48 ∷ [] = decimal_digit 0 (omega arith) in
    λ j. long_names (zero_is j)

long_few : length (matrix_names long) ≡ 2
unfolding counted
long_few = refl

pub long_tile : IsTile long
long_tile = record {
  rows = All-from_recursion IsWireRow long_rows (record { has_wires = omega arith; span_is = (omega arith, omega arith); has_ends = refl }, tt);
  apart = subst (AllPairs (λ first second. first ≢ second)) (sym long_names_are) (names_differ (long_names (48 ∷ [])) refl);
  few = omega (arith, long_few);
  pairs = All-nil (IsPair long);
}

abbrev many_tiles : PlainFabric
many_tiles = fabric_of (long ∷ []) 32 many_places

many_tiles_wires : wire_count many_tiles ≡ 64
unfolding sum_to counted
many_tiles_wires = refl

pub many_tiles_fabric : IsFabric many_tiles
many_tiles_fabric = record {
  some_columns = omega arith;
  few_columns = omega arith;
  some_rows = omega arith;
  few_rows = omega arith;
  places = refl;
  numbers = All-replicate (IsPlace (long ∷ [])) 32 (Some 0) (omega arith);
  few_types = omega arith;
  names = one_of (λ first second. first.name ≢ second.name) long;
  few_bels = All-from_recursion (λ tile. length tile.bels ≤ 26) (long ∷ []) (omega arith, tt);
  tables = All-from_recursion HasTable (long ∷ []) (bare_table (codes "LONG") long_rows, tt);
  few_wires = omega (arith, many_tiles_wires);
}
