-- The tiles and fabrics of the tests are tiles and fabrics.
use Rattle.std.proofs.Common.{◌≡◌, ◌≢◌, ◌<◌, ◌≤◌, ℕ, List, [], ◌∷◌, All, AllPairs, Option, Some, None, length, map, refl, sym, subst, arith, ap, ◌∙◌, codes, decimal, eqb, ◌++◌}
use Rattle.std.proofs.lemmas.Bool.{false≢true}
use Rattle.std.specs.Str.{bytes_eq}
use Rattle.std.specs.List.{IsDistinct}
use Rattle.std.proofs.lemmas.List.Elements.{All-nil, All-cons, All-from_recursion}
use Rattle.std.proofs.lemmas.List.Kept.{AllPairs-cons}
use Rattle.std.proofs.lemmas.Fmt.{decimal_digit}
use Rattle.std.proofs.lemmas.Bool.Decides.{Decides-eqb}
use Rattle.std.proofs.lemmas.List.{get_or-map, length-map}
use Rattle.std.proofs.lemmas.Map.Made.{AllPairs-from_IsDistinct}
use Rattle.std.proofs.lemmas.Slice.Eq.{bytes_eq-Decides}
use Rattle.itoa.proofs.Decimal.{decimal_two}
use Rattle.fab_model.specs.fab_select.specs.Selection.{firsts}
use Rattle.fab_model.specs.fab_select.proofs.Firsts.{firsts_distinct}
use Rattle.fab_model.specs.Rows.{IsWireRow}
use Rattle.fab_model.specs.fab_bits.specs.Widths.{select_width}
use Rattle.fab_model.specs.Tiles.{bare_tile, counted, matrix_names, tile_bits, IsTile, IsPair}
use Rattle.fab_model.specs.Grid.{PlainFabric}
use Rattle.fab_fabric.specs.Sums.{sum_to}
use Rattle.fab_model.specs.Tables.{HasTable}
use Rattle.fab_fabric.specs.Fabric.{fabric_of, wire_count, IsPlace, IsFabric}
use Rattle.fab_fabric.specs.Examples.{north, tile_of, top, middle, two_types, six_places, pad_rows, pad_bels, pad_pairs, pad_table, pads, lut_rows, lut_bels, lut_pairs, lut_table, lut, three_places}

-- names that are all kept as first ones differ
pub names_differ : (names : List (List ℕ)) → firsts bytes_eq names ≡ names → AllPairs (λ first second. first ≢ second) names
names_differ names same = AllPairs-from_IsDistinct bytes_eq-Decides names (subst (IsDistinct bytes_eq) same (firsts_distinct bytes_eq bytes_eq-Decides names))

pub no_pairs : {X : Type 0} (R : X → X → Type 0) → AllPairs R []
no_pairs R = λ i j d before inside. absurd (omega (arith, inside))

pub one_of : {X : Type 0} (R : X → X → Type 0) (x : X) → AllPairs R (x ∷ [])
one_of R x = AllPairs-cons R x [] (All-nil (R x)) (no_pairs R)

pub two_of : {X : Type 0} (R : X → X → Type 0) (x y : X) → R x y → AllPairs R (x ∷ y ∷ [])
two_of R x y apart = AllPairs-cons R x (y ∷ []) (All-cons (R x) y [] apart (All-nil (R x))) (one_of R y)

-- ---- the column

north_is_row : (source : Option (List ℕ)) → IsWireRow (north source)
north_is_row None = record { has_wires = omega arith; span_is = (omega arith, omega arith); has_ends = refl }
north_is_row (Some name) = record { has_wires = omega arith; span_is = (omega arith, omega arith); has_ends = refl }

rows_are : (source : Option (List ℕ)) → All IsWireRow (north source ∷ [])
rows_are source = All-cons IsWireRow (north source) [] (north_is_row source) (All-nil IsWireRow)

-- the names of the tile at the top, where the digits of numbers are these
abbrev sixteen_ends : List (List ℕ)
sixteen_ends =
    codes "N4END0" ∷ codes "N4END1" ∷ codes "N4END2" ∷ codes "N4END3" ∷ codes "N4END4" ∷ codes "N4END5" ∷ codes "N4END6" ∷ codes "N4END7"
    ∷ codes "N4END8" ∷ codes "N4END9" ∷ codes "N4END10" ∷ codes "N4END11" ∷ codes "N4END12" ∷ codes "N4END13" ∷ codes "N4END14" ∷ codes "N4END15" ∷ []

abbrev name_of : (text : List ℕ) → List ℕ
name_of text = codes "N4END" ++ text

top_names : matrix_names top ≡ sixteen_ends
unfolding counted
top_names =
    let a : decimal 0 ≡ 48 ∷ [] = decimal_digit 0 (omega arith) in
    let b : decimal 1 ≡ 49 ∷ [] = decimal_digit 1 (omega arith) in
    let c : decimal 2 ≡ 50 ∷ [] = decimal_digit 2 (omega arith) in
    let d : decimal 3 ≡ 51 ∷ [] = decimal_digit 3 (omega arith) in
    let e : decimal 4 ≡ 52 ∷ [] = decimal_digit 4 (omega arith) in
    let f : decimal 5 ≡ 53 ∷ [] = decimal_digit 5 (omega arith) in
    let g : decimal 6 ≡ 54 ∷ [] = decimal_digit 6 (omega arith) in
    let h : decimal 7 ≡ 55 ∷ [] = decimal_digit 7 (omega arith) in
    let i : decimal 8 ≡ 56 ∷ [] = decimal_digit 8 (omega arith) in
    let k : decimal 9 ≡ 57 ∷ [] = decimal_digit 9 (omega arith) in
    let l : decimal 10 ≡ 49 ∷ 48 ∷ [] = decimal_two 10 (omega arith) (omega arith) in
    let m : decimal 11 ≡ 49 ∷ 49 ∷ [] = decimal_two 11 (omega arith) (omega arith) in
    let n : decimal 12 ≡ 49 ∷ 50 ∷ [] = decimal_two 12 (omega arith) (omega arith) in
    let o : decimal 13 ≡ 49 ∷ 51 ∷ [] = decimal_two 13 (omega arith) (omega arith) in
    let p : decimal 14 ≡ 49 ∷ 52 ∷ [] = decimal_two 14 (omega arith) (omega arith) in
    let q : decimal 15 ≡ 49 ∷ 53 ∷ [] = decimal_two 15 (omega arith) (omega arith) in
    λ j. name_of (a j) ∷ name_of (b j) ∷ name_of (c j) ∷ name_of (d j) ∷ name_of (e j) ∷ name_of (f j) ∷ name_of (g j) ∷ name_of (h j)
    ∷ name_of (i j) ∷ name_of (k j) ∷ name_of (l j) ∷ name_of (m j) ∷ name_of (n j) ∷ name_of (o j) ∷ name_of (p j) ∷ name_of (q j) ∷ []

-- the names of the tiles below it
abbrev four_wires : (zero_text one_text two_text three_text : List ℕ) → List (List ℕ)
four_wires zero_text one_text two_text three_text =
    (codes "N4BEG" ++ zero_text) ∷ (codes "N4BEG" ++ one_text) ∷ (codes "N4BEG" ++ two_text) ∷ (codes "N4BEG" ++ three_text)
    ∷ (codes "N4END" ++ zero_text) ∷ (codes "N4END" ++ one_text) ∷ (codes "N4END" ++ two_text) ∷ (codes "N4END" ++ three_text) ∷ []

middle_names : matrix_names middle ≡ four_wires (48 ∷ []) (49 ∷ []) (50 ∷ []) (51 ∷ [])
unfolding counted
middle_names =
    let zero_is : decimal 0 ≡ 48 ∷ [] = decimal_digit 0 (omega arith) in
    let one_is : decimal 1 ≡ 49 ∷ [] = decimal_digit 1 (omega arith) in
    let two_is : decimal 2 ≡ 50 ∷ [] = decimal_digit 2 (omega arith) in
    let three_is : decimal 3 ≡ 51 ∷ [] = decimal_digit 3 (omega arith) in
    λ j. four_wires (zero_is j) (one_is j) (two_is j) (three_is j)

top_few : length (matrix_names top) ≡ 16
unfolding counted
top_few = refl

middle_few : length (matrix_names middle) ≡ 8
unfolding counted
middle_few = refl

pub top_tile : IsTile top
top_tile = record {
  rows = rows_are None;
  apart = subst (AllPairs (λ first second. first ≢ second)) (sym top_names) (names_differ sixteen_ends refl);
  few = omega (arith, top_few);
  pairs = All-nil (IsPair top);
}

pub middle_tile : IsTile middle
middle_tile = record {
  rows = rows_are (Some (codes "N4BEG"));
  apart = subst (AllPairs (λ first second. first ≢ second)) (sym middle_names) (names_differ (four_wires (48 ∷ []) (49 ∷ []) (50 ∷ []) (51 ∷ [])) refl);
  few = omega (arith, middle_few);
  pairs = All-nil (IsPair middle);
}

abbrev six_tiles : PlainFabric
six_tiles = fabric_of two_types 1 six_places

six_tiles_wires : wire_count six_tiles ≡ 56
unfolding sum_to counted
six_tiles_wires = refl

no_table : (name : List ℕ) (source : Option (List ℕ)) → HasTable (tile_of name source)
no_table name source = record { as_many = refl; in_frames = All-nil (λ place. (place.0 < 20) × (place.1 < 32)); apart = no_pairs (λ first second. first ≢ second) }

pub six_tiles_fabric : IsFabric six_tiles
six_tiles_fabric = record {
  some_columns = omega arith;
  few_columns = omega arith;
  some_rows = omega arith;
  few_rows = omega arith;
  places = refl;
  numbers = All-from_recursion (IsPlace two_types) six_places (omega arith, (omega arith, (omega arith, (omega arith, (omega arith, (omega arith, tt))))));
  few_types = omega arith;
  names = two_of (λ first second. first.name ≢ second.name) top middle (λ same. false≢true ((bytes_eq-Decides (codes "TOP") (codes "MID")).1 same));
  few_bels = All-from_recursion (λ tile. length tile.bels ≤ 26) two_types (omega arith, (omega arith, tt));
  tables = All-from_recursion HasTable two_types (no_table (codes "TOP") None, (no_table (codes "MID") (Some (codes "N4BEG")), tt));
  few_wires = omega (arith, six_tiles_wires);
}

-- ---- the tiles with pads and a LUT

numbers_differ : (numbers : List ℕ) → firsts eqb numbers ≡ numbers → AllPairs (λ first second. first ≢ second) numbers
numbers_differ numbers same = AllPairs-from_IsDistinct Decides-eqb numbers (subst (IsDistinct eqb) same (firsts_distinct eqb Decides-eqb numbers))

-- places whose bits differ are apart
places_differ : (table : List (ℕ × ℕ)) → AllPairs (λ first second. first ≢ second) (map (λ place. place.1) table) → AllPairs (λ first second. first ≢ second) table
places_differ table apart = λ i j d before inside same.
    apart i j d.1 before (omega (arith, inside, length-map table (λ (place : ℕ × ℕ). place.1)))
    (get_or-map (λ place. place.1) table i d d.1 (omega (arith, before, inside)) ∙ ap (λ (place : ℕ × ℕ). place.1) same ∙ sym (get_or-map (λ place. place.1) table j d d.1 inside))

abbrev pad_names : (zero_text one_text : List ℕ) → List (List ℕ)
pad_names zero_text one_text =
    (codes "E1BEG" ++ zero_text) ∷ (codes "E1BEG" ++ one_text) ∷ (codes "W1END" ++ zero_text) ∷ (codes "GND" ++ zero_text) ∷ (codes "VCC" ++ zero_text)
    ∷ codes "A_I" ∷ codes "A_T" ∷ codes "A_O" ∷ codes "A_Q" ∷ codes "B_I" ∷ codes "B_T" ∷ codes "B_O" ∷ codes "B_Q" ∷ []

pad_names_are : matrix_names (bare_tile (codes "IO") pad_rows pad_bels) ≡ pad_names (48 ∷ []) (49 ∷ [])
unfolding counted
pad_names_are =
    let zero_is : decimal 0 ≡ 48 ∷ [] = decimal_digit 0 (omega arith) in
    let one_is : decimal 1 ≡ 49 ∷ [] = decimal_digit 1 (omega arith) in
    λ j. pad_names (zero_is j) (one_is j)

abbrev lut_names : (zero_text one_text : List ℕ) → List (List ℕ)
lut_names zero_text one_text =
    (codes "E1END" ++ zero_text) ∷ (codes "E1END" ++ one_text) ∷ (codes "W1BEG" ++ zero_text) ∷ (codes "J_BEG" ++ zero_text)
    ∷ (codes "J_END" ++ zero_text) ∷ (codes "GND" ++ zero_text) ∷ (codes "VCC" ++ zero_text)
    ∷ codes "LA_I0" ∷ codes "LA_I1" ∷ codes "LA_I2" ∷ codes "LA_I3" ∷ codes "LA_Ci" ∷ codes "LA_SR" ∷ codes "LA_EN" ∷ codes "LA_O" ∷ codes "LA_Co" ∷ []

lut_names_are : matrix_names (bare_tile (codes "LOG") lut_rows lut_bels) ≡ lut_names (48 ∷ []) (49 ∷ [])
unfolding counted
lut_names_are =
    let zero_is : decimal 0 ≡ 48 ∷ [] = decimal_digit 0 (omega arith) in
    let one_is : decimal 1 ≡ 49 ∷ [] = decimal_digit 1 (omega arith) in
    λ j. lut_names (zero_is j) (one_is j)

pad_few : length (matrix_names (bare_tile (codes "IO") pad_rows pad_bels)) ≡ 13
unfolding counted
pad_few = refl

lut_few : length (matrix_names (bare_tile (codes "LOG") lut_rows lut_bels)) ≡ 16
unfolding counted
lut_few = refl

pub pads_tile : IsTile (bare_tile (codes "IO") pad_rows pad_bels)
pads_tile = record {
  rows = All-from_recursion IsWireRow pad_rows (
    record { has_wires = omega arith; span_is = (omega arith, omega arith); has_ends = refl },
    (
      record { has_wires = omega arith; span_is = (omega arith, omega arith); has_ends = refl },
      (record { has_wires = omega arith; span_is = refl; has_ends = refl }, (record { has_wires = omega arith; span_is = refl; has_ends = refl }, tt)),
    ),
  );
  apart = subst (AllPairs (λ first second. first ≢ second)) (sym pad_names_are) (names_differ (pad_names (48 ∷ []) (49 ∷ [])) refl);
  few = omega (arith, pad_few);
  pairs = All-nil (IsPair (bare_tile (codes "IO") pad_rows pad_bels));
}

pub lut_tile : IsTile (bare_tile (codes "LOG") lut_rows lut_bels)
lut_tile = record {
  rows = All-from_recursion IsWireRow lut_rows (
    record { has_wires = omega arith; span_is = (omega arith, omega arith); has_ends = refl },
    (
      record { has_wires = omega arith; span_is = (omega arith, omega arith); has_ends = refl },
      (
        record { has_wires = omega arith; span_is = refl; has_ends = refl },
        (record { has_wires = omega arith; span_is = refl; has_ends = refl }, (record { has_wires = omega arith; span_is = refl; has_ends = refl }, tt)),
      ),
    ),
  );
  apart = subst (AllPairs (λ first second. first ≢ second)) (sym lut_names_are) (names_differ (lut_names (48 ∷ []) (49 ∷ [])) refl);
  few = omega (arith, lut_few);
  pairs = All-nil (IsPair (bare_tile (codes "LOG") lut_rows lut_bels));
}

pub pad_pairs_fit : All (IsPair (bare_tile (codes "IO") pad_rows pad_bels)) pad_pairs
unfolding counted
pad_pairs_fit = All-from_recursion (IsPair (bare_tile (codes "IO") pad_rows pad_bels)) pad_pairs (record { output = refl; input = refl }, (record { output = refl; input = refl }, (record { output = refl; input = refl }, (record { output = refl; input = refl }, (record { output = refl; input = refl }, (record { output = refl; input = refl }, (record { output = refl; input = refl }, (record { output = refl; input = refl }, tt))))))))

pub lut_pairs_fit : All (IsPair (bare_tile (codes "LOG") lut_rows lut_bels)) lut_pairs
unfolding counted
lut_pairs_fit = All-from_recursion (IsPair (bare_tile (codes "LOG") lut_rows lut_bels)) lut_pairs (record { output = refl; input = refl }, (record { output = refl; input = refl }, (record { output = refl; input = refl }, (record { output = refl; input = refl }, (record { output = refl; input = refl }, (record { output = refl; input = refl }, (record { output = refl; input = refl }, (record { output = refl; input = refl }, (record { output = refl; input = refl }, (record { output = refl; input = refl }, (record { output = refl; input = refl }, tt)))))))))))

pad_bits : length pad_table ≡ tile_bits pads
unfolding select_width counted
pad_bits = refl

lut_bits : length lut_table ≡ tile_bits lut
unfolding select_width counted
lut_bits = refl

pads_table : HasTable pads
pads_table = record {
  as_many = pad_bits;
  in_frames = All-from_recursion (λ place. (place.0 < 20) × (place.1 < 32)) pad_table ((omega arith, omega arith), ((omega arith, omega arith), tt));
  apart = places_differ pad_table (numbers_differ (map (λ place. place.1) pad_table) refl);
}

luts_table : HasTable lut
luts_table = record {
  as_many = lut_bits;
  in_frames = All-from_recursion (λ place. (place.0 < 20) × (place.1 < 32)) lut_table ((omega arith, omega arith), ((omega arith, omega arith), ((omega arith, omega arith), ((omega arith, omega arith), ((omega arith, omega arith), ((omega arith, omega arith), ((omega arith, omega arith), ((omega arith, omega arith), ((omega arith, omega arith), ((omega arith, omega arith), ((omega arith, omega arith), ((omega arith, omega arith), ((omega arith, omega arith), ((omega arith, omega arith), ((omega arith, omega arith), ((omega arith, omega arith), ((omega arith, omega arith), ((omega arith, omega arith), ((omega arith, omega arith), ((omega arith, omega arith), ((omega arith, omega arith), tt)))))))))))))))))))));
  apart = places_differ lut_table (numbers_differ (map (λ place. place.1) lut_table) refl);
}

abbrev two_tiles : PlainFabric
two_tiles = fabric_of (pads ∷ lut ∷ []) 3 three_places

two_tiles_wires : wire_count two_tiles ≡ 29
unfolding sum_to counted
two_tiles_wires = refl

pub two_tiles_fabric : IsFabric two_tiles
two_tiles_fabric = record {
  some_columns = omega arith;
  few_columns = omega arith;
  some_rows = omega arith;
  few_rows = omega arith;
  places = refl;
  numbers = All-from_recursion (IsPlace (pads ∷ lut ∷ [])) three_places (omega arith, (omega arith, (tt, tt)));
  few_types = omega arith;
  names = two_of (λ first second. first.name ≢ second.name) pads lut (λ same. false≢true ((bytes_eq-Decides (codes "IO") (codes "LOG")).1 same));
  few_bels = All-from_recursion (λ tile. length tile.bels ≤ 26) (pads ∷ lut ∷ []) (omega arith, (omega arith, tt));
  tables = All-from_recursion HasTable (pads ∷ lut ∷ []) (pads_table, (luts_table, tt));
  few_wires = omega (arith, two_tiles_wires);
}
