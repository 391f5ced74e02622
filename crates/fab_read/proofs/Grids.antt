-- The places of a grid, and what a fabric needs of them.
use Rattle.std.proofs.Common.{◌≡◌, ◌≢◌, ◌≤◌, ◌<◌, ◌+◌, ◌*◌, ◌/◌, ℕ, zero, suc, Bool, true, false, List, [], ◌∷◌, Option, Some, None, All, AllPairs, length, map, get_or, cond, refl, sym, ap, ◌∙◌, subst, inl, inr, arith, nat_lt}
use Rattle.std.specs.Prelude.{position}
use Rattle.std.specs.List.{position_or_len}
use Rattle.std.specs.Str.{bytes_eq}
use Rattle.std.proofs.lemmas.Bool.{cases_Bool}
use Rattle.std.proofs.lemmas.Bool.Decides.{Decides-ltb}
use Rattle.std.proofs.lemmas.List.{length-append, length-map}
use Rattle.std.proofs.lemmas.Nat.{div-mul-add}
use Rattle.std.proofs.lemmas.List.Elements.{All-nil, All-cons, All-head, All-tail, All-append}
use Rattle.fab_model.specs.Tables.{HasTable}
use Rattle.fab_model.specs.Tiles.{PlainTile}
use Rattle.fab_blocks.specs.Cells.{is_null}
use Rattle.fab_blocks.specs.declared.standing.OpenBlock.{OpenBlock}
use Rattle.fab_blocks.specs.declared.standing.OpenBlock.TheVariants as blocks
use Rattle.fab_blocks.specs.declared.standing.Parameters.{Parameters}
use Rattle.fab_blocks.specs.Reading.{PlainReading, PlainGridLine, IsGrid, IsReading, HasLines, place_in, is_inside}
use Rattle.fab_fabric.specs.Fabric.{fabric_of, wire_count, IsPlace, IsFabric}
use Rattle.fab_read.specs.Fabrics.{type_number, column_count, places}

-- ---- numbers of types

position_below : {X : Type 0} (test : X → Bool) (xs : List X) (number : ℕ) → position test xs ≡ Some number → number < length xs
position_below test xs number is = by_test (nat_lt (position_or_len test xs) (length xs)) refl is
  where
    some_is : {a b : ℕ} → Some a ≡ Some b → a ≡ b
    some_is same = cc

    by_test : (less : Bool) → nat_lt (position_or_len test xs) (length xs) ≡ less → cond less (Some (position_or_len test xs)) None ≡ Some number → number < length xs
    by_test true t same = subst (λ (n : ℕ). n < length xs) (some_is same) ((Decides-ltb (position_or_len test xs) (length xs)).0 t)
    by_test false f same = absurd cc

place_is : (types : List PlainTile) (found : Option ℕ) → ((number : ℕ) → found ≡ Some number → number < length types) → IsPlace types found
place_is types None below = tt
place_is types (Some number) below = below number refl

type_is_place : (types : List PlainTile) (cell : List ℕ) → IsPlace types (type_number types cell)
type_is_place types cell =
    elim (cases_Bool (is_null cell)) [
      | inl t ↦ rw t tt
      | inr f ↦ rw f (place_is types (position (λ tile. bytes_eq cell tile.name) types) (λ number is. position_below (λ (tile : PlainTile). bytes_eq cell tile.name) types number is))
    ]

cells_are_places : (types : List PlainTile) (cells : List (List ℕ)) → All (IsPlace types) (map (type_number types) cells)
cells_are_places types [] = All-nil (IsPlace types)
cells_are_places types (cell ∷ cells) = All-cons (IsPlace types) (type_number types cell) (map (type_number types) cells) (type_is_place types cell) (cells_are_places types cells)

all_places : (types : List PlainTile) (lines : List PlainGridLine) → All (IsPlace types) (places types lines)
all_places types [] = All-nil (IsPlace types)
all_places types (line ∷ lines) = All-append (IsPlace types) (map (type_number types) line.cells) (places types lines) (cells_are_places types line.cells) (all_places types lines)

-- ---- how many places

abbrev HasColumns : ℕ → PlainGridLine → Type 0
HasColumns columns line = length line.cells ≡ columns

count_places : (types : List PlainTile) (columns : ℕ) (lines : List PlainGridLine) → All (HasColumns columns) lines → length (places types lines) ≡ columns * length lines
count_places types columns [] all = omega arith
count_places types columns (line ∷ lines) all =
    let rest = count_places types columns lines (All-tail (HasColumns columns) line lines all) in
    let here : length line.cells ≡ columns = All-head (HasColumns columns) line lines all in
    let both = length-append (map (type_number types) line.cells) (places types lines) in
    let cells = length-map line.cells (type_number types) in
    let more : columns * suc (length lines) ≡ columns * length lines + columns = mul_suc columns (length lines) in
    omega (arith, rest, here, both, cells, more)
  where
    mul_suc : (a b : ℕ) → a * suc b ≡ a * b + a
    mul_suc a b = omega arith

alike : (lines : List PlainGridLine) → IsGrid lines → All (HasColumns (column_count lines)) lines
alike [] grid = All-nil (HasColumns 0)
alike (first ∷ lines) grid = λ k d below. by_place k d below
  where
    by_place : (k : ℕ) (d : PlainGridLine) → k < length (first ∷ lines) → length (get_or (first ∷ lines) k d).cells ≡ length first.cells
    by_place zero d below = refl
    by_place (suc k) d below = sym (grid.alike zero (suc k) d (omega arith) below)

-- a grid that has ended has lines
lines_there : (begun : OpenBlock) (parameters : Parameters) (lines : List PlainGridLine) → is_inside (place_in begun parameters true) ≡ false → HasLines begun lines → 1 ≤ length lines
lines_there blocks.Grid parameters lines closed has = absurd cc
lines_there (blocks.Tile block) parameters lines closed has = has
lines_there blocks.Outside parameters lines closed has = has

pub some_lines : (reading : PlainReading) (lines : List PlainGridLine) → IsReading reading → is_inside (place_in reading.begun reading.parameters true) ≡ false → reading.grid ≡ Some lines → 1 ≤ length lines
some_lines reading lines sound closed is = lines_there reading.begun reading.parameters lines closed (sound.lines lines is)

-- ---- a fabric

columns_within : (lines : List PlainGridLine) → 1 ≤ length lines → IsGrid lines → (1 ≤ column_count lines) × (column_count lines ≤ 32)
columns_within [] some grid = absurd (omega arith)
columns_within (first ∷ lines) some grid = (All-head (λ (line : PlainGridLine). 1 ≤ length line.cells) first lines grid.some_columns, All-head (λ (line : PlainGridLine). length line.cells ≤ 32) first lines grid.few_columns)

pub rows_are : (types : List PlainTile) (lines : List PlainGridLine) (columns : ℕ) (grid : List (Option ℕ)) → columns ≡ column_count lines → grid ≡ places types lines → 1 ≤ length lines → IsGrid lines
    → (length grid ≡ columns * length lines) × (length grid / columns ≡ length lines)
rows_are types lines columns grid columns_is grid_is some lines_are =
    let many : length grid ≡ columns * length lines = ap length grid_is ∙ count_places types (column_count lines) lines (alike lines lines_are) ∙ ap (λ n. n * length lines) (sym columns_is) in
    let within = columns_within lines some lines_are in
    let turned : length grid ≡ length lines * columns + 0 = omega (arith, many) in
    (many, ap (λ n. n / columns) turned ∙ div-mul-add (length lines) columns 0 (omega (arith, within.0, columns_is)))

pub is_fabric : (types : List PlainTile) (lines : List PlainGridLine) (columns : ℕ) (grid : List (Option ℕ)) → columns ≡ column_count lines → grid ≡ places types lines → 1 ≤ length lines → IsGrid lines
    → AllPairs (λ first second. first.name ≢ second.name) types → length types ≤ 64 → All (λ tile. length tile.bels ≤ 26) types → All HasTable types → wire_count (fabric_of types columns grid) ≤ 1048576
    → IsFabric (fabric_of types columns grid)
is_fabric types lines columns grid columns_is grid_is some lines_are names few_types few_bels tables few_wires =
    let within = columns_within lines some lines_are in
    let rows = rows_are types lines columns grid columns_is grid_is some lines_are in
    record {
      some_columns = omega (arith, within.0, columns_is);
      few_columns = omega (arith, within.1, columns_is);
      some_rows = omega (arith, rows.1, some);
      few_rows = omega (arith, rows.1, lines_are.few_rows);
      places = rows.0 ∙ ap (λ n. columns * n) (sym rows.1);
      numbers = subst (All (IsPlace types)) (sym grid_is) (all_places types lines);
      few_types = few_types;
      names = names;
      few_bels = few_bels;
      tables = tables;
      few_wires = few_wires;
    }

-- what was read of all files is a fabric, where it has a grid that has ended and few enough wires
pub reading_is_fabric : (reading : PlainReading) (types : List PlainTile) (lines : List PlainGridLine) (columns : ℕ) (grid : List (Option ℕ)) (wires : ℕ) → types ≡ reading.types → reading.grid ≡ Some lines → IsReading reading → 1 ≤ length lines
    → All HasTable reading.types → columns ≡ column_count lines → grid ≡ places types lines → wires ≡ wire_count (fabric_of types columns grid) → wires ≤ 1048576 → IsFabric (fabric_of types columns grid)
reading_is_fabric reading types lines columns grid wires types_are grid_of sound some tables columns_is grid_is wires_are few =
    is_fabric types lines columns grid columns_is grid_is some (sound.grid lines grid_of)
    (subst (AllPairs (λ (first second : PlainTile). first.name ≢ second.name)) (sym types_are) sound.names)
    (omega (arith, sound.few_types, ap length types_are))
    (subst (All (λ (tile : PlainTile). length tile.bels ≤ 26)) (sym types_are) sound.few_bels)
    (subst (All HasTable) (sym types_are) tables)
    (omega (arith, wires_are, few))
