-- The wires of a fabric and their numbers are one to one.
use Rattle.std.proofs.Common.{◌≡◌, ℕ, zero, suc, ◌+◌, ◌*◌, ◌<◌, ◌≤◌, true, false, length, slice_get, refl, sym, ap, ap₂, ◌∙◌, arith, subst, Option, Some, None, inl, inr, nat_lt, List}
use Rattle.std.specs.Option.{option_map_or}
use Rattle.std.proofs.lemmas.Bool.{cases_lt}
use Rattle.std.proofs.lemmas.Bool.Decides.{nat_tests}
use Rattle.std.proofs.lemmas.List.{length-map}
use Rattle.std.proofs.lemmas.Nat.{div-mul-add, mod-mul-add}
use Rattle.std.proofs.lemmas.Option.{same_Some, slice_get_within, slice_get_cases}
use Rattle.fab_model.specs.Tiles.{PlainTile, tile_wires, wire_name, matrix_names}
use Rattle.fab_model.specs.Grid.{PlainFabric, tile_at}
use Rattle.fab_model.specs.Wires.{PlainWire, IsWire, HasWire, plain_wires, wire_number, wire_of}
use Rattle.fab_model.proofs.Wires.{wire_at_number, number_has_wire, plain_wires_are_wires}
use Rattle.fab_fabric.specs.Sums.{sum_to}
use Rattle.fab_fabric.specs.Fabric.{wires_at, column_wires, wire_count}
use Rattle.fab_fabric.specs.Wires.{wire_index, IsIndexOf}
use Rattle.fab_fabric.specs.inner.Index.{place_wires}
use Rattle.fab_fabric.proofs.Summed.{no_sum, sum_more, sum_below, sum_same, sum_split, one_summand, some_summand}

-- ---- places with wires

-- a tile stands within the grid
pub tile_within : (fabric : PlainFabric) (x y : ℕ) (tile : PlainTile) → tile_at fabric x y ≡ Some tile → (x < fabric.columns) × (y < fabric.rows)
tile_within fabric x y tile is =
    elim (cases_lt x fabric.columns) [
      | inl few ↦ elim (cases_lt y fabric.rows) [
        | inl low ↦ (few, low)
        | inr past ↦ (
            let tests : nat_lt y fabric.rows ≡ false = grind (arith, nat_tests) in
            let here : nat_lt x fabric.columns ≡ true = grind (arith, nat_tests) in
            let never : None ≡ Some tile = rw (here, tests) at is in
            cc)
      ]
      | inr past ↦ (
          let tests : nat_lt x fabric.columns ≡ false = grind (arith, nat_tests) in
          let never : None ≡ Some tile = rw tests at is in
          cc)
    ]

-- how many wires the tile at a place has
pub wires_of_tile : (fabric : PlainFabric) (x y : ℕ) (tile : PlainTile) → tile_at fabric x y ≡ Some tile → wires_at fabric x y ≡ length (matrix_names tile)
wires_of_tile fabric x y tile is = ap (λ found. option_map_or (λ tile. length (matrix_names tile)) found 0) is

-- a place with a wire has a tile
tile_of_wires : (found : Option PlainTile) (number : ℕ) → number < option_map_or (λ tile. length (matrix_names tile)) found 0 → (tile : PlainTile) × (found ≡ Some tile)
tile_of_wires None number few = absurd (omega (arith, few))
tile_of_wires (Some tile) number few = (tile, refl)

pub wired_tile : (fabric : PlainFabric) (x y number : ℕ) → number < wires_at fabric x y → (tile : PlainTile) × (tile_at fabric x y ≡ Some tile)
wired_tile fabric x y number few = tile_of_wires (tile_at fabric x y) number few

pub wired_within : (fabric : PlainFabric) (x y number : ℕ) → number < wires_at fabric x y → (x < fabric.columns) × (y < fabric.rows)
wired_within fabric x y number few = let g = wired_tile fabric x y number few in tile_within fabric x y g.0 g.1

-- ---- numbers of places and matrix names

-- in a column
in_column : (fabric : PlainFabric) (x y number : ℕ) → number < wires_at fabric x y → sum_to y (wires_at fabric x) + number < column_wires fabric x
in_column fabric x y number few = omega (arith, few, sum_below (wires_at fabric x) y fabric.rows (wired_within fabric x y number few).1)

pub index_within : (fabric : PlainFabric) (x y number : ℕ) → number < wires_at fabric x y → wire_index fabric x y number < wire_count fabric
index_within fabric x y number few =
    omega (arith, in_column fabric x y number few, sum_below (column_wires fabric) x fabric.columns (wired_within fabric x y number few).0)

pub one_place : (fabric : PlainFabric) (x y number x2 y2 number2 : ℕ) → number < wires_at fabric x y → number2 < wires_at fabric x2 y2 →
    wire_index fabric x y number ≡ wire_index fabric x2 y2 number2 → (x ≡ x2) × (y ≡ y2) × (number ≡ number2)
one_place fabric x y number x2 y2 number2 few few2 same =
    let g = one_summand (column_wires fabric) x x2 (sum_to y (wires_at fabric x) + number) (sum_to y2 (wires_at fabric x2) + number2)
    (in_column fabric x y number few) (in_column fabric x2 y2 number2 few2) (omega (arith, same)) in
    let column : sum_to y2 (wires_at fabric x2) ≡ sum_to y2 (wires_at fabric x) = ap (λ x. sum_to y2 (wires_at fabric x)) (sym g.0) in
    let here : number2 < wires_at fabric x y2 = subst (λ x. number2 < wires_at fabric x y2) (sym g.0) few2 in
    let h = one_summand (wires_at fabric x) y y2 number number2 few here (g.1 ∙ ap (λ n. n + number2) column) in
    (g.0, h.0, h.1)

pub some_place : (fabric : PlainFabric) (index : ℕ) → index < wire_count fabric →
    (x : ℕ) × (y : ℕ) × (number : ℕ) × (number < wires_at fabric x y) × (index ≡ wire_index fabric x y number)
some_place fabric index few =
    let g = some_summand (column_wires fabric) fabric.columns index few in
    let h = some_summand (wires_at fabric g.0) fabric.rows g.1 g.3 in
    (g.0, h.0, h.1, h.3, omega (arith, g.4, h.4))

-- ---- numbers of wires

-- a tile has as many wires as matrix names
pub wires_are_named : (tile : PlainTile) → length (plain_wires tile) ≡ length (matrix_names tile)
wires_are_named tile =
    let some : _ → _ = Some in
    sym (length-map (plain_wires tile) (wire_of tile))
    ∙ ap length (plain_wires_are_wires tile)
    ∙ length-map (tile_wires tile) some
    ∙ sym (length-map (tile_wires tile) wire_name)

-- the number of a wire's matrix name
abbrev pub number_at : PlainFabric → (x y : ℕ) → PlainWire → ℕ
number_at fabric x y plain = option_map_or (λ tile. wire_number tile plain) (tile_at fabric x y) 0

pub number_of_tile : (fabric : PlainFabric) (x y : ℕ) (plain : PlainWire) (tile : PlainTile) → tile_at fabric x y ≡ Some tile → number_at fabric x y plain ≡ wire_number tile plain
number_of_tile fabric x y plain tile is = ap (λ found. option_map_or (λ tile. wire_number tile plain) found 0) is

pub number_within : (fabric : PlainFabric) (x y : ℕ) (plain : PlainWire) → HasWire fabric x y plain → number_at fabric x y plain < wires_at fabric x y
number_within fabric x y plain has =
    let there = slice_get_within (plain_wires has.tile) (wire_number has.tile plain) plain (wire_at_number has.tile plain has.is_wire) in
    omega (arith, there, wires_are_named has.tile, number_of_tile fabric x y plain has.tile has.tile_is, wires_of_tile fabric x y has.tile has.tile_is)

pub wire_within : (fabric : PlainFabric) (index x y : ℕ) (plain : PlainWire) → IsIndexOf fabric index x y plain → index < wire_count fabric
wire_within fabric index x y plain is =
    omega (arith, is.is_index, index_within fabric x y (number_at fabric x y plain) (number_within fabric x y plain is.is_wire))

-- wires of one tile with one number are one
one_of_tile : (tile : PlainTile) (plain plain2 : PlainWire) → IsWire tile plain → IsWire tile plain2 → wire_number tile plain ≡ wire_number tile plain2 → plain ≡ plain2
one_of_tile tile plain plain2 is is2 same =
    same_Some plain plain2 (sym (wire_at_number tile plain is) ∙ ap (slice_get (plain_wires tile)) same ∙ wire_at_number tile plain2 is2)

-- the same at one place
one_at_place : (fabric : PlainFabric) (x y : ℕ) (plain plain2 : PlainWire) → HasWire fabric x y plain → HasWire fabric x y plain2 → number_at fabric x y plain ≡ number_at fabric x y plain2 → plain ≡ plain2
one_at_place fabric x y plain plain2 has has2 same =
    let tile_is : has2.tile ≡ has.tile = same_Some has2.tile has.tile (sym has2.tile_is ∙ has.tile_is) in
    one_of_tile has.tile plain plain2 has.is_wire (subst (λ tile. IsWire tile plain2) tile_is has2.is_wire)
    (sym (number_of_tile fabric x y plain has.tile has.tile_is) ∙ same ∙ number_of_tile fabric x y plain2 has.tile has.tile_is)

pub one_wire : (fabric : PlainFabric) (index x y x2 y2 : ℕ) (plain plain2 : PlainWire) → IsIndexOf fabric index x y plain → IsIndexOf fabric index x2 y2 plain2 →
    (x ≡ x2) × (y ≡ y2) × (plain ≡ plain2)
one_wire fabric index x y x2 y2 plain plain2 is is2 =
    let g = one_place fabric x y (number_at fabric x y plain) x2 y2 (number_at fabric x2 y2 plain2) (number_within fabric x y plain is.is_wire) (number_within fabric x2 y2 plain2 is2.is_wire)
    (sym is.is_index ∙ is2.is_index) in
    let back : (x2 ≡ x) × (y2 ≡ y) = (sym g.0, sym g.1) in
    let there : HasWire fabric x y plain2 = subst (λ y. HasWire fabric x y plain2) back.1 (subst (λ x. HasWire fabric x y2 plain2) back.0 is2.is_wire) in
    let number : number_at fabric x2 y2 plain2 ≡ number_at fabric x y plain2 = λ j. number_at fabric (back.0 j) (back.1 j) plain2 in
    (g.0, g.1, one_at_place fabric x y plain plain2 is.is_wire there (g.2 ∙ number))

-- the wire of a matrix name number
pub wire_with_number : (fabric : PlainFabric) (x y number : ℕ) (tile : PlainTile) (plain : PlainWire) → tile_at fabric x y ≡ Some tile → slice_get (plain_wires tile) number ≡ Some plain →
    IsIndexOf fabric (wire_index fabric x y number) x y plain
wire_with_number fabric x y number tile plain is found =
    let g = number_has_wire tile number plain found in
    record {
      is_wire = record { tile = tile; tile_is = is; is_wire = g.0 };
      is_index = ap (wire_index fabric x y) (sym (number_of_tile fabric x y plain tile is ∙ g.1));
    }

pub some_item : {X : Type 0} (xs : List X) (i : ℕ) → i < length xs → (x : X) × (slice_get xs i ≡ Some x)
some_item xs i few =
    elim ((slice_get_cases xs i).1) [
      | inl inside ↦ (inside.0, inside.2)
      | inr past ↦ absurd (omega (arith, few, past.0))
    ]

pub some_wire : (fabric : PlainFabric) (index : ℕ) → index < wire_count fabric → (x : ℕ) × (y : ℕ) × (plain : PlainWire) × IsIndexOf fabric index x y plain
some_wire fabric index few =
    let g = some_place fabric index few in
    let t = wired_tile fabric g.0 g.1 g.2 g.3 in
    let w = some_item (plain_wires t.0) g.2 (omega (arith, g.3, wires_of_tile fabric g.0 g.1 t.0 t.1, wires_are_named t.0)) in
    (g.0, g.1, w.0, subst (λ index. IsIndexOf fabric index g.0 g.1 w.0) (sym g.4) (wire_with_number fabric g.0 g.1 g.2 t.0 w.0 t.1 w.1))

-- ---- places in one row

-- the places of a column
column_places : (fabric : PlainFabric) (x y : ℕ) → y ≤ fabric.rows → sum_to y (λ i. place_wires fabric (x * fabric.rows + i)) ≡ sum_to y (wires_at fabric x)
column_places fabric x y few =
    sum_same y (λ i. place_wires fabric (x * fabric.rows + i)) (wires_at fabric x)
    (λ i l. let low : i < fabric.rows = omega (arith, l, few) in ap₂ (wires_at fabric) (div-mul-add x fabric.rows i low) (mod-mul-add x fabric.rows i low))

columns_before : (fabric : PlainFabric) (x : ℕ) → sum_to (x * fabric.rows) (place_wires fabric) ≡ sum_to x (column_wires fabric)
columns_before fabric zero =
    let none : zero * fabric.rows ≡ 0 = omega arith in
    ap (λ n. sum_to n (place_wires fabric)) none ∙ no_sum (place_wires fabric) ∙ sym (no_sum (column_wires fabric))
columns_before fabric (suc x) =
    let more : suc x * fabric.rows ≡ x * fabric.rows + fabric.rows = omega arith in
    let next : suc x ≡ x + 1 = omega arith in
    ap (λ n. sum_to n (place_wires fabric)) more
    ∙ sum_split (x * fabric.rows) fabric.rows (place_wires fabric)
    ∙ ap₂ (λ a b. a + b) (columns_before fabric x) (column_places fabric x fabric.rows (omega arith))
    ∙ sym (ap (λ n. sum_to n (column_wires fabric)) next ∙ sum_more x (column_wires fabric))

-- the first wire of a place
pub first_of_place : (fabric : PlainFabric) (x y : ℕ) → y ≤ fabric.rows → sum_to (x * fabric.rows + y) (place_wires fabric) ≡ sum_to x (column_wires fabric) + sum_to y (wires_at fabric x)
first_of_place fabric x y few =
    sum_split (x * fabric.rows) y (place_wires fabric) ∙ ap₂ (λ a b. a + b) (columns_before fabric x) (column_places fabric x y few)

pub all_places : (fabric : PlainFabric) → sum_to (fabric.columns * fabric.rows) (place_wires fabric) ≡ wire_count fabric
all_places fabric = columns_before fabric fabric.columns
