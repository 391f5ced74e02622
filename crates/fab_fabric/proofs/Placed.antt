-- The tile at a place, as the grid has it.
use Rattle.std.proofs.Common.{◌≡◌, ℕ, ◌+◌, ◌*◌, ◌/◌, ◌<◌, ◌≤◌, true, false, length, get_or, slice_get, refl, ap, ◌∙◌, arith, Option, Some, None, nat_lt}
use Rattle.std.proofs.lemmas.Bool.Decides.{nat_tests}
use Rattle.std.proofs.lemmas.Nat.{mul-le, div-add-mod'}
use Rattle.std.proofs.lemmas.Option.{slice_get_read}
use Rattle.fab_model.specs.Grid.{PlainFabric, tile_at, numbered_type}

-- the place in the grid
pub in_grid : (x y columns rows : ℕ) → x < columns → y < rows → y * columns + x < columns * rows
in_grid x y columns rows few low =
    let more : (y + 1) * columns ≤ rows * columns = mul-le (y + 1) columns rows columns (omega (arith, low)) (omega arith) in
    omega (arith, few, more)

-- the place column by column
pub in_columns : (x y columns rows : ℕ) → x < columns → y < rows → x * rows + y < columns * rows
in_columns x y columns rows few low =
    let more : (x + 1) * rows ≤ columns * rows = mul-le (x + 1) rows columns rows (omega (arith, few)) (omega arith) in
    omega (arith, low, more)

pub column_of : (place columns rows : ℕ) → place < columns * rows → 0 < rows → place / rows < columns
column_of place columns rows few some =
    let back = div-add-mod' place rows in
    grind (arith, back, mul-le columns rows (place / rows) rows)

-- the tile that the grid has at a place
pub tile_inside : (fabric : PlainFabric) (x y : ℕ) → x < fabric.columns → y < fabric.rows → tile_at fabric x y ≡ numbered_type fabric.types (slice_get fabric.grid (y * fabric.columns + x))
tile_inside fabric x y few low =
    let here : nat_lt x fabric.columns ≡ true = grind (arith, nat_tests) in
    let there : nat_lt y fabric.rows ≡ true = grind (arith, nat_tests) in
    rw (here, there) refl

pub no_tile_past : (fabric : PlainFabric) (x y : ℕ) → fabric.columns ≤ x → tile_at fabric x y ≡ None
no_tile_past fabric x y past =
    let here : nat_lt x fabric.columns ≡ false = grind (arith, nat_tests) in
    rw here refl

pub no_tile_below : (fabric : PlainFabric) (x y : ℕ) → x < fabric.columns → fabric.rows ≤ y → tile_at fabric x y ≡ None
no_tile_below fabric x y few past =
    let here : nat_lt x fabric.columns ≡ true = grind (arith, nat_tests) in
    let there : nat_lt y fabric.rows ≡ false = grind (arith, nat_tests) in
    rw (here, there) refl

-- what the grid has, read by number
pub grid_read : (fabric : PlainFabric) (x y : ℕ) (place : Option ℕ) → x < fabric.columns → y < fabric.rows → length fabric.grid ≡ fabric.columns * fabric.rows →
    place ≡ get_or fabric.grid (y * fabric.columns + x) place → tile_at fabric x y ≡ numbered_type fabric.types (Some place)
grid_read fabric x y place few low places is =
    tile_inside fabric x y few low
    ∙ ap (numbered_type fabric.types) (slice_get_read fabric.grid (length fabric.grid) (y * fabric.columns + x) place refl (omega (arith, places, in_grid x y fabric.columns fabric.rows few low)) is)
