-- Walks from row to row.
use Rattle.std.proofs.Common.{◌≡◌, ℕ, zero, suc, ◌+◌, ◌-◌, ◌<◌, ◌≤◌, Bool, true, false, cond, List, length, get_or, take, count_by, slice_get, refl, sym, ap, ap₂, ◌∙◌, arith, subst, Option, Some, None, option_map, option_and_then, nat_eq, nat_lt}
use Rattle.std.specs.Option.{IfSome}
use Rattle.std.proofs.lemmas.Bool.Decides.{nat_tests}
use Rattle.std.proofs.lemmas.Option.{same_Some, slice_get_within, slice_get_read, get_or_from_slice_get}
use Rattle.fab_model.specs.declared.tiles.Dir.{Dir}
use Rattle.fab_model.specs.declared.tiles.WireRow.{WireRow}
use Rattle.fab_model.specs.Rows.{border_bits}
use Rattle.fab_model.specs.Tiles.{PlainTile}
use Rattle.fab_model.specs.Grid.{PlainFabric, tile_at}
use Rattle.fab_model.specs.Joins.{RowPlace, goes, comes}
use Rattle.fab_model.specs.Cascade.{opposite, step, nth_row, PlacedRow, row_of_tile, placed_row, fitting, partner_at, next_row, previous_row, passing_bits, ends_there, walk_to, walk_from}
use Rattle.fab_model.proofs.Steps.{map_gives, then_gives, nth_row_is}
use Rattle.fab_fabric.specs.Wires.{row_place}
use Rattle.fab_fabric.specs.declared.fabric.joins.RowAt.{RowAt}
use Rattle.std.proofs.lemmas.Grind.{get_or_default_zero}
use Rattle.fab_fabric.specs.declared.ends.Side.{Side}
use Rattle.fab_fabric.specs.declared.ends.Side.TheVariants as sides
use Rattle.fab_fabric.specs.declared.ends.Ends.{Ends}
use Rattle.fab_fabric.specs.declared.index.TileIndex.{TileIndex}
use Rattle.fab_fabric.specs.inner.Index.{has_side, HasEnds, HasIndex, ends_of}
use Rattle.fab_fabric.specs.Walks.{place_of, row_at, placed_at, HasRow, FindsRow}

-- ---- rows that stand

abbrev pub placed : RowPlace → PlainTile → WireRow → PlacedRow
placed place tile row = record { place = place; tile = tile; row = row }

-- a row that stands, and what it stands in
pub record Standing (fabric : PlainFabric) (at : RowAt) : Type 0 where
  pub tile : PlainTile
  pub row : WireRow
  pub tile_is : tile_at fabric at.x at.y ≡ Some tile
  pub row_is : slice_get tile.rows at.row ≡ Some row
  pub placed_is : placed_row fabric (place_of at) ≡ Some (placed (place_of at) tile row)

pub standing : (fabric : PlainFabric) (at : RowAt) → HasRow fabric at → Standing fabric at
standing fabric at has =
    let t = then_gives (row_of_tile (place_of at)) (tile_at fabric at.x at.y) has.placed has.stands in
    let r = map_gives (placed (place_of at) t.0) (slice_get t.0.rows at.row) has.placed t.2 in
    record { tile = t.0; row = r.0; tile_is = t.1; row_is = r.1; placed_is = has.stands ∙ ap Some (sym r.2) }

pub stand : (fabric : PlainFabric) (at : RowAt) (tile : PlainTile) (row : WireRow) → tile_at fabric at.x at.y ≡ Some tile → slice_get tile.rows at.row ≡ Some row → placed_row fabric (place_of at) ≡ Some (placed (place_of at) tile row)
stand fabric at tile row tile_is row_is = ap (option_and_then (row_of_tile (place_of at))) tile_is ∙ ap (option_map (placed (place_of at) tile)) row_is

-- the tile has the row
pub row_inside : (fabric : PlainFabric) (at : RowAt) (tile : PlainTile) → HasRow fabric at → tile_at fabric at.x at.y ≡ Some tile → at.row < length tile.rows
row_inside fabric at tile has is =
    let s = standing fabric at has in
    let same : s.tile ≡ tile = same_Some s.tile tile (sym s.tile_is ∙ is) in
    subst (λ (t : PlainTile). at.row < length t.rows) same (slice_get_within s.tile.rows at.row s.row s.row_is)

-- a place without a tile has no row
pub no_row : (fabric : PlainFabric) (at : RowAt) → HasRow fabric at → tile_at fabric at.x at.y ≡ None → ⊥
no_row fabric at has none = let s = standing fabric at has in let is = s.tile_is in let never : None ≡ Some s.tile = sym none ∙ is in cc

pub row_is_at : (fabric : PlainFabric) (at : RowAt) (tile : PlainTile) (row : WireRow) → HasRow fabric at → tile_at fabric at.x at.y ≡ Some tile → row ≡ get_or tile.rows at.row row →
    row_at fabric at ≡ Some row
row_is_at fabric at tile row has is read =
    ap (option_map (λ placed. placed.row)) (stand fabric at tile row is (slice_get_read tile.rows (length tile.rows) at.row row refl (row_inside fabric at tile has is) read))

-- a row that stands, as it is read
pub standing_row : (fabric : PlainFabric) (at : RowAt) (row : WireRow) → row_at fabric at ≡ Some row → (tile : PlainTile) × (tile_at fabric at.x at.y ≡ Some tile) × (slice_get tile.rows at.row ≡ Some row) × (placed_row fabric (place_of at) ≡ Some (placed (place_of at) tile row))
standing_row fabric at row is =
    let g = map_gives (λ (placed : PlacedRow). placed.row) (placed_row fabric (place_of at)) row is in
    let s = standing fabric at (record { placed = g.0; stands = g.1 }) in
    let same : s.row ≡ row = ap (λ (p : PlacedRow). p.row) (same_Some (placed (place_of at) s.tile s.row) g.0 (sym s.placed_is ∙ g.1)) ∙ g.2 in
    (s.tile, s.tile_is, s.row_is ∙ ap Some same, s.placed_is ∙ ap (λ row. Some (placed (place_of at) s.tile row)) same)

-- ---- partners

-- the row that is sought next door
abbrev pub sought_row : (test : Dir → WireRow → Bool) → PlainFabric → WireRow → (x y number : ℕ) → Option PlacedRow
sought_row test fabric row x y number = option_and_then (λ tile. option_and_then (fitting (border_bits row) x y tile) (nth_row (test row.dir) tile.rows 0 number)) (tile_at fabric x y)

abbrev pub next_of : PlainFabric → RowAt → Option PlacedRow
next_of fabric at = option_and_then (next_row fabric) (placed_row fabric (place_of at))

abbrev pub previous_of : PlainFabric → RowAt → Option PlacedRow
previous_of fabric at = option_and_then (previous_row fabric) (placed_row fabric (place_of at))

pub next_is : (fabric : PlainFabric) (at : RowAt) (tile : PlainTile) (row : WireRow) (x y number : ℕ) → tile_at fabric at.x at.y ≡ Some tile → slice_get tile.rows at.row ≡ Some row →
    step row.dir at.x at.y ≡ Some (x, y) → number ≡ count_by (goes row.dir) (take at.row tile.rows) → next_of fabric at ≡ sought_row comes fabric row x y number
next_is fabric at tile row x y number tile_is row_is steps number_is =
    ap (option_and_then (next_row fabric)) (stand fabric at tile row tile_is row_is)
    ∙ ap (option_and_then (partner_at goes comes fabric (placed (place_of at) tile row))) steps
    ∙ ap (sought_row comes fabric row x y) (sym number_is)

pub previous_is : (fabric : PlainFabric) (at : RowAt) (tile : PlainTile) (row : WireRow) (x y number : ℕ) → tile_at fabric at.x at.y ≡ Some tile → slice_get tile.rows at.row ≡ Some row →
    step (opposite row.dir) at.x at.y ≡ Some (x, y) → number ≡ count_by (comes row.dir) (take at.row tile.rows) → previous_of fabric at ≡ sought_row goes fabric row x y number
previous_is fabric at tile row x y number tile_is row_is steps number_is =
    ap (option_and_then (previous_row fabric)) (stand fabric at tile row tile_is row_is)
    ∙ ap (option_and_then (partner_at comes goes fabric (placed (place_of at) tile row))) steps
    ∙ ap (sought_row goes fabric row x y) (sym number_is)

pub no_next : (fabric : PlainFabric) (at : RowAt) (tile : PlainTile) (row : WireRow) → tile_at fabric at.x at.y ≡ Some tile → slice_get tile.rows at.row ≡ Some row → step row.dir at.x at.y ≡ None → next_of fabric at ≡ None
no_next fabric at tile row tile_is row_is steps =
    ap (option_and_then (next_row fabric)) (stand fabric at tile row tile_is row_is)
    ∙ ap (option_and_then (partner_at goes comes fabric (placed (place_of at) tile row))) steps

pub no_previous : (fabric : PlainFabric) (at : RowAt) (tile : PlainTile) (row : WireRow) → tile_at fabric at.x at.y ≡ Some tile → slice_get tile.rows at.row ≡ Some row → step (opposite row.dir) at.x at.y ≡ None → previous_of fabric at ≡ None
no_previous fabric at tile row tile_is row_is steps =
    ap (option_and_then (previous_row fabric)) (stand fabric at tile row tile_is row_is)
    ∙ ap (option_and_then (partner_at comes goes fabric (placed (place_of at) tile row))) steps

abbrev pub row_spot : (x y row : ℕ) → RowAt
row_spot x y row = record { x = x; y = y; row = row }

-- the row of a number among those that pass a test
nth_at : (test : WireRow → Bool) (rows : List WireRow) (number found : ℕ) → option_map (λ pair. pair.0) (nth_row test rows 0 number) ≡ Some found →
    (row : WireRow) × (nth_row test rows 0 number ≡ Some (found, row)) × (slice_get rows found ≡ Some row)
nth_at test rows number found is =
    let g = map_gives (λ (pair : ℕ × WireRow). pair.0) (nth_row test rows 0 number) found is in
    let n = nth_row_is test rows 0 number g.0 g.1 in
    let there : n.0 ≡ found = omega (arith, n.1, g.2) in
    (g.0.1, g.1 ∙ ap (λ k. Some (k, g.0.1)) g.2, sym (ap (slice_get rows) there) ∙ n.2.0)

pub nth_within : (test : WireRow → Bool) (rows : List WireRow) (number found : ℕ) → option_map (λ pair. pair.0) (nth_row test rows 0 number) ≡ Some found → found < length rows
nth_within test rows number found is = let n = nth_at test rows number found is in slice_get_within rows found n.0 n.2

-- what fits is found
pub fits : (fabric : PlainFabric) (test : Dir → WireRow → Bool) (own row : WireRow) (x y number found : ℕ) (tile : PlainTile) → tile_at fabric x y ≡ Some tile →
    option_map (λ pair. pair.0) (nth_row (test own.dir) tile.rows 0 number) ≡ Some found → row ≡ get_or tile.rows found row → border_bits row ≡ border_bits own →
    FindsRow fabric (Some (row_spot x y found)) (sought_row test fabric own x y number)
fits fabric test own row x y number found tile tile_is nth read same =
    let n = nth_at (test own.dir) tile.rows number found nth in
    let row_is : row ≡ n.0 = read ∙ get_or_from_slice_get tile.rows found n.0 row n.2 in
    let stands = stand fabric (row_spot x y found) tile n.0 tile_is n.2 in
    let equal : nat_eq (border_bits n.0) (border_bits own) ≡ true = (let e : border_bits n.0 ≡ border_bits own = sym (ap border_bits row_is) ∙ same in grind (arith, nat_tests)) in (
      record { placed = placed (row_place x y found) tile n.0; stands = stands },
      ap (option_and_then (λ tile. option_and_then (fitting (border_bits own) x y tile) (nth_row (test own.dir) tile.rows 0 number))) tile_is
          ∙ ap (option_and_then (fitting (border_bits own) x y tile)) n.1
          ∙ ap (λ b. cond b (Some (placed (row_place x y found) tile n.0)) None) equal
          ∙ sym stands,
    )

pub no_tile_sought : (fabric : PlainFabric) (test : Dir → WireRow → Bool) (own : WireRow) (x y number : ℕ) → tile_at fabric x y ≡ None → sought_row test fabric own x y number ≡ None
no_tile_sought fabric test own x y number none = ap (option_and_then (λ tile. option_and_then (fitting (border_bits own) x y tile) (nth_row (test own.dir) tile.rows 0 number))) none

pub no_row_sought : (fabric : PlainFabric) (test : Dir → WireRow → Bool) (own : WireRow) (x y number : ℕ) (tile : PlainTile) → tile_at fabric x y ≡ Some tile →
    nth_row (test own.dir) tile.rows 0 number ≡ None → sought_row test fabric own x y number ≡ None
no_row_sought fabric test own x y number tile tile_is none =
    ap (option_and_then (λ tile. option_and_then (fitting (border_bits own) x y tile) (nth_row (test own.dir) tile.rows 0 number))) tile_is
    ∙ ap (option_and_then (fitting (border_bits own) x y tile)) none

pub none_mapped : {A B : Type 0} (f : A → B) (from : Option A) → option_map f from ≡ None → from ≡ None
none_mapped f None h = refl
none_mapped f (Some a) h = cc

pub misfits : (fabric : PlainFabric) (test : Dir → WireRow → Bool) (own row : WireRow) (x y number found : ℕ) (tile : PlainTile) → tile_at fabric x y ≡ Some tile →
    option_map (λ pair. pair.0) (nth_row (test own.dir) tile.rows 0 number) ≡ Some found → row ≡ get_or tile.rows found row → (border_bits row ≡ border_bits own → ⊥) →
    sought_row test fabric own x y number ≡ None
misfits fabric test own row x y number found tile tile_is nth read differ =
    let n = nth_at (test own.dir) tile.rows number found nth in
    let row_is : row ≡ n.0 = read ∙ get_or_from_slice_get tile.rows found n.0 row n.2 in
    let apart : border_bits n.0 ≡ border_bits own → ⊥ = λ e. differ (ap border_bits row_is ∙ e) in
    let unequal : nat_eq (border_bits n.0) (border_bits own) ≡ false = grind (arith, nat_tests) in
    ap (option_and_then (λ tile. option_and_then (fitting (border_bits own) x y tile) (nth_row (test own.dir) tile.rows 0 number))) tile_is
    ∙ ap (option_and_then (fitting (border_bits own) x y tile)) n.1
    ∙ ap (λ b. cond b (Some (placed (row_place x y found) tile n.0)) None) unequal

-- ---- walks

pub ends_here : (fabric : PlainFabric) (borders i : ℕ) (at : RowAt) (row : WireRow) (bit : ℕ) → i < borders → row_at fabric at ≡ Some row → ends_there row bit ≡ true →
    walk_to fabric (borders - i) (placed_row fabric (place_of at)) bit ≡ Some (place_of at, bit)
ends_here fabric borders i at row bit few is ends =
    let s = standing_row fabric at row is in
    let more : borders - i ≡ suc (borders - (i + 1)) = omega (arith, few) in
    ap₂ (λ n p. walk_to fabric n p bit) more s.3
    ∙ ap (λ b. cond b (Some (place_of at, bit)) (walk_to fabric (borders - (i + 1)) (next_row fabric (placed (place_of at) s.0 row)) (bit - row.count))) ends

pub goes_on : (fabric : PlainFabric) (borders i : ℕ) (at : RowAt) (row : WireRow) (bit : ℕ) (found : Option PlacedRow) → i < borders → row_at fabric at ≡ Some row → ends_there row bit ≡ false →
    next_of fabric at ≡ found → walk_to fabric (borders - i) (placed_row fabric (place_of at)) bit ≡ walk_to fabric (borders - (i + 1)) found (bit - row.count)
goes_on fabric borders i at row bit found few is ends next =
    let s = standing_row fabric at row is in
    let more : borders - i ≡ suc (borders - (i + 1)) = omega (arith, few) in
    ap₂ (λ n p. walk_to fabric n p bit) more s.3
    ∙ ap (λ b. cond b (Some (place_of at, bit)) (walk_to fabric (borders - (i + 1)) (next_row fabric (placed (place_of at) s.0 row)) (bit - row.count))) ends
    ∙ ap (λ p. walk_to fabric (borders - (i + 1)) p (bit - row.count)) (sym (ap (option_and_then (next_row fabric)) s.3) ∙ next)

pub begins_here : (fabric : PlainFabric) (borders i : ℕ) (at : RowAt) (row : WireRow) (bit : ℕ) → i < borders → row_at fabric at ≡ Some row → passing_bits row ≤ bit →
    walk_from fabric (borders - i) (placed_row fabric (place_of at)) bit ≡ Some (place_of at, bit - passing_bits row)
begins_here fabric borders i at row bit few is begins =
    let s = standing_row fabric at row is in
    let more : borders - i ≡ suc (borders - (i + 1)) = omega (arith, few) in
    let tests : nat_lt bit (passing_bits row) ≡ false = grind (arith, nat_tests) in
    ap₂ (λ n p. walk_from fabric n p bit) more s.3
    ∙ ap (λ b. cond b (walk_from fabric (borders - (i + 1)) (previous_row fabric (placed (place_of at) s.0 row)) (bit + row.count)) (Some (place_of at, bit - passing_bits row))) tests

pub comes_from_further : (fabric : PlainFabric) (borders i : ℕ) (at : RowAt) (row : WireRow) (bit : ℕ) (found : Option PlacedRow) → i < borders → row_at fabric at ≡ Some row → bit < passing_bits row →
    previous_of fabric at ≡ found → walk_from fabric (borders - i) (placed_row fabric (place_of at)) bit ≡ walk_from fabric (borders - (i + 1)) found (bit + row.count)
comes_from_further fabric borders i at row bit found few is passes previous =
    let s = standing_row fabric at row is in
    let more : borders - i ≡ suc (borders - (i + 1)) = omega (arith, few) in
    let tests : nat_lt bit (passing_bits row) ≡ true = grind (arith, nat_tests) in
    ap₂ (λ n p. walk_from fabric n p bit) more s.3
    ∙ ap (λ b. cond b (walk_from fabric (borders - (i + 1)) (previous_row fabric (placed (place_of at) s.0 row)) (bit + row.count)) (Some (place_of at, bit - passing_bits row))) tests
    ∙ ap (λ p. walk_from fabric (borders - (i + 1)) p (bit + row.count)) (sym (ap (option_and_then (previous_row fabric)) s.3) ∙ previous)

-- no border is left, or no row is found
pub walk_to_ends : (fabric : PlainFabric) (borders i : ℕ) (found : Option PlacedRow) (bit : ℕ) → borders ≤ i → walk_to fabric (borders - i) found bit ≡ None
walk_to_ends fabric borders i None bit past = refl
walk_to_ends fabric borders i (Some p) bit past = let none : borders - i ≡ zero = omega (arith, past) in ap (λ n. walk_to fabric n (Some p) bit) none

pub walk_from_ends : (fabric : PlainFabric) (borders i : ℕ) (found : Option PlacedRow) (bit : ℕ) → borders ≤ i → walk_from fabric (borders - i) found bit ≡ None
walk_from_ends fabric borders i None bit past = refl
walk_from_ends fabric borders i (Some p) bit past = let none : borders - i ≡ zero = omega (arith, past) in ap (λ n. walk_from fabric n (Some p) bit) none

-- ---- what is kept of rows

pub kept_ends : (tile : PlainTile) (index : TileIndex) (side : Side) (dir : Dir) → HasIndex tile index → HasEnds (has_side side dir) tile.rows (ends_of index side dir)
kept_ends tile index sides.Source dir kept = kept.sources dir
kept_ends tile index sides.Dest dir kept = kept.dests dir

-- the row of a number, as it is read
pub ends_read : (tile : PlainTile) (index : TileIndex) (side : Side) (dir : Dir) (ends : Ends) (rows : List ℕ) (number found : ℕ) → HasIndex tile index → ends ≡ ends_of index side dir → rows ≡ ends.rows.items →
    number < length rows → found ≡ get_or rows number found → option_map (λ pair. pair.0) (nth_row (has_side side dir) tile.rows 0 number) ≡ Some found
ends_read tile index side dir ends rows number found kept ends_are rows_are few read =
    sym ((kept_ends tile index side dir kept).numbers number)
    ∙ ap (λ (e : Ends). slice_get e.rows.items number) (sym ends_are)
    ∙ ap (λ xs. slice_get xs number) (sym rows_are)
    ∙ slice_get_read rows (length rows) number found refl few read

-- how many rows stand before a row, as it is read
pub before_read : (tile : PlainTile) (index : TileIndex) (side : Side) (dir : Dir) (ends : Ends) (row number : ℕ) → HasIndex tile index → ends ≡ ends_of index side dir → row < length tile.rows →
    number ≡ get_or ends.before.items row number → number ≡ count_by (has_side side dir) (take row tile.rows)
before_read tile index side dir ends row number kept ends_are few read =
    let has = kept_ends tile index side dir kept in
    let inside : row < length (ends_of index side dir).before.items = omega (arith, few, has.as_many) in
    read
    ∙ ap (λ (e : Ends). get_or e.before.items row number) ends_are
    ∙ get_or_default_zero (ends_of index side dir).before.items row number inside
    ∙ has.before row few

pub before_inside : (tile : PlainTile) (index : TileIndex) (side : Side) (dir : Dir) (ends : Ends) (row : ℕ) → HasIndex tile index → ends ≡ ends_of index side dir → row < length tile.rows → row < length ends.before.items
before_inside tile index side dir ends row kept ends_are few =
    let has = kept_ends tile index side dir kept in
    omega (arith, few, has.as_many, ap (λ (e : Ends). length e.before.items) ends_are)

-- ---- the loop of a walk

pub start_stands : (fabric : PlainFabric) (from : Option RowAt) (here : RowAt) → from ≡ Some here → IfSome from (HasRow fabric) → HasRow fabric here
start_stands fabric from here is stands = subst (λ (found : Option RowAt). IfSome found (HasRow fabric)) is stands

pub start_to : (fabric : PlainFabric) (from : Option RowAt) (here : RowAt) (borders bit : ℕ) → from ≡ Some here →
    walk_to fabric (borders - 0) (placed_row fabric (place_of here)) bit ≡ walk_to fabric borders (placed_at fabric from) bit
start_to fabric from here borders bit is =
    let all : borders - 0 ≡ borders = omega arith in
    ap₂ (λ n found. walk_to fabric n (placed_at fabric found) bit) all (sym is)

pub start_from : (fabric : PlainFabric) (from : Option RowAt) (here : RowAt) (borders bit : ℕ) → from ≡ Some here →
    walk_from fabric (borders - 0) (placed_row fabric (place_of here)) bit ≡ walk_from fabric borders (placed_at fabric from) bit
start_from fabric from here borders bit is =
    let all : borders - 0 ≡ borders = omega arith in
    ap₂ (λ n found. walk_from fabric n (placed_at fabric found) bit) all (sym is)

-- the row that a step finds stands, and is the one that is sought
pub step_found : (fabric : PlainFabric) (found : Option RowAt) (here : RowAt) (sought : Option PlacedRow) → FindsRow fabric found sought → found ≡ Some here → HasRow fabric here × (sought ≡ placed_row fabric (place_of here))
step_found fabric found here sought finds is = subst (λ (found : Option RowAt). FindsRow fabric found sought) is finds

pub step_sought : (fabric : PlainFabric) (found : Option RowAt) (sought : Option PlacedRow) → FindsRow fabric found sought → found ≡ None → sought ≡ None
step_sought fabric found sought finds is = subst (λ (found : Option RowAt). FindsRow fabric found sought) is finds

pub past_to : (fabric : PlainFabric) (n bit : ℕ) → walk_to fabric n None bit ≡ None
past_to fabric n bit = refl

pub past_from : (fabric : PlainFabric) (n bit : ℕ) → walk_from fabric n None bit ≡ None
past_from fabric n bit = refl
