-- Joins of wires by number.
use Rattle.std.proofs.Common.{◌≡◌, ◌↔◌, ℕ, ◌+◌, ◌^◌, ◌<◌, Bool, true, false, ◌&&◌, cond, length, get_or, slice_get, refl, sym, ap, ap₂, ◌∙◌, arith, subst, Option, Some, None, option_map, option_and_then, inl, inr}
use Rattle.std.specs.Option.{option_map_or, IfSome}
use Rattle.std.proofs.lemmas.Bool.{cases_Bool}
use Rattle.std.proofs.lemmas.Option.{same_Some, slice_get_read, slice_get_within}
use Rattle.std.proofs.lemmas.Grind.{get_or_default_zero}
use Rattle.fab_model.specs.declared.tiles.WireRow.{WireRow}
use Rattle.fab_model.specs.Rows.{is_jump, is_named, border_bits, source_bits, dest_bits}
use Rattle.fab_model.specs.Tiles.{PlainTile, IsTile}
use Rattle.fab_model.specs.Grid.{PlainFabric, tile_at, AreRows}
use Rattle.fab_model.specs.Joins.{RowPlace, Stands}
use Rattle.fab_model.specs.Cascade.{PlacedRow, next_row, previous_row, other_side, passing_bits, walk_to, walk_from, row_join_to, row_join_from, join_to, join_from, IsSourceBit, IsDestBit}
use Rattle.fab_model.specs.Wires.{PlainWire, source_of, dest_of, pin_of, HasWire, IsWire, sources_at, wires_before_row}
use Rattle.fab_model.proofs.Walks.{side_bits_is, side_has_name}
use Rattle.fab_model.proofs.Found.{join_to_joins, join_from_joins, joins_source, joins_dest}
use Rattle.fab_fabric.specs.Fabric.{AreTiles}
use Rattle.fab_fabric.specs.Wires.{IsIndexOf, wire_join_to, wire_join_from}
use Rattle.fab_fabric.specs.declared.index.TileWire.{TileWire}
use Rattle.fab_fabric.specs.declared.index.TileWire.TheVariants as wires
use Rattle.fab_fabric.specs.declared.fabric.joins.RowAt.{RowAt}
use Rattle.fab_fabric.specs.declared.index.TileIndex.{TileIndex}
use Rattle.fab_fabric.specs.inner.Index.{HasIndex, plain_wire}
use Rattle.fab_fabric.specs.Walks.{place_of, found_bit, placed_at, row_at, HasRow, FindsRow, both_sides}
use Rattle.fab_fabric.proofs.Numbered.{number_at, number_of_tile, number_within, wires_of_tile, one_wire}
use Rattle.fab_fabric.proofs.Stepped.{placed, stand, standing_row, row_spot, next_of, previous_of}

pub are_rows : (fabric : PlainFabric) → AreTiles fabric → AreRows fabric
are_rows fabric tiles k d few = (tiles k d few).rows

-- ---- wires of rows

-- a row with a bit is there
row_of_bit : (bits : WireRow → ℕ) (found : Option WireRow) (bit : ℕ) → bit < option_map_or bits found 0 → (row : WireRow) × (found ≡ Some row) × (bit < bits row)
row_of_bit bits None bit few = absurd (omega (arith, few))
row_of_bit bits (Some row) bit few = (row, refl, few)

pub source_stands : (fabric : PlainFabric) (at : RowAt) (bit : ℕ) → HasWire fabric at.x at.y (source_of at.row bit) → HasRow fabric at
source_stands fabric at bit has =
    let r = row_of_bit source_bits (slice_get has.tile.rows at.row) bit has.is_wire in
    record { placed = placed (place_of at) has.tile r.0; stands = stand fabric at has.tile r.0 has.tile_is r.1 }

pub dest_stands : (fabric : PlainFabric) (at : RowAt) (bit : ℕ) → HasWire fabric at.x at.y (dest_of at.row bit) → HasRow fabric at
dest_stands fabric at bit has =
    let r = row_of_bit dest_bits (slice_get has.tile.rows at.row) bit has.is_wire in
    record { placed = placed (place_of at) has.tile r.0; stands = stand fabric at has.tile r.0 has.tile_is r.1 }

dest_of_bit : (fabric : PlainFabric) (there : RowPlace) (dest : ℕ) → IsDestBit fabric there dest → HasWire fabric there.x there.y (dest_of there.row dest)
dest_of_bit fabric there dest is = record {
  tile = is.tile;
  tile_is = is.stands.tile_is;
  is_wire = subst (λ found. dest < option_map_or dest_bits found 0) (sym is.stands.row_is) is.is_bit;
}

source_of_bit : (fabric : PlainFabric) (here : RowPlace) (source : ℕ) → IsSourceBit fabric here source → HasWire fabric here.x here.y (source_of here.row source)
source_of_bit fabric here source is = record {
  tile = is.tile;
  tile_is = is.stands.tile_is;
  is_wire = subst (λ found. source < option_map_or source_bits found 0) (sym is.stands.row_is) is.is_bit;
}

-- a join leads to a destination bit, and comes from a source bit
pub join_lands : (fabric : PlainFabric) (here there : RowAt) (source dest : ℕ) → AreTiles fabric → HasWire fabric here.x here.y (source_of here.row source) →
    join_to fabric (place_of here) source ≡ Some (place_of there, dest) → HasWire fabric there.x there.y (dest_of there.row dest)
join_lands fabric here there source dest tiles has is =
    let r = row_of_bit source_bits (slice_get has.tile.rows here.row) source has.is_wire in
    let stands : Stands fabric (place_of here) has.tile r.0 = record { tile_is = has.tile_is; row_is = r.1 } in
    let joins = join_to_joins fabric (place_of here) (place_of there) source dest has.tile r.0 stands r.2 is in
    dest_of_bit fabric (place_of there) dest (joins_dest fabric (are_rows fabric tiles) (place_of here) (place_of there) source dest joins)

pub join_departs : (fabric : PlainFabric) (here there : RowAt) (source dest : ℕ) → AreTiles fabric → HasWire fabric there.x there.y (dest_of there.row dest) →
    join_from fabric (place_of there) dest ≡ Some (place_of here, source) → HasWire fabric here.x here.y (source_of here.row source)
join_departs fabric here there source dest tiles has is =
    let r = row_of_bit dest_bits (slice_get has.tile.rows there.row) dest has.is_wire in
    let stands : Stands fabric (place_of there) has.tile r.0 = record { tile_is = has.tile_is; row_is = r.1 } in
    let joins = join_from_joins fabric (are_rows fabric tiles) (place_of here) (place_of there) source dest has.tile r.0 stands r.2 is in
    source_of_bit fabric (place_of here) source (joins_source fabric (place_of here) (place_of there) source dest joins)

-- ---- numbers of wires

-- how a wire of a row is counted
pub source_number : (fabric : PlainFabric) (at : RowAt) (bit : ℕ) (tile : PlainTile) (index : TileIndex) (start : ℕ) → HasWire fabric at.x at.y (source_of at.row bit) → tile_at fabric at.x at.y ≡ Some tile →
    HasIndex tile index → start ≡ get_or index.starts.items at.row start → (start + bit ≡ number_at fabric at.x at.y (source_of at.row bit)) × (at.row < length tile.rows)
source_number fabric at bit tile index start has is kept read =
    let same : has.tile ≡ tile = same_Some has.tile tile (sym has.tile_is ∙ is) in
    let wire : IsWire tile (source_of at.row bit) = subst (λ (t : PlainTile). IsWire t (source_of at.row bit)) same has.is_wire in
    let r = row_of_bit source_bits (slice_get tile.rows at.row) bit wire in
    let inside : at.row < length tile.rows = slice_get_within tile.rows at.row r.0 r.1 in
    let start_is : start ≡ wires_before_row tile.rows at.row =
    read ∙ get_or_default_zero index.starts.items at.row start (omega (arith, inside, kept.as_many)) ∙ kept.starts at.row inside in
    (ap (λ n. n + bit) start_is ∙ sym (number_of_tile fabric at.x at.y (source_of at.row bit) tile is), inside)

pub dest_number : (fabric : PlainFabric) (at : RowAt) (bit : ℕ) (tile : PlainTile) (index : TileIndex) (start sources : ℕ) (row : WireRow) → HasWire fabric at.x at.y (dest_of at.row bit) →
    tile_at fabric at.x at.y ≡ Some tile → HasIndex tile index → start ≡ get_or index.starts.items at.row start → row ≡ get_or tile.rows at.row row → sources ≡ source_bits row →
    (start + sources + bit ≡ number_at fabric at.x at.y (dest_of at.row bit)) × (at.row < length tile.rows)
dest_number fabric at bit tile index start sources row has is kept read row_read sources_are =
    let same : has.tile ≡ tile = same_Some has.tile tile (sym has.tile_is ∙ is) in
    let wire : IsWire tile (dest_of at.row bit) = subst (λ (t : PlainTile). IsWire t (dest_of at.row bit)) same has.is_wire in
    let r = row_of_bit dest_bits (slice_get tile.rows at.row) bit wire in
    let inside : at.row < length tile.rows = slice_get_within tile.rows at.row r.0 r.1 in
    let start_is : start ≡ wires_before_row tile.rows at.row =
    read ∙ get_or_default_zero index.starts.items at.row start (omega (arith, inside, kept.as_many)) ∙ kept.starts at.row inside in
    let row_is : slice_get tile.rows at.row ≡ Some row = slice_get_read tile.rows (length tile.rows) at.row row refl inside row_read in
    let counted : sources ≡ sources_at tile.rows at.row = sources_are ∙ sym (ap (λ found. option_map_or source_bits found 0) row_is) in
    (ap₂ (λ a b. a + b + bit) start_is counted ∙ sym (number_of_tile fabric at.x at.y (dest_of at.row bit) tile is), inside)

-- a number in a tile is small
pub number_small : (fabric : PlainFabric) (x y : ℕ) (plain : PlainWire) (tile : PlainTile) → HasWire fabric x y plain → tile_at fabric x y ≡ Some tile → IsTile tile → number_at fabric x y plain < 4096
number_small fabric x y plain tile has is tile_is = omega (arith, number_within fabric x y plain has, wires_of_tile fabric x y tile is, tile_is.few)

-- ---- from a row to its join

pub found_placed : (fabric : PlainFabric) (found : Option RowAt) (sought : Option PlacedRow) → FindsRow fabric found sought → placed_at fabric found ≡ sought
found_placed fabric None sought finds = sym finds
found_placed fabric (Some at) sought finds = sym finds.1

pub found_stands : (fabric : PlainFabric) (found : Option RowAt) (sought : Option PlacedRow) → FindsRow fabric found sought → IfSome found (HasRow fabric)
found_stands fabric None sought finds = tt
found_stands fabric (Some at) sought finds = finds.0

both : (named : Bool) (at : RowAt) (bit : ℕ) → option_map found_bit (cond named (Some (at, bit)) None) ≡ cond named (Some (place_of at, bit)) None
both true at bit = refl
both false at bit = refl

pub jump_to : (fabric : PlainFabric) (at : RowAt) (row : WireRow) (bit : ℕ) (result : Option (RowAt × ℕ)) → row_at fabric at ≡ Some row → is_jump row.dir ≡ true → result ≡ both_sides row at bit →
    option_map found_bit result ≡ join_to fabric (place_of at) bit
jump_to fabric at row bit result is jumps result_is =
    let s = standing_row fabric at row is in
    ap (option_map found_bit) result_is
    ∙ both (is_named row.source && is_named row.dest) at bit
    ∙ sym (ap (option_and_then (row_join_to fabric bit)) s.3
    ∙ ap (λ b. cond b (other_side (placed (place_of at) s.0 row) bit) (walk_to fabric (border_bits row) (next_row fabric (placed (place_of at) s.0 row)) (passing_bits row + bit))) jumps)

pub jump_from : (fabric : PlainFabric) (at : RowAt) (row : WireRow) (bit : ℕ) (result : Option (RowAt × ℕ)) → row_at fabric at ≡ Some row → is_jump row.dir ≡ true → result ≡ both_sides row at bit →
    option_map found_bit result ≡ join_from fabric (place_of at) bit
jump_from fabric at row bit result is jumps result_is =
    let s = standing_row fabric at row is in
    ap (option_map found_bit) result_is
    ∙ both (is_named row.source && is_named row.dest) at bit
    ∙ sym (ap (option_and_then (row_join_from fabric bit)) s.3
    ∙ ap (λ b. cond b (other_side (placed (place_of at) s.0 row) bit) (walk_from fabric (border_bits row) (previous_row fabric (placed (place_of at) s.0 row)) bit)) jumps)

pub walked_to : (fabric : PlainFabric) (at : RowAt) (row : WireRow) (bit border borders : ℕ) (from : Option RowAt) (result : Option (RowAt × ℕ)) → row_at fabric at ≡ Some row → is_jump row.dir ≡ false →
    FindsRow fabric from (next_of fabric at) → border ≡ passing_bits row + bit → borders ≡ border_bits row → option_map found_bit result ≡ walk_to fabric borders (placed_at fabric from) border →
    option_map found_bit result ≡ join_to fabric (place_of at) bit
walked_to fabric at row bit border borders from result is no_jump finds border_is borders_are walked =
    let s = standing_row fabric at row is in
    let next : placed_at fabric from ≡ next_row fabric (placed (place_of at) s.0 row) = found_placed fabric from (next_of fabric at) finds ∙ ap (option_and_then (next_row fabric)) s.3 in
    walked
    ∙ (λ j. walk_to fabric (borders_are j) (next j) (border_is j))
    ∙ sym (ap (option_and_then (row_join_to fabric bit)) s.3
    ∙ ap (λ b. cond b (other_side (placed (place_of at) s.0 row) bit) (walk_to fabric (border_bits row) (next_row fabric (placed (place_of at) s.0 row)) (passing_bits row + bit))) no_jump)

pub walked_from : (fabric : PlainFabric) (at : RowAt) (row : WireRow) (bit borders : ℕ) (from : Option RowAt) (result : Option (RowAt × ℕ)) → row_at fabric at ≡ Some row → is_jump row.dir ≡ false →
    FindsRow fabric from (previous_of fabric at) → borders ≡ border_bits row → option_map found_bit result ≡ walk_from fabric borders (placed_at fabric from) bit →
    option_map found_bit result ≡ join_from fabric (place_of at) bit
walked_from fabric at row bit borders from result is no_jump finds borders_are walked =
    let s = standing_row fabric at row is in
    let previous : placed_at fabric from ≡ previous_row fabric (placed (place_of at) s.0 row) = found_placed fabric from (previous_of fabric at) finds ∙ ap (option_and_then (previous_row fabric)) s.3 in
    walked
    ∙ (λ j. walk_from fabric (borders_are j) (previous j) bit)
    ∙ sym (ap (option_and_then (row_join_from fabric bit)) s.3
    ∙ ap (λ b. cond b (other_side (placed (place_of at) s.0 row) bit) (walk_from fabric (border_bits row) (previous_row fabric (placed (place_of at) s.0 row)) bit)) no_jump)

-- ---- of the wires with a number

-- what is said of the wire of a number is said of each wire with this number
pub same_at : {X : Type 0} (F : ℕ → ℕ → PlainWire → X) (fabric : PlainFabric) (wire index sx sy x y : ℕ) (found plain : PlainWire) → wire ≡ index → IsIndexOf fabric index sx sy found → IsIndexOf fabric wire x y plain →
    F sx sy found ≡ F x y plain
same_at F fabric wire index sx sy x y found plain same is other =
    let here : IsIndexOf fabric wire sx sy found = subst (λ n. IsIndexOf fabric n sx sy found) (sym same) is in
    let g = one_wire fabric wire sx sy x y found plain here other in
    λ j. F (g.0 j) (g.1 j) (g.2 j)

-- a source bit stands before the others of its border
pub source_bit : (fabric : PlainFabric) (at : RowAt) (bit : ℕ) (row : WireRow) → HasWire fabric at.x at.y (source_of at.row bit) → row_at fabric at ≡ Some row → bit < source_bits row
source_bit fabric at bit row has is =
    let s = standing_row fabric at row is in
    let same : has.tile ≡ s.0 = same_Some has.tile s.0 (sym has.tile_is ∙ s.1) in
    let wire : IsWire s.0 (source_of at.row bit) = subst (λ (t : PlainTile). IsWire t (source_of at.row bit)) same has.is_wire in
    subst (λ found. bit < option_map_or source_bits found 0) s.2 wire

pub source_room : (row : WireRow) (bit passing : ℕ) → bit < source_bits row → is_jump row.dir ≡ false → passing ≡ passing_bits row → passing + row.count < 2 ^ 64 → bit < 2 ^ 64 → passing + bit < 2 ^ 64
source_room row bit passing few no_jump passing_is room fits =
    let named : is_named row.source ≡ true = side_has_name row row.source row.dest bit few in
    elim (cases_Bool (is_named row.dest)) [
      | inl ends ↦ (
          let bits : source_bits row ≡ row.count = side_bits_is row row.source row.dest named ∙ rw (no_jump, ends) refl in
          omega (arith, few, bits, room))
      | inr no_dest ↦ (
          let none : passing_bits row ≡ 0 = rw no_dest refl in
          omega (arith, none, passing_is, fits))
    ]

-- only source bits are joined to others, and only to destination bits others are joined
pub no_to : (fabric : PlainFabric) (wire : TileWire) (x y : ℕ) → ((row bit : ℕ) → wire ≡ wires.Source row bit → ⊥) → None ≡ wire_join_to fabric x y (plain_wire wire)
no_to fabric (wires.Source row bit) x y other = absurd (other row bit refl)
no_to fabric (wires.Dest row bit) x y other = refl
no_to fabric (wires.Pin bel pin) x y other = refl

pub no_from : (fabric : PlainFabric) (index x y : ℕ) (plain : PlainWire) → ((at : RowAt) (bit : ℕ) → ◌≡◌ {A = Option (RowAt × ℕ)} None (Some (at, bit)) ↔ IsIndexOf fabric index at.x at.y (dest_of at.row bit)) →
    IsIndexOf fabric index x y plain → None ≡ wire_join_from fabric x y plain
no_from fabric index x y (source_of row bit) none is = refl
no_from fabric index x y (dest_of row bit) none is = absurd (never ((none (row_spot x y row) bit).1 is))
  where
    never : ◌≡◌ {A = Option (RowAt × ℕ)} None (Some (row_spot x y row, bit)) → ⊥
    never e = cc
no_from fabric index x y (pin_of bel pin) none is = refl

-- a wire is one destination bit, or none
pub dest_found : (fabric : PlainFabric) (index : ℕ) (here : RowAt) (found : ℕ) → IsIndexOf fabric index here.x here.y (dest_of here.row found) → (at : RowAt) (bit : ℕ) →
    ◌≡◌ {A = Option (RowAt × ℕ)} (Some (here, found)) (Some (at, bit)) ↔ IsIndexOf fabric index at.x at.y (dest_of at.row bit)
dest_found fabric index here found is at bit = (
  (λ same. let e = same_Some (here, found) (at, bit) same in subst (λ (p : RowAt × ℕ). IsIndexOf fabric index p.0.x p.0.y (dest_of p.0.row p.1)) e is),
  λ other. same_place (one_wire fabric index here.x here.y at.x at.y (dest_of here.row found) (dest_of at.row bit) is other),
)
  where
    same_place : (here.x ≡ at.x) × (here.y ≡ at.y) × (dest_of here.row found ≡ dest_of at.row bit) → ◌≡◌ {A = Option (RowAt × ℕ)} (Some (here, found)) (Some (at, bit))
    same_place same =
        let wire = same.2 in
        let row : here.row ≡ at.row = cc in
        let place : found ≡ bit = cc in
        λ j. Some (record { x = same.0 j; y = same.1 j; row = row j }, place j)

pub no_dest_found : (fabric : PlainFabric) (index x y : ℕ) (wire : TileWire) → IsIndexOf fabric index x y (plain_wire wire) → ((row bit : ℕ) → wire ≡ wires.Dest row bit → ⊥) → (at : RowAt) (bit : ℕ) →
    ◌≡◌ {A = Option (RowAt × ℕ)} None (Some (at, bit)) ↔ IsIndexOf fabric index at.x at.y (dest_of at.row bit)
no_dest_found fabric index x y wire is none at bit = (
  (λ e. absurd (never e)),
  λ other. absurd (no_dest wire none (one_wire fabric index x y at.x at.y (plain_wire wire) (dest_of at.row bit) is other).2),
)
  where
    never : ◌≡◌ {A = Option (RowAt × ℕ)} None (Some (at, bit)) → ⊥
    never e = cc

    no_dest : (w : TileWire) → ((row bit : ℕ) → w ≡ wires.Dest row bit → ⊥) → plain_wire w ≡ dest_of at.row bit → ⊥
    no_dest (wires.Source row place) none e = cc
    no_dest (wires.Dest row place) none e = none row place refl
    no_dest (wires.Pin bel pin) none e = cc
