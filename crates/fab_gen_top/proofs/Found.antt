-- The row next door, as a call of the fabric finds it.
use Rattle.std.proofs.Common.{◌≡◌, ℕ, Option, Some, None, slice_get, option_and_then, sym, ap, ◌∙◌}
use Rattle.std.specs.Option.{IfSome}
use Rattle.fab_model.specs.declared.tiles.WireRow.{WireRow}
use Rattle.fab_model.specs.Grid.{PlainFabric}
use Rattle.fab_model.specs.Cascade.{PlacedRow, placed_row, previous_row}
use Rattle.fab_fabric.specs.declared.fabric.joins.RowAt.{RowAt}
use Rattle.fab_fabric.specs.Walks.{place_of, placed_at, HasRow, FindsRow}
use Rattle.fab_fabric.proofs.Stepped.{stand, row_spot}
use Rattle.fab_text_loads_laws.specs.fab_fabric_text_defs_Top.{numbered_row}
use Rattle.fab_gen_top.specs.declared.places.Place.{Place}
use Rattle.fab_gen_top.specs.inner.Standing.{type_of, placed_of, IsPlaceOf}

-- the row of a tile that stands
pub stands : (fabric : PlainFabric) (place : Place) (number : ℕ) (row : WireRow) → IsPlaceOf fabric place → slice_get (type_of fabric place.number).rows number ≡ Some row →
    placed_row fabric (place_of (row_spot place.x place.y number)) ≡ Some (numbered_row (placed_of fabric place) number row)
stands fabric place number row is row_is = stand fabric (row_spot place.x place.y number) (type_of fabric place.number) row is.tile_is row_is

pub has_row : (fabric : PlainFabric) (place : Place) (number : ℕ) (row : WireRow) → IsPlaceOf fabric place → slice_get (type_of fabric place.number).rows number ≡ Some row →
    HasRow fabric (row_spot place.x place.y number)
has_row fabric place number row is row_is = record { placed = numbered_row (placed_of fabric place) number row; stands = stands fabric place number row is row_is }

found_at : (fabric : PlainFabric) (found : Option RowAt) (sought : Option PlacedRow) → FindsRow fabric found sought → placed_at fabric found ≡ sought
found_at fabric None sought finds = sym finds
found_at fabric (Some at) sought finds = sym finds.1

pub found_stands : (fabric : PlainFabric) (found : Option RowAt) (sought : Option PlacedRow) → FindsRow fabric found sought → IfSome found (HasRow fabric)
found_stands fabric None sought finds = tt
found_stands fabric (Some at) sought finds = finds.0

-- what is found is the row next door
pub previous_found : (fabric : PlainFabric) (place : Place) (number : ℕ) (row : WireRow) (found : Option RowAt) → IsPlaceOf fabric place → slice_get (type_of fabric place.number).rows number ≡ Some row →
    FindsRow fabric found (option_and_then (previous_row fabric) (placed_row fabric (place_of (row_spot place.x place.y number)))) →
    placed_at fabric found ≡ previous_row fabric (numbered_row (placed_of fabric place) number row)
previous_found fabric place number row found is row_is finds =
    found_at fabric found _ finds ∙ ap (option_and_then (previous_row fabric)) (stands fabric place number row is row_is)
