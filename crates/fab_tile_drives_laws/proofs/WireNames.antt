-- Wires by number and their matrix names.
use Rattle.std.proofs.Common.{◌≡◌, ℕ, ◌<◌, [], slice_get, refl, sym, ap, ◌∙◌, subst, Option, Some, None, option_map, Contains}
use Rattle.std.specs.Option.{option_map_or}
use Rattle.std.proofs.lemmas.Option.{slice_get-map}
use Rattle.fab_gen_tile.specs.fab_model.specs.declared.tiles.WireRow.{WireRow}
use Rattle.fab_gen_tile.specs.fab_model.specs.Rows.{source_bits, dest_bits, bit_name}
use Rattle.fab_gen_tile.specs.fab_model.specs.Tiles.{PlainTile, TileWire, source_bit, dest_bit, tile_wires, wire_name, matrix_names}
use Rattle.fab_gen_tile.specs.fab_model.specs.Wires.{PlainWire, source_of, dest_of, wire_of, IsWire, plain_wires, wire_number}
use Rattle.fab_gen_tile.specs.fab_model.proofs.Wires.{wire_at_number, plain_wires_are_wires}
use Rattle.fab_tile_drives_laws.specs.Stands.{name_of}
use Rattle.fab_tile_drives_laws.proofs.Members.{contains_at}

-- the wire of a tile at a number, and what stands there
pub record IsAt (tile : PlainTile) (wire : PlainWire) (number : ℕ) : Type 0 where
  pub found : TileWire
  pub there : slice_get (tile_wires tile) number ≡ Some found
  pub is : wire_of tile wire ≡ Some found

of_both : (o : Option TileWire) (given : Option TileWire) → Some given ≡ option_map Some o → (found : TileWire) × (o ≡ Some found) × (given ≡ Some found)
of_both None given same = cc
of_both (Some found) given same = (found, refl, cc)

-- a wire that stands at a number
pub at_number : (tile : PlainTile) (wire : PlainWire) (number : ℕ) → slice_get (plain_wires tile) number ≡ Some wire → IsAt tile wire number
at_number tile wire number stands =
    let same : Some (wire_of tile wire) ≡ option_map Some (slice_get (tile_wires tile) number) =
    ap (option_map (wire_of tile)) (sym stands)
    ∙ sym (slice_get-map (wire_of tile) (plain_wires tile) number)
    ∙ ap (λ wires. slice_get wires number) (plain_wires_are_wires tile)
    ∙ slice_get-map Some (tile_wires tile) number in
    let g = of_both (slice_get (tile_wires tile) number) (wire_of tile wire) same in
    record { found = g.0; there = g.1; is = g.2 }

-- its matrix name stands at the same number
pub name_at_number : (tile : PlainTile) (wire : PlainWire) (number : ℕ) → slice_get (plain_wires tile) number ≡ Some wire →
    slice_get (matrix_names tile) number ≡ Some (name_of tile wire)
name_at_number tile wire number stands =
    let at = at_number tile wire number stands in
    slice_get-map wire_name (tile_wires tile) number
    ∙ ap (option_map wire_name) at.there
    ∙ ap Some (sym (ap (λ found. option_map_or wire_name found []) at.is))

pub name_there : (tile : PlainTile) (wire : PlainWire) → IsWire tile wire → Contains (matrix_names tile) (name_of tile wire)
name_there tile wire exists =
    contains_at (matrix_names tile) (wire_number tile wire) (name_of tile wire) (name_at_number tile wire (wire_number tile wire) (wire_at_number tile wire exists))

-- ---- bits of rows

module _ (tile : PlainTile) (row bit : ℕ) (found : WireRow) (there : slice_get tile.rows row ≡ Some found) where
  pub source_name : name_of tile (source_of row bit) ≡ bit_name found.source bit
  source_name = ap (λ o. option_map_or wire_name (option_map (λ found. source_bit found bit) o) []) there

  pub dest_name : name_of tile (dest_of row bit) ≡ bit_name found.dest bit
  dest_name = ap (λ o. option_map_or wire_name (option_map (λ found. dest_bit found bit) o) []) there

  pub source_exists : bit < source_bits found → IsWire tile (source_of row bit)
  source_exists few = subst (λ o. bit < option_map_or source_bits o 0) (sym there) few

  pub dest_exists : bit < dest_bits found → IsWire tile (dest_of row bit)
  dest_exists few = subst (λ o. bit < option_map_or dest_bits o 0) (sym there) few
