-- A border bit that comes into a tile has the value of the matrix output to which a walk back from it leads, or 0.
use Rattle.std.proofs.Common.{◌≡◌, ℕ, zero, suc, ◌+◌, ◌-◌, ◌<◌, ◌≤◌, Bool, true, false, List, [], refl, sym, ap, ◌∙◌, arith, inl, inr, Option, Some, None, nat_lt}
use Rattle.std.specs.Option.{option_map_or}
use Rattle.std.proofs.lemmas.Bool.{cases_Bool, ltb-true}
use Rattle.fab_syntax.specs.Plain.{PlainModule}
use Rattle.fab_fabric_text_defs.specs.fab_meaning_Points.{Point, point}
use Rattle.fab_fabric_text_defs.specs.fab_meaning_Settled.{Assignment, names_at}
use Rattle.fab_fabric_text_defs.specs.fab_meaning_Value.{value, bit_at}
use Rattle.fab_fabric_text_defs.specs.fab_model_tiles_WireRow.{WireRow}
use Rattle.fab_fabric_text_defs.specs.fab_model_Rows.{is_jump, is_named, border_bits, IsWireRow}
use Rattle.fab_fabric_text_defs.specs.fab_model_Tiles.{PlainTile}
use Rattle.fab_fabric_text_defs.specs.fab_model_Grid.{PlainFabric, tile_at, AreRows}
use Rattle.fab_fabric_text_defs.specs.fab_model_Cascade.{PlacedRow, previous_row, passing_bits, walk_from, opposite}
use Rattle.fab_fabric_text_defs.specs.fab_model_Wires.{source_of}
use Rattle.fab_fabric_text_defs.specs.fab_model_Drive.{PlainBits, joined_drive}
use Rattle.fab_fabric_text_defs.specs.fab_model_Joins.{comes, goes}
use Rattle.fab_fabric_text_defs.proofs.fab_model_Crossings.{IsPlaced, standing_is_wire_row, partner_is, goes_from}
use Rattle.fab_fabric_text_defs.specs.fab_gen_tile_Names.{begin_name, end_name}
use Rattle.fab_fabric_text_defs.specs.fab_gen_tile_Borders.{side_border}
use Rattle.fab_fabric_text_defs.specs.Top.{end_value}
use Rattle.fab_tile_drives_laws.specs.Stands.{wire_point, IsSettledOnDeclared}
use Rattle.fab_tile_drives_laws.specs.Tiles.{TileWorks, begin_value}
use Rattle.fab_tile_drives_laws.proofs.BorderBits.{source_within, passing_within}
use Rattle.fab_drives_laws.specs.Points.{place_path, row_path, IsOnWay, end_bit, wire_between, begin_bit, before}
use Rattle.fab_drives_laws.specs.Drives.{drive_value}
use Rattle.fab_drives_laws.proofs.Texts.{HasFabric}
use Rattle.fab_drives_laws.proofs.Between.{fewer, at_one, end_gets, wire_gets}

-- the bits of a side are bits of the border
side_in_border : (row : WireRow) (side : Option (List ℕ)) (bit : ℕ) → bit < side_border row side → bit < border_bits row
side_in_border row None bit few = absurd (omega (arith, few))
side_in_border row (Some name) bit few = few

module _ (fabric : PlainFabric) (text : List PlainModule) (has : HasFabric fabric text) (are : AreRows fabric)
    (works : (x y : ℕ) (tile : PlainTile) → tile_at fabric x y ≡ Some tile → TileWorks text (place_path x y) tile)
    (bits : PlainBits) (inputs held now : Assignment) where
  -- the value to which a walk leads
  abbrev walk_value : (fuel : ℕ) → Option PlacedRow → (bit : ℕ) → Bool
  walk_value fuel previous bit = drive_value fabric bits held now (joined_drive (walk_from fabric fuel previous bit))

  begin_shows : (Has : Point → Type 0) → IsSettledOnDeclared Has text inputs held now → (here : PlacedRow) (bit : ℕ) → IsPlaced fabric here → is_jump here.row.dir ≡ false →
      is_named here.row.source ≡ true → bit < border_bits here.row → Has (point (row_path here) (begin_name here.row bit) 0) →
      now (point (row_path here) (begin_name here.row bit) 0) ≡ begin_value (row_path here) here.tile now here.place.row bit here.row
  begin_shows Has settled here bit stands no_jump named few own =
      (works here.place.x here.place.y here.tile stands.tile_is).begins inputs held now here.place.row bit here.row stands.row_is no_jump named few
      (at_one Has text inputs held now (point (row_path here) (begin_name here.row bit) 0) own settled)

  -- the way of a bit that passes a tile goes on there
  way_before : (here previous : PlacedRow) (bit : ℕ) → previous_row fabric here ≡ Some previous → bit < passing_bits previous.row →
      (p : Point) → IsOnWay fabric previous (bit + previous.row.count) p → IsOnWay fabric here bit p
  way_before here previous bit is few p way = before is few way

  -- what comes from the row next door
  from_previous : (fuel : ℕ) (here : PlacedRow) (previous : Option PlacedRow) (bit : ℕ) → previous_row fabric here ≡ previous → IsPlaced fabric here → is_jump here.row.dir ≡ false →
      bit < side_border here.row here.row.dest → border_bits here.row ≤ fuel + bit → IsSettledOnDeclared (IsOnWay fabric here bit) text inputs held now →
      now (point (row_path here) (end_name here.row bit) 0) ≡ walk_value fuel previous bit
  from_previous fuel here None bit is stands no_jump few enough settled =
      end_gets fabric text has (IsOnWay fabric here bit) inputs held now settled here bit stands no_jump few end_bit
      ∙ ap (λ previous. bit_at (value (names_at text now []) (end_value previous bit)) 0) is
  from_previous zero here (Some previous) bit is stands no_jump few enough settled = absurd (omega (arith, side_in_border here.row here.row.dest bit few, enough))
  from_previous (suc fuel) here (Some previous) bit is stands no_jump few enough settled =
      let partner = partner_is comes goes fabric here previous (opposite here.row.dir) is in
      let out = goes_from here.row.dir previous.row partner.nth.1 in
      let previous_no_jump : is_jump previous.row.dir ≡ false = ap is_jump out.0 ∙ no_jump in
      let row_is : IsWireRow previous.row = standing_is_wire_row fabric previous are partner.stands in
      let few_there : bit < border_bits previous.row = omega (arith, side_in_border here.row here.row.dest bit few, partner.equal) in
      let few_source : bit < side_border previous.row previous.row.source = source_within previous.row row_is previous_no_jump bit out.1 few_there in
      let comes_in = end_gets fabric text has (IsOnWay fabric here bit) inputs held now settled here bit stands no_jump few end_bit
      ∙ ap (λ previous. bit_at (value (names_at text now []) (end_value previous bit)) 0) is
      ∙ wire_gets fabric text has (IsOnWay fabric here bit) inputs held now settled previous bit partner.stands previous_no_jump few_source (wire_between is)
      ∙ begin_shows (IsOnWay fabric here bit) settled previous bit partner.stands previous_no_jump out.1 few_there (begin_bit is) in
      elim (cases_Bool (nat_lt bit (passing_bits previous.row))) [
        | inl passes ↦ (
            let passing : bit < passing_bits previous.row = ltb-true bit (passing_bits previous.row) passes in
            let some = row_is.has_wires in
            comes_in
            ∙ rw passes (from_previous fuel previous (previous_row fabric previous) (bit + previous.row.count) refl partner.stands previous_no_jump
            (passing_within previous.row row_is previous_no_jump bit passing) (omega (arith, enough, partner.equal, some))
            (fewer (IsOnWay fabric here bit) (IsOnWay fabric previous (bit + previous.row.count)) text inputs held now (way_before here previous bit is passing) settled)))
        | inr begins ↦ (
            comes_in
            ∙ rw begins (ap (λ tile. option_map_or (λ tile. now (wire_point (row_path previous) tile (source_of previous.place.row (bit - passing_bits previous.row)))) tile false) (sym partner.stands.tile_is)))
      ]

  -- a border bit that comes in has the value to which a walk back leads
  pub end_shows : (here : PlacedRow) (bit : ℕ) → IsPlaced fabric here → is_jump here.row.dir ≡ false → bit < side_border here.row here.row.dest →
      IsSettledOnDeclared (IsOnWay fabric here bit) text inputs held now →
      now (point (row_path here) (end_name here.row bit) 0) ≡ drive_value fabric bits held now (joined_drive (walk_from fabric (border_bits here.row) (previous_row fabric here) bit))
  end_shows here bit stands no_jump few settled =
      from_previous (border_bits here.row) here (previous_row fabric here) bit refl stands no_jump few (omega arith) settled
