-- Each wire of a fabric has in its text the value of what drives it.
use Rattle.std.proofs.Common.{◌≡◌, ℕ, ◌+◌, ◌<◌, ◌≤◌, true, false, List, [], ◌++◌, map, refl, sym, ap, ◌∙◌, arith, inl, inr, Option, Some, None, option_map, option_and_then, nat_lt, slice_get, codes}
use Rattle.std.specs.Option.{option_map_or}
use Rattle.std.specs.Str.{bytes_eq}
use Rattle.std.proofs.lemmas.Bool.{cases_Bool, ltb-false}
use Rattle.fab_bits.specs.Bits.{first_bits}
use Rattle.fab_kinds.specs.Pins.{input_names, input_count, bit_count}
use Rattle.fab_syntax.specs.Plain.{PlainModule}
use Rattle.fab_fabric_text_defs.specs.fab_meaning_Points.{point}
use Rattle.fab_fabric_text_defs.specs.fab_meaning_Settled.{Assignment}
use Rattle.fab_fabric_text_defs.specs.fab_model_tiles_WireRow.{WireRow}
use Rattle.fab_fabric_text_defs.specs.fab_model_tiles_Bel.{Bel}
use Rattle.fab_fabric_text_defs.specs.fab_model_Rows.{is_jump, is_named, border_bits, source_bits, dest_bits}
use Rattle.fab_fabric_text_defs.specs.fab_model_Tiles.{PlainTile, source_bit, bel_pin, is_matrix_output, bits_before}
use Rattle.fab_fabric_text_defs.specs.fab_model_Grid.{PlainFabric, tile_at, AreRows}
use Rattle.fab_fabric_text_defs.specs.fab_model_Joins.{RowPlace}
use Rattle.fab_fabric_text_defs.specs.fab_model_Cascade.{PlacedRow, previous_row, walk_from, row_join_from, join_from}
use Rattle.fab_fabric_text_defs.specs.fab_model_Wires.{PlainWire, source_of, dest_of, pin_of, pin_count, wire_number, IsWire, IsMatrixOutput}
use Rattle.fab_fabric_text_defs.specs.fab_model_Drive.{PlainBits, copy_or_zero, matrix_drive, constant, dest_drive, pin_drive, tile_drive}
use Rattle.fab_fabric_text_defs.proofs.fab_model_Crossings.{IsPlaced, placed, standing_is_placed, standing_is_wire_row}
use Rattle.fab_fabric_text_defs.proofs.fab_model_Walks.{side_has_name}
use Rattle.fab_fabric_text_defs.proofs.fab_model_Drives.{drive_at}
use Rattle.fab_fabric_text_defs.specs.fab_prim_Ports.{top_name}
use Rattle.fab_fabric_text_defs.specs.fab_prim_Modules.{flip_flop_name}
use Rattle.fab_fabric_text_defs.specs.fab_gen_tile_Names.{pad_name}
use Rattle.fab_fabric_text_defs.specs.fab_gen_tile_Borders.{fixed_bit}
use Rattle.fab_fabric_text_defs.specs.Names.{pad_port_name}
use Rattle.fab_tile_drives_laws.specs.Stands.{bel_path, wire_point, IsSettledOnDeclared}
use Rattle.fab_tile_drives_laws.specs.Tiles.{TileWorks, IsOwnOfOutput, IsOwnOfPin, picked, picked_value}
use Rattle.fab_tile_drives_laws.proofs.BorderBits.{dest_within}
use Rattle.fab_tile_drives_laws.proofs.PinPorts.{top_matters}
use Rattle.fab_drives_laws.specs.Points.{place_path, ShowsBits, IsOnWay, IsOwn, itself, of_output, on_way, of_pin, from_outside}
use Rattle.fab_drives_laws.specs.Drives.{drive_value, pin_value_at, bel_value, ShowsDrives}
use Rattle.fab_drives_laws.proofs.Texts.{HasFabric}
use Rattle.fab_drives_laws.proofs.Between.{fewer, at_one, pad_gets}
use Rattle.fab_drives_laws.proofs.Cascades.{end_shows}

-- what has a count above a number is there
counted_there : {X : Type 0} (count : X → ℕ) (found : Option X) (bit : ℕ) → bit < option_map_or count found 0 → (x : X) × (found ≡ Some x) × (bit < count x)
counted_there count None bit few = absurd (omega (arith, few))
counted_there count (Some x) bit few = (x, refl, few)

module _ (fabric : PlainFabric) (text : List PlainModule) (has : HasFabric fabric text) (are : AreRows fabric)
    (works : (x y : ℕ) (tile : PlainTile) → tile_at fabric x y ≡ Some tile → TileWorks text (place_path x y) tile)
    (bits : PlainBits) (inputs held now : Assignment) (shows : ShowsBits fabric bits now)
    (x y : ℕ) (tile : PlainTile) (there : tile_at fabric x y ≡ Some tile) where
  abbrev IsSettled : PlainWire → Type 0
  IsSettled wire = IsSettledOnDeclared (IsOwn fabric bits x y tile wire) text inputs held now

  -- what drives the wire, as the tile says it
  abbrev Shows : PlainWire → Type 0
  Shows wire = now (wire_point (place_path x y) tile wire) ≡ drive_value fabric bits held now (tile_drive fabric (bits x y) x y wire tile)

  -- ---- matrix outputs

  copied : (input : Option PlainWire) → picked_value (place_path x y) tile now input ≡ drive_value fabric bits held now (copy_or_zero x y input)
  copied None = refl
  copied (Some wire) = ap (λ tile. option_map_or (λ tile. now (wire_point (place_path x y) tile wire)) tile false) (sym there)

  output_shows : (wire : PlainWire) → IsWire tile wire → IsMatrixOutput tile wire → IsSettled wire →
      now (wire_point (place_path x y) tile wire) ≡ drive_value fabric bits held now (matrix_drive (bits x y) x y tile (wire_number tile wire))
  output_shows wire is output settled =
      (works x y tile there).matrix_outputs (bits x y) inputs held now wire (shows x y tile there) is output
      (fewer (IsOwn fabric bits x y tile wire) (IsOwnOfOutput (place_path x y) tile (bits x y) wire) text inputs held now (λ p own. of_output output own) settled)
      ∙ copied (picked tile (bits x y) wire)

  source_shows : (row bit : ℕ) → IsWire tile (source_of row bit) → IsSettled (source_of row bit) → Shows (source_of row bit)
  source_shows row bit is settled =
      let found = counted_there source_bits (slice_get tile.rows row) bit is in
      let output : IsMatrixOutput tile (source_of row bit) =
      ap (λ found. option_map_or is_matrix_output (option_map (λ found. source_bit found bit) found) false) found.1 in
      output_shows (source_of row bit) is output settled

  -- ---- destination bits

  -- the drive of a jump without a source
  fixed_shows : (dest : Option (List ℕ)) → fixed_bit dest ≡ drive_value fabric bits held now (constant dest)
  fixed_shows None = refl
  fixed_shows (Some name) = elim (cases_Bool (bytes_eq name (codes "VCC"))) [ inl vcc ↦ rw vcc refl | inr other ↦ rw other refl ]

  module _ (row bit : ℕ) (found : WireRow) (stands : slice_get tile.rows row ≡ Some found) (few : bit < dest_bits found) (settled : IsSettled (dest_of row bit)) where
    abbrev place : RowPlace
    place = record { x = x; y = y; row = row }

    abbrev here : PlacedRow
    here = placed place tile found

    is_placed : IsPlaced fabric here
    is_placed = record { tile_is = there; row_is = stands }

    named : is_named found.dest ≡ true
    named = side_has_name found found.dest found.source bit few

    settled_there : IsSettledOnDeclared (λ p. p ≡ wire_point (place_path x y) tile (dest_of row bit)) text inputs held now
    settled_there = at_one (IsOwn fabric bits x y tile (dest_of row bit)) text inputs held now (wire_point (place_path x y) tile (dest_of row bit)) itself settled

    -- what is joined to the bit is joined to that of the row that stands there
    joined_from : join_from fabric place bit ≡ row_join_from fabric bit here
    joined_from = ap (option_and_then (row_join_from fabric bit)) (standing_is_placed fabric here is_placed)

    abbrev ShowsRow : Type 0
    ShowsRow = now (wire_point (place_path x y) tile (dest_of row bit)) ≡ drive_value fabric bits held now (dest_drive fabric place bit (Some found))

    jump_shows : is_jump found.dir ≡ true → ShowsRow
    jump_shows jumps =
        let value_is = (works x y tile there).jumps inputs held now row bit found stands jumps few settled_there in
        elim (cases_Bool (is_named found.source)) [
          | inl source ↦ (
              let joined : join_from fabric place bit ≡ Some (place, bit) = joined_from ∙ rw (jumps, source, named) refl in
              value_is
              ∙ rw (jumps, source, joined) (ap (λ tile. option_map_or (λ tile. now (wire_point (place_path x y) tile (source_of row bit))) tile false) (sym there)))
          | inr no_source ↦ value_is ∙ rw (jumps, no_source) (fixed_shows found.dest)
        ]

    end_bit_shows : is_jump found.dir ≡ false → ShowsRow
    end_bit_shows no_jump =
        let joined : join_from fabric place bit ≡ walk_from fabric (border_bits found) (previous_row fabric here) bit = joined_from ∙ rw no_jump refl in
        (works x y tile there).ends inputs held now row bit found stands no_jump few settled_there
        ∙ end_shows fabric text has are works bits inputs held now here bit is_placed no_jump
        (dest_within found (standing_is_wire_row fabric here are is_placed) no_jump bit few)
        (fewer (IsOwn fabric bits x y tile (dest_of row bit)) (IsOnWay fabric here bit) text inputs held now
        (λ p way. on_way (standing_is_placed fabric here is_placed) no_jump way) settled)
        ∙ rw (no_jump, joined) refl

    row_shows : ShowsRow
    row_shows = elim (cases_Bool (is_jump found.dir)) [ inl jumps ↦ jump_shows jumps | inr no_jump ↦ end_bit_shows no_jump ]

  dest_shows : (row bit : ℕ) → IsWire tile (dest_of row bit) → IsSettled (dest_of row bit) → Shows (dest_of row bit)
  dest_shows row bit is settled =
      let found = counted_there dest_bits (slice_get tile.rows row) bit is in
      row_shows row bit found.0 found.1 found.2 settled
      ∙ ap (λ row_found. drive_value fabric bits held now (dest_drive fabric (record { x = x; y = y; row = row }) bit row_found)) (sym found.1)

  -- ---- pins

  module _ (bel pin : ℕ) (found : Bel) (stands : slice_get tile.bels bel ≡ Some found) (few : pin < pin_count found) (is : IsWire tile (pin_of bel pin))
      (settled : IsSettled (pin_of bel pin)) where
    abbrev ShowsPin : Type 0
    ShowsPin = now (wire_point (place_path x y) tile (pin_of bel pin)) ≡ drive_value fabric bits held now (pin_drive (bits x y) x y tile bel pin (Some found))

    input_shows : nat_lt pin (input_count found.kind) ≡ true → ShowsPin
    input_shows input =
        let output : IsMatrixOutput tile (pin_of bel pin) =
        ap (λ found. option_map_or is_matrix_output (option_map (λ found. bel_pin found pin) found) false) stands ∙ input in
        output_shows (pin_of bel pin) is output settled ∙ rw input refl

    output_pin_shows : nat_lt pin (input_count found.kind) ≡ false → ShowsPin
    output_pin_shows no_input =
        let output : input_count found.kind ≤ pin = ltb-false pin (input_count found.kind) no_input in
        let Has = IsOwn fabric bits x y tile (pin_of bel pin) in
        let outside : Has (point (place_path x y) (pad_name bel top_name) 0) = from_outside (record { found = found; stands = stands; output = output }) in
        let pins = map (λ name. now (point (place_path x y) (found.prefix ++ name) 0)) (input_names found.kind) in
        let config = first_bits (bit_count found.kind) (λ bit. bits x y (bits_before tile.bels bel + bit)) in
        let kept = held (point (bel_path (place_path x y) bel) flip_flop_name 0) in
        (works x y tile there).pins (bits x y) inputs held now bel pin found (shows x y tile there) stands output few
        (fewer Has (IsOwnOfPin (place_path x y) tile bel pin) text inputs held now (λ p own. of_pin (record { found = found; stands = stands; output = output }) own) settled)
        ∙ top_matters found.kind pin pins config kept (now (point (place_path x y) (pad_name bel top_name) 0)) (now (point [] (pad_port_name x y bel top_name) 0))
        (λ is_pad. pad_gets fabric text has Has inputs held now settled x y tile bel found there stands is_pad outside)
        ∙ ap (λ found. option_map_or (bel_value (bits x y) held now x y bel pin tile) found false) (sym stands)
        ∙ ap (λ tile. option_map_or (pin_value_at (bits x y) held now x y bel pin) tile false) (sym there)
        ∙ rw no_input refl

    one_pin_shows : ShowsPin
    one_pin_shows = elim (cases_Bool (nat_lt pin (input_count found.kind))) [ inl input ↦ input_shows input | inr no_input ↦ output_pin_shows no_input ]

  pin_shows : (bel pin : ℕ) → IsWire tile (pin_of bel pin) → IsSettled (pin_of bel pin) → Shows (pin_of bel pin)
  pin_shows bel pin is settled =
      let found = counted_there pin_count (slice_get tile.bels bel) pin is in
      one_pin_shows bel pin found.0 found.1 found.2 is settled
      ∙ ap (λ bel_found. drive_value fabric bits held now (pin_drive (bits x y) x y tile bel pin bel_found)) (sym found.1)

  -- ---- all wires

  wire_shows : (wire : PlainWire) → IsWire tile wire → IsSettled wire → Shows wire
  wire_shows (source_of row bit) is settled = source_shows row bit is settled
  wire_shows (dest_of row bit) is settled = dest_shows row bit is settled
  wire_shows (pin_of bel pin) is settled = pin_shows bel pin is settled

-- where each tile works, each wire has the value of what drives it
pub shows_drives : (fabric : PlainFabric) (text : List PlainModule) → HasFabric fabric text → AreRows fabric →
    ((x y : ℕ) (tile : PlainTile) → tile_at fabric x y ≡ Some tile → TileWorks text (place_path x y) tile) → ShowsDrives fabric text
shows_drives fabric text has are works bits inputs held now shows x y tile wire there is settled =
    wire_shows fabric text has are works bits inputs held now shows x y tile there wire is settled
    ∙ ap (drive_value fabric bits held now) (sym (drive_at fabric bits x y wire tile there))
