-- All items of a tile's module stand: what they use is declared, as wide as they use it.
use Rattle.std.proofs.Common.{◌≡◌, ℕ, zero, suc, ◌+◌, ◌*◌, ◌-◌, ◌<◌, ◌≤◌, Bool, true, false, List, [], ◌∷◌, ◌++◌, map, filter, get_or, slice_get, length, nat_eq, refl, sym, ap, ◌∙◌, subst, inl, inr, arith, Option, Some, None, All, Contains}
use Rattle.std.specs.List.{flat_map, enumerate_from}
use Rattle.std.proofs.lemmas.Bool.{cases_Bool}
use Rattle.std.proofs.lemmas.List.{get_or_default}
use Rattle.std.proofs.lemmas.List.FromFn.{length-enumerate_from, get_or-enumerate_from}
use Rattle.std.proofs.lemmas.List.Elements.{All-nil, All-cons, All-head, All-tail, All-append, All-weaker, All-map, All-filter, All-contains, All-contains_itself, Contains-append_left, Contains-append_right}
use Rattle.std.proofs.lemmas.Option.{slice_get-get_or}
use Rattle.fab_kinds.specs.Kinds.{has_flip_flop}
use Rattle.fab_kinds.specs.Pins.{input_names, output_names, pin_names, bit_count}
use Rattle.fab_select.specs.Selection.{select_bits}
use Rattle.fab_syntax.specs.declared.tree.Shape.TheVariants.{Scalar, Vector}
use Rattle.fab_syntax.specs.declared.tree.Port.{Port}
use Rattle.fab_syntax.specs.Plain.{PlainJoin, variable, instance}
use Rattle.fab_meaning.specs.Runs.{user_clock_name}
use Rattle.fab_meaning.specs.Ports.{scalar, config_name}
use Rattle.fab_model.specs.declared.mode.Mode.{Mode}
use Rattle.fab_model.specs.declared.mode.Mode.TheVariants as modes
use Rattle.fab_model.specs.declared.tiles.WireRow.{WireRow}
use Rattle.fab_model.specs.declared.tiles.Bel.{Bel}
use Rattle.fab_model.specs.Rows.{is_jump, is_named, side_bits, source_bits, dest_bits, bit_name, IsWireRow}
use Rattle.fab_model.specs.Tiles.{PlainTile, TileWire, source_bit, dest_bit, bel_pin, counted, row_wires, bel_wires, tile_wires, wire_name, numbered_pairs, bel_bits, tile_bits, IsTile, bits_before}
use Rattle.fab_prim.specs.Ports.{clock_names, top_inputs, top_outputs}
use Rattle.fab_parts_sound_laws.specs.fab_gen_tile_Words.{IsNamed}
use Rattle.fab_parts_sound_laws.specs.fab_gen_tile_Names.{config_module_name, matrix_module_name, config_instance_name, matrix_instance_name, chain_in_name, chain_out_name, bits_name, begin_name, end_name, pad_name, port_join, same_join}
use Rattle.fab_parts_sound_laws.specs.fab_gen_tile_Borders.{border, side_border, border_ports, passing_assign, beginning_assign, begin_assigns, dest_value, dest_assign, row_assigns}
use Rattle.fab_parts_sound_laws.specs.fab_gen_tile_ConfigModule.{config_ports, chain_end}
use Rattle.fab_parts_sound_laws.specs.fab_gen_tile_TileModule.{pad_ports, bels_ports, tile_ports, config_joins, no_config, config_instances, bits_join, is_on_side, side_names, matrix_input_names, matrix_output_names, matrix_joins, matrix_instances, pin_join, pad_join, bel_instance, bel_instances}
use Rattle.fab_parts_sound_laws.proofs.Lists.{all_counted, all_flat_map, all_right, contains_first, contains_later, contains_map, contains_counted}
use Rattle.fab_parts_sound_laws.proofs.fab_tile_drives_laws_Members.{contains_at, contains_flat_map, get_enumerated}
use Rattle.fab_parts_sound_laws.proofs.fab_tile_drives_laws_BorderBits.{border_is, dest_within, jump_source}
use Rattle.fab_parts_sound_laws.proofs.fab_tile_drives_laws_PinPorts.{bits_within}
use Rattle.fab_tiles_sound_laws.proofs.Apart.{instances, later_items}
use Rattle.fab_tiles_sound_laws.proofs.Shapes.{shape_of, port_shape, matrix_shape, bits_shape}
use Rattle.fab_tiles_sound_laws.proofs.Items.{ItemStands, JoinStands, IsBit}

-- ---- lists

pub contains_flat : {X Y : Type 0} (f : X → List Y) (xs : List X) (x : X) (y : Y) → Contains xs x → Contains (f x) y → Contains (flat_map f xs) y
contains_flat f xs x y there among = contains_flat_map f xs there.0 x y (slice_get-get_or xs there.0 x there.1 ∙ ap Some there.2) among

pub all_left : {X : Type 0} (P : X → Type 0) (xs ys : List X) → All P (xs ++ ys) → All P xs
all_left P [] ys all = All-nil P
all_left P (x ∷ xs) ys all = All-cons P x xs (All-head P x (xs ++ ys) all) (all_left P xs ys (All-tail P x (xs ++ ys) all))

-- what holds of each element at its place
pub each_placed : {X : Type 0} (P : ℕ × X → Type 0) (xs : List X) → ((i : ℕ) (x : X) → slice_get xs i ≡ Some x → P (i, x)) → All P (enumerate_from 0 xs)
each_placed {X} P xs each k d few =
    let within : k < length xs = omega (arith, length-enumerate_from 0 xs, few) in
    let number : k ≡ 0 + k = omega arith in
    subst P (sym (get_or-enumerate_from 0 xs k d within))
    (each (0 + k) (get_or xs k d.1) (subst (λ n. slice_get xs n ≡ Some (get_or xs k d.1)) number (slice_get-get_or xs k d.1 within)))

-- ---- what a tile declares

-- without bits the ports of a chain are joined in the tile
handed_on : (mode : Mode) (tile : PlainTile) → ((port : Port) → Contains (config_ports mode) port → shape_of mode tile port.name ≡ Some port.shape) →
    All (ItemStands mode tile) (no_config mode)
handed_on modes.Frames tile shapes = All-nil (ItemStands modes.Frames tile)
handed_on modes.Chain tile shapes =
    All-cons (ItemStands modes.Chain tile) (chain_end 0) []
    (shapes (scalar false chain_out_name) (3, omega arith, refl), shapes (scalar true chain_in_name) (2, omega arith, refl)) (All-nil (ItemStands modes.Chain tile))

module _ (mode : Mode) (tile : PlainTile) (is : IsTile tile) (named : IsNamed tile) where
  wire_scalar : (wire : TileWire) → Contains (tile_wires tile) wire → shape_of mode tile (wire_name wire) ≡ Some Scalar
  wire_scalar wire there = matrix_shape mode tile is named (wire_name wire) (contains_map wire_name (tile_wires tile) wire there)

  behind_config : (port : Port) → Contains (flat_map border_ports tile.rows ++ bels_ports tile.bels) port → Contains (tile_ports mode tile) port
  behind_config port there =
      contains_later (scalar true user_clock_name) (config_ports mode ++ (flat_map border_ports tile.rows ++ bels_ports tile.bels)) port
      (Contains-append_right (config_ports mode) (flat_map border_ports tile.rows ++ bels_ports tile.bels) port there)

  pub clock_shape : shape_of mode tile user_clock_name ≡ Some Scalar
  clock_shape =
      port_shape mode tile is named (scalar true user_clock_name)
      (contains_first (scalar true user_clock_name) (config_ports mode ++ (flat_map border_ports tile.rows ++ bels_ports tile.bels)))

  -- the ports by which its bits come
  pub carried_shape : (port : Port) → Contains (config_ports mode) port → shape_of mode tile port.name ≡ Some port.shape
  carried_shape port there =
      port_shape mode tile is named port
      (contains_later (scalar true user_clock_name) (config_ports mode ++ (flat_map border_ports tile.rows ++ bels_ports tile.bels)) port
      (Contains-append_left (config_ports mode) (flat_map border_ports tile.rows ++ bels_ports tile.bels) port there))

  -- ---- rows

  module _ (row : WireRow) (there : Contains tile.rows row) where
    is_row : IsWireRow row
    is_row = All-contains IsWireRow tile.rows row is.rows there

    row_scalar : (wire : TileWire) → Contains (row_wires row) wire → shape_of mode tile (wire_name wire) ≡ Some Scalar
    row_scalar wire among =
        wire_scalar wire (Contains-append_left (flat_map row_wires tile.rows) (flat_map bel_wires tile.bels) wire (contains_flat row_wires tile.rows row wire there among))

    source_scalar : (bit : ℕ) → bit < source_bits row → shape_of mode tile (bit_name row.source bit) ≡ Some Scalar
    source_scalar bit few =
        row_scalar (source_bit row bit)
        (Contains-append_left (counted (source_bits row) (source_bit row)) (counted (dest_bits row) (dest_bit row)) (source_bit row bit) (contains_counted (source_bits row) (source_bit row) bit few))

    dest_scalar : (bit : ℕ) → bit < dest_bits row → shape_of mode tile (bit_name row.dest bit) ≡ Some Scalar
    dest_scalar bit few =
        row_scalar (dest_bit row bit)
        (Contains-append_right (counted (source_bits row) (source_bit row)) (counted (dest_bits row) (dest_bit row)) (dest_bit row bit) (contains_counted (dest_bits row) (dest_bit row) bit few))

    border_scalar : (port : Port) → Contains (border_ports row) port → shape_of mode tile port.name ≡ Some port.shape
    border_scalar port among =
        port_shape mode tile is named port
        (behind_config port (Contains-append_left (flat_map border_ports tile.rows) (bels_ports tile.bels) port (contains_flat border_ports tile.rows row port there among)))

    module _ (other : is_jump row.dir ≡ false) where
      abbrev begins : List Port
      begins = counted (side_border row row.source) (λ bit. scalar false (begin_name row bit))

      abbrev ends : List Port
      ends = counted (side_border row row.dest) (λ bit. scalar true (end_name row bit))

      begin_scalar : (bit : ℕ) → bit < side_border row row.source → shape_of mode tile (begin_name row bit) ≡ Some Scalar
      begin_scalar bit few =
          let port = scalar false (begin_name row bit) in
          border_scalar port
          (rw other (Contains-append_left begins ends port (contains_counted (side_border row row.source) (λ bit. scalar false (begin_name row bit)) bit few)))

      end_scalar : (bit : ℕ) → bit < side_border row row.dest → shape_of mode tile (end_name row bit) ≡ Some Scalar
      end_scalar bit few =
          let port = scalar true (end_name row bit) in
          border_scalar port
          (rw other (Contains-append_right begins ends port (contains_counted (side_border row row.dest) (λ bit. scalar true (end_name row bit)) bit few)))

      begins_stand : (source dest : Option (List ℕ)) → row.source ≡ source → row.dest ≡ dest → All (ItemStands mode tile) (begin_assigns row source dest)
      begins_stand None dest has_source has_dest = All-nil (ItemStands mode tile)
      begins_stand (Some source) None has_source has_dest =
          all_counted (ItemStands mode tile) (border row) (beginning_assign row 0)
          (λ output few. (
            begin_scalar (0 + output) (subst (λ side. 0 + output < side_border row side) (sym has_source) (let f : output < border row = few in omega arith)),
            source_scalar output
                (subst (λ side. output < side_bits row side row.dest) (sym has_source) (subst (λ side. output < side_bits row (Some source) side) (sym has_dest) (rw other few))),
          ))
      begins_stand (Some source) (Some dest) has_source has_dest =
          let passes = (row.span - 1) * row.count in
          let whole : row.span * row.count ≡ (row.span - 1) * row.count + row.count = border_is row is_row other in
          All-append (ItemStands mode tile) (counted passes (passing_assign row)) (counted row.count (beginning_assign row passes))
          (all_counted (ItemStands mode tile) passes (passing_assign row)
          (λ bit few. (
            begin_scalar bit (subst (λ side. bit < side_border row side) (sym has_source) (let f : bit < passes = few in omega arith)),
            end_scalar (bit + row.count) (subst (λ side. bit + row.count < side_border row side) (sym has_dest) (let f : bit < passes = few in omega arith)),
          )))
          (all_counted (ItemStands mode tile) row.count (beginning_assign row passes)
          (λ output few. (
            begin_scalar (passes + output) (subst (λ side. passes + output < side_border row side) (sym has_source) (let f : output < row.count = few in omega arith)),
            source_scalar output
                (subst (λ side. output < side_bits row side row.dest) (sym has_source) (subst (λ side. output < side_bits row (Some source) side) (sym has_dest) (rw other few))),
          )))

    dest_bit_stands : (bit : ℕ) → bit < dest_bits row → IsBit mode tile (dest_value row bit)
    dest_bit_stands bit few =
        elim (cases_Bool (is_jump row.dir)) [
          | inl jump ↦ elim (cases_Bool (is_named row.source)) [
            | inl has ↦ rw jump (rw has (source_scalar bit (jump_source row bit jump has few)))
            | inr lacks ↦ rw jump (rw lacks refl)
          ]
          | inr other ↦ rw other (end_scalar other bit (dest_within row is_row other bit few))
        ]

    row_stands : All (ItemStands mode tile) (row_assigns row)
    row_stands =
        let dests : All (ItemStands mode tile) (counted (dest_bits row) (dest_assign row)) =
        all_counted (ItemStands mode tile) (dest_bits row) (dest_assign row) (λ bit few. (dest_scalar bit few, dest_bit_stands bit few)) in
        elim (cases_Bool (is_jump row.dir)) [
          | inl jump ↦ rw jump dests
          | inr other ↦ rw other (All-append (ItemStands mode tile) (begin_assigns row row.source row.dest) (counted (dest_bits row) (dest_assign row)) (begins_stand other row.source row.dest refl refl) dests)
        ]

  rows_stand : All (ItemStands mode tile) (flat_map row_assigns tile.rows)
  rows_stand =
      all_flat_map (ItemStands mode tile) row_assigns tile.rows
      (All-weaker (Contains tile.rows) (λ row. All (ItemStands mode tile) (row_assigns row)) row_stands tile.rows (All-contains_itself tile.rows))

  -- ---- configuration and matrix

  abbrev Stands : PlainJoin → Type 0
  Stands join = JoinStands mode tile join.to

  config_joins_stand : 0 < tile_bits tile → All Stands (config_joins mode)
  config_joins_stand some =
      let same : Port → PlainJoin = λ port. same_join port.name in
      let bits = port_join config_name (variable bits_name) in
      All-append Stands (map same (config_ports mode)) (bits ∷ [])
      (All-map Stands same (config_ports mode)
      (All-weaker (Contains (config_ports mode)) (λ port. Stands (same port)) (λ port there. (port.shape, carried_shape port there)) (config_ports mode) (All-contains_itself (config_ports mode))))
      (All-cons Stands bits [] (Vector (tile_bits tile), bits_shape mode tile is named some) (All-nil Stands))

  config_stands : (bits : ℕ) → tile_bits tile ≡ bits → All (ItemStands mode tile) (config_instances mode tile bits)
  config_stands zero are = handed_on mode tile carried_shape
  config_stands (suc bits) are =
      let all : tile_bits tile ≡ suc bits = are in
      All-cons (ItemStands mode tile) (instance (config_module_name tile) config_instance_name (config_joins mode)) [] (config_joins_stand (omega arith)) (All-nil (ItemStands mode tile))

  bits_join_stands : (low bits : ℕ) → low + bits ≤ tile_bits tile → All Stands (bits_join low bits)
  bits_join_stands low zero within = All-nil Stands
  bits_join_stands low (suc bits) within =
      All-cons Stands _ [] (tile_bits tile, bits_shape mode tile is named (omega arith), omega arith, omega arith) (All-nil Stands)

  pub side_scalars : (output : Bool) → All (λ name. shape_of mode tile name ≡ Some Scalar) (side_names output (tile_wires tile))
  side_scalars output =
      All-map (λ name. shape_of mode tile name ≡ Some Scalar) wire_name (filter (is_on_side output) (tile_wires tile))
      (All-filter (is_on_side output) (λ wire. shape_of mode tile (wire_name wire) ≡ Some Scalar) (tile_wires tile)
      (All-weaker (Contains (tile_wires tile)) (λ wire. shape_of mode tile (wire_name wire) ≡ Some Scalar) wire_scalar (tile_wires tile) (All-contains_itself (tile_wires tile))))

  same_joins_stand : (names : List (List ℕ)) → All (λ name. shape_of mode tile name ≡ Some Scalar) names → All Stands (map same_join names)
  same_joins_stand names scalars = All-map Stands same_join names (λ k d few. (Scalar, scalars k d few))

  matrix_joins_stand : All Stands (matrix_joins tile)
  matrix_joins_stand =
      let selects = bits_join (bel_bits tile) (select_bits nat_eq (numbered_pairs tile)) in
      All-append Stands (map same_join (matrix_input_names tile)) (selects ++ map same_join (matrix_output_names tile)) (same_joins_stand (matrix_input_names tile) (side_scalars false))
      (All-append Stands selects (map same_join (matrix_output_names tile)) (bits_join_stands (bel_bits tile) (select_bits nat_eq (numbered_pairs tile)) (omega arith))
      (same_joins_stand (matrix_output_names tile) (side_scalars true)))

  matrix_stands : (outputs : List (List ℕ)) → All (ItemStands mode tile) (matrix_instances tile outputs)
  matrix_stands [] = All-nil (ItemStands mode tile)
  matrix_stands (output ∷ outputs) =
      All-cons (ItemStands mode tile) (instance (matrix_module_name tile) matrix_instance_name (matrix_joins tile)) [] matrix_joins_stand (All-nil (ItemStands mode tile))

  -- ---- BELs

  module _ (place : ℕ) (bel : Bel) (there : slice_get tile.bels place ≡ Some bel) where
    pins_scalar : All (λ pin. shape_of mode tile (bel.prefix ++ pin) ≡ Some Scalar) (pin_names bel.kind)
    pins_scalar k d few =
        subst (λ pin. shape_of mode tile (bel.prefix ++ pin) ≡ Some Scalar) (get_or_default (pin_names bel.kind) k [] d few)
        (wire_scalar (bel_pin bel k)
        (Contains-append_right (flat_map row_wires tile.rows) (flat_map bel_wires tile.bels) (bel_pin bel k)
        (contains_flat bel_wires tile.bels bel (bel_pin bel k) (contains_at tile.bels place bel there) (contains_counted (length (pin_names bel.kind)) (bel_pin bel) k few))))

    pub inputs_scalar : All (λ pin. shape_of mode tile (bel.prefix ++ pin) ≡ Some Scalar) (input_names bel.kind)
    inputs_scalar = all_left (λ pin. shape_of mode tile (bel.prefix ++ pin) ≡ Some Scalar) (input_names bel.kind) (output_names bel.kind) pins_scalar

    pub outputs_scalar : All (λ pin. shape_of mode tile (bel.prefix ++ pin) ≡ Some Scalar) (output_names bel.kind)
    outputs_scalar = all_right (λ pin. shape_of mode tile (bel.prefix ++ pin) ≡ Some Scalar) (input_names bel.kind) (output_names bel.kind) pins_scalar

    pub clocks_scalar : All (λ name. shape_of mode tile name ≡ Some Scalar) (clock_names bel.kind)
    clocks_scalar =
        elim (cases_Bool (has_flip_flop bel.kind)) [
          | inl t ↦ rw t (All-cons (λ name. shape_of mode tile name ≡ Some Scalar) user_clock_name [] clock_shape (All-nil (λ name. shape_of mode tile name ≡ Some Scalar)))
          | inr f ↦ rw f (All-nil (λ name. shape_of mode tile name ≡ Some Scalar))
        ]

    pad_scalar : (port : Port) → Contains (pad_ports place bel.kind) port → shape_of mode tile port.name ≡ Some port.shape
    pad_scalar port among =
        let number : 0 + place ≡ place = omega arith in
        let placed : Contains (enumerate_from 0 tile.bels) (place, bel) =
        contains_at (enumerate_from 0 tile.bels) place (place, bel) (get_enumerated 0 tile.bels place bel there ∙ ap (λ n. Some (n, bel)) number) in
        port_shape mode tile is named port
        (behind_config port
        (Contains-append_right (flat_map border_ports tile.rows) (bels_ports tile.bels) port
        (contains_flat (λ (placed : ℕ × Bel). pad_ports placed.0 placed.1.kind) (enumerate_from 0 tile.bels) (place, bel) port placed among)))

    pub tops_scalar : All (λ port. shape_of mode tile (pad_name place port) ≡ Some Scalar) (top_inputs bel.kind)
    tops_scalar =
        let ins = map (λ port. scalar true (pad_name place port)) (top_inputs bel.kind) in
        let outs = map (λ port. scalar false (pad_name place port)) (top_outputs bel.kind) in
        All-weaker (Contains (top_inputs bel.kind)) (λ port. shape_of mode tile (pad_name place port) ≡ Some Scalar)
        (λ port top. pad_scalar (scalar true (pad_name place port))
        (Contains-append_left ins outs (scalar true (pad_name place port)) (contains_map (λ port. scalar true (pad_name place port)) (top_inputs bel.kind) port top)))
        (top_inputs bel.kind) (All-contains_itself (top_inputs bel.kind))

    pub outside_scalar : All (λ port. shape_of mode tile (pad_name place port) ≡ Some Scalar) (top_outputs bel.kind)
    outside_scalar =
        let ins = map (λ port. scalar true (pad_name place port)) (top_inputs bel.kind) in
        let outs = map (λ port. scalar false (pad_name place port)) (top_outputs bel.kind) in
        All-weaker (Contains (top_outputs bel.kind)) (λ port. shape_of mode tile (pad_name place port) ≡ Some Scalar)
        (λ port top. pad_scalar (scalar false (pad_name place port))
        (Contains-append_right ins outs (scalar false (pad_name place port)) (contains_map (λ port. scalar false (pad_name place port)) (top_outputs bel.kind) port top)))
        (top_outputs bel.kind) (All-contains_itself (top_outputs bel.kind))

    pub low_within : bits_before tile.bels place + bit_count bel.kind ≤ tile_bits tile
    low_within =
        let within : bits_before tile.bels place + bit_count bel.kind ≤ bel_bits tile = bits_within tile.bels place bel there in
        omega arith

    bel_stands : ItemStands mode tile (bel_instance place (bits_before tile.bels place) bel)
    bel_stands =
        All-append Stands (map (pin_join bel) (input_names bel.kind)) _ (All-map Stands (pin_join bel) (input_names bel.kind) (λ k d few. (Scalar, inputs_scalar k d few)))
        (All-append Stands (map same_join (clock_names bel.kind)) _ (same_joins_stand (clock_names bel.kind) clocks_scalar)
        (All-append Stands (bits_join (bits_before tile.bels place) (bit_count bel.kind)) _ (bits_join_stands (bits_before tile.bels place) (bit_count bel.kind) low_within)
        (All-append Stands (map (pad_join place) (top_inputs bel.kind)) _ (All-map Stands (pad_join place) (top_inputs bel.kind) (λ k d few. (Scalar, tops_scalar k d few)))
        (All-append Stands (map (pin_join bel) (output_names bel.kind)) _ (All-map Stands (pin_join bel) (output_names bel.kind) (λ k d few. (Scalar, outputs_scalar k d few)))
        (All-map Stands (pad_join place) (top_outputs bel.kind) (λ k d few. (Scalar, outside_scalar k d few)))))))

  bels_stand : All (ItemStands mode tile) (bel_instances tile.bels)
  bels_stand =
      All-map (ItemStands mode tile) (λ (placed : ℕ × Bel). bel_instance placed.0 (bits_before tile.bels placed.0) placed.1) (enumerate_from 0 tile.bels)
      (each_placed (λ (placed : ℕ × Bel). ItemStands mode tile (bel_instance placed.0 (bits_before tile.bels placed.0) placed.1)) tile.bels bel_stands)

  -- ---- all of them

  pub all_stand : All (ItemStands mode tile) (later_items mode tile)
  all_stand =
      All-append (ItemStands mode tile) (flat_map row_assigns tile.rows) (instances mode tile) rows_stand
      (All-append (ItemStands mode tile) (config_instances mode tile (tile_bits tile)) _ (config_stands (tile_bits tile) refl)
      (All-append (ItemStands mode tile) (matrix_instances tile (matrix_output_names tile)) (bel_instances tile.bels) (matrix_stands (matrix_output_names tile)) bels_stand))
