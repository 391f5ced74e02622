-- How many bits the nets of a fabric's top have.
use Rattle.std.proofs.Common.{◌≡◌, ◌≢◌, ℕ, ◌<◌, true, false, List, [], ◌∷◌, ◌++◌, map, get_or, refl, sym, ap, ◌∙◌, inl, inr, Some, All, Contains, nat_eq, append_assoc}
use Rattle.std.specs.List.{flat_map, enumerate_from}
use Rattle.std.specs.Str.{bytes_eq}
use Rattle.std.proofs.lemmas.Bool.{cases_Bool, false≢true}
use Rattle.std.proofs.lemmas.List.Elements.{All-cons, All-head, All-tail, All-append, All-map}
use Rattle.fab_syntax.specs.declared.tree.Shape.TheVariants.{Scalar, Vector}
use Rattle.fab_syntax.specs.declared.tree.Port.{Port}
use Rattle.fab_syntax.specs.Plain.{PlainItem, wire}
use Rattle.fab_syntax.specs.Declarations.{width_if_any, item_shape, declared_width}
use Rattle.fab_meaning.specs.Runs.{user_clock_name, clock_name}
use Rattle.fab_meaning.specs.Ports.{scalar}
use Rattle.fab_meaning.specs.Loading.{write_strobe_name, write_data_name}
use Rattle.fab_meaning.proofs.Dependence.{same_name}
use Rattle.fab_drives_laws.specs.fab_prim_Ports.{top_inputs, top_outputs}
use Rattle.fab_drives_laws.specs.fab_model_mode_Mode.{Mode}
use Rattle.fab_drives_laws.specs.fab_model_mode_Mode_TheVariants as modes
use Rattle.fab_drives_laws.specs.fab_model_tiles_Bel.{Bel}
use Rattle.fab_drives_laws.specs.fab_model_Tiles.{counted}
use Rattle.fab_drives_laws.specs.fab_model_Grid.{PlainFabric}
use Rattle.fab_drives_laws.specs.fab_fabric_text_defs_Names.{column_strobe_name, pad_port_name, chain_wire_name}
use Rattle.fab_drives_laws.specs.fab_gen_loader_Loader.{address_port, strobe_port, row_port}
use Rattle.fab_drives_laws.specs.fab_fabric_text_defs_Mode.{text_mode}
use Rattle.fab_drives_laws.specs.fab_fabric_text_defs_Places.{PlacedTile, placed_tiles}
use Rattle.fab_drives_laws.specs.fab_fabric_text_defs_Top.{pad_ports, tile_pads, data_shape, data_port, top_ports, loader_instance, column_strobes, chain_wire, carrying_items, tile_begin_wires, tile_instance, top_items, top_module}
use Rattle.fab_drives_laws.proofs.fab_tile_drives_laws_Driven.{width_of}
use Rattle.fab_drives_laws.proofs.fab_tile_drives_laws_Endings.{all_flat_map}
use Rattle.fab_drives_laws.proofs.fab_tile_drives_laws_Widths.{passed_ports}
use Rattle.fab_drives_laws.proofs.Lists.{first_or_later, none_there, all_of}
use Rattle.fab_drives_laws.proofs.Apart.{told_apart}
use Rattle.fab_text_loads_laws.proofs.Declared.{wire_found, wires_passed}

-- the first letter of the ports' names
abbrev letter_of : List ℕ → ℕ
letter_of name = get_or name 0 0

module _ (name : List ℕ) (no_pad : nat_eq 88 (letter_of name) ≡ false) where
  abbrev Differs : Port → Type 0
  Differs port = port.name ≢ name

  pads_differ : (x y : ℕ) (placed : ℕ × Bel) → All Differs (pad_ports x y placed)
  pads_differ x y placed =
      let kind = placed.1.kind in
      let in_port = λ (port : List ℕ). scalar true (pad_port_name x y placed.0 port) in
      let out_port = λ (port : List ℕ). scalar false (pad_port_name x y placed.0 port) in
      let apart : (port : List ℕ) → pad_port_name x y placed.0 port ≢ name = λ port. told_apart 0 (pad_port_name x y placed.0 port) name no_pad in
      All-append Differs (map in_port (top_inputs kind)) (map out_port (top_outputs kind))
      (All-map Differs in_port (top_inputs kind) (all_of (λ (port : List ℕ). Differs (in_port port)) (top_inputs kind) apart))
      (All-map Differs out_port (top_outputs kind) (all_of (λ (port : List ℕ). Differs (out_port port)) (top_outputs kind) apart))

  ports_differ : (fabric : PlainFabric) → nat_eq 67 (letter_of name) ≡ false → nat_eq 85 (letter_of name) ≡ false → nat_eq 87 (letter_of name) ≡ false →
      All Differs (top_ports fabric)
  ports_differ fabric no_clock no_user no_write =
      let pads = flat_map tile_pads (placed_tiles fabric) in
      let words = data_port (text_mode fabric) in
      All-cons Differs (scalar true clock_name) (scalar true user_clock_name ∷ scalar true write_strobe_name ∷ words ∷ pads)
      (told_apart 0 clock_name name no_clock)
      (All-cons Differs (scalar true user_clock_name) (scalar true write_strobe_name ∷ words ∷ pads) (told_apart 0 user_clock_name name no_user)
      (All-cons Differs (scalar true write_strobe_name) (words ∷ pads) (told_apart 0 write_strobe_name name no_write)
      (All-cons Differs words pads (told_apart 0 write_data_name name no_write)
      (all_flat_map Differs tile_pads (placed_tiles fabric)
      (all_of (λ (p : PlacedTile). All Differs (tile_pads p)) (placed_tiles fabric) (λ p.
      all_flat_map Differs (pad_ports p.x p.y) (enumerate_from 0 p.tile.bels)
      (all_of (λ (placed : ℕ × Bel). All Differs (pad_ports p.x p.y placed)) (enumerate_from 0 p.tile.bels) (pads_differ p.x p.y))))))))

  -- so the width is that of a net
  net_width : (fabric : PlainFabric) → nat_eq 67 (letter_of name) ≡ false → nat_eq 85 (letter_of name) ≡ false → nat_eq 87 (letter_of name) ≡ false →
      width_of (top_module fabric) name ≡ width_if_any (item_shape (top_items fabric) name)
  net_width fabric no_clock no_user no_write = passed_ports (top_ports fabric) (top_items fabric) name (ports_differ fabric no_clock no_user no_write)

module _ (fabric : PlainFabric) where
  -- behind what carries the bits
  abbrev pub behind_carrying : List PlainItem
  behind_carrying = flat_map tile_begin_wires (placed_tiles fabric) ++ map (tile_instance fabric) (placed_tiles fabric)

  -- the items of the top in a mode
  shape_in : (mode : Mode) → text_mode fabric ≡ mode → (name : List ℕ) →
      width_if_any (item_shape (top_items fabric) name) ≡ width_if_any (item_shape (carrying_items mode fabric ++ behind_carrying) name)
  shape_in mode is name = ap (λ (m : Mode). width_if_any (item_shape (carrying_items m fabric ++ behind_carrying) name)) is

  -- ---- in frames

  module _ (frames : text_mode fabric ≡ modes.Frames) where
    abbrev behind_wires : List PlainItem
    behind_wires =
        loader_instance fabric.rows ∷ (counted fabric.columns (λ x. wire (Vector 20) (column_strobe_name x)) ++ counted fabric.columns column_strobes)

    abbrev rows_wires : List PlainItem
    rows_wires = counted fabric.rows (λ y. wire (Vector 32) (row_port y))

    pub address_width : width_of (top_module fabric) address_port ≡ 32
    address_width = net_width address_port refl fabric refl refl refl ∙ shape_in modes.Frames frames address_port

    pub strobe_width : width_of (top_module fabric) strobe_port ≡ 1
    strobe_width = net_width strobe_port refl fabric refl refl refl ∙ shape_in modes.Frames frames strobe_port

    pub row_width : (y : ℕ) → y < fabric.rows → width_of (top_module fabric) (row_port y) ≡ 32
    row_width y within =
        net_width (row_port y) refl fabric refl refl refl
        ∙ shape_in modes.Frames frames (row_port y)
        ∙ ap (λ items. width_if_any (item_shape items (row_port y))) (append_assoc rows_wires behind_wires behind_carrying)
        ∙ ap width_if_any (wire_found (Vector 32) row_port (behind_wires ++ behind_carrying) fabric.rows y within)

    pub column_width : (x : ℕ) → x < fabric.columns → width_of (top_module fabric) (column_strobe_name x) ≡ 20
    column_width x within =
        let name = column_strobe_name x in
        let strobes = counted fabric.columns (λ x. wire (Vector 20) (column_strobe_name x)) in
        net_width name refl fabric refl refl refl
        ∙ shape_in modes.Frames frames name
        ∙ ap (λ items. width_if_any (item_shape items name)) (append_assoc rows_wires behind_wires behind_carrying)
        ∙ ap width_if_any (wires_passed (Vector 32) row_port (behind_wires ++ behind_carrying) name fabric.rows (λ y. refl)
        ∙ ap (λ items. item_shape items name) (append_assoc strobes (counted fabric.columns column_strobes) behind_carrying)
        ∙ wire_found (Vector 20) column_strobe_name (counted fabric.columns column_strobes ++ behind_carrying) fabric.columns x within)

  -- ---- in a chain

  module _ (chain : text_mode fabric ≡ modes.Chain) where
    abbrev IsScalar : Port → Type 0
    IsScalar port = port.shape ≡ Scalar

    scalar_pads : (x y : ℕ) (placed : ℕ × Bel) → All IsScalar (pad_ports x y placed)
    scalar_pads x y placed =
        let kind = placed.1.kind in
        let in_port = λ (port : List ℕ). scalar true (pad_port_name x y placed.0 port) in
        let out_port = λ (port : List ℕ). scalar false (pad_port_name x y placed.0 port) in
        All-append IsScalar (map in_port (top_inputs kind)) (map out_port (top_outputs kind))
        (All-map IsScalar in_port (top_inputs kind) (all_of (λ (port : List ℕ). IsScalar (in_port port)) (top_inputs kind) (λ port. refl)))
        (All-map IsScalar out_port (top_outputs kind) (all_of (λ (port : List ℕ). IsScalar (out_port port)) (top_outputs kind) (λ port. refl)))

    scalar_ports : All IsScalar (top_ports fabric)
    scalar_ports =
        let pads = flat_map tile_pads (placed_tiles fabric) in
        let words = data_port (text_mode fabric) in
        All-cons IsScalar (scalar true clock_name) (scalar true user_clock_name ∷ scalar true write_strobe_name ∷ words ∷ pads) refl
        (All-cons IsScalar (scalar true user_clock_name) (scalar true write_strobe_name ∷ words ∷ pads) refl
        (All-cons IsScalar (scalar true write_strobe_name) (words ∷ pads) refl
        (All-cons IsScalar words pads (ap data_shape chain)
        (all_flat_map IsScalar tile_pads (placed_tiles fabric)
        (all_of (λ (p : PlacedTile). All IsScalar (tile_pads p)) (placed_tiles fabric) (λ p.
        all_flat_map IsScalar (pad_ports p.x p.y) (enumerate_from 0 p.tile.bels)
        (all_of (λ (placed : ℕ × Bel). All IsScalar (pad_ports p.x p.y placed)) (enumerate_from 0 p.tile.bels) (scalar_pads p.x p.y))))))))

    -- a name of one bit, be it that of a port or of a net
    one_wide : (ports : List Port) (items : List PlainItem) (name : List ℕ) → All IsScalar ports → width_if_any (item_shape items name) ≡ 1 →
        declared_width ports items name ≡ 1
    one_wide [] items name scalars net = net
    one_wide (port ∷ ports) items name scalars net =
        elim (cases_Bool (bytes_eq port.name name)) [
          | inl here ↦ rw here (ap (λ shape. width_if_any (Some shape)) (All-head IsScalar port ports scalars))
          | inr past ↦ rw past (one_wide ports items name (All-tail IsScalar port ports scalars) net)
        ]

    chain_wire_found : (placed : List PlacedTile) (rest : List PlainItem) (p : PlacedTile) → Contains placed p →
        item_shape (map chain_wire placed ++ rest) (chain_wire_name p.x p.y) ≡ Some Scalar
    chain_wire_found [] rest p listed = absurd (none_there p listed)
    chain_wire_found (first ∷ placed) rest p listed =
        let name = chain_wire_name p.x p.y in
        elim (cases_Bool (bytes_eq (chain_wire_name first.x first.y) name)) [
          | inl here ↦ rw here refl
          | inr past ↦ elim (first_or_later first placed p listed) [
            | inl is ↦ absurd (false≢true (sym past ∙ ap (λ (q : PlacedTile). bytes_eq (chain_wire_name q.x q.y) name) is ∙ same_name name))
            | inr later ↦ rw past (chain_wire_found placed rest p later)
          ]
        ]

    -- the wire behind a tile
    pub chain_wire_width : (p : PlacedTile) → Contains (placed_tiles fabric) p → width_of (top_module fabric) (chain_wire_name p.x p.y) ≡ 1
    chain_wire_width p listed =
        let name = chain_wire_name p.x p.y in
        one_wide (top_ports fabric) (top_items fabric) name scalar_ports
        (shape_in modes.Chain chain name ∙ ap width_if_any (chain_wire_found (placed_tiles fabric) behind_carrying p listed))
