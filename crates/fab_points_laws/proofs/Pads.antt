-- What comes to pads from the top, and what goes from them to the top.
use Rattle.std.proofs.Common.{◌≡◌, ◌≢◌, ◌⊎◌, ◌<◌, nat_eq, ℕ, true, false, List, [], ◌∷◌, ◌++◌, codes, map, get_or, slice_get, refl, sym, ap, ◌∙◌, subst, inl, inr, arith, Some, All, Contains}
use Rattle.std.specs.List.{flat_map, enumerate_from}
use Rattle.std.proofs.lemmas.List.Elements.{All-nil, All-cons, All-append, All-contains, Contains-append_left, Contains-append_right, Contains-get_or}
use Rattle.fab_kinds.specs.declared.kind.Kind.{Kind}
use Rattle.fab_kinds.specs.declared.kind.Kind.TheVariants as kinds
use Rattle.fab_syntax.specs.declared.tree.Port.{Port}
use Rattle.fab_syntax.specs.Plain.{PlainModule, variable}
use Rattle.fab_syntax.specs.Declarations.{is_input, is_input_of}
use Rattle.fab_meaning.specs.Points.{point, outside, module_at}
use Rattle.fab_meaning.specs.Settled.{Assignment}
use Rattle.fab_meaning.specs.Runs.{user_clock_name, clock_name}
use Rattle.fab_meaning.proofs.Modules.{each_all}
use Rattle.fab_meaning.specs.Ports.{scalar}
use Rattle.fab_prim.specs.Ports.{top_name, top_inputs, top_outputs}
use Rattle.fab_model.specs.declared.mode.Mode.{Mode}
use Rattle.fab_model.specs.declared.tiles.WireRow.{WireRow}
use Rattle.fab_model.specs.declared.tiles.Bel.{Bel}
use Rattle.fab_model.specs.Rows.{is_jump}
use Rattle.fab_model.specs.Tiles.{PlainTile, counted}
use Rattle.fab_model.specs.Grid.{PlainFabric, tile_at}
use Rattle.fab_fabric.specs.Names.{place_name}
use Rattle.fab_fabric.specs.Fabric.{IsFabric, AreTiles}
use Rattle.fab_use_defs.specs.fab_gen_tile_Names.{tile_module_name, frame_data_name, frame_strobe_name, chain_in_name, begin_name, end_name, pad_name, port_join, same_join}
use Rattle.fab_use_defs.specs.fab_gen_tile_Borders.{side_border, border_ports}
use Rattle.fab_use_defs.specs.fab_gen_tile_ConfigModule.{chain_ports, config_ports, frame_ports}
use Rattle.fab_use_defs.specs.fab_gen_tile_TileModule.{pad_ports, bels_ports, tile_ports, tile_module}
use Rattle.fab_meaning.specs.Loading.{write_strobe_name}
use Rattle.fab_use_defs.specs.fab_fabric_text_defs_Mode.{text_mode}
use Rattle.fab_use_defs.specs.fab_fabric_text_defs_Names.{pad_port_name}
use Rattle.fab_use_defs.specs.fab_fabric_text_defs_Places.{PlacedTile, placed_tiles}
use Rattle.fab_use_defs.specs.fab_fabric_text_defs_Top as top
use Rattle.fab_use_defs.specs.fab_fabric_text_defs_Top.{config_joins, data_port, row_joins, pad_joins, tile_joins, tile_pads, top_ports, top_items, top_module}
use Rattle.fab_use_defs.proofs.fab_tile_drives_laws_Endings.{all_flat_map, all_counted}
use Rattle.fab_use_defs.proofs.fab_tile_drives_laws_Members.{contains_map}
use Rattle.fab_use_defs.proofs.fab_tile_drives_laws_Modes.{each_mode}
use Rattle.fab_use_defs.specs.fab_drives_laws_Points.{place_path}
use Rattle.fab_use_defs.proofs.fab_drives_laws_Lists.{contains_flat, contains_numbered, all_of, all_if}
use Rattle.fab_use_defs.proofs.fab_drives_laws_Apart.{told_apart, one_of_name}
use Rattle.fab_use_defs.proofs.fab_drives_laws_Declared.{port_has_direction}
use Rattle.fab_use_defs.proofs.fab_drives_laws_Places.{placed_tile, tile_is_placed}
use Rattle.fab_use_defs.proofs.fab_drives_laws_Instances.{tile_instance_there}
use Rattle.fab_use_defs.proofs.fab_drives_laws_Texts.{HasFabric}
use Rattle.fab_use_defs.proofs.fab_drives_laws_TilePorts.{pad_is_input}
use Rattle.fab_use_defs.proofs.fab_drives_laws_TopNames.{pad_port_has_bits}
use Rattle.fab_use_defs.proofs.fab_drives_laws_TileJoins.{pad_is_joined}
use Rattle.fab_text_sound_laws.proofs.TopDeclared.{ports_apart}
use Rattle.fab_use_defs.specs.Sources.{shows, top_input}
use Rattle.fab_ternary_laws.specs.Shown.{Terns}
use Rattle.fab_points_laws.specs.Shown.{Shown}
use Rattle.fab_points_laws.proofs.Shown.{shown_in, shown_out}

-- ---- the ports of a tile

pub all_border_ports : (P : Port → Type 0) → ((row : WireRow) (bit : ℕ) → P (scalar false (begin_name row bit))) → ((row : WireRow) (bit : ℕ) → P (scalar true (end_name row bit))) →
    (row : WireRow) → All P (border_ports row)
all_border_ports P begins ends row =
    let outs = counted (side_border row row.source) (λ bit. scalar false (begin_name row bit)) in
    let ins = counted (side_border row row.dest) (λ bit. scalar true (end_name row bit)) in
    all_if P (is_jump row.dir) [] (outs ++ ins) (All-nil P)
    (All-append P outs ins
    (all_counted P (side_border row row.source) (λ bit. scalar false (begin_name row bit)) (λ bit few. begins row bit))
    (all_counted P (side_border row row.dest) (λ bit. scalar true (end_name row bit)) (λ bit few. ends row bit)))

pub all_pad_ports : (P : Port → Type 0) → ((bel : ℕ) → P (scalar true (pad_name bel top_name))) → ((bel : ℕ) → P (scalar false (pad_name bel (codes "I_top")))) →
    ((bel : ℕ) → P (scalar false (pad_name bel (codes "T_top")))) → (bel : ℕ) (kind : Kind) → All P (pad_ports bel kind)
all_pad_ports P ins outs enables bel kinds.Lut4c = All-nil P
all_pad_ports P ins outs enables bel kinds.Io = each_all P (pad_ports bel kinds.Io) (ins bel, (outs bel, (enables bel, tt)))
all_pad_ports P ins outs enables bel kinds.Mux8 = All-nil P

-- a port of this name goes out
abbrev IsOutput : (name : List ℕ) → Port → Type 0
IsOutput name other = other.name ≡ name → other.input ≡ false

-- the bits of the configuration come in, and along a chain one goes out
carrying_ports : (mode : Mode) (name : List ℕ) → All (λ other. other ≢ name) (frame_data_name ∷ frame_strobe_name ∷ clock_name ∷ write_strobe_name ∷ chain_in_name ∷ []) →
    All (IsOutput name) (config_ports mode)
carrying_ports mode name others =
    let names : List (List ℕ) = frame_data_name ∷ frame_strobe_name ∷ clock_name ∷ write_strobe_name ∷ chain_in_name ∷ [] in
    let differs : (k : ℕ) → k < 5 → get_or names k [] ≢ name = λ k few. All-contains (λ (other : List ℕ). other ≢ name) names (get_or names k []) others (Contains-get_or names k [] few) in
    each_mode (IsOutput name)
    (each_all (IsOutput name) frame_ports ((λ same. absurd (differs 0 (omega arith) same)), ((λ same. absurd (differs 1 (omega arith) same)), tt)))
    (each_all (IsOutput name) chain_ports (
      (λ same. absurd (differs 2 (omega arith) same)),
      (
        (λ same. absurd (differs 3 (omega arith) same)),
        ((λ same. absurd (differs 4 (omega arith) same)), ((λ same. refl), tt)),
      ),
    )) mode

all_ports : (mode : Mode) (tile : PlainTile) (name : List ℕ) → user_clock_name ≢ name → All (IsOutput name) (config_ports mode) →
    ((row : WireRow) (bit : ℕ) → end_name row bit ≢ name) → ((other : ℕ) → pad_name other top_name ≢ name) → All (IsOutput name) (tile_ports mode tile)
all_ports mode tile name clock carrying ends ins =
    let P : Port → Type 0 = IsOutput name in
    let borders = flat_map border_ports tile.rows in
    let pads = bels_ports tile.bels in
    All-cons P (scalar true user_clock_name) (config_ports mode ++ (borders ++ pads)) (λ same. absurd (clock same))
    (All-append P (config_ports mode) (borders ++ pads) carrying
    (All-append P borders pads
    (all_flat_map P border_ports tile.rows (all_of (λ (row : WireRow). All P (border_ports row)) tile.rows (all_border_ports P (λ row bit same. refl) (λ row bit same. absurd (ends row bit same)))))
    (all_flat_map P (λ (placed : ℕ × Bel). pad_ports placed.0 placed.1.kind) (enumerate_from 0 tile.bels)
    (all_of (λ (placed : ℕ × Bel). All P (pad_ports placed.0 placed.1.kind)) (enumerate_from 0 tile.bels)
    (λ placed. all_pad_ports P (λ bel same. absurd (ins bel same)) (λ bel same. refl) (λ bel same. refl) placed.0 placed.1.kind)))))

module _ (mode : Mode) (tile : PlainTile) (number : ℕ) (bel : Bel) (stands : slice_get tile.bels number ≡ Some bel) (port : List ℕ) (is_pad : Contains (top_outputs bel.kind) port) where
  pub outside_port : Contains (tile_ports mode tile) (scalar false (pad_name number port))
  outside_port =
      let one = scalar false (pad_name number port) in
      let ins = map (λ name. scalar true (pad_name number name)) (top_inputs bel.kind) in
      let outs = map (λ name. scalar false (pad_name number name)) (top_outputs bel.kind) in
      let borders = flat_map border_ports tile.rows in
      let pads = bels_ports tile.bels in
      let placed : ℕ × Bel = (number, bel) in
      Contains-append_right (scalar true user_clock_name ∷ config_ports mode) (borders ++ pads) one
      (Contains-append_right borders pads one
      (contains_flat (λ (p : ℕ × Bel). pad_ports p.0 p.1.kind) (enumerate_from 0 tile.bels) placed one (contains_numbered tile.bels number bel stands)
      (Contains-append_right ins outs one (contains_map (λ name. scalar false (pad_name number name)) (top_outputs bel.kind) port is_pad))))

  -- a name that has another fifth letter is none of those by which bits come
  told_all : (name : List ℕ) → nat_eq (get_or frame_data_name 4 0) (get_or name 4 0) ≡ false → nat_eq (get_or frame_strobe_name 4 0) (get_or name 4 0) ≡ false →
      nat_eq (get_or clock_name 4 0) (get_or name 4 0) ≡ false → nat_eq (get_or write_strobe_name 4 0) (get_or name 4 0) ≡ false →
      nat_eq (get_or chain_in_name 4 0) (get_or name 4 0) ≡ false →
      All (λ other. other ≢ name) (frame_data_name ∷ frame_strobe_name ∷ clock_name ∷ write_strobe_name ∷ chain_in_name ∷ [])
  told_all name frame strobe clock write comes =
      each_all (λ other. other ≢ name) (frame_data_name ∷ frame_strobe_name ∷ clock_name ∷ write_strobe_name ∷ chain_in_name ∷ []) (
        told_apart 4 frame_data_name name frame,
        (told_apart 4 frame_strobe_name name strobe, (told_apart 4 clock_name name clock, (told_apart 4 write_strobe_name name write, (told_apart 4 chain_in_name name comes, tt)))),
      )

  -- pads are told apart from what comes in by the first letter of the port, and from other ports before
  outside_is_output : (port ≡ codes "I_top") ⊎ (port ≡ codes "T_top") → is_input (tile_ports mode tile) (pad_name number port) ≡ false
  outside_is_output (inl is) = subst (λ p. is_input (tile_ports mode tile) (pad_name number p) ≡ false) (sym is) (
      let name = pad_name number (codes "I_top") in
      port_has_direction (tile_ports mode tile) (scalar false name) (subst (λ p. Contains (tile_ports mode tile) (scalar false (pad_name number p))) is outside_port)
      (all_ports mode tile name (told_apart 4 user_clock_name name refl) (carrying_ports mode name (told_all name refl refl refl refl refl))
      (λ other n. told_apart 4 (end_name other n) name refl) (λ other. told_apart 8 (pad_name other top_name) name refl)))
  outside_is_output (inr is) = subst (λ p. is_input (tile_ports mode tile) (pad_name number p) ≡ false) (sym is) (
      let name = pad_name number (codes "T_top") in
      port_has_direction (tile_ports mode tile) (scalar false name) (subst (λ p. Contains (tile_ports mode tile) (scalar false (pad_name number p))) is outside_port)
      (all_ports mode tile name (told_apart 4 user_clock_name name refl) (carrying_ports mode name (told_all name refl refl refl refl refl))
      (λ other n. told_apart 4 (end_name other n) name refl) (λ other. told_apart 8 (pad_name other top_name) name refl)))

-- the ports of pads to the outside
pub which_outside : (kind : Kind) (port : List ℕ) → Contains (top_outputs kind) port → (port ≡ codes "I_top") ⊎ (port ≡ codes "T_top")
which_outside kinds.Lut4c port there = absurd (let few = there.1 in omega (arith, few))
which_outside kinds.Io port there =
    All-contains (λ (p : List ℕ). (p ≡ codes "I_top") ⊎ (p ≡ codes "T_top")) (top_outputs kinds.Io) port
    (each_all (λ (p : List ℕ). (p ≡ codes "I_top") ⊎ (p ≡ codes "T_top")) (top_outputs kinds.Io) (inl refl, (inr refl, tt))) there
which_outside kinds.Mux8 port there = absurd (let few = there.1 in omega (arith, few))

-- ---- the top

pub outside_is_joined : (fabric : PlainFabric) (placed : PlacedTile) (number : ℕ) (bel : Bel) (port : List ℕ) → slice_get placed.tile.bels number ≡ Some bel → Contains (top_outputs bel.kind) port →
    Contains (tile_joins fabric placed) (port_join (pad_name number port) (variable (pad_port_name placed.x placed.y number port)))
outside_is_joined fabric placed number bel port stands is_pad =
    let front = same_join user_clock_name ∷ config_joins (text_mode fabric) fabric placed in
    let borders = flat_map (row_joins fabric placed) (enumerate_from 0 placed.tile.rows) in
    let pads = flat_map (pad_joins placed.x placed.y) (enumerate_from 0 placed.tile.bels) in
    let pad_join = λ (port : List ℕ). port_join (pad_name number port) (variable (pad_port_name placed.x placed.y number port)) in
    let join = pad_join port in
    let numbered : ℕ × Bel = (number, bel) in
    Contains-append_right front (borders ++ pads) join
    (Contains-append_right borders pads join
    (contains_flat (pad_joins placed.x placed.y) (enumerate_from 0 placed.tile.bels) numbered join (contains_numbered placed.tile.bels number bel stands)
    (Contains-append_right (map pad_join (top_inputs bel.kind)) (map pad_join (top_outputs bel.kind)) join (contains_map pad_join (top_outputs bel.kind) port is_pad))))

pub top_port : (fabric : PlainFabric) (x y : ℕ) (tile : PlainTile) (number : ℕ) (bel : Bel) (port : List ℕ) → tile_at fabric x y ≡ Some tile → slice_get tile.bels number ≡ Some bel →
    Contains (top_inputs bel.kind) port → Contains (top_ports fabric) (scalar true (pad_port_name x y number port))
top_port fabric x y tile number bel port there stands is_pad =
    let one = scalar true (pad_port_name x y number port) in
    let placed : ℕ × Bel = (number, bel) in
    let front = scalar true clock_name ∷ scalar true user_clock_name ∷ scalar true write_strobe_name ∷ data_port (text_mode fabric) ∷ [] in
    let in_port = λ (name : List ℕ). scalar true (pad_port_name x y number name) in
    let out_port = λ (name : List ℕ). scalar false (pad_port_name x y number name) in
    Contains-append_right front (flat_map tile_pads (placed_tiles fabric)) one
    (contains_flat tile_pads (placed_tiles fabric) (placed_tile x y tile) one (tile_is_placed fabric x y tile there)
    (contains_flat (top.pad_ports x y) (enumerate_from 0 tile.bels) placed one (contains_numbered tile.bels number bel stands)
    (Contains-append_left (map in_port (top_inputs bel.kind)) (map out_port (top_outputs bel.kind)) one (contains_map in_port (top_inputs bel.kind) port is_pad))))

-- a port that no other port has the name of has its own direction
direction_of : (fabric : PlainFabric) → IsFabric fabric → AreTiles fabric → (port : Port) → Contains (top_ports fabric) port → is_input (top_ports fabric) port.name ≡ port.input
direction_of fabric is are port there =
    port_has_direction (top_ports fabric) port there
    (λ k d few same. ap (λ (p : Port). p.input)
    (one_of_name (λ (p : Port). p.name) (top_ports fabric) (get_or (top_ports fabric) k d) port (ports_apart fabric is are) (Contains-get_or (top_ports fabric) k d few) there same))

module _ (fabric : PlainFabric) (text : List PlainModule) (is : IsFabric fabric) (are : AreTiles fabric) (has : HasFabric fabric text) (inputs held : Assignment) (t : Terns)
    (x y : ℕ) (tile : PlainTile) (number : ℕ) (bel : Bel) (there : tile_at fabric x y ≡ Some tile) (stands : slice_get tile.bels number ≡ Some bel) where
  -- a port of the top comes from outside
  pub outer_shown : (port : List ℕ) → Contains (top_inputs bel.kind) port → Shown text inputs held t (point [] (pad_port_name x y number port) 0) top_input
  outer_shown port is_pad =
      let one = scalar true (pad_port_name x y number port) in
      let input : is_input_of (module_at text []) (pad_port_name x y number port) ≡ true =
      ap (λ m. is_input_of m (pad_port_name x y number port)) has.top_is ∙ direction_of fabric is are one (top_port fabric x y tile number bel port there stands is_pad) in
      record { driver = outside; drives = inl (record { top = refl; input = input; is = refl }); is = refl }

  -- a pad in its tile shows it
  pub comes_shown : Contains (top_inputs bel.kind) top_name → Shown text inputs held t (point (place_path x y) (pad_name number top_name) 0) (shows (point [] (pad_port_name x y number top_name) 0))
  comes_shown is_pad =
      let placed = placed_tile x y tile in
      shown_in text inputs held t [] (top_module fabric) has.top_is (tile_module (text_mode fabric) tile) (tile_module_name tile) (place_name x y) (tile_joins fabric placed)
      (has.module_is x y tile there) (tile_instance_there fabric x y tile there) (pad_name number top_name) (pad_port_name x y number top_name)
      (pad_is_joined fabric placed number bel stands is_pad) (pad_is_input (text_mode fabric) tile number bel stands is_pad)
      (pad_port_has_bits fabric x y tile number bel there stands is_pad)

  -- and the top what the tile gives
  pub leaves_shown : (port : List ℕ) → Contains (top_outputs bel.kind) port → Shown text inputs held t (point [] (pad_port_name x y number port) 0) (shows (point (place_path x y) (pad_name number port) 0))
  leaves_shown port is_pad =
      let placed = placed_tile x y tile in
      shown_out text inputs held t [] (top_module fabric) has.top_is (tile_module (text_mode fabric) tile) (tile_module_name tile) (place_name x y) (tile_joins fabric placed)
      (has.module_is x y tile there) (tile_instance_there fabric x y tile there) (pad_name number port) (pad_port_name x y number port)
      (outside_is_joined fabric placed number bel port stands is_pad) (outside_is_output (text_mode fabric) tile number bel stands port is_pad (which_outside bel.kind port is_pad))
