-- All named points are within, where those of the top and of the loader are, and in each tile those by which its bits come and which keep them.
use Rattle.std.proofs.Common.{◌≡◌, ℕ, ◌<◌, Bool, true, false, List, [], ◌∷◌, ◌++◌, map, reverse, sym, ap, subst, inl, inr, arith, Some, All, Contains}
use Rattle.std.proofs.lemmas.Bool.{or_cases, false≢true}
use Rattle.std.proofs.lemmas.List.Elements.{All-nil, All-cons, All-head, All-tail, All-append, All-map, All-contains}
use Rattle.fab_syntax.specs.declared.tree.Shape.TheVariants.{Scalar}
use Rattle.fab_syntax.specs.declared.tree.Port.{Port}
use Rattle.fab_syntax.specs.Plain.{PlainExpr, PlainModule, variable, plain_exprs, reg, assign}
use Rattle.fab_syntax.specs.Declarations.{is_input}
use Rattle.fab_meaning.specs.Points.{Path, Point, point, module_at}
use Rattle.fab_meaning.specs.Reads.{mentions, some_mentions, is_declared}
use Rattle.fab_meaning.specs.Loading.{Within}
use Rattle.fab_meaning.specs.Ports.{config_name}
use Rattle.fab_drives_laws.specs.fab_model_mode_Mode.{Mode}
use Rattle.fab_drives_laws.specs.fab_model_mode_Mode_TheVariants as modes
use Rattle.fab_drives_laws.specs.fab_model_Tiles.{PlainTile, counted, tile_bits}
use Rattle.fab_drives_laws.specs.fab_model_Grid.{PlainFabric, tile_at}
use Rattle.fab_drives_laws.specs.fab_fabric_Names.{place_name}
use Rattle.fab_drives_laws.specs.fab_gen_tile_Names.{tile_module_name, config_module_name, config_instance_name, bits_name, latch_name, vector, port_join}
use Rattle.fab_drives_laws.specs.fab_gen_tile_ConfigModule.{config_ports, bit_latch, bit_flop, chain_end, keeping_items, all_latches, config_items, config_module}
use Rattle.fab_drives_laws.specs.fab_gen_tile_TileModule.{config_joins, tile_module}
use Rattle.fab_drives_laws.specs.fab_fabric_text_defs_Mode.{text_mode}
use Rattle.fab_drives_laws.specs.fab_fabric_text_defs_Top.{config_joins as carrying_joins, tile_joins, top_module}
use Rattle.fab_drives_laws.specs.fab_tile_drives_laws_Stands.{TileStands}
use Rattle.fab_drives_laws.specs.Points.{place_path}
use Rattle.fab_parts_sound_laws.proofs.Lists.{all_reverse}
use Rattle.fab_drives_laws.proofs.fab_tile_drives_laws_Driven.{width_of, declared_at}
use Rattle.fab_drives_laws.proofs.fab_tile_drives_laws_Endings.{all_counted}
use Rattle.fab_drives_laws.proofs.fab_tile_drives_laws_Latches.{all_width, all_there}
use Rattle.fab_drives_laws.proofs.fab_tile_drives_laws_Modes.{bits_output, bits_joined}
use Rattle.fab_drives_laws.proofs.fab_tile_drives_laws_TileItems.{config_there}
use Rattle.fab_drives_laws.proofs.fab_tile_drives_laws_TileNames.{bits_wide}
use Rattle.fab_drives_laws.proofs.Instances.{tile_instance_there}
use Rattle.fab_drives_laws.proofs.Places.{placed_tile}
use Rattle.fab_drives_laws.proofs.Texts.{HasFabric}
use Rattle.fab_text_loads_laws.specs.Points.{loader_path, config_path, top_names, tile_names, IsLoadingPoint, in_top, in_loader, in_tile, in_configuration}
use Rattle.fab_text_loads_laws.proofs.Drivers.{assigned_by, joined_to, joined_from}
use Rattle.fab_text_loads_laws.proofs.Declared.{NetHolds, bit_below, point_holds}
use Rattle.fab_text_loads_laws.proofs.InMode.{carrying_joined, stands_in, module_in, config_in}
use Rattle.fab_text_loads_laws.proofs.TileItems.{config_has_bits, wire_has_bits}
use Rattle.fab_text_loads_laws.proofs.Within.{AreWithin, expression_within, only_name, variable_within, copy_within}

-- what holds of the names of all parts holds of each name that is mentioned
parts_mention : (P : List ℕ → Type 0) (es : List PlainExpr) → All (λ e. (name : List ℕ) → mentions e name ≡ true → P name) es →
    (name : List ℕ) → some_mentions (plain_exprs es) name ≡ true → P name
parts_mention P [] all name mentioned = absurd (false≢true mentioned)
parts_mention P (e ∷ es) all name mentioned =
    elim (or_cases (mentions e name) (some_mentions (plain_exprs es) name) mentioned) [
      | inl here ↦ All-head (λ e. (name : List ℕ) → mentions e name ≡ true → P name) e es all name here
      | inr later ↦ parts_mention P es (All-tail (λ e. (name : List ℕ) → mentions e name ≡ true → P name) e es all) name later
    ]

-- what keeps bits declares no net
keeping_nets : (mode : Mode) (tile : PlainTile) (P : List ℕ → Type 0) → All (NetHolds P) (keeping_items mode tile)
keeping_nets modes.Frames tile P = all_counted (NetHolds P) (tile_bits tile) (bit_latch tile) (λ number few. tt)
keeping_nets modes.Chain tile P =
    All-append (NetHolds P) (counted (tile_bits tile) bit_flop) (chain_end (tile_bits tile) ∷ [])
    (all_counted (NetHolds P) (tile_bits tile) bit_flop (λ number few. tt))
    (All-cons (NetHolds P) (chain_end (tile_bits tile)) [] tt (All-nil (NetHolds P)))

-- The ports by which its bits come to a tile are within, and in its configuration these ports and what keeps each bit.
pub record BringsBits (mode : Mode) (text : List PlainModule) (flops : Point → Bool) (x y : ℕ) (tile : PlainTile) : Type 0 where
  pub outer : All (λ port. AreWithin text flops (place_path x y) port.name) (config_ports mode)
  pub inner : 0 < tile_bits tile → All (λ port. AreWithin text flops (config_path x y) port.name) (config_ports mode)
  pub kept : (number : ℕ) → number < tile_bits tile → AreWithin text flops (config_path x y) (latch_name number)

module _ (fabric : PlainFabric) (mode : Mode) (is : text_mode fabric ≡ mode) (text : List PlainModule) (has : HasFabric fabric text)
    (flops : Point → Bool) where
  abbrev Are : Path → List ℕ → Type 0
  Are = AreWithin text flops

  module _ (x y : ℕ) (tile : PlainTile) (there : tile_at fabric x y ≡ Some tile) where
    abbrev stands : TileStands mode text (place_path x y) tile
    stands = stands_in fabric mode is text has x y tile there

    -- what comes to the tile from the top
    pub tile_input_within : (port name : List ℕ) → Contains (carrying_joins mode fabric (placed_tile x y tile)) (port_join port (variable name)) →
        is_input (tile_module mode tile).ports port ≡ true → Are [] name → Are (place_path x y) port
    tile_input_within port name among input within bit declared =
        variable_within text flops (point (place_path x y) port bit) [] name bit declared
        (joined_to text [] (top_module fabric) has.top_is (tile_module mode tile) (tile_module_name tile) (place_name x y)
        (tile_joins fabric (placed_tile x y tile))
        (module_in fabric mode is text has x y tile there) (tile_instance_there fabric x y tile there) port (variable name) bit
        (carrying_joined fabric mode is (placed_tile x y tile) (port_join port (variable name)) among) input)
        within

    module _ (some : 0 < tile_bits tile) where
      abbrev config_here : module_at text (config_path x y) ≡ Some (config_module mode tile)
      config_here = config_in fabric mode is text has x y tile there some

      -- and on to its configuration
      pub config_input_within : (port : List ℕ) → Contains (config_joins mode) (port_join port (variable port)) →
          is_input (config_module mode tile).ports port ≡ true →
          Are (place_path x y) port → Are (config_path x y) port
      config_input_within port among input within bit declared =
          variable_within text flops (point (config_path x y) port bit) (place_path x y) port bit declared
          (joined_to text (place_path x y) (tile_module mode tile) stands.tile_is (config_module mode tile) (config_module_name tile) config_instance_name
          (config_joins mode)
          (stands.config_is some) (config_there mode tile some) port (variable port) bit among input)
          within

    -- ---- all that is named of a tile

    module _ (brings : BringsBits mode text flops x y tile) where
      all_kept_within : 0 < tile_bits tile → Are (config_path x y) config_name
      all_kept_within some bit declared =
          let path = config_path x y in
          let Mentioned : PlainExpr → Type 0 = λ e. (name : List ℕ) → mentions e name ≡ true → Are path name in
          let kept = counted (tile_bits tile) (λ bit. variable (latch_name bit)) in
          expression_within text flops (point path config_name bit) path (all_latches (tile_bits tile)) bit declared
          (assigned_by text path (config_module mode tile) (config_here some) config_name (all_latches (tile_bits tile)) bit (all_there mode tile))
          (parts_mention (Are path) (reverse kept)
          (all_reverse Mentioned kept
          (all_counted Mentioned (tile_bits tile) (λ bit. variable (latch_name bit))
          (λ number few. only_name text flops path (latch_name number) (brings.kept number few)))))

      config_ports_within : 0 < tile_bits tile → All (λ port. Are (config_path x y) port.name) (config_module mode tile).ports
      config_ports_within some =
          let P : Port → Type 0 = λ port. Are (config_path x y) port.name in
          let last = vector false (tile_bits tile) config_name in
          All-append P (config_ports mode) (last ∷ []) (brings.inner some) (All-cons P last [] (all_kept_within some) (All-nil P))

      config_nets_within : All (NetHolds (Are (config_path x y))) (config_items mode tile)
      config_nets_within =
          let P = NetHolds (Are (config_path x y)) in
          let last = assign config_name (all_latches (tile_bits tile)) in
          All-append P (counted (tile_bits tile) (λ bit. reg Scalar (latch_name bit))) (keeping_items mode tile ++ last ∷ [])
          (all_counted P (tile_bits tile) (λ bit. reg Scalar (latch_name bit)) brings.kept)
          (All-append P (keeping_items mode tile) (last ∷ []) (keeping_nets mode tile (Are (config_path x y))) (All-cons P last [] tt (All-nil P)))

      config_within : (name : List ℕ) → Are (config_path x y) name
      config_within name bit declared =
          let some : 0 < tile_bits tile = config_has_bits mode text (place_path x y) tile name bit stands.tile_is declared in
          point_holds text (config_path x y) (config_module mode tile) (Are (config_path x y)) name bit (config_here some)
          (config_ports_within some) config_nets_within declared bit declared

      -- the wire of the configuration bits
      bits_within : Are (place_path x y) bits_name
      bits_within bit declared =
          let below : bit < width_of (tile_module mode tile) bits_name =
          bit_below text (place_path x y) (tile_module mode tile) bits_name bit stands.tile_is declared in
          let some : 0 < tile_bits tile = wire_has_bits mode tile (omega (arith, below)) in
          let wide = bits_wide mode tile some in
          let inner_wide = all_width mode tile in
          let inner : is_declared text (point (config_path x y) config_name bit) ≡ true =
          declared_at text (config_path x y) (config_module mode tile) config_name bit (config_here some) (omega (arith, below, wide, inner_wide)) in
          copy_within text flops (point (place_path x y) bits_name bit) (point (config_path x y) config_name bit) declared
          (joined_from text (place_path x y) (tile_module mode tile) stands.tile_is (config_module mode tile) (config_module_name tile) config_instance_name
          (config_joins mode)
          (stands.config_is some) (config_there mode tile some) config_name bits_name bit (bits_joined mode) (bits_output mode (tile_bits tile)))
          (config_within config_name bit inner)

      tile_within : All (Are (place_path x y)) (tile_names mode)
      tile_within =
          let P = Are (place_path x y) in
          All-append P (map (λ (port : Port). port.name) (config_ports mode)) (bits_name ∷ [])
          (All-map P (λ (port : Port). port.name) (config_ports mode) brings.outer)
          (All-cons P bits_name [] bits_within (All-nil P))

  -- ---- all named points

  module _ (top : All (Are []) (top_names mode fabric)) (loader : (name : List ℕ) → Are loader_path name)
      (brings : (x y : ℕ) (tile : PlainTile) → tile_at fabric x y ≡ Some tile → BringsBits mode text flops x y tile) where
    at_path : (p : Point) (path : Path) → p.path ≡ path → Are path p.name → is_declared text p ≡ true → Within text flops p
    at_path p path at are declared =
        let same : p ≡ point path p.name p.bit = ap (λ other. point other p.name p.bit) at in
        subst (Within text flops) (sym same) (are p.bit (subst (λ q. is_declared text q ≡ true) same declared))

    pub all_named_within : (p : Point) → IsLoadingPoint fabric p → is_declared text p ≡ true → Within text flops p
    all_named_within p (in_top at listed) declared =
        let among : Contains (top_names mode fabric) p.name = subst (λ (m : Mode). Contains (top_names m fabric) p.name) is listed in
        at_path p [] at (All-contains (Are []) (top_names mode fabric) p.name top among) declared
    all_named_within p (in_loader at) declared = at_path p loader_path at (loader p.name) declared
    all_named_within p (in_tile x y tile there at listed) declared =
        let among : Contains (tile_names mode) p.name = subst (λ (m : Mode). Contains (tile_names m) p.name) is listed in
        at_path p (place_path x y) at
        (All-contains (Are (place_path x y)) (tile_names mode) p.name (tile_within x y tile there (brings x y tile there)) among) declared
    all_named_within p (in_configuration x y tile there at) declared =
        at_path p (config_path x y) at (config_within x y tile there (brings x y tile there) p.name) declared
