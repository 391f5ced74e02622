-- The flip-flops that keep the bits of a text in a chain are closed: they lead to all named points, and read no others.
use Rattle.std.proofs.Common.{◌≡◌, ℕ, zero, suc, ◌<◌, Bool, true, ◌&&◌, ◌||◌, List, [], ◌∷◌, map, refl, sym, ap, ◌∙◌, subst, inl, inr, arith, Some, All, nat_lt}
use Rattle.std.specs.List.{list_any}
use Rattle.std.specs.Str.{bytes_eq}
use Rattle.std.specs.Cmp.Lexicographic.{pointwise_decides}
use Rattle.std.proofs.lemmas.Bool.{and_parts, or_cases, false≢true, cases_lt, ltb-true}
use Rattle.std.proofs.lemmas.Slice.Eq.{bytes_eq-Decides}
use Rattle.std.proofs.lemmas.List.Elements.{All-head, All-tail, All-append, All-map, All-weaker}
use Rattle.fab_syntax.specs.declared.tree.Port.{Port}
use Rattle.fab_syntax.specs.Plain.{PlainModule, variable, conditional}
use Rattle.fab_syntax.specs.Declarations.{width_in}
use Rattle.fab_meaning.specs.Points.{Path, Point, point, flop, Drives, module_at}
use Rattle.fab_meaning.specs.Reads.{mentions, is_declared, same_path}
use Rattle.fab_meaning.specs.Runs.{clock_name}
use Rattle.fab_meaning.specs.Loading.{Within, by_flop, IsClosed, write_data_name, write_strobe_name}
use Rattle.fab_meaning.proofs.Dependence.{same_name, same_path_refl}
use Rattle.fab_meaning.proofs.Modules.{each_all}
use Rattle.fab_drives_laws.specs.fab_model_mode_Mode_TheVariants as modes
use Rattle.fab_drives_laws.specs.fab_model_Tiles.{PlainTile, counted, tile_bits}
use Rattle.fab_drives_laws.specs.fab_model_Grid.{PlainFabric, tile_at}
use Rattle.fab_drives_laws.specs.fab_fabric_Names.{place_name}
use Rattle.fab_drives_laws.specs.fab_fabric_Fabric.{IsFabric}
use Rattle.fab_drives_laws.specs.fab_gen_tile_Names.{tile_module_name, config_module_name, config_instance_name, chain_in_name, chain_out_name, latch_name, port_join}
use Rattle.fab_drives_laws.specs.fab_gen_tile_ConfigModule.{config_ports, before_bit, config_module}
use Rattle.fab_drives_laws.specs.fab_gen_tile_TileModule.{config_joins, tile_module}
use Rattle.fab_drives_laws.specs.fab_fabric_text_defs_Chain.{chain_source}
use Rattle.fab_drives_laws.specs.fab_fabric_text_defs_Names.{chain_wire_name}
use Rattle.fab_drives_laws.specs.fab_fabric_text_defs_Places.{PlacedTile, placed_tiles}
use Rattle.fab_drives_laws.specs.fab_fabric_text_defs_Top.{tile_joins, top_module}
use Rattle.fab_drives_laws.specs.fab_tile_drives_laws_Stands.{TileStands}
use Rattle.fab_drives_laws.specs.Points.{place_path}
use Rattle.fab_drives_laws.proofs.fab_tile_drives_laws_Driven.{declared_at}
use Rattle.fab_drives_laws.proofs.fab_tile_drives_laws_Endings.{all_counted}
use Rattle.fab_drives_laws.proofs.fab_tile_drives_laws_Members.{contains_counted}
use Rattle.fab_drives_laws.proofs.fab_tile_drives_laws_TileItems.{config_there}
use Rattle.fab_drives_laws.proofs.Chains.{carried_along}
use Rattle.fab_drives_laws.proofs.Instances.{tile_instance_there}
use Rattle.fab_drives_laws.proofs.Modules.{any_there}
use Rattle.fab_drives_laws.proofs.Places.{placed_tile, tile_is_placed, IsThere, all_placed}
use Rattle.fab_text_loads_laws.specs.Points.{loader_path, config_path, top_names, IsLoadingPoint}
use Rattle.fab_text_loads_laws.specs.Loads.{NamedAreLoading}
use Rattle.fab_text_loads_laws.proofs.Bits.{BringsBits, tile_input_within, config_input_within, all_named_within}
use Rattle.fab_text_loads_laws.proofs.ChainItems.{end_in_tile, flop_there, end_there, last_before, no_loader, config_clock}
use Rattle.fab_text_loads_laws.proofs.Declared.{bit_below}
use Rattle.fab_text_loads_laws.proofs.Drivers.{assigned_by, clocked_by, joined_from}
use Rattle.fab_text_loads_laws.proofs.InMode.{carrying_joined, stands_in, module_in, config_in}
use Rattle.fab_text_loads_laws.proofs.Loader.{HasChain}
use Rattle.fab_text_loads_laws.proofs.Tops.{chain_wire_width}
use Rattle.fab_text_loads_laws.proofs.Within.{AreWithin, read_within, only_name, variable_within, copy_within, clock_within, strobe_within, data_within}

-- ---- the flip-flops

-- a test that is met by one of a list is met by one of which the fact holds
found_any : {X : Type 0} (P : X → Type 0) (test : X → Bool) (xs : List X) → All P xs → list_any test xs ≡ true → (x : X) × P x × (test x ≡ true)
found_any P test [] all met = absurd (false≢true met)
found_any P test (x ∷ xs) all met =
    elim (or_cases (test x) (list_any test xs) met) [
      | inl here ↦ (x, All-head P x xs all, here)
      | inr later ↦ found_any P test xs (All-tail P x xs all) later
    ]

module _ (fabric : PlainFabric) where
  is_bit_of : Point → PlacedTile → Bool
  is_bit_of p placed = same_path p.path (config_path placed.x placed.y) && list_any (bytes_eq p.name) (counted (tile_bits placed.tile) latch_name)

  -- what keeps the bits of all tiles
  pub bit_flops : Point → Bool
  bit_flops p = list_any (is_bit_of p) (placed_tiles fabric)

  bit_is_flop : (x y : ℕ) (tile : PlainTile) → tile_at fabric x y ≡ Some tile → (number : ℕ) → number < tile_bits tile → (bit : ℕ) →
      bit_flops (point (config_path x y) (latch_name number) bit) ≡ true
  unfolding is_bit_of bit_flops
  bit_is_flop x y tile there number few bit =
      let p = point (config_path x y) (latch_name number) bit in
      let names = counted (tile_bits tile) latch_name in
      let at : same_path (config_path x y) (config_path x y) ≡ true = same_path_refl (config_path x y) in
      let listed : list_any (bytes_eq (latch_name number)) names ≡ true =
      any_there (bytes_eq (latch_name number)) names (latch_name number) (contains_counted (tile_bits tile) latch_name number few)
      (same_name (latch_name number)) in
      let both : is_bit_of p (placed_tile x y tile) ≡ true = rw (at, listed) refl in
      any_there (is_bit_of p) (placed_tiles fabric) (placed_tile x y tile) (tile_is_placed fabric x y tile there) both

  -- a point that is one of them
  record IsBit (p : Point) : Type 0 where
    x : ℕ
    y : ℕ
    tile : PlainTile
    number : ℕ
    there : tile_at fabric x y ≡ Some tile
    few : number < tile_bits tile
    is : p ≡ point (config_path x y) (latch_name number) p.bit

  flop_is_bit : (p : Point) → bit_flops p ≡ true → IsBit p
  unfolding is_bit_of bit_flops
  flop_is_bit p is =
      let placed = found_any (IsThere fabric) (is_bit_of p) (placed_tiles fabric) (all_placed fabric) is in
      let names = counted (tile_bits placed.0.tile) latch_name in
      let parts = and_parts (same_path p.path (config_path placed.0.x placed.0.y)) (list_any (bytes_eq p.name) names) placed.2 in
      let IsBitName : List ℕ → Type 0 = λ name. (number : ℕ) × (number < tile_bits placed.0.tile) × (name ≡ latch_name number) in
      let name =
      found_any IsBitName (bytes_eq p.name) names (all_counted IsBitName (tile_bits placed.0.tile) latch_name (λ number few. (number, few, refl))) parts.1 in
      let at : p.path ≡ config_path placed.0.x placed.0.y = (pointwise_decides bytes_eq-Decides p.path (config_path placed.0.x placed.0.y)).0 parts.0 in
      let named : p.name ≡ latch_name name.1.0 = (bytes_eq-Decides p.name name.0).0 name.2 ∙ name.1.2 in
      record {
        x = placed.0.x;
        y = placed.0.y;
        tile = placed.0.tile;
        number = name.1.0;
        there = placed.1;
        few = name.1.1;
        is = λ j. point (at j) (named j) p.bit;
      }

-- ---- what they lead to

module _ (fabric : PlainFabric) (text : List PlainModule) (has : HasChain fabric text) where
  abbrev led : Point → Bool
  led = bit_flops fabric

  abbrev Are : Path → List ℕ → Type 0
  Are = AreWithin text led

  abbrev top : PlainModule
  top = top_module fabric

  module _ (x y : ℕ) (tile : PlainTile) (there : tile_at fabric x y ≡ Some tile) where
    abbrev stands : TileStands modes.Chain text (place_path x y) tile
    stands = stands_in fabric modes.Chain has.chain text has.tiles x y tile there

    abbrev config_here : 0 < tile_bits tile → module_at text (config_path x y) ≡ Some (config_module modes.Chain tile)
    config_here some = config_in fabric modes.Chain has.chain text has.tiles x y tile there some

    flop_within : (number : ℕ) → number < tile_bits tile → Are (config_path x y) (latch_name number)
    flop_within number few bit declared = by_flop declared (bit_is_flop fabric x y tile there number few bit)

    -- what goes out of the configuration, and of the tile
    config_out_within : 0 < tile_bits tile → Are (config_path x y) chain_out_name
    config_out_within some bit declared =
        let last = last_before (tile_bits tile) some in
        let count = last.1 in
        variable_within text led (point (config_path x y) chain_out_name bit) (config_path x y) (before_bit (tile_bits tile)) bit declared
        (assigned_by text (config_path x y) (config_module modes.Chain tile) (config_here some) chain_out_name (variable (before_bit (tile_bits tile))) bit
        (end_there tile))
        (subst (Are (config_path x y)) (sym last.2) (flop_within last.0 (omega (arith, count))))

    tile_out_within : Are (place_path x y) chain_in_name → Are (place_path x y) chain_out_name
    tile_out_within comes bit declared =
        let p = point (place_path x y) chain_out_name bit in
        elim (cases_lt 0 (tile_bits tile)) [
          | inl some ↦ (
              let below : bit < 1 = bit_below text (place_path x y) (tile_module modes.Chain tile) chain_out_name bit stands.tile_is declared in
              copy_within text led p (point (config_path x y) chain_out_name bit) declared
              (joined_from text (place_path x y) (tile_module modes.Chain tile) stands.tile_is (config_module modes.Chain tile)
              (config_module_name tile) config_instance_name
              (config_joins modes.Chain) (stands.config_is some) (config_there modes.Chain tile some) chain_out_name chain_out_name bit
              (3, omega arith, refl) refl)
              (config_out_within some bit (declared_at text (config_path x y) (config_module modes.Chain tile) chain_out_name bit (config_here some) below)))
          | inr none ↦ (
              let no_bits : tile_bits tile ≡ 0 = omega (arith, none) in
              variable_within text led p (place_path x y) chain_in_name bit declared
              (assigned_by text (place_path x y) (tile_module modes.Chain tile) stands.tile_is chain_out_name (variable chain_in_name) bit
              (end_in_tile tile no_bits))
              comes)
        ]

    -- from the wire before the tile to the one behind it
    wire_within : Are [] (chain_source fabric x y) → Are [] (chain_wire_name x y)
    wire_within comes bit declared =
        let wire = chain_wire_name x y in
        let wide = chain_wire_width fabric has.chain (placed_tile x y tile) (tile_is_placed fabric x y tile there) in
        let below = bit_below text [] top wire bit has.tiles.top_is declared in
        let outer : bit < 1 = omega (arith, below, wide) in
        copy_within text led (point [] wire bit) (point (place_path x y) chain_out_name bit) declared
        (joined_from text [] top has.tiles.top_is (tile_module modes.Chain tile) (tile_module_name tile) (place_name x y)
        (tile_joins fabric (placed_tile x y tile))
        (module_in fabric modes.Chain has.chain text has.tiles x y tile there) (tile_instance_there fabric x y tile there) chain_out_name wire bit
        (carrying_joined fabric modes.Chain has.chain (placed_tile x y tile) (port_join chain_out_name (variable wire)) (3, omega arith, refl)) refl)
        (tile_out_within (tile_input_within fabric modes.Chain has.chain text has.tiles led x y tile there chain_in_name (chain_source fabric x y)
        (2, omega arith, refl) refl comes) bit
        (declared_at text (place_path x y) (tile_module modes.Chain tile) chain_out_name bit stands.tile_is outer))

  -- so all wires of the chain are within
  along : (x y : ℕ) (tile : PlainTile) → tile_at fabric x y ≡ Some tile → Are [] (chain_source fabric x y) × Are [] (chain_wire_name x y)
  along = carried_along fabric (Are []) (data_within text led fabric has.tiles) wire_within

  top_within : All (Are []) (top_names modes.Chain fabric)
  top_within =
      let fixed : List (List ℕ) = clock_name ∷ write_strobe_name ∷ write_data_name ∷ [] in
      let wire_of : PlacedTile → List ℕ = λ placed. chain_wire_name placed.x placed.y in
      All-append (Are []) fixed (map wire_of (placed_tiles fabric))
      (each_all (Are []) fixed (clock_within text led fabric has.tiles, (strobe_within text led fabric has.tiles, (data_within text led fabric has.tiles, tt))))
      (All-map (Are []) wire_of (placed_tiles fabric)
      (All-weaker (IsThere fabric) (λ (placed : PlacedTile). Are [] (wire_of placed)) (λ placed there. (along placed.x placed.y placed.tile there).1)
      (placed_tiles fabric) (all_placed fabric)))

  -- nothing is declared where there is no loader
  loader_within : (name : List ℕ) → Are loader_path name
  loader_within name bit declared =
      let below : bit < 0 = ltb-true bit 0 (sym (ap (λ m. nat_lt bit (width_in m name)) (no_loader fabric text has)) ∙ declared) in
      absurd (omega (arith, below))

  module _ (x y : ℕ) (tile : PlainTile) (there : tile_at fabric x y ≡ Some tile) where
    outer_clock : Are (place_path x y) clock_name
    outer_clock =
        tile_input_within fabric modes.Chain has.chain text has.tiles led x y tile there clock_name clock_name (0, omega arith, refl) refl
        (clock_within text led fabric has.tiles)

    outer_strobe : Are (place_path x y) write_strobe_name
    outer_strobe =
        tile_input_within fabric modes.Chain has.chain text has.tiles led x y tile there write_strobe_name write_strobe_name (1, omega arith, refl) refl
        (strobe_within text led fabric has.tiles)

    outer_in : Are (place_path x y) chain_in_name
    outer_in =
        tile_input_within fabric modes.Chain has.chain text has.tiles led x y tile there chain_in_name (chain_source fabric x y) (2, omega arith, refl) refl
        (along x y tile there).0

    inner_strobe : 0 < tile_bits tile → Are (config_path x y) write_strobe_name
    inner_strobe some =
        config_input_within fabric modes.Chain has.chain text has.tiles led x y tile there some write_strobe_name (1, omega arith, refl) refl outer_strobe

    inner_in : 0 < tile_bits tile → Are (config_path x y) chain_in_name
    inner_in some = config_input_within fabric modes.Chain has.chain text has.tiles led x y tile there some chain_in_name (2, omega arith, refl) refl outer_in

    brings_bits : BringsBits modes.Chain text led x y tile
    brings_bits = record {
      outer =
          each_all (λ (port : Port). Are (place_path x y) port.name) (config_ports modes.Chain)
          (outer_clock, (outer_strobe, (outer_in, (tile_out_within x y tile there outer_in, tt))));
      inner = λ some.
          let clock =
          config_input_within fabric modes.Chain has.chain text has.tiles led x y tile there some clock_name (0, omega arith, refl) refl outer_clock in
          each_all (λ (port : Port). Are (config_path x y) port.name) (config_ports modes.Chain)
          (clock, (inner_strobe some, (inner_in some, (config_out_within x y tile there some, tt))));
      kept = flop_within x y tile there;
    }

    -- what stands before a bit
    before_within : (number : ℕ) → number < tile_bits tile → Are (config_path x y) (before_bit number)
    before_within zero few = inner_in (omega (arith, few))
    before_within (suc number) few = flop_within x y tile there number (omega (arith, few))

    -- a flip-flop reads WriteStrobe, what stands before it, and itself
    next_within : (number : ℕ) → number < tile_bits tile → (name : List ℕ) →
        mentions (conditional (variable write_strobe_name) (variable (before_bit number)) (variable (latch_name number))) name ≡ true →
        Are (config_path x y) name
    next_within number few name mentioned =
        let path = config_path x y in
        elim (or_cases (bytes_eq write_strobe_name name) (bytes_eq (before_bit number) name || bytes_eq (latch_name number) name) mentioned) [
          | inl strobe ↦ only_name text led path write_strobe_name (inner_strobe (omega (arith, few))) name strobe
          | inr other ↦ elim (or_cases (bytes_eq (before_bit number) name) (bytes_eq (latch_name number) name) other) [
            | inl before ↦ only_name text led path (before_bit number) (before_within number few) name before
            | inr itself ↦ only_name text led path (latch_name number) (flop_within x y tile there number few) name itself
          ]
        ]

  -- ---- they are closed

  pub bits_closed : IsFabric fabric → IsClosed text led
  bits_closed is p is_flop =
      let found = flop_is_bit fabric p is_flop in
      let path = config_path found.x found.y in
      let number = found.number in
      let few = found.few in
      let some : 0 < tile_bits found.tile = omega (arith, few) in
      let next = conditional (variable write_strobe_name) (variable (before_bit number)) (variable (latch_name number)) in
      record {
        path = path;
        clock = clock_name;
        next = next;
        bit = p.bit;
        drives =
            subst (λ q. Drives text q (flop path clock_name next p.bit)) (sym found.is)
            (clocked_by text path (config_module modes.Chain found.tile) (config_here found.x found.y found.tile found.there some) clock_name
            (latch_name number) next p.bit
            (flop_there found.tile number few));
        clocked = config_clock fabric text has is found.x found.y found.tile found.there some;
        inside = read_within text led path next (next_within found.x found.y found.tile found.there number few);
      }

  pub chain_named_within : (p : Point) → IsLoadingPoint fabric p → is_declared text p ≡ true → Within text led p
  chain_named_within = all_named_within fabric modes.Chain has.chain text has.tiles led top_within loader_within brings_bits

  pub chain_named_are_loading : IsFabric fabric → NamedAreLoading fabric text
  chain_named_are_loading is p listed declared = (led, bits_closed is, chain_named_within p listed declared)
