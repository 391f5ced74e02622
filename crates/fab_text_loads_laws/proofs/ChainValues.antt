-- What a settled assignment shows at the loading points of a text in a chain, and what a tick leaves with each bit.
use Rattle.std.proofs.Common.{◌≡◌, ℕ, zero, suc, ◌<◌, Bool, true, false, cond, List, [], ◌∷◌, map, refl, sym, ap, ◌∙◌, subst, inl, inr, arith, Some, Contains}
use Rattle.std.specs.Str.{bytes_eq}
use Rattle.std.proofs.lemmas.Bool.{cases_lt}
use Rattle.std.proofs.lemmas.List.Elements.{Contains-append_right}
use Rattle.fab_syntax.specs.Plain.{PlainModule, variable, conditional}
use Rattle.fab_syntax.specs.Declarations.{width, is_input, is_input_of}
use Rattle.fab_meaning.specs.Value.{value, bit_at}
use Rattle.fab_meaning.specs.Points.{Path, Point, point, outside, flop, Drives, module_at}
use Rattle.fab_meaning.specs.Settled.{Assignment, names_at, IsSettledOn}
use Rattle.fab_meaning.specs.Runs.{clock_name, is_clock, Ticks}
use Rattle.fab_meaning.specs.Loading.{IsLoading, write_strobe_name, write_data_name}
use Rattle.fab_drives_laws.specs.fab_model_mode_Mode.{Mode}
use Rattle.fab_drives_laws.specs.fab_model_mode_Mode_TheVariants as modes
use Rattle.fab_drives_laws.specs.fab_model_Tiles.{PlainTile, counted, tile_bits}
use Rattle.fab_drives_laws.specs.fab_model_Grid.{PlainFabric, tile_at}
use Rattle.fab_drives_laws.specs.fab_model_Drive.{PlainBits}
use Rattle.fab_drives_laws.specs.fab_fabric_Names.{place_name}
use Rattle.fab_drives_laws.specs.fab_fabric_Fabric.{IsFabric}
use Rattle.fab_drives_laws.specs.fab_gen_tile_Names.{tile_module_name, config_module_name, config_instance_name, chain_in_name, chain_out_name, latch_name, port_join}
use Rattle.fab_drives_laws.specs.fab_gen_tile_ConfigModule.{before_bit, config_module}
use Rattle.fab_drives_laws.specs.fab_gen_tile_TileModule.{config_joins, tile_module}
use Rattle.fab_drives_laws.specs.fab_fabric_text_defs_Chain.{chain_source}
use Rattle.fab_drives_laws.specs.fab_fabric_text_defs_Names.{chain_wire_name}
use Rattle.fab_drives_laws.specs.fab_fabric_text_defs_Places.{PlacedTile, placed_tiles}
use Rattle.fab_drives_laws.specs.fab_fabric_text_defs_Top.{data_shape, config_joins as carrying_joins, tile_joins, top_module}
use Rattle.fab_drives_laws.specs.fab_tile_drives_laws_Stands.{TileStands, IsSettledOnDeclared}
use Rattle.fab_drives_laws.specs.Points.{place_path}
use Rattle.fab_loading_laws.specs.Chain.{chain_out}
use Rattle.fab_drives_laws.proofs.fab_tile_drives_laws_Driven.{width_of, declared_at, variable_bit, assigned, joined_in, joined_out}
use Rattle.fab_drives_laws.proofs.fab_tile_drives_laws_Latches.{latch_width}
use Rattle.fab_drives_laws.proofs.fab_tile_drives_laws_Members.{contains_map}
use Rattle.fab_drives_laws.proofs.fab_tile_drives_laws_TileItems.{config_there}
use Rattle.fab_drives_laws.proofs.Chains.{carried_along}
use Rattle.fab_drives_laws.proofs.Instances.{tile_instance_there}
use Rattle.fab_drives_laws.proofs.Places.{placed_tile, tile_is_placed}
use Rattle.fab_text_loads_laws.specs.Points.{config_path, top_names, tile_names, IsLoadingPoint, in_top, in_tile, in_configuration}
use Rattle.fab_text_loads_laws.proofs.ChainItems.{end_in_tile, flop_there, end_there, last_before, config_clock}
use Rattle.fab_text_loads_laws.proofs.ChainLists.{behind, out_of_counted, out_of_none, tile_values}
use Rattle.fab_text_loads_laws.proofs.ChainWithin.{chain_named_are_loading}
use Rattle.fab_text_loads_laws.proofs.Drivers.{clocked_by}
use Rattle.fab_text_loads_laws.proofs.InMode.{carrying_joined, stands_in, module_in, config_in}
use Rattle.fab_text_loads_laws.proofs.Loader.{HasChain}
use Rattle.fab_text_loads_laws.proofs.Settled.{latch_point}
use Rattle.fab_text_loads_laws.proofs.Tops.{chain_wire_width}

-- the configuration bits that are held
abbrev pub held_bits : Assignment → PlainBits
held_bits held x y number = held (latch_point x y number)

chosen : (c : Bool) (a b : List Bool) → bit_at (cond c a b) 0 ≡ cond c (bit_at a 0) (bit_at b 0)
chosen true a b = refl
chosen false a b = refl

-- ---- widths

module _ (fabric : PlainFabric) (text : List PlainModule) (has : HasChain fabric text) where
  abbrev top : PlainModule
  top = top_module fabric

  data_wide : 0 < width_of top write_data_name
  data_wide = subst (λ (m : Mode). 0 < width (data_shape m)) (sym has.chain) (omega arith)

  -- the wires before a tile and behind it
  wires_wide : (x y : ℕ) (tile : PlainTile) → tile_at fabric x y ≡ Some tile →
      (0 < width_of top (chain_source fabric x y)) × (0 < width_of top (chain_wire_name x y))
  wires_wide =
      carried_along fabric (λ name. 0 < width_of top name) data_wide (λ x y tile there before.
      let wide = chain_wire_width fabric has.chain (placed_tile x y tile) (tile_is_placed fabric x y tile there) in
      omega (arith, wide))

  -- ---- values

  module _ (is : IsFabric fabric) (inputs held now : Assignment) (settled : IsSettledOn (IsLoading text) text inputs held now) where
    abbrev Named : Point → Type 0
    Named = IsLoadingPoint fabric

    on_named : IsSettledOnDeclared Named text inputs held now
    on_named p d own drives = settled p d (chain_named_are_loading fabric text has is p own.0 own.1) drives

    in_chain_top : (name : List ℕ) → Contains (top_names modes.Chain fabric) name → Named (point [] name 0)
    in_chain_top name listed = in_top refl (subst (λ (m : Mode). Contains (top_names m fabric) name) (sym has.chain) listed)

    -- the inputs that carry words
    input_shows : (name : List ℕ) → Contains (top_names modes.Chain fabric) name → is_input top.ports name ≡ true → 0 < width_of top name →
        now (point [] name 0) ≡ inputs (point [] name 0)
    input_shows name listed outer some =
        let input : is_input_of (module_at text []) name ≡ true = ap (λ m. is_input_of m name) has.tiles.top_is ∙ outer in
        on_named (point [] name 0) outside (in_chain_top name listed, declared_at text [] top name 0 has.tiles.top_is some)
        (inl (record { top = refl; input = input; is = refl }))

    pub strobe_shows : now (point [] write_strobe_name 0) ≡ inputs (point [] write_strobe_name 0)
    strobe_shows = input_shows write_strobe_name (1, omega arith, refl) refl (omega arith)

    pub data_shows : now (point [] write_data_name 0) ≡ inputs (point [] write_data_name 0)
    data_shows = input_shows write_data_name (2, omega arith, refl) refl data_wide

    module _ (x y : ℕ) (tile : PlainTile) (there : tile_at fabric x y ≡ Some tile) where
      abbrev path : Path
      path = place_path x y

      abbrev module_here : PlainModule
      module_here = tile_module modes.Chain tile

      abbrev stands : TileStands modes.Chain text path tile
      stands = stands_in fabric modes.Chain has.chain text has.tiles x y tile there

      in_chain_tile : (port : List ℕ) → Contains (tile_names modes.Chain) port → Named (point path port 0)
      in_chain_tile port listed = in_tile x y tile there refl (subst (λ (m : Mode). Contains (tile_names m) port) (sym has.chain) listed)

      -- what comes to the tile from the top
      from_top : (port name : List ℕ) → Contains (carrying_joins modes.Chain fabric (placed_tile x y tile)) (port_join port (variable name)) →
          is_input module_here.ports port ≡ true →
          0 < width_of module_here port → Contains (tile_names modes.Chain) port → 0 < width_of top name → now (point path port 0) ≡ now (point [] name 0)
      from_top port name among input some listed some_outside =
          joined_in Named text inputs held now on_named [] top module_here (tile_module_name tile) (place_name x y)
          (tile_joins fabric (placed_tile x y tile)) has.tiles.top_is
          (module_in fabric modes.Chain has.chain text has.tiles x y tile there) (tile_instance_there fabric x y tile there) port (variable name) 0
          (carrying_joined fabric modes.Chain has.chain (placed_tile x y tile) (port_join port (variable name)) among) stands.tile_is input some
          (in_chain_tile port listed)
          ∙ variable_bit text now [] top has.tiles.top_is name 0 some_outside

      comes_in : now (point path chain_in_name 0) ≡ now (point [] (chain_source fabric x y) 0)
      comes_in = from_top chain_in_name (chain_source fabric x y) (2, omega arith, refl) refl (omega arith) (2, omega arith, refl) (wires_wide x y tile there).0

      wire_listed : Contains (top_names modes.Chain fabric) (chain_wire_name x y)
      wire_listed =
          let wire_of : PlacedTile → List ℕ = λ placed. chain_wire_name placed.x placed.y in
          Contains-append_right (clock_name ∷ write_strobe_name ∷ write_data_name ∷ []) (map wire_of (placed_tiles fabric)) (chain_wire_name x y)
          (contains_map wire_of (placed_tiles fabric) (placed_tile x y tile) (tile_is_placed fabric x y tile there))

      -- what the tile lets out is at the wire behind it
      goes_out : now (point [] (chain_wire_name x y) 0) ≡ now (point path chain_out_name 0)
      goes_out =
          let wire = chain_wire_name x y in
          joined_out Named text inputs held now on_named [] top module_here (tile_module_name tile) (place_name x y)
          (tile_joins fabric (placed_tile x y tile)) has.tiles.top_is
          (module_in fabric modes.Chain has.chain text has.tiles x y tile there) (tile_instance_there fabric x y tile there) chain_out_name wire 0
          (carrying_joined fabric modes.Chain has.chain (placed_tile x y tile) (port_join chain_out_name (variable wire)) (3, omega arith, refl)) refl
          (wires_wide x y tile there).1
          (in_chain_top wire wire_listed)

      -- a tile without bits leads on what comes
      leads_on : tile_bits tile ≡ 0 → now (point path chain_out_name 0) ≡ now (point path chain_in_name 0)
      leads_on none =
          assigned Named text inputs held now on_named path module_here chain_out_name (variable chain_in_name) 0 stands.tile_is (end_in_tile tile none)
          (omega arith)
          (in_chain_tile chain_out_name (3, omega arith, refl))
          ∙ variable_bit text now path module_here stands.tile_is chain_in_name 0 (omega arith)

      -- ---- a tile with bits

      module _ (some : 0 < tile_bits tile) where
        abbrev inner : Path
        inner = config_path x y

        abbrev config : PlainModule
        config = config_module modes.Chain tile

        config_here : module_at text inner ≡ Some config
        config_here = config_in fabric modes.Chain has.chain text has.tiles x y tile there some

        in_config : (name : List ℕ) → Named (point inner name 0)
        in_config name = in_configuration x y tile there refl

        -- what comes to the configuration from the tile
        from_tile : (port : List ℕ) → Contains (config_joins modes.Chain) (port_join port (variable port)) → is_input config.ports port ≡ true →
            0 < width_of config port →
            0 < width_of module_here port → now (point inner port 0) ≡ now (point path port 0)
        from_tile port among input some_inside some_outside =
            joined_in Named text inputs held now on_named path module_here config (config_module_name tile) config_instance_name
            (config_joins modes.Chain) stands.tile_is
            (stands.config_is some) (config_there modes.Chain tile some) port (variable port) 0 among config_here input some_inside (in_config port)
            ∙ variable_bit text now path module_here stands.tile_is port 0 some_outside

        strobe_comes : now (point inner write_strobe_name 0) ≡ inputs (point [] write_strobe_name 0)
        strobe_comes =
            from_tile write_strobe_name (1, omega arith, refl) refl (omega arith) (omega arith)
            ∙ from_top write_strobe_name write_strobe_name (1, omega arith, refl) refl (omega arith) (1, omega arith, refl) (omega arith)
            ∙ strobe_shows

        source_comes : now (point inner chain_in_name 0) ≡ now (point [] (chain_source fabric x y) 0)
        source_comes = from_tile chain_in_name (2, omega arith, refl) refl (omega arith) (omega arith) ∙ comes_in

        bit_wide : (number : ℕ) → number < tile_bits tile → 0 < width_of config (latch_name number)
        bit_wide number few = (let wide = latch_width modes.Chain tile number few in omega (arith, wide))

        flop_drives : (number : ℕ) → number < tile_bits tile →
            Drives text (latch_point x y number)
            (flop inner clock_name (conditional (variable write_strobe_name) (variable (before_bit number)) (variable (latch_name number))) 0)
        flop_drives number few = clocked_by text inner config config_here clock_name (latch_name number) _ 0 (flop_there tile number few)

        -- a flip-flop shows what it holds
        bit_shows : (number : ℕ) → number < tile_bits tile → now (latch_point x y number) ≡ held (latch_point x y number)
        bit_shows number few =
            on_named (latch_point x y number) _
            (in_config (latch_name number), declared_at text inner config (latch_name number) 0 config_here (bit_wide number few)) (flop_drives number few)

        -- what goes out is what the last holds
        last_out : (last : ℕ) → tile_bits tile ≡ suc last → before_bit (tile_bits tile) ≡ latch_name last →
            now (point path chain_out_name 0) ≡ held (latch_point x y last)
        last_out last count is_last =
            let few : last < tile_bits tile = omega (arith, count) in
            let name = before_bit (tile_bits tile) in
            joined_out Named text inputs held now on_named path module_here config (config_module_name tile) config_instance_name
            (config_joins modes.Chain) stands.tile_is
            (stands.config_is some) (config_there modes.Chain tile some) chain_out_name chain_out_name 0 (3, omega arith, refl) refl (omega arith)
            (in_chain_tile chain_out_name (3, omega arith, refl))
            ∙ assigned Named text inputs held now on_named inner config chain_out_name (variable name) 0 config_here (end_there tile) (omega arith)
            (in_config chain_out_name)
            ∙ variable_bit text now inner config config_here name 0 (subst (λ n. 0 < width_of config n) (sym is_last) (bit_wide last few))
            ∙ ap (λ n. now (point inner n 0)) is_last
            ∙ bit_shows last few

        -- what stands before a bit
        before_shows : (number : ℕ) → number < tile_bits tile →
            now (point inner (before_bit number) 0) ≡ behind (now (point [] (chain_source fabric x y) 0)) (held_bits held x y) number
        before_shows zero few = source_comes
        before_shows (suc number) few = bit_shows number (omega (arith, few))

        before_wide : (number : ℕ) → number < tile_bits tile → 0 < width_of config (before_bit number)
        before_wide zero few = omega arith
        before_wide (suc number) few = bit_wide number (omega (arith, few))

        -- a tick of CLK moves each bit on while WriteStrobe is 1, and nothing else moves one
        bit_ticks : (clock : List ℕ) (after : Assignment) → Ticks (IsLoading text) text clock held now after → (number : ℕ) → number < tile_bits tile →
            after (latch_point x y number)
            ≡ cond (bytes_eq clock_name clock)
            (cond (inputs (point [] write_strobe_name 0)) (behind (now (point [] (chain_source fabric x y) 0)) (held_bits held x y) number)
            (held (latch_point x y number)))
            (held (latch_point x y number))
        bit_ticks clock after ticks number few =
            let p = latch_point x y number in
            let next = conditional (variable write_strobe_name) (variable (before_bit number)) (variable (latch_name number)) in
            let names = names_at text now inner in
            let loading : IsLoading text p =
            chain_named_are_loading fabric text has is p (in_config (latch_name number))
            (declared_at text inner config (latch_name number) 0 config_here (bit_wide number few)) in
            let strobe = variable_bit text now inner config config_here write_strobe_name 0 (omega arith) ∙ strobe_comes in
            let before = variable_bit text now inner config config_here (before_bit number) 0 (before_wide number few) ∙ before_shows number few in
            let itself = variable_bit text now inner config config_here (latch_name number) 0 (bit_wide number few) ∙ bit_shows number few in
            let taken : bit_at (value names next) 0 ≡ _ =
            chosen (bit_at (value names (variable write_strobe_name)) 0) (value names (variable (before_bit number)))
            (value names (variable (latch_name number)))
            ∙ (λ j. cond (strobe j) (before j) (itself j)) in
            ticks p (flop inner clock_name next 0) loading (flop_drives number few)
            ∙ ap (λ found. cond (is_clock clock found) (bit_at (value names next) 0) (held p)) (config_clock fabric text has is x y tile there some)
            ∙ ap (λ bit. cond (bytes_eq clock_name clock) bit (held p)) taken

      -- ---- what the tile lets out

      pub lets_out : now (point [] (chain_wire_name x y) 0)
          ≡ chain_out (now (point [] (chain_source fabric x y) 0)) (tile_values (held_bits held) (placed_tile x y tile))
      lets_out =
          let source = now (point [] (chain_source fabric x y) 0) in
          elim (cases_lt 0 (tile_bits tile)) [
            | inl some ↦ (
                let last = last_before (tile_bits tile) some in
                goes_out
                ∙ last_out some last.0 last.1 last.2
                ∙ sym (ap (λ n. chain_out source (counted n (held_bits held x y))) last.1 ∙ out_of_counted last.0 (held_bits held x y) source))
            | inr none ↦ (
                let no_bits : tile_bits tile ≡ 0 = omega (arith, none) in
                goes_out ∙ leads_on no_bits ∙ comes_in ∙ sym (out_of_none (tile_bits tile) (held_bits held x y) source no_bits))
          ]

      pub tile_bit_shows : (number : ℕ) → number < tile_bits tile → now (latch_point x y number) ≡ held (latch_point x y number)
      tile_bit_shows number few = bit_shows (omega (arith, few)) number few

      pub tile_bit_ticks : (clock : List ℕ) (after : Assignment) → Ticks (IsLoading text) text clock held now after → (number : ℕ) → number < tile_bits tile →
          after (latch_point x y number)
          ≡ cond (bytes_eq clock_name clock)
          (cond (inputs (point [] write_strobe_name 0)) (behind (now (point [] (chain_source fabric x y) 0)) (held_bits held x y) number)
          (held (latch_point x y number)))
          (held (latch_point x y number))
      tile_bit_ticks clock after ticks number few = bit_ticks (omega (arith, few)) clock after ticks number few
