-- Each wire and each output of the top is driven once, and its inputs never.
use Rattle.std.proofs.Common.{◌≡◌, ◌≢◌, ℕ, ◌+◌, ◌<◌, Bool, true, false, List, [], ◌∷◌, ◌++◌, map, refl, sym, ap, ◌∙◌, subst, inl, inr, arith, Some, All, Contains, append-nil}
use Rattle.std.specs.List.{flat_map, enumerate_from, AllZip}
use Rattle.std.proofs.lemmas.Bool.{cases_Bool}
use Rattle.std.proofs.lemmas.List.Concat.{flat_map-append}
use Rattle.std.proofs.lemmas.List.Elements.{All-nil, All-cons, All-head, All-tail, All-weaker, All-map, All-contains, All-contains_itself}
use Rattle.std.proofs.lemmas.List.Kept.{AllPairs-cons}
use Rattle.fab_kinds.specs.declared.kind.Kind.TheVariants as kinds
use Rattle.fab_kinds.specs.declared.kind.Kind.{Kind}
use Rattle.fab_syntax.specs.declared.tree.Shape.TheVariants.{Scalar, Vector}
use Rattle.fab_syntax.specs.declared.tree.Port.{Port}
use Rattle.fab_syntax.specs.Plain.{PlainJoin, PlainItem, PlainModule, variable, wire, reg, assign, latch, clocked, instance}
use Rattle.fab_syntax.specs.Declarations.{module_named, times_driven, times_held}
use Rattle.fab_syntax.specs.Sound.{DirectionFits, PortIsDriven, ItemIsDriven}
use Rattle.fab_meaning.specs.Runs.{clock_name}
use Rattle.fab_meaning.specs.Loading as loading
use Rattle.fab_meaning.specs.Ports.{scalar}
use Rattle.fab_model.specs.declared.mode.Mode.{Mode}
use Rattle.fab_model.specs.declared.mode.Mode.TheVariants as modes
use Rattle.fab_model.specs.declared.tiles.WireRow.{WireRow}
use Rattle.fab_model.specs.declared.tiles.Bel.{Bel}
use Rattle.fab_model.specs.Rows.{is_jump}
use Rattle.fab_model.specs.Tiles.{PlainTile, counted, IsTile}
use Rattle.fab_model.specs.Grid.{PlainFabric}
use Rattle.fab_model.specs.Cascade.{previous_row}
use Rattle.fab_fabric.specs.Fabric.{IsFabric, AreTiles}
use Rattle.fab_drives_laws.specs.fab_gen_tile_Names.{begin_name, end_name, port_join, same_join}
use Rattle.fab_drives_laws.specs.fab_gen_tile_Words.{IsNamed}
use Rattle.fab_drives_laws.specs.fab_gen_tile_Borders.{side_border, border_ports}
use Rattle.fab_drives_laws.specs.fab_gen_tile_ConfigModule.{config_ports}
use Rattle.fab_drives_laws.specs.fab_gen_tile_TileModule.{tile_ports, tile_module, bels_ports}
use Rattle.fab_drives_laws.specs.fab_gen_tile_TileModule as tiles
use Rattle.fab_drives_laws.specs.fab_gen_loader_Loader.{loader_module_name, loader_ports, address_port, strobe_port, row_port}
use Rattle.fab_drives_laws.specs.fab_gen_loader_Loader as loaders
use Rattle.fab_drives_laws.specs.fab_gen_loader_Expressions.{loader_module}
use Rattle.fab_drives_laws.specs.fab_fabric_text_defs_Names.{column_strobe_name, begin_wire_name}
use Rattle.fab_drives_laws.specs.fab_fabric_text_defs_Places.{PlacedTile, placed_tiles}
use Rattle.fab_drives_laws.specs.fab_fabric_text_defs_Mode.{text_mode}
use Rattle.fab_drives_laws.specs.fab_fabric_text_defs_Texts.{loaders_of}
use Rattle.fab_drives_laws.specs.fab_fabric_text_defs_Top.{pad_ports, tile_pads, top_ports, loader_wires, loader_joins, loader_instance, column_strobes, chain_wire, carrying_items, row_begin_wires, tile_begin_wires, end_value, numbered_row, row_joins, pad_joins, config_joins, tile_joins, tile_instance, top_items, top_module}
use Rattle.fab_drives_laws.proofs.Apart.{told_apart}
use Rattle.fab_drives_laws.proofs.Lists.{all_of}
use Rattle.fab_drives_laws.proofs.Modules.{tile_of_types}
use Rattle.fab_tiles_sound_laws.proofs.fab_parts_sound_laws_Counts.{joined_names, item_drives, driven_names, times, driven_times}
use Rattle.fab_tiles_sound_laws.proofs.fab_parts_sound_laws_Lists.{all_counted, all_flat_map, pairs_left, pairs_counted, one_each}
use Rattle.fab_tiles_sound_laws.proofs.fab_parts_sound_laws_Names.{Differ, AreApart, net_names}
use Rattle.fab_tiles_sound_laws.proofs.Apart.{declarations, nets_apart}
use Rattle.fab_tiles_sound_laws.proofs.Drives.{times_both, out_names, out_append}
use Rattle.fab_tiles_sound_laws.proofs.Joins.{port_name, directions, zip_append}
use Rattle.fab_text_sound_laws.specs.HasTop.{HasTopModules}
use Rattle.fab_text_sound_laws.proofs.Pairs.{pairs_map}
use Rattle.fab_text_sound_laws.proofs.Matched.{matched_counted, matched_numbered, matched_weaker}
use Rattle.fab_text_sound_laws.proofs.Standing.{IsStanding, all_standing}
use Rattle.fab_text_sound_laws.proofs.TopApart.{AllNames, PortsDiffer}
use Rattle.fab_text_sound_laws.proofs.TopDeclared.{items_clear, ports_apart, ports_and_items, rows_differ}
use Rattle.fab_text_sound_laws.proofs.TopNets.{Joining, loader_matched, tile_matched}
use Rattle.fab_text_sound_laws.proofs.TopItems.{all_of_items}
use Rattle.fab_text_sound_laws.proofs.TopDrivers.{outs, SameName, outs_are, outs_append, outs_counted, no_outs_counted, nets_append, counted_wires, no_wire, one_wire, no_output, one_if_output, output_times}

-- ---- the ports of the loader

pub loader_ports_apart : (rows : ℕ) → rows < 32 → AreApart (map port_name (loader_ports rows))
loader_ports_apart rows few =
    let clock = loaders.port true Scalar clock_name in
    let strobe = loaders.port true Scalar loading.write_strobe_name in
    let word = loaders.port true (Vector 32) loading.write_data_name in
    let address = loaders.port false (Vector 32) address_port in
    let out = loaders.port false Scalar strobe_port in
    let others = counted rows (λ row. loaders.port false (Vector 32) (row_port row)) in
    let each = λ (port : Port) (differ : (y : ℕ) → port.name ≢ row_port y). all_counted (PortsDiffer port) rows (λ row. loaders.port false (Vector 32) (row_port row)) (λ y within. differ y) in
    pairs_map Differ port_name (loader_ports rows)
    (AllPairs-cons PortsDiffer clock (strobe ∷ word ∷ address ∷ out ∷ others)
    (All-cons (PortsDiffer clock) strobe (word ∷ address ∷ out ∷ others) (told_apart 0 clock_name loading.write_strobe_name refl)
    (All-cons (PortsDiffer clock) word (address ∷ out ∷ others) (told_apart 0 clock_name loading.write_data_name refl)
    (All-cons (PortsDiffer clock) address (out ∷ others) (told_apart 0 clock_name address_port refl)
    (All-cons (PortsDiffer clock) out others (told_apart 0 clock_name strobe_port refl) (each clock (λ y. told_apart 0 clock_name (row_port y) refl))))))
    (AllPairs-cons PortsDiffer strobe (word ∷ address ∷ out ∷ others)
    (All-cons (PortsDiffer strobe) word (address ∷ out ∷ others) (told_apart 5 loading.write_strobe_name loading.write_data_name refl)
    (All-cons (PortsDiffer strobe) address (out ∷ others) (told_apart 0 loading.write_strobe_name address_port refl)
    (All-cons (PortsDiffer strobe) out others (told_apart 0 loading.write_strobe_name strobe_port refl) (each strobe (λ y. told_apart 0 loading.write_strobe_name (row_port y) refl)))))
    (AllPairs-cons PortsDiffer word (address ∷ out ∷ others)
    (All-cons (PortsDiffer word) address (out ∷ others) (told_apart 0 loading.write_data_name address_port refl)
    (All-cons (PortsDiffer word) out others (told_apart 0 loading.write_data_name strobe_port refl) (each word (λ y. told_apart 0 loading.write_data_name (row_port y) refl))))
    (AllPairs-cons PortsDiffer address (out ∷ others)
    (All-cons (PortsDiffer address) out others (told_apart 0 address_port strobe_port refl) (each address (λ y. told_apart 0 address_port (row_port y) refl)))
    (AllPairs-cons PortsDiffer out others (each out (λ y. told_apart 0 strobe_port (row_port y) refl))
    (pairs_counted PortsDiffer rows (λ row. loaders.port false (Vector 32) (row_port row)) (λ i j before within. rows_differ i j before (omega arith))))))))

pub tile_ports_apart : (mode : Mode) (tile : PlainTile) → IsTile tile → IsNamed tile → AreApart (map port_name (tile_ports mode tile))
tile_ports_apart mode tile is named = pairs_left Differ (map port_name (tile_ports mode tile)) (net_names (declarations tile)) (nets_apart mode tile is named)

pub loader_found : (fabric : PlainFabric) (modules : List PlainModule) → text_mode fabric ≡ modes.Frames → HasTopModules modules fabric →
    module_named modules loader_module_name ≡ Some (loader_module fabric.rows)
loader_found fabric modules frames has =
    let IsFound = λ (loader : PlainModule). module_named modules loader.name ≡ Some loader in
    All-head IsFound (loader_module fabric.rows) [] (subst (λ mode. All IsFound (loaders_of mode fabric.rows)) frames has.loaders_are)

-- what a tile passes on of what carries the bits: in a chain the wire behind it
abbrev passed_on : Mode → PlacedTile → List PlainItem
passed_on modes.Frames p = []
passed_on modes.Chain p = chain_wire p ∷ []

module _ (fabric : PlainFabric) where
  -- ---- what the loader drives

  loader_drives : text_mode fabric ≡ modes.Frames → fabric.rows < 32 → joined_names (Some (loader_module fabric.rows)) (loader_joins fabric.rows) ≡ net_names (loader_wires fabric.rows)
  loader_drives frames few =
      let ports = loader_ports fabric.rows in
      outs_are (loader_module fabric.rows) (loader_joins fabric.rows) ports
      (matched_weaker (Joining fabric) SameName (λ join port right. right.0) (loader_joins fabric.rows) ports (loader_matched fabric frames))
      (directions ports (loader_ports_apart fabric.rows few))
      ∙ ap (λ rest. address_port ∷ strobe_port ∷ rest)
      (outs_counted fabric.rows (λ y. same_join (row_port y)) (λ row. loaders.port false (Vector 32) (row_port row)) row_port (λ y. refl)
      ∙ sym (counted_wires (Vector 32) fabric.rows row_port))

  -- ---- what a tile drives

  module _ (p : PlacedTile) where
    abbrev begin_join : WireRow → (bit : ℕ) → PlainJoin
    begin_join row bit = port_join (begin_name row bit) (variable (begin_wire_name p.x p.y row bit))

    abbrev end_join : (number : ℕ) → WireRow → (bit : ℕ) → PlainJoin
    end_join number row bit = port_join (end_name row bit) (end_value (previous_row fabric (numbered_row p number row)) bit)

    same_bits : (number : ℕ) (row : WireRow) →
        AllZip SameName (counted (side_border row row.source) (begin_join row)) (counted (side_border row row.source) (λ bit. scalar false (begin_name row bit)))
    same_bits number row = matched_counted SameName (side_border row row.source) (begin_join row) (λ bit. scalar false (begin_name row bit)) (λ bit few. refl)

    same_row : (number : ℕ) (row : WireRow) → AllZip SameName (row_joins fabric p (number, row)) (border_ports row)
    same_row number row =
        elim (cases_Bool (is_jump row.dir)) [
          | inl jumps ↦ rw jumps tt
          | inr no_jump ↦ rw no_jump
              (zip_append SameName (counted (side_border row row.source) (begin_join row)) (counted (side_border row row.dest) (end_join number row))
              (counted (side_border row row.source) (λ bit. scalar false (begin_name row bit))) (counted (side_border row row.dest) (λ bit. scalar true (end_name row bit)))
              (same_bits number row)
              (matched_counted SameName (side_border row row.dest) (end_join number row) (λ bit. scalar true (end_name row bit)) (λ bit few. refl)))
        ]

    row_drives : (number : ℕ) (row : WireRow) → outs (row_joins fabric p (number, row)) (border_ports row) ≡ net_names (row_begin_wires p.x p.y row)
    row_drives number row =
        elim (cases_Bool (is_jump row.dir)) [
          | inl jumps ↦ rw jumps refl
          | inr no_jump ↦ rw no_jump
              (outs_append (counted (side_border row row.source) (begin_join row)) (counted (side_border row row.dest) (end_join number row))
              (counted (side_border row row.source) (λ bit. scalar false (begin_name row bit))) (counted (side_border row row.dest) (λ bit. scalar true (end_name row bit)))
              (same_bits number row)
              ∙ (λ j. outs_counted (side_border row row.source) (begin_join row) (λ bit. scalar false (begin_name row bit)) (begin_wire_name p.x p.y row) (λ bit. refl) j
              ++ no_outs_counted (side_border row row.dest) (end_join number row) (λ bit. scalar true (end_name row bit)) (λ bit. refl) j)
              ∙ append-nil (counted (side_border row row.source) (begin_wire_name p.x p.y row))
              ∙ sym (counted_wires Scalar (side_border row row.source) (begin_wire_name p.x p.y row)))
        ]

    rows_drive : (first : ℕ) (rows : List WireRow) →
        outs (flat_map (row_joins fabric p) (enumerate_from first rows)) (flat_map border_ports rows) ≡ net_names (flat_map (row_begin_wires p.x p.y) rows)
    rows_drive first [] = refl
    rows_drive first (row ∷ rows) =
        outs_append (row_joins fabric p (first, row)) (flat_map (row_joins fabric p) (enumerate_from (first + 1) rows)) (border_ports row) (flat_map border_ports rows) (same_row first row)
        ∙ (λ j. row_drives first row j ++ rows_drive (first + 1) rows j)
        ∙ sym (nets_append (row_begin_wires p.x p.y row) (flat_map (row_begin_wires p.x p.y) rows))

    abbrev bel_ports : ℕ × Bel → List Port
    bel_ports placed = tiles.pad_ports placed.0 placed.1.kind

    same_bel : (bel : ℕ) (kind : Kind) (prefix : List ℕ) → AllZip SameName (pad_joins p.x p.y (bel, record { kind = kind; prefix = prefix })) (tiles.pad_ports bel kind)
    same_bel bel kinds.Lut4c prefix = tt
    same_bel bel kinds.Io prefix = (refl, (refl, (refl, tt)))
    same_bel bel kinds.Mux8 prefix = tt

    bel_drives : (bel : ℕ) (kind : Kind) (prefix : List ℕ) →
        outs (pad_joins p.x p.y (bel, record { kind = kind; prefix = prefix })) (tiles.pad_ports bel kind) ≡ out_names (pad_ports p.x p.y (bel, record { kind = kind; prefix = prefix }))
    bel_drives bel kinds.Lut4c prefix = refl
    bel_drives bel kinds.Io prefix = refl
    bel_drives bel kinds.Mux8 prefix = refl

    bels_drive : (placed : List (ℕ × Bel)) → outs (flat_map (pad_joins p.x p.y) placed) (flat_map bel_ports placed) ≡ out_names (flat_map (pad_ports p.x p.y) placed)
    bels_drive [] = refl
    bels_drive (first ∷ placed) =
        outs_append (pad_joins p.x p.y first) (flat_map (pad_joins p.x p.y) placed) (bel_ports first) (flat_map bel_ports placed) (same_bel first.0 first.1.kind first.1.prefix)
        ∙ (λ j. bel_drives first.0 first.1.kind first.1.prefix j ++ bels_drive placed j)
        ∙ sym (out_append (pad_ports p.x p.y first) (flat_map (pad_ports p.x p.y) placed))

    same_config : (mode : Mode) → AllZip SameName (config_joins mode fabric p) (config_ports mode)
    same_config modes.Frames = (refl, (refl, tt))
    same_config modes.Chain = (refl, (refl, (refl, (refl, tt))))

    config_drives : (mode : Mode) → outs (config_joins mode fabric p) (config_ports mode) ≡ net_names (passed_on mode p)
    config_drives modes.Frames = refl
    config_drives modes.Chain = refl

    tile_drives : AreTiles fabric → IsStanding fabric p → IsNamed p.tile →
        joined_names (Some (tile_module (text_mode fabric) p.tile)) (tile_joins fabric p)
        ≡ net_names (passed_on (text_mode fabric) p) ++ (net_names (tile_begin_wires p) ++ out_names (tile_pads p))
    tile_drives are stands named =
        let mode = text_mode fabric in
        let rows = flat_map (row_joins fabric p) (enumerate_from 0 p.tile.rows) in
        let pads = flat_map (pad_joins p.x p.y) (enumerate_from 0 p.tile.bels) in
        let borders = flat_map border_ports p.tile.rows in
        let behind : outs (rows ++ pads) (borders ++ bels_ports p.tile.bels) ≡ net_names (tile_begin_wires p) ++ out_names (tile_pads p) =
        outs_append rows pads borders (bels_ports p.tile.bels)
        (matched_numbered SameName (row_joins fabric p) border_ports 0 p.tile.rows
        (all_of (λ (numbered : ℕ × WireRow). AllZip SameName (row_joins fabric p numbered) (border_ports numbered.1)) (enumerate_from 0 p.tile.rows) (λ numbered. same_row numbered.0 numbered.1)))
        ∙ (λ j. rows_drive 0 p.tile.rows j ++ bels_drive (enumerate_from 0 p.tile.bels) j) in
        outs_are (tile_module mode p.tile) (tile_joins fabric p) (tile_ports mode p.tile)
        (matched_weaker (Joining fabric) SameName (λ join port right. right.0) (tile_joins fabric p) (tile_ports mode p.tile) (tile_matched fabric are p stands))
        (directions (tile_ports mode p.tile) (tile_ports_apart mode p.tile stands.is_tile named))
        ∙ outs_append (config_joins mode fabric p) (rows ++ pads) (config_ports mode) (borders ++ bels_ports p.tile.bels) (same_config mode)
        ∙ (λ j. config_drives mode j ++ behind j)

  -- ---- all that is driven

  module _ (is : IsFabric fabric) (are : AreTiles fabric) (named : All IsNamed fabric.types) (text : List PlainModule) (has : HasTopModules text fabric) where
    abbrev drives : List PlainItem → List (List ℕ)
    drives items = driven_names text items

    pub few_rows : fabric.rows < 32
    few_rows = let few = is.few_rows in omega (arith, few)

    pub named_tile : (p : PlacedTile) → IsStanding fabric p → IsNamed p.tile
    named_tile p stands = All-contains IsNamed fabric.types p.tile named (tile_of_types fabric p.x p.y p.tile stands.there)

    no_drives : (items : List PlainItem) → All (λ item. item_drives text item ≡ []) items → drives items ≡ []
    no_drives [] none = refl
    no_drives (item ∷ items) none =
        λ j. All-head (λ item. item_drives text item ≡ []) item items none j ++ no_drives items (All-tail (λ item. item_drives text item ≡ []) item items none) j

    module _ (name : List ℕ) where
      abbrev driven : List PlainItem → ℕ
      driven items = times (drives items) name

      abbrev declared : List PlainItem → ℕ
      declared items = times (net_names items) name

      abbrev outputs : List Port → ℕ
      outputs ports = times (out_names ports) name

      both_driven : (xs ys : List PlainItem) → driven (xs ++ ys) ≡ driven xs + driven ys
      both_driven xs ys = ap (λ names. times names name) (flat_map-append (item_drives text) xs ys) ∙ times_both (drives xs) (drives ys) name

      both_declared : (xs ys : List PlainItem) → declared (xs ++ ys) ≡ declared xs + declared ys
      both_declared xs ys = ap (λ names. times names name) (nets_append xs ys) ∙ times_both (net_names xs) (net_names ys) name

      both_outputs : (xs ys : List Port) → outputs (xs ++ ys) ≡ outputs xs + outputs ys
      both_outputs xs ys = ap (λ names. times names name) (out_append xs ys) ∙ times_both (out_names xs) (out_names ys) name

      abbrev mode : Mode
      mode = text_mode fabric

      tile_times : (p : PlacedTile) → IsStanding fabric p →
          times (item_drives text (tile_instance fabric p)) name ≡ declared (passed_on mode p) + (declared (tile_begin_wires p) + outputs (tile_pads p))
      tile_times p stands =
          ap (λ of. times (joined_names of (tile_joins fabric p)) name) (has.tiles_are p.x p.y p.tile stands.there)
          ∙ ap (λ names. times names name) (tile_drives p are stands (named_tile p stands))
          ∙ times_both (net_names (passed_on mode p)) (net_names (tile_begin_wires p) ++ out_names (tile_pads p)) name
          ∙ ap (λ n. declared (passed_on mode p) + n) (times_both (net_names (tile_begin_wires p)) (out_names (tile_pads p)) name)

      tiles_times : (placed : List PlacedTile) → All (IsStanding fabric) placed →
          driven (map (tile_instance fabric) placed)
          ≡ declared (flat_map (passed_on mode) placed) + (declared (flat_map tile_begin_wires placed) + outputs (flat_map tile_pads placed))
      tiles_times [] stand = refl
      tiles_times (p ∷ placed) stand =
          let here = tile_times p (All-head (IsStanding fabric) p placed stand) in
          let later = tiles_times placed (All-tail (IsStanding fabric) p placed stand) in
          let split = times_both (item_drives text (tile_instance fabric p)) (drives (map (tile_instance fabric) placed)) name in
          let passed = both_declared (passed_on mode p) (flat_map (passed_on mode) placed) in
          let wires = both_declared (tile_begin_wires p) (flat_map tile_begin_wires placed) in
          let ports = both_outputs (tile_pads p) (flat_map tile_pads placed) in
          omega (arith, here, later, split, passed, wires, ports)

      none_passed : (placed : List PlacedTile) → declared (flat_map (passed_on modes.Frames) placed) ≡ 0
      none_passed [] = refl
      none_passed (p ∷ placed) = none_passed placed

      all_passed : (placed : List PlacedTile) → flat_map (passed_on modes.Chain) placed ≡ map chain_wire placed
      all_passed [] = refl
      all_passed (p ∷ placed) = ap (λ rest. chain_wire p ∷ rest) (all_passed placed)

      no_instance_nets : (placed : List PlacedTile) → declared (map (tile_instance fabric) placed) ≡ 0
      no_instance_nets [] = refl
      no_instance_nets (p ∷ placed) = no_instance_nets placed

      abbrev placed : List PlacedTile
      placed = placed_tiles fabric

      abbrev loader_part : List PlainItem
      loader_part = loader_wires fabric.rows

      abbrev row_wires : List PlainItem
      row_wires = counted fabric.rows (λ y. wire (Vector 32) (row_port y))

      abbrev strobe_wires : List PlainItem
      strobe_wires = counted fabric.columns (λ x. wire (Vector 20) (column_strobe_name x))

      abbrev assigned : List PlainItem
      assigned = counted fabric.columns column_strobes

      abbrev begins : List PlainItem
      begins = flat_map tile_begin_wires placed

      abbrev instances : List PlainItem
      instances = map (tile_instance fabric) placed

      abbrev DrivesNone : PlainItem → Type 0
      DrivesNone item = item_drives text item ≡ []

      no_loader_drives : driven loader_part ≡ 0
      no_loader_drives =
          ap (λ names. times names name)
          (no_drives loader_part
          (All-cons DrivesNone (wire (Vector 32) address_port) (wire Scalar strobe_port ∷ row_wires) refl
          (All-cons DrivesNone (wire Scalar strobe_port) row_wires refl (all_counted DrivesNone fabric.rows (λ y. wire (Vector 32) (row_port y)) (λ y few. refl)))))

      no_strobe_drives : driven strobe_wires ≡ 0
      no_strobe_drives =
          ap (λ names. times names name) (no_drives strobe_wires (all_counted DrivesNone fabric.columns (λ x. wire (Vector 20) (column_strobe_name x)) (λ x few. refl)))

      row_begins_none : (x y : ℕ) (row : WireRow) → All DrivesNone (row_begin_wires x y row)
      row_begins_none x y row =
          elim (cases_Bool (is_jump row.dir)) [
            | inl jumps ↦ rw jumps (All-nil DrivesNone)
            | inr no_jump ↦ rw no_jump (all_counted DrivesNone (side_border row row.source) (λ bit. wire Scalar (begin_wire_name x y row bit)) (λ bit few. refl))
          ]

      no_begin_drives : driven begins ≡ 0
      no_begin_drives =
          ap (λ names. times names name)
          (no_drives begins (all_flat_map DrivesNone tile_begin_wires placed (all_of (λ (p : PlacedTile). All DrivesNone (tile_begin_wires p)) placed (λ p.
          all_flat_map DrivesNone (row_begin_wires p.x p.y) p.tile.rows (all_of (λ (row : WireRow). All DrivesNone (row_begin_wires p.x p.y row)) p.tile.rows (row_begins_none p.x p.y))))))

      loader_times : text_mode fabric ≡ modes.Frames → driven (loader_instance fabric.rows ∷ []) ≡ declared loader_part
      loader_times frames =
          ap (λ of. times (joined_names of (loader_joins fabric.rows) ++ []) name) (loader_found fabric text frames has)
          ∙ ap (λ names. times names name) (append-nil (joined_names (Some (loader_module fabric.rows)) (loader_joins fabric.rows)) ∙ loader_drives frames few_rows)

      assigned_times : driven assigned ≡ declared strobe_wires
      assigned_times =
          ap (λ names. times names name)
          (one_each (item_drives text) fabric.columns column_strobes column_strobe_name (λ x. refl) ∙ sym (counted_wires (Vector 20) fabric.columns column_strobe_name))

      -- what carries the bits and what the tiles pass on drive its wires
      carried_times : (mode : Mode) → text_mode fabric ≡ mode → driven (carrying_items mode fabric) + declared (flat_map (passed_on mode) placed) ≡ declared (carrying_items mode fabric)
      carried_times modes.Frames frames =
          let no_assigned : declared assigned ≡ 0 = no_wire assigned name (all_counted (AllNames (Differ name)) fabric.columns column_strobes (λ x few. All-nil (Differ name))) in
          let one = loader_instance fabric.rows ∷ [] in
          let drives_of_all = both_driven loader_part (one ++ (strobe_wires ++ assigned)) in
          let drives_of_rest = both_driven one (strobe_wires ++ assigned) in
          let drives_of_strobes = both_driven strobe_wires assigned in
          let nets_of_all = both_declared loader_part (one ++ (strobe_wires ++ assigned)) in
          let nets_of_strobes = both_declared strobe_wires assigned in
          omega (
            arith,
            no_assigned,
            drives_of_all,
            drives_of_rest,
            drives_of_strobes,
            nets_of_all,
            nets_of_strobes,
            no_loader_drives,
            no_strobe_drives,
            loader_times frames,
            assigned_times,
            none_passed placed,
          )
      carried_times modes.Chain chain =
          let none : driven (map chain_wire placed) ≡ 0 =
          ap (λ names. times names name) (no_drives (map chain_wire placed) (All-map DrivesNone chain_wire placed (all_of (λ (p : PlacedTile). DrivesNone (chain_wire p)) placed (λ p. refl)))) in
          let passed = ap declared (all_passed placed) in
          omega (arith, none, passed)

      -- as often as it is an output or a wire
      pub top_times : driven (top_items fabric) ≡ outputs (top_ports fabric) + declared (top_items fabric)
      top_times =
          let carried = carrying_items mode fabric in
          let drives_of_all = both_driven carried (begins ++ instances) in
          let drives_of_tiles = both_driven begins instances in
          let nets_of_all = both_declared carried (begins ++ instances) in
          let nets_of_tiles = both_declared begins instances in
          omega (
            arith,
            drives_of_all,
            drives_of_tiles,
            nets_of_all,
            nets_of_tiles,
            carried_times mode refl,
            no_begin_drives,
            tiles_times placed (all_standing fabric is are),
            no_instance_nets placed,
          )

    -- ---- each once

    abbrev IsPlainItem : PlainItem → Type 0
    IsPlainItem (wire shape name) = Unit {0}
    IsPlainItem (assign target e) = Unit {0}
    IsPlainItem (instance module_name i joins) = Unit {0}
    IsPlainItem _ = ⊥

    never_held : (items : List PlainItem) (name : List ℕ) → All IsPlainItem items → times_held items name ≡ 0
    never_held [] name plain = refl
    never_held (wire shape other ∷ items) name plain = never_held items name (All-tail IsPlainItem (wire shape other) items plain)
    never_held (reg shape other ∷ items) name plain = absurd (All-head IsPlainItem (reg shape other) items plain)
    never_held (assign target e ∷ items) name plain = never_held items name (All-tail IsPlainItem (assign target e) items plain)
    never_held (latch target gate e ∷ items) name plain = absurd (All-head IsPlainItem (latch target gate e) items plain)
    never_held (clocked clock target e ∷ items) name plain = absurd (All-head IsPlainItem (clocked clock target e) items plain)
    never_held (instance of i joins ∷ items) name plain = never_held items name (All-tail IsPlainItem (instance of i joins) items plain)

    abbrev top : PlainModule
    top = top_module fabric

    plain_items : All IsPlainItem (top_items fabric)
    plain_items = all_of_items fabric is are IsPlainItem (λ shape name. tt) (λ frames x few. tt) (λ frames. tt) (λ p stands. tt)

    item_is_driven : (item : PlainItem) → Contains (top_items fabric) item → ItemIsDriven text top item
    item_is_driven (wire shape name) there =
        let one = one_wire (top_items fabric) shape name (items_clear fabric is are) there in
        let none = no_output (top_ports fabric) name
        (All-weaker (λ port. All (AllNames (Differ port.name)) (top_items fabric)) (λ port. port.name ≢ name)
        (λ port apart. All-head (Differ port.name) name [] (All-contains (AllNames (Differ port.name)) (top_items fabric) (wire shape name) apart there)) (top_ports fabric) (ports_and_items fabric is are)) in
        (driven_times text (top_items fabric) name ∙ omega (arith, top_times name, one, none), never_held (top_items fabric) name plain_items)
    item_is_driven (reg shape name) there = absurd (All-contains IsPlainItem (top_items fabric) (reg shape name) plain_items there)
    item_is_driven (assign target e) there = tt
    item_is_driven (latch target gate e) there = tt
    item_is_driven (clocked clock target e) there = tt
    item_is_driven (instance module_name i joins) there = tt

    pub top_items_driven : All (ItemIsDriven text top) (top_items fabric)
    top_items_driven = All-weaker (Contains (top_items fabric)) (ItemIsDriven text top) item_is_driven (top_items fabric) (All-contains_itself (top_items fabric))

    by_direction : (input : Bool) (name : List ℕ) → times_driven text (top_items fabric) name ≡ one_if_output input → DirectionFits text top input name
    by_direction true name driven_so = driven_so
    by_direction false name driven_so = (driven_so, never_held (top_items fabric) name plain_items)

    port_is_driven : (port : Port) → Contains (top_ports fabric) port → PortIsDriven text top port
    port_is_driven port there =
        let outputs_are = output_times (top_ports fabric) port (ports_apart fabric is are) there in
        let no_wires = no_wire (top_items fabric) port.name (All-contains (λ (port : Port). All (AllNames (Differ port.name)) (top_items fabric)) (top_ports fabric) port (ports_and_items fabric is are) there) in
        by_direction port.input port.name (driven_times text (top_items fabric) port.name ∙ omega (arith, top_times port.name, outputs_are, no_wires))

    pub top_ports_driven : All (PortIsDriven text top) (top_ports fabric)
    top_ports_driven = All-weaker (Contains (top_ports fabric)) (PortIsDriven text top) port_is_driven (top_ports fabric) (All-contains_itself (top_ports fabric))
