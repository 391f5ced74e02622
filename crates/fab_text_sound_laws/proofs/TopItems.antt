-- The selects, the widths and the instances of the top fit, and its clocks.
use Rattle.std.proofs.Common.{◌≡◌, ◌≢◌, ◌⊎◌, ℕ, ◌<◌, ◌≤◌, Bool, true, false, List, [], ◌∷◌, ◌++◌, map, refl, sym, ap, ◌∙◌, subst, inl, inr, arith, Option, Some, None, All, Contains, get_or, IsSomeAnd, codes}
use Rattle.std.specs.List.{flat_map, enumerate_from, AllZip}
use Rattle.std.proofs.lemmas.Bool.{false≢true}
use Rattle.std.proofs.lemmas.List.Elements.{All-nil, All-cons, All-append, All-head, All-tail, All-weaker, All-map, All-contains_itself, All-from_recursion}
use Rattle.fab_bits.specs.Bits.{digits}
use Rattle.fab_syntax.specs.declared.tree.Shape.{Shape}
use Rattle.fab_syntax.specs.declared.tree.Shape.TheVariants.{Scalar, Vector}
use Rattle.fab_syntax.specs.declared.tree.Op.TheVariants.{And}
use Rattle.fab_syntax.specs.declared.tree.Port.{Port}
use Rattle.fab_syntax.specs.Plain.{PlainExpr, PlainJoin, PlainItem, PlainModule, constant, variable, part, operation, conditional, wire, instance}
use Rattle.fab_syntax.specs.Declarations.{module_named, width, width_if_any}
use Rattle.fab_syntax.specs.Sound.{item_expressions, joined_expressions, Every, width_of_name, IsVectorAnd, SelectFits, OperandsFit, SidesFit, FitsPort, JoinFits, IsJoinedOnce, InstanceFits, ServesAsClock, IsScalarInput, IsJoinedToClock, ClockFits}
use Rattle.fab_meaning.specs.Runs.{user_clock_name, clock_name}
use Rattle.fab_prim.specs.Ports.{top_name}
use Rattle.fab_model.specs.declared.mode.Mode.{Mode}
use Rattle.fab_model.specs.declared.mode.Mode.TheVariants as modes
use Rattle.fab_model.specs.declared.tiles.WireRow.{WireRow}
use Rattle.fab_model.specs.Rows.{is_jump}
use Rattle.fab_model.specs.Tiles.{PlainTile, counted}
use Rattle.fab_model.specs.Grid.{PlainFabric}
use Rattle.fab_fabric.specs.Names.{place_name}
use Rattle.fab_fabric.specs.Fabric.{IsFabric, AreTiles}
use Rattle.fab_drives_laws.specs.fab_gen_tile_Names.{tile_module_name, frame_data_name, frame_strobe_name, begin_name, end_name, pad_name, same_join}
use Rattle.fab_drives_laws.specs.fab_gen_tile_Borders.{side_border}
use Rattle.fab_drives_laws.specs.fab_gen_tile_ConfigModule.{frame_ports, config_ports}
use Rattle.fab_drives_laws.specs.fab_gen_tile_TileModule.{tile_ports}
use Rattle.fab_drives_laws.specs.fab_gen_loader_Loader.{loader_ports, loader_module_name, address_port, strobe_port, row_port}
use Rattle.fab_drives_laws.specs.fab_fabric_text_defs_Names.{loader_instance_name, column_strobe_name, chain_wire_name, begin_wire_name}
use Rattle.fab_drives_laws.specs.fab_fabric_text_defs_Places.{PlacedTile, placed_tiles}
use Rattle.fab_drives_laws.specs.fab_fabric_text_defs_Mode.{text_mode}
use Rattle.fab_drives_laws.specs.fab_fabric_text_defs_Top.{loader_wires, loader_joins, loader_instance, names_column, column_strobes, chain_wire, carrying_items, row_begin_wires, tile_begin_wires, row_joins, pad_joins, config_joins, tile_joins, tile_instance, top_items, top_module}
use Rattle.fab_drives_laws.proofs.Apart.{told_apart, one_of_name}
use Rattle.fab_drives_laws.proofs.Lists.{all_of, all_if}
use Rattle.fab_drives_laws.proofs.TilePorts.{all_tile_ports}
use Rattle.fab_tiles_sound_laws.proofs.fab_parts_sound_laws_Lists.{all_counted, all_flat_map, contains_later}
use Rattle.fab_tiles_sound_laws.proofs.fab_parts_sound_laws_Names.{Differ, AreApart}
use Rattle.fab_tiles_sound_laws.proofs.fab_parts_sound_laws_Expressions.{Holds, every}
use Rattle.fab_tiles_sound_laws.proofs.fab_parts_sound_laws_Flat.{IsSized}
use Rattle.fab_tiles_sound_laws.proofs.Joins.{port_name, JoinsPort, instance_fits}
use Rattle.fab_text_sound_laws.proofs.Pairs.{pairs_of_map}
use Rattle.fab_text_sound_laws.proofs.Standing.{IsStanding, all_standing}
use Rattle.fab_text_sound_laws.proofs.Matched.{matched_all, matched_weaker}
use Rattle.fab_text_sound_laws.proofs.TopNets.{IsTopNet, IsJoinedRight, Joining, loader_matched, tile_matched, address_net, strobe_net, column_net}
use Rattle.fab_text_sound_laws.proofs.TopNamesFit.{net_shape}

-- ---- of a list of joins with names of their own

names_of_joins : (fabric : PlainFabric) (joins : List PlainJoin) (ports : List Port) → AllZip (Joining fabric) joins ports → map (λ (join : PlainJoin). join.port) joins ≡ map port_name ports
names_of_joins fabric [] [] matched = refl
names_of_joins fabric [] (port ∷ ports) matched = absurd matched
names_of_joins fabric (join ∷ joins) [] matched = absurd matched
names_of_joins fabric (join ∷ joins) (port ∷ ports) matched = λ j. matched.0.0 j ∷ names_of_joins fabric joins ports matched.1 j

-- only one join is to its port
only_of_port : (join : PlainJoin) (joins : List PlainJoin) → AreApart (map (λ (join : PlainJoin). join.port) joins) → Contains joins join →
    All (λ other. other.port ≡ join.port → other ≡ join) joins
only_of_port join joins apart there =
    All-weaker (Contains joins) (λ (other : PlainJoin). other.port ≡ join.port → other ≡ join)
    (λ other listed same. one_of_name (λ (join : PlainJoin). join.port) joins other join (pairs_of_map Differ (λ (join : PlainJoin). join.port) joins apart) listed there same)
    joins (All-contains_itself joins)

-- in frames no port of a tile is CLK
frame_ports_differ : (mode : Mode) (tile : PlainTile) → mode ≡ modes.Frames → All (λ port. port.name ≢ clock_name) (tile_ports mode tile)
frame_ports_differ mode tile frames =
    let IsOther = λ (port : Port). port.name ≢ clock_name in
    all_tile_ports IsOther (told_apart 0 user_clock_name clock_name refl) mode
    (subst (λ mode. All IsOther (config_ports mode)) (sym frames)
    (All-from_recursion IsOther frame_ports (told_apart 0 frame_data_name clock_name refl, (told_apart 0 frame_strobe_name clock_name refl, tt))))
    (λ row bit. told_apart 0 (begin_name row bit) clock_name refl) (λ row bit. told_apart 0 (end_name row bit) clock_name refl)
    (λ bel. told_apart 0 (pad_name bel top_name) clock_name refl) (λ bel. told_apart 0 (pad_name bel (codes "I_top")) clock_name refl)
    (λ bel. told_apart 0 (pad_name bel (codes "T_top")) clock_name refl) tile

-- what holds of names and constants holds of what is joined
plain_join : (P : PlainExpr → Type 0) → ((name : List ℕ) → P (variable name)) → ((bits : List Bool) → P (constant bits)) → (fabric : PlainFabric) (input : Bool) (shape : Shape) (to : Option PlainExpr) →
    IsJoinedRight fabric input shape to → All (Every P) (joined_expressions to)
plain_join P names bits_are fabric input shape None right = absurd right
plain_join P names bits_are fabric input shape (Some (variable name)) right = All-cons (Every P) (variable name) [] (All-cons P (variable name) [] (names name) (All-nil P)) (All-nil (Every P))
plain_join P names bits_are fabric input shape (Some (constant bits)) right = All-cons (Every P) (constant bits) [] (All-cons P (constant bits) [] (bits_are bits) (All-nil P)) (All-nil (Every P))
plain_join P names bits_are fabric input shape (Some _) right = absurd right

module _ (fabric : PlainFabric) (is : IsFabric fabric) (are : AreTiles fabric) where
  abbrev top : PlainModule
  top = top_module fabric

  module _ (P : PlainItem → Type 0) (wires : (shape : Shape) (name : List ℕ) → P (wire shape name)) where
    -- what holds of wires, and in frames of the assigned strobes and of the loader, holds of what carries the bits
    all_of_carried : (mode : Mode) → (mode ≡ modes.Frames → (x : ℕ) → x < fabric.columns → P (column_strobes x)) → (mode ≡ modes.Frames → P (loader_instance fabric.rows)) →
        All P (carrying_items mode fabric)
    all_of_carried modes.Frames assigns loader =
        let assigned = counted fabric.columns column_strobes in
        let strobe_wires = counted fabric.columns (λ x. wire (Vector 20) (column_strobe_name x)) in
        let rows = counted fabric.rows (λ y. wire (Vector 32) (row_port y)) in
        All-append P (loader_wires fabric.rows) (loader_instance fabric.rows ∷ (strobe_wires ++ assigned))
        (All-cons P (wire (Vector 32) address_port) (wire Scalar strobe_port ∷ rows) (wires (Vector 32) address_port)
        (All-cons P (wire Scalar strobe_port) rows (wires Scalar strobe_port)
        (all_counted P fabric.rows (λ y. wire (Vector 32) (row_port y)) (λ y few. wires (Vector 32) (row_port y)))))
        (All-cons P (loader_instance fabric.rows) (strobe_wires ++ assigned) (loader refl)
        (All-append P strobe_wires assigned
        (all_counted P fabric.columns (λ x. wire (Vector 20) (column_strobe_name x)) (λ x few. wires (Vector 20) (column_strobe_name x)))
        (all_counted P fabric.columns column_strobes (assigns refl))))
    all_of_carried modes.Chain assigns loader =
        All-map P chain_wire (placed_tiles fabric) (all_of (λ (p : PlacedTile). P (chain_wire p)) (placed_tiles fabric) (λ p. wires Scalar (chain_wire_name p.x p.y)))

    -- and with each tile's instance of all items
    pub all_of_items : (text_mode fabric ≡ modes.Frames → (x : ℕ) → x < fabric.columns → P (column_strobes x)) → (text_mode fabric ≡ modes.Frames → P (loader_instance fabric.rows)) →
        ((p : PlacedTile) → IsStanding fabric p → P (tile_instance fabric p)) → All P (top_items fabric)
    all_of_items assigns loader tiles =
        let mode = text_mode fabric in
        let placed = placed_tiles fabric in
        let instances = map (tile_instance fabric) placed in
        let begins = flat_map tile_begin_wires placed in
        All-append P (carrying_items mode fabric) (begins ++ instances) (all_of_carried mode assigns loader)
        (All-append P begins instances
        (all_flat_map P tile_begin_wires placed (all_of (λ (p : PlacedTile). All P (tile_begin_wires p)) placed (λ p.
        all_flat_map P (row_begin_wires p.x p.y) p.tile.rows (all_of (λ (row : WireRow). All P (row_begin_wires p.x p.y row)) p.tile.rows (λ row.
        all_if P (is_jump row.dir) [] (counted (side_border row row.source) (λ bit. wire Scalar (begin_wire_name p.x p.y row bit))) (All-nil P)
        (all_counted P (side_border row row.source) (λ bit. wire Scalar (begin_wire_name p.x p.y row bit)) (λ bit few. wires Scalar (begin_wire_name p.x p.y row bit))))))))
        (All-map P (tile_instance fabric) placed (All-weaker (IsStanding fabric) (λ (p : PlacedTile). P (tile_instance fabric p)) tiles placed (all_standing fabric is are))))

  -- ---- widths of nets

  pub net_width : (shape : Shape) (name : List ℕ) → IsTopNet fabric shape name → width_of_name top name ≡ width shape
  net_width shape name net = ap width_if_any (net_shape fabric is are shape name net)

  -- ---- strobes

  abbrev strobe_value : (x : ℕ) → PlainExpr
  strobe_value x = conditional (operation And (variable strobe_port) (names_column x)) (part address_port 19 0) (constant (digits 20 0))

  module _ (frames : text_mode fabric ≡ modes.Frames) where
    address_select : (high low : ℕ) → low ≤ high → high < 32 → SelectFits top (part address_port high low)
    address_select high low in_order few =
        subst (λ shape. IsVectorAnd shape (λ n. (low ≤ high) × (high < n))) (sym (net_shape fabric is are (Vector 32) address_port (address_net fabric frames))) (in_order, few)

    strobe_sized : (x : ℕ) → Holds (IsSized top) (strobe_value x)
    strobe_sized x =
        let strobe : width_of_name top strobe_port ≡ 1 = net_width Scalar strobe_port (strobe_net fabric frames) in (
          (tt, (strobe, refl)),
          ((tt, strobe), (tt, tt), ((tt, refl), (address_select 31 27 (omega arith) (omega arith), tt), (tt, tt))),
          (address_select 19 0 (omega arith) (omega arith), tt),
          (tt, tt),
        )

    strobe_each : (P : PlainExpr → Type 0) (x : ℕ) → ((e : PlainExpr) → IsSized top e → P e) → All (Every P) (item_expressions (column_strobes x))
    strobe_each P x has =
        All-cons (Every P) (strobe_value x) [] (λ k d within. has _ (every (IsSized top) (strobe_value x) (strobe_sized x) k d within)) (All-nil (Every P))

  -- ---- what is joined

  joined_each : (P : PlainExpr → Type 0) → ((name : List ℕ) → P (variable name)) → ((bits : List Bool) → P (constant bits)) → (module_name i : List ℕ) (joins : List PlainJoin) (ports : List Port) →
      AllZip (Joining fabric) joins ports → All (Every P) (item_expressions (instance module_name i joins))
  joined_each P names bits_are module_name i joins ports matched =
      all_flat_map (Every P) (λ (join : PlainJoin). joined_expressions join.to) joins
      (matched_all (Joining fabric) (λ (join : PlainJoin). All (Every P) (joined_expressions join.to))
      (λ join port right. plain_join P names bits_are fabric port.input port.shape join.to right.1) joins ports matched)

  pub top_selects_fit : All (λ item. All (Every (SelectFits top)) (item_expressions item)) (top_items fabric)
  top_selects_fit =
      let P = SelectFits top in
      all_of_items (λ item. All (Every P) (item_expressions item)) (λ shape name. All-nil (Every P)) (λ frames x few. strobe_each frames P x (λ e sized. sized.0))
      (λ frames. joined_each P (λ name. tt) (λ bits. tt) loader_module_name loader_instance_name (loader_joins fabric.rows) (loader_ports fabric.rows) (loader_matched fabric frames))
      (λ p stands. joined_each P (λ name. tt) (λ bits. tt) (tile_module_name p.tile) (place_name p.x p.y) (tile_joins fabric p) (tile_ports (text_mode fabric) p.tile) (tile_matched fabric are p stands))

  pub top_widths_fit : All (λ item. All (Every (OperandsFit top)) (item_expressions item) × SidesFit top item) (top_items fabric)
  top_widths_fit =
      let P = OperandsFit top in
      all_of_items (λ item. All (Every P) (item_expressions item) × SidesFit top item) (λ shape name. (All-nil (Every P), tt))
      (λ frames x few. (strobe_each frames P x (λ e sized. sized.1), net_width (Vector 20) (column_strobe_name x) (column_net fabric frames x few)))
      (λ frames. (joined_each P (λ name. tt) (λ bits. tt) loader_module_name loader_instance_name (loader_joins fabric.rows) (loader_ports fabric.rows) (loader_matched fabric frames), tt))
      (λ p stands. (joined_each P (λ name. tt) (λ bits. tt) (tile_module_name p.tile) (place_name p.x p.y) (tile_joins fabric p) (tile_ports (text_mode fabric) p.tile) (tile_matched fabric are p stands), tt))

  -- ---- instances

  fits_port : (input : Bool) (shape : Shape) (to : Option PlainExpr) → IsJoinedRight fabric input shape to → FitsPort top input (width shape) to
  fits_port true shape None right = absurd right
  fits_port false shape None right = absurd right
  fits_port true shape (Some (variable name)) right = net_width shape name right
  fits_port false shape (Some (variable name)) right = net_width shape name right
  fits_port true shape (Some (constant bits)) right = right.2 ∙ sym (ap width right.1)
  fits_port false shape (Some (constant bits)) right = absurd (false≢true right.0)
  fits_port true shape (Some _) right = absurd right
  fits_port false shape (Some _) right = absurd right

  joins_ports : (joins : List PlainJoin) (ports : List Port) → AllZip (Joining fabric) joins ports → AllZip (JoinsPort top) joins ports
  joins_ports joins ports matched =
      matched_weaker (Joining fabric) (JoinsPort top) (λ join port right. (right.0, fits_port port.input port.shape join.to right.1)) joins ports matched

  pub joins_fit : (before : List PlainModule) (module_name i : List ℕ) (joins : List PlainJoin) (below : PlainModule) → AreApart (map port_name below.ports) →
      AllZip (Joining fabric) joins below.ports → module_named before module_name ≡ Some below → InstanceFits before top (instance module_name i joins)
  joins_fit before module_name i joins below apart matched found =
      subst (λ found. IsSomeAnd found (λ (below : PlainModule). All (JoinFits top below) joins × All (IsJoinedOnce joins) below.ports)) (sym found)
      (instance_fits top below joins apart (joins_ports joins below.ports matched))

  -- ---- clocks

  pub clock_input : IsScalarInput top user_clock_name
  clock_input = (refl, refl)

  pub loader_clock_input : IsScalarInput top clock_name
  loader_clock_input = (refl, refl)

  -- joined to a scalar input, where it is of this name
  abbrev IsClockJoin : (clock : List ℕ) → PlainJoin → Type 0
  IsClockJoin clock join = join.port ≡ clock → IsJoinedToClock top join.to

  joined_to_itself : (clock : List ℕ) (joins : List PlainJoin) (ports : List Port) → AreApart (map port_name ports) → AllZip (Joining fabric) joins ports → IsScalarInput top clock →
      Contains joins (same_join clock) → All (IsClockJoin clock) joins
  joined_to_itself clock joins ports apart matched input there =
      All-weaker (λ (join : PlainJoin). join.port ≡ clock → join ≡ same_join clock) (IsClockJoin clock)
      (λ join only same. subst (λ (join : PlainJoin). IsJoinedToClock top join.to) (sym (only same)) input) joins
      (only_of_port (same_join clock) joins (subst AreApart (sym (names_of_joins fabric joins ports matched)) apart) there)

  none_named : (clock : List ℕ) (joins : List PlainJoin) (ports : List Port) → AllZip (Joining fabric) joins ports → All (λ port. port.name ≢ clock) ports → All (IsClockJoin clock) joins
  none_named clock [] [] matched differ = All-nil (IsClockJoin clock)
  none_named clock [] (port ∷ ports) matched differ = absurd matched
  none_named clock (join ∷ joins) [] matched differ = absurd matched
  none_named clock (join ∷ joins) (port ∷ ports) matched differ =
      All-cons (IsClockJoin clock) join joins (λ same. absurd (All-head (λ (port : Port). port.name ≢ clock) port ports differ (sym matched.0.0 ∙ same)))
      (none_named clock joins ports matched.1 (All-tail (λ (port : Port). port.name ≢ clock) port ports differ))

  -- where no port serves as a clock but those that are joined so
  module _ (text : List PlainModule) (module_name i : List ℕ) (joins : List PlainJoin) (below : PlainModule) (found : module_named text module_name ≡ Some below) where
    pub one_clock_fits : (clock : List ℕ) → All (IsClockJoin clock) joins → ((port : List ℕ) → ServesAsClock text below port → port ≡ clock) → ClockFits text top (instance module_name i joins)
    one_clock_fits clock joined serves other_below other_found =
        let same_below : below ≡ other_below = cc in
        All-weaker (IsClockJoin clock) (λ join. ServesAsClock text other_below join.port → IsJoinedToClock top join.to)
        (λ join is_joined serving. is_joined (serves join.port (subst (λ b. ServesAsClock text b join.port) (sym same_below) serving))) joins joined

    pub two_clocks_fit : (clock other : List ℕ) → All (IsClockJoin clock) joins → All (IsClockJoin other) joins →
        ((port : List ℕ) → ServesAsClock text below port → (port ≡ clock) ⊎ (port ≡ other)) → ClockFits text top (instance module_name i joins)
    two_clocks_fit clock other first second serves other_below other_found k d within serving =
        let join = get_or joins k d in
        let same_below : below ≡ other_below = cc in
        elim (serves join.port (subst (λ b. ServesAsClock text b join.port) (sym same_below) serving)) [ inl is ↦ first k d within is | inr is ↦ second k d within is ]

  -- ---- the clocks of a tile

  pub loader_clock_joined : (rows : ℕ) (ports : List Port) → AreApart (map port_name ports) → AllZip (Joining fabric) (loader_joins rows) ports → All (IsClockJoin clock_name) (loader_joins rows)
  loader_clock_joined rows ports apart matched = joined_to_itself clock_name (loader_joins rows) ports apart matched loader_clock_input (0, omega arith, refl)

  module _ (p : PlacedTile) (stands : IsStanding fabric p) (apart : AreApart (map port_name (tile_ports (text_mode fabric) p.tile))) where
    abbrev joins : List PlainJoin
    joins = tile_joins fabric p

    pub user_clock_joined : All (IsClockJoin user_clock_name) joins
    user_clock_joined = joined_to_itself user_clock_name joins (tile_ports (text_mode fabric) p.tile) apart (tile_matched fabric are p stands) clock_input (0, omega arith, refl)

    abbrev later_joins : List PlainJoin
    later_joins = flat_map (row_joins fabric p) (enumerate_from 0 p.tile.rows) ++ flat_map (pad_joins p.x p.y) (enumerate_from 0 p.tile.bels)

    -- in a chain CLK is the first of the ports by which the bits come, and in frames no port has this name
    clock_joined_in : (mode : Mode) → text_mode fabric ≡ mode → All (IsClockJoin clock_name) joins
    clock_joined_in modes.Frames frames =
        none_named clock_name joins (tile_ports (text_mode fabric) p.tile) (tile_matched fabric are p stands) (frame_ports_differ (text_mode fabric) p.tile frames)
    clock_joined_in modes.Chain chain =
        joined_to_itself clock_name joins (tile_ports (text_mode fabric) p.tile) apart (tile_matched fabric are p stands) loader_clock_input
        (contains_later (same_join user_clock_name) (config_joins (text_mode fabric) fabric p ++ later_joins) (same_join clock_name)
        (subst (λ mode. Contains (config_joins mode fabric p ++ later_joins) (same_join clock_name)) (sym chain) (0, omega arith, refl)))

    pub clock_joined : All (IsClockJoin clock_name) joins
    clock_joined = clock_joined_in (text_mode fabric) refl
