-- The names of the top fit, and each of its nets has its shape.
use Rattle.std.proofs.Common.{◌≡◌, ◌≢◌, ℕ, ◌<◌, Bool, true, false, List, [], ◌∷◌, ◌++◌, map, refl, sym, ap, ◌∙◌, subst, inl, inr, append_assoc, arith, Option, Some, None, All, AllPairs, Contains}
use Rattle.std.specs.List.{flat_map}
use Rattle.std.specs.Str.{bytes_eq}
use Rattle.std.proofs.lemmas.List.Elements.{All-nil, All-cons, All-append, All-head, All-tail, All-weaker, All-contains, All-contains_itself, Contains-append_left, Contains-append_right, All-map}
use Rattle.std.proofs.lemmas.Slice.Eq.{bytes_eq-Decides}
use Rattle.fab_bits.specs.Bits.{digits}
use Rattle.fab_syntax.specs.declared.tree.Shape.{Shape}
use Rattle.fab_syntax.specs.declared.tree.Shape.TheVariants.{Scalar, Vector}
use Rattle.fab_syntax.specs.declared.tree.Op.TheVariants.{And}
use Rattle.fab_syntax.specs.declared.tree.Port.{Port}
use Rattle.fab_syntax.specs.Plain.{PlainExpr, PlainItem, constant, variable, part, operation, conditional, wire, reg, assign, latch, clocked, instance}
use Rattle.fab_syntax.specs.Declarations.{item_shape, declared_shape}
use Rattle.fab_syntax.specs.Sound.{use_of, uses, item_mentions, refusals, mentions_in}
use Rattle.fab_meaning.proofs.Declared.{bytes_apart}
use Rattle.fab_model.specs.declared.mode.Mode.{Mode}
use Rattle.fab_model.specs.declared.mode.Mode.TheVariants as modes
use Rattle.fab_model.specs.declared.tiles.WireRow.{WireRow}
use Rattle.fab_model.specs.Rows.{is_jump}
use Rattle.fab_model.specs.Tiles.{counted}
use Rattle.fab_model.specs.Grid.{PlainFabric}
use Rattle.fab_fabric.specs.Names.{place_name}
use Rattle.fab_fabric.specs.Fabric.{IsFabric, AreTiles}
use Rattle.fab_meaning.specs.Ports.{scalar}
use Rattle.fab_drives_laws.specs.fab_gen_tile_Names.{same_join, tile_module_name}
use Rattle.fab_drives_laws.specs.fab_gen_tile_Borders.{side_border}
use Rattle.fab_drives_laws.specs.fab_gen_tile_TileModule.{tile_ports}
use Rattle.fab_meaning.specs.Loading.{write_strobe_name, write_data_name}
use Rattle.fab_drives_laws.specs.fab_gen_loader_Loader.{loader_module_name, address_port, strobe_port, row_port}
use Rattle.fab_drives_laws.specs.fab_fabric_text_defs_Names.{loader_instance_name, column_strobe_name, begin_wire_name}
use Rattle.fab_meaning.specs.Runs.{clock_name}
use Rattle.fab_drives_laws.specs.fab_fabric_text_defs_Places.{PlacedTile, placed_tiles}
use Rattle.fab_drives_laws.specs.fab_fabric_text_defs_Mode.{text_mode}
use Rattle.fab_drives_laws.specs.fab_fabric_text_defs_Top.{data_port, top_ports, loader_wires, loader_joins, loader_instance, names_column, column_strobes, chain_wire, carrying_items, row_begin_wires, tile_begin_wires, tile_joins, tile_instance, top_items, top_module}
use Rattle.fab_drives_laws.proofs.Lists.{none_there, first_or_later, all_of, all_if}
use Rattle.fab_tiles_sound_laws.proofs.fab_parts_sound_laws_Declared.{port_names}
use Rattle.fab_tiles_sound_laws.proofs.fab_parts_sound_laws_Lists.{all_counted, all_flat_map, pairs_none, pairs_append, pairs_head, pairs_tail, contains_first, contains_later, contains_map, contains_counted}
use Rattle.fab_tiles_sound_laws.proofs.fab_parts_sound_laws_Names.{Differ, AreApart, IsKnown, OwnKnown, net_names, uses_known}
use Rattle.fab_tiles_sound_laws.proofs.fab_parts_sound_laws_Expressions.{Holds, every}
use Rattle.fab_text_sound_laws.proofs.Pairs.{Between, one_alone, pairs_flat, pairs_map}
use Rattle.fab_text_sound_laws.proofs.Standing.{IsStanding, all_standing}
use Rattle.fab_text_sound_laws.proofs.TopApart.{item_names, AllNames, Clear, PortsDiffer}
use Rattle.fab_text_sound_laws.proofs.TopDeclared.{items_clear, ports_apart, ports_and_items}
use Rattle.fab_text_sound_laws.proofs.Order.{Within, UsesKnown, InOrder, segment, last_segment, names_in_order, net_there, IsJoinedTo, Joins, instance_uses}
use Rattle.fab_text_sound_laws.proofs.Matched.{matched_all}
use Rattle.fab_text_sound_laws.proofs.TopNets.{IsTopNet, port_net, wire_net, IsJoinedRight, Joining, tile_matched}

-- ---- shapes

shape_of_port : (ports : List Port) (items : List PlainItem) (port : Port) → AllPairs PortsDiffer ports → Contains ports port → declared_shape ports items port.name ≡ Some port.shape
shape_of_port [] items port apart there = absurd (none_there port there)
shape_of_port (first ∷ ports) items port apart there =
    elim (first_or_later first ports port there) [
      | inl is ↦ (
          let same : bytes_eq first.name port.name ≡ true = (bytes_eq-Decides first.name port.name).1 (ap (λ (p : Port). p.name) is) in
          rw same (ap (λ (p : Port). Some p.shape) is))
      | inr behind ↦ (
          let other : bytes_eq first.name port.name ≡ false = bytes_apart first.name port.name (All-contains (PortsDiffer first) ports port (pairs_head PortsDiffer first ports apart) behind) in
          rw other (shape_of_port ports items port (pairs_tail PortsDiffer first ports apart) behind))
    ]

one_of_each : (n m : List ℕ) → Between Differ (n ∷ []) (m ∷ []) → n ≢ m
one_of_each n m between = All-head (Differ n) m [] (All-head (λ z. All (Differ z) (m ∷ [])) n [] between)

shape_of_wire : (items : List PlainItem) (shape : Shape) (name : List ℕ) → AllPairs Clear items → Contains items (wire shape name) → item_shape items name ≡ Some shape
shape_of_wire [] shape name apart there = absurd (none_there (wire shape name) there)
shape_of_wire (wire other_shape other ∷ items) shape name apart there =
    elim (first_or_later (wire other_shape other) items (wire shape name) there) [
      | inl is ↦ (
          let same : other ≡ name = cc in
          let shapes : other_shape ≡ shape = cc in
          let found : bytes_eq other name ≡ true = (bytes_eq-Decides other name).1 same in
          rw found (ap Some shapes))
      | inr behind ↦ (
          let differ = one_of_each other name (All-contains (Clear (wire other_shape other)) items (wire shape name) (pairs_head Clear (wire other_shape other) items apart) behind) in
          let passed : bytes_eq other name ≡ false = bytes_apart other name differ in
          rw passed (shape_of_wire items shape name (pairs_tail Clear (wire other_shape other) items apart) behind))
    ]
shape_of_wire (reg other_shape other ∷ items) shape name apart there =
    elim (first_or_later (reg other_shape other) items (wire shape name) there) [
      | inl is ↦ absurd cc
      | inr behind ↦ (
          let differ = one_of_each other name (All-contains (Clear (reg other_shape other)) items (wire shape name) (pairs_head Clear (reg other_shape other) items apart) behind) in
          let passed : bytes_eq other name ≡ false = bytes_apart other name differ in
          rw passed (shape_of_wire items shape name (pairs_tail Clear (reg other_shape other) items apart) behind))
    ]
shape_of_wire (assign target e ∷ items) shape name apart there =
    elim (first_or_later (assign target e) items (wire shape name) there) [ inl is ↦ absurd cc | inr behind ↦ shape_of_wire items shape name (pairs_tail Clear (assign target e) items apart) behind ]
shape_of_wire (latch target gate e ∷ items) shape name apart there =
    elim (first_or_later (latch target gate e) items (wire shape name) there) [ inl is ↦ absurd cc | inr behind ↦ shape_of_wire items shape name (pairs_tail Clear (latch target gate e) items apart) behind ]
shape_of_wire (clocked clock target e ∷ items) shape name apart there =
    elim (first_or_later (clocked clock target e) items (wire shape name) there) [ inl is ↦ absurd cc | inr behind ↦ shape_of_wire items shape name (pairs_tail Clear (clocked clock target e) items apart) behind ]
shape_of_wire (instance of i joins ∷ items) shape name apart there =
    elim (first_or_later (instance of i joins) items (wire shape name) there) [ inl is ↦ absurd cc | inr behind ↦ shape_of_wire items shape name (pairs_tail Clear (instance of i joins) items apart) behind ]

ports_passed : (ports : List Port) (items : List PlainItem) (name : List ℕ) → All (λ port. port.name ≢ name) ports → declared_shape ports items name ≡ item_shape items name
ports_passed [] items name differ = refl
ports_passed (port ∷ ports) items name differ =
    let other : bytes_eq port.name name ≡ false = bytes_apart port.name name (All-head (λ (p : Port). p.name ≢ name) port ports differ) in
    rw other (ports_passed ports items name (All-tail (λ (p : Port). p.name ≢ name) port ports differ))

-- ---- what is known

within_here : (names others : List (List ℕ)) → Within names (names ++ others)
within_here names others = All-weaker (Contains names) (Contains (names ++ others)) (λ name there. Contains-append_left names others name there) names (All-contains_itself names)

within_behind : (names others front : List (List ℕ)) → Within names others → Within names (front ++ others)
within_behind names others front within = All-weaker (Contains others) (Contains (front ++ others)) (λ name there. Contains-append_right front others name there) names within

abbrev IsKnownWire : (names : List (List ℕ)) → PlainItem → Type 0
IsKnownWire names (wire shape name) = Contains names name
IsKnownWire names _ = Unit {0}

known_wire : (names : List (List ℕ)) (items : List PlainItem) → Within (net_names items) names → (item : PlainItem) → Contains items item → IsKnownWire names item
known_wire names items within (wire shape name) there = All-contains (Contains names) (net_names items) name within (net_there items shape name there)
known_wire names items within (reg shape name) there = tt
known_wire names items within (assign target e) there = tt
known_wire names items within (latch target gate e) there = tt
known_wire names items within (clocked clock target e) there = tt
known_wire names items within (instance of i joins) there = tt

known_wires : (names : List (List ℕ)) (items : List PlainItem) → Within (net_names items) names → All (IsKnownWire names) items
known_wires names items within = All-weaker (Contains items) (IsKnownWire names) (known_wire names items within) items (All-contains_itself items)

single_names : (item : PlainItem) → AllPairs Differ (item_names item)
single_names (wire shape name) = one_alone Differ name
single_names (reg shape name) = one_alone Differ name
single_names (assign target e) = pairs_none Differ
single_names (latch target gate e) = pairs_none Differ
single_names (clocked clock target e) = pairs_none Differ
single_names (instance of i joins) = one_alone Differ i

module _ (fabric : PlainFabric) (is : IsFabric fabric) (are : AreTiles fabric) where
  abbrev ports : List Port
  ports = top_ports fabric

  abbrev items : List PlainItem
  items = top_items fabric

  pub net_shape : (shape : Shape) (name : List ℕ) → IsTopNet fabric shape name → declared_shape ports items name ≡ Some shape
  net_shape shape name (port_net input there) = shape_of_port ports items (record { input = input; shape = shape; name = name }) (ports_apart fabric is are) there
  net_shape shape name (wire_net there) =
      ports_passed ports items name
      (All-weaker (λ port. All (AllNames (Differ port.name)) items) (λ port. port.name ≢ name)
      (λ port apart. All-head (Differ port.name) name [] (All-contains (AllNames (Differ port.name)) items (wire shape name) apart there)) ports (ports_and_items fabric is are))
      ∙ shape_of_wire items shape name (items_clear fabric is are) there

  pub declared_apart : AreApart (port_names ports ++ flat_map item_names items)
  declared_apart =
      pairs_append Differ (port_names ports) (flat_map item_names items)
      (pairs_map Differ (λ (port : Port). port.name) ports (ports_apart fabric is are))
      (pairs_flat Differ item_names items (all_of (λ item. AllPairs Differ (item_names item)) items single_names) (items_clear fabric is are))
      (All-map (λ name. All (Differ name) (flat_map item_names items)) (λ (port : Port). port.name) ports
      (All-weaker (λ port. All (AllNames (Differ port.name)) items) (λ port. All (Differ port.name) (flat_map item_names items))
      (λ port apart. all_flat_map (Differ port.name) item_names items apart) ports (ports_and_items fabric is are)))

  -- ---- the parts of the items, and what is known before each

  abbrev loader_part : List PlainItem
  loader_part = loader_wires fabric.rows

  abbrev strobe_wires : List PlainItem
  strobe_wires = counted fabric.columns (λ x. wire (Vector 20) (column_strobe_name x))

  abbrev strobe_part : List PlainItem
  strobe_part = loader_instance fabric.rows ∷ strobe_wires

  abbrev assigned : List PlainItem
  assigned = counted fabric.columns column_strobes

  abbrev begins : List PlainItem
  begins = flat_map tile_begin_wires (placed_tiles fabric)

  abbrev instances : List PlainItem
  instances = map (tile_instance fabric) (placed_tiles fabric)

  abbrev at_loader : List (List ℕ)
  at_loader = net_names loader_part ++ port_names ports

  abbrev at_strobes : List (List ℕ)
  at_strobes = net_names strobe_part ++ at_loader

  abbrev chain_wires : List PlainItem
  chain_wires = map chain_wire (placed_tiles fabric)

  -- behind what carries the bits
  abbrev at_begins : Mode → List (List ℕ)
  at_begins modes.Frames = net_names assigned ++ at_strobes
  at_begins modes.Chain = net_names chain_wires ++ port_names ports

  abbrev at_tiles : Mode → List (List ℕ)
  at_tiles mode = net_names begins ++ at_begins mode

  -- ---- the loader

  port_at_loader : (port : Port) → Contains ports port → Contains at_loader port.name
  port_at_loader port there = Contains-append_right (net_names loader_part) (port_names ports) port.name (contains_map (λ (p : Port). p.name) ports port there)

  wire_at_loader : (shape : Shape) (name : List ℕ) → Contains loader_part (wire shape name) → Contains at_loader name
  wire_at_loader shape name there = Contains-append_left (net_names loader_part) (port_names ports) name (net_there loader_part shape name there)

  abbrev row_wires : List PlainItem
  row_wires = counted fabric.rows (λ y. wire (Vector 32) (row_port y))

  address_there : Contains at_loader address_port
  address_there = wire_at_loader (Vector 32) address_port (contains_first (wire (Vector 32) address_port) (wire Scalar strobe_port ∷ row_wires))

  strobe_there : Contains at_loader strobe_port
  strobe_there = wire_at_loader Scalar strobe_port (contains_later (wire (Vector 32) address_port) (wire Scalar strobe_port ∷ row_wires) (wire Scalar strobe_port) (contains_first (wire Scalar strobe_port) row_wires))

  loader_used : All (Joins at_loader) (loader_joins fabric.rows)
  loader_used =
      let rows = counted fabric.rows (λ y. same_join (row_port y)) in
      All-cons (Joins at_loader) (same_join clock_name) (same_join write_strobe_name ∷ same_join write_data_name ∷ same_join address_port ∷ same_join strobe_port ∷ rows)
      (port_at_loader (scalar true clock_name) (0, omega arith, refl))
      (All-cons (Joins at_loader) (same_join write_strobe_name) (same_join write_data_name ∷ same_join address_port ∷ same_join strobe_port ∷ rows)
      (port_at_loader (scalar true write_strobe_name) (2, omega arith, refl))
      (All-cons (Joins at_loader) (same_join write_data_name) (same_join address_port ∷ same_join strobe_port ∷ rows) (port_at_loader (data_port (text_mode fabric)) (3, omega arith, refl))
      (All-cons (Joins at_loader) (same_join address_port) (same_join strobe_port ∷ rows) address_there
      (All-cons (Joins at_loader) (same_join strobe_port) rows strobe_there
      (all_counted (Joins at_loader) fabric.rows (λ y. same_join (row_port y)) (λ y few.
      wire_at_loader (Vector 32) (row_port y)
      (contains_later (wire (Vector 32) address_port) (wire Scalar strobe_port ∷ row_wires) (wire (Vector 32) (row_port y))
      (contains_later (wire Scalar strobe_port) row_wires (wire (Vector 32) (row_port y)) (contains_counted fabric.rows (λ y. wire (Vector 32) (row_port y)) y few)))))))))

  loader_uses : All (UsesKnown at_loader) strobe_part
  loader_uses =
      All-cons (UsesKnown at_loader) (loader_instance fabric.rows) strobe_wires
      (instance_uses at_loader loader_module_name loader_instance_name (loader_joins fabric.rows) loader_used)
      (all_counted (UsesKnown at_loader) fabric.columns (λ x. wire (Vector 20) (column_strobe_name x)) (λ x few. tt))

  -- ---- strobes

  strobe_uses : (x : ℕ) → x < fabric.columns → UsesKnown at_strobes (column_strobes x)
  strobe_uses x few =
      let address = Contains-append_right (net_names strobe_part) at_loader address_port address_there in
      let strobe = Contains-append_right (net_names strobe_part) at_loader strobe_port strobe_there in
      let target = Contains-append_left (net_names strobe_part) at_loader (column_strobe_name x)
      (net_there strobe_part (Vector 20) (column_strobe_name x)
      (contains_later (loader_instance fabric.rows) strobe_wires (wire (Vector 20) (column_strobe_name x)) (contains_counted fabric.columns (λ x. wire (Vector 20) (column_strobe_name x)) x few))) in
      let value = conditional (operation And (variable strobe_port) (names_column x)) (part address_port 19 0) (constant (digits 20 0)) in
      let known : Holds (OwnKnown at_strobes) value = (tt, (tt, strobe, (tt, address, tt)), address, tt) in
      All-cons (IsKnown at_strobes) (use_of (column_strobe_name x)) (uses value) target (uses_known at_strobes value (every (OwnKnown at_strobes) value known))

  -- ---- what carries the bits

  carried_wires : (mode : Mode) → All (IsKnownWire (at_tiles mode)) (carrying_items mode fabric)
  carried_wires modes.Frames =
      let known = at_tiles modes.Frames in
      let at_assigned = at_begins modes.Frames in
      All-append (IsKnownWire known) loader_part (strobe_part ++ assigned)
      (known_wires known loader_part
      (within_behind (net_names loader_part) at_assigned (net_names begins) (within_behind (net_names loader_part) at_strobes (net_names assigned)
      (within_behind (net_names loader_part) at_loader (net_names strobe_part) (within_here (net_names loader_part) (port_names ports))))))
      (All-append (IsKnownWire known) strobe_part assigned
      (known_wires known strobe_part
      (within_behind (net_names strobe_part) at_assigned (net_names begins) (within_behind (net_names strobe_part) at_strobes (net_names assigned) (within_here (net_names strobe_part) at_loader))))
      (known_wires known assigned (within_behind (net_names assigned) at_assigned (net_names begins) (within_here (net_names assigned) at_strobes))))
  carried_wires modes.Chain =
      known_wires (at_tiles modes.Chain) chain_wires
      (within_behind (net_names chain_wires) (at_begins modes.Chain) (net_names begins) (within_here (net_names chain_wires) (port_names ports)))

  carried_port : (mode : Mode) (port : Port) → Contains ports port → Contains (at_begins mode) port.name
  carried_port modes.Frames port there =
      Contains-append_right (net_names assigned) at_strobes port.name (Contains-append_right (net_names strobe_part) at_loader port.name (port_at_loader port there))
  carried_port modes.Chain port there = Contains-append_right (net_names chain_wires) (port_names ports) port.name (contains_map (λ (p : Port). p.name) ports port there)

  abbrev IsOrdered : (known : List (List ℕ)) → List PlainItem → Type 0
  IsOrdered known rest = InOrder known (flat_map item_mentions rest)

  -- it stands before all that uses it
  carried_first : (mode : Mode) (rest : List PlainItem) → IsOrdered (at_begins mode) rest → IsOrdered (port_names ports) (carrying_items mode fabric ++ rest)
  carried_first modes.Frames rest ordered =
      let whole : (loader_part ++ (strobe_part ++ assigned)) ++ rest ≡ loader_part ++ (strobe_part ++ (assigned ++ rest)) =
      append_assoc loader_part (strobe_part ++ assigned) rest ∙ ap (λ items. loader_part ++ items) (append_assoc strobe_part assigned rest) in
      subst (IsOrdered (port_names ports)) (sym whole)
      (segment (port_names ports) loader_part (strobe_part ++ (assigned ++ rest))
      (All-cons (UsesKnown (port_names ports)) (wire (Vector 32) address_port) (wire Scalar strobe_port ∷ row_wires) tt
      (All-cons (UsesKnown (port_names ports)) (wire Scalar strobe_port) row_wires tt
      (all_counted (UsesKnown (port_names ports)) fabric.rows (λ y. wire (Vector 32) (row_port y)) (λ y few. tt))))
      (segment at_loader strobe_part (assigned ++ rest) loader_uses
      (segment at_strobes assigned rest (all_counted (UsesKnown at_strobes) fabric.columns column_strobes strobe_uses) ordered)))
  carried_first modes.Chain rest ordered =
      segment (port_names ports) chain_wires rest
      (All-map (UsesKnown (port_names ports)) chain_wire (placed_tiles fabric) (all_of (λ p. UsesKnown (port_names ports) (chain_wire p)) (placed_tiles fabric) (λ p. tt))) ordered

  -- ---- tiles

  abbrev mode : Mode
  mode = text_mode fabric

  all_wires : All (IsKnownWire (at_tiles mode)) items
  all_wires =
      All-append (IsKnownWire (at_tiles mode)) (carrying_items mode fabric) (begins ++ instances) (carried_wires mode)
      (All-append (IsKnownWire (at_tiles mode)) begins instances
      (known_wires (at_tiles mode) begins (within_here (net_names begins) (at_begins mode)))
      (All-map (IsKnownWire (at_tiles mode)) (tile_instance fabric) (placed_tiles fabric) (all_of (λ p. IsKnownWire (at_tiles mode) (tile_instance fabric p)) (placed_tiles fabric) (λ p. tt))))

  net_known : (shape : Shape) (name : List ℕ) → IsTopNet fabric shape name → Contains (at_tiles mode) name
  net_known shape name (port_net input there) =
      Contains-append_right (net_names begins) (at_begins mode) name (carried_port mode (record { input = input; shape = shape; name = name }) there)
  net_known shape name (wire_net there) = All-contains (IsKnownWire (at_tiles mode)) items (wire shape name) all_wires there

  right_known : (input : Bool) (shape : Shape) (to : Option PlainExpr) → IsJoinedRight fabric input shape to → IsJoinedTo (at_tiles mode) to
  right_known input shape None right = absurd right
  right_known input shape (Some (variable name)) right = net_known shape name right
  right_known input shape (Some (constant bits)) right = tt
  right_known input shape (Some _) right = absurd right

  tile_uses : (p : PlacedTile) → IsStanding fabric p → UsesKnown (at_tiles mode) (tile_instance fabric p)
  tile_uses p stands =
      instance_uses (at_tiles mode) (tile_module_name p.tile) (place_name p.x p.y) (tile_joins fabric p)
      (matched_all (Joining fabric) (Joins (at_tiles mode)) (λ join port right. right_known port.input port.shape join.to right.1) (tile_joins fabric p) (tile_ports mode p.tile)
      (tile_matched fabric are p stands))

  module _ (known : List (List ℕ)) where
    row_begins_use : (x y : ℕ) (row : WireRow) → All (UsesKnown known) (row_begin_wires x y row)
    row_begins_use x y row =
        all_if (UsesKnown known) (is_jump row.dir) [] (counted (side_border row row.source) (λ bit. wire Scalar (begin_wire_name x y row bit))) (All-nil (UsesKnown known))
        (all_counted (UsesKnown known) (side_border row row.source) (λ bit. wire Scalar (begin_wire_name x y row bit)) (λ bit few. tt))

    begins_use : All (UsesKnown known) begins
    begins_use =
        all_flat_map (UsesKnown known) tile_begin_wires (placed_tiles fabric)
        (all_of (λ p. All (UsesKnown known) (tile_begin_wires p)) (placed_tiles fabric) (λ p.
        all_flat_map (UsesKnown known) (row_begin_wires p.x p.y) p.tile.rows
        (all_of (λ row. All (UsesKnown known) (row_begin_wires p.x p.y row)) p.tile.rows (row_begins_use p.x p.y))))

  -- ---- together

  in_order : InOrder (port_names ports) (flat_map item_mentions items)
  in_order =
      carried_first mode (begins ++ instances)
      (segment (at_begins mode) begins instances (begins_use (at_begins mode))
      (last_segment (at_tiles mode) instances
      (All-map (UsesKnown (at_tiles mode)) (tile_instance fabric) (placed_tiles fabric)
      (All-weaker (IsStanding fabric) (λ p. UsesKnown (at_tiles mode) (tile_instance fabric p)) tile_uses (placed_tiles fabric) (all_standing fabric is are)))))

  pub top_names_fit : refusals [] (mentions_in (top_module fabric)) ≡ []
  top_names_fit = names_in_order (top_module fabric) declared_apart in_order
