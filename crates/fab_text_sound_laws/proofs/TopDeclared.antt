-- All that the top of a fabric declares, together.
use Rattle.std.proofs.Common.{◌≡◌, ◌≢◌, ◌⊎◌, ℕ, ◌<◌, true, List, [], ◌∷◌, ◌++◌, map, refl, sym, ap, ◌∙◌, inl, inr, arith, All, AllPairs}
use Rattle.std.specs.List.{flat_map}
use Rattle.std.proofs.lemmas.Fmt.{decimal_injective}
use Rattle.std.proofs.lemmas.List.{append_cancel_left}
use Rattle.std.proofs.lemmas.List.Elements.{All-nil, All-cons, All-append, All-weaker, All-map}
use Rattle.std.proofs.lemmas.List.Kept.{AllPairs-cons}
use Rattle.fab_syntax.specs.declared.tree.Shape.TheVariants.{Scalar, Vector}
use Rattle.fab_syntax.specs.declared.tree.Port.{Port}
use Rattle.fab_syntax.specs.Plain.{PlainItem, wire}
use Rattle.fab_meaning.specs.Runs.{user_clock_name, clock_name}
use Rattle.fab_meaning.specs.Ports.{scalar}
use Rattle.fab_model.specs.declared.mode.Mode.{Mode}
use Rattle.fab_model.specs.declared.mode.Mode.TheVariants as modes
use Rattle.fab_model.specs.Tiles.{counted}
use Rattle.fab_model.specs.Grid.{PlainFabric}
use Rattle.fab_fabric.specs.Names.{place_name}
use Rattle.fab_fabric.specs.Fabric.{IsFabric, AreTiles}
use Rattle.fab_meaning.specs.Loading.{write_strobe_name, write_data_name}
use Rattle.fab_drives_laws.specs.fab_fabric_text_defs_Names.{loader_instance_name, column_strobe_name, chain_wire_name}
use Rattle.fab_drives_laws.specs.fab_gen_loader_Loader.{address_port, strobe_port, row_port}
use Rattle.fab_drives_laws.specs.fab_fabric_text_defs_Places.{PlacedTile, placed_tiles}
use Rattle.fab_drives_laws.specs.fab_fabric_text_defs_Mode.{text_mode}
use Rattle.fab_drives_laws.specs.fab_fabric_text_defs_Top.{tile_pads, data_port, top_ports, loader_wires, loader_instance, column_strobes, frame_items, chain_wire, carrying_items, tile_begin_wires, tile_instance, top_items}
use Rattle.fab_drives_laws.proofs.Apart.{told_apart}
use Rattle.fab_drives_laws.proofs.Lists.{all_of}
use Rattle.fab_drives_laws.proofs.Places.{same_place}
use Rattle.fab_tiles_sound_laws.proofs.fab_parts_sound_laws_Lists.{all_counted, all_flat_map, pairs_append, pairs_counted}
use Rattle.fab_tiles_sound_laws.proofs.fab_parts_sound_laws_Names.{Differ}
use Rattle.fab_text_sound_laws.proofs.Pairs.{Between, pairs_weaker, between, one_each_way, pairs_flat, pairs_map}
use Rattle.fab_text_sound_laws.proofs.Standing.{IsElsewhere, placed_apart, IsStanding, all_standing}
use Rattle.fab_text_sound_laws.proofs.TopApart.{item_names, AllNames, Clear, PortsDiffer, IsBeginAt, IsTilePad, IsBegin, IsPad, IsChainWire, IsPlaceName, begin_of_tile, pad_of_tile, chain_of_tile, elsewhere, pad_no_begin, pad_no_chain, chain_no_begin, chain_no_place, tile_begins_clear, begins_of_tile, tile_pads_apart, pads_of_tile, head, one_name, begin_head, pad_head, chain_head, place_head, heads_differ, begin_no_place, pad_no_place}

-- ---- the numbers of rows and columns

pub rows_differ : (i j : ℕ) → i < j → j < 32 → row_port i ≢ row_port j
rows_differ i j before few same =
    let numbers = append_cancel_left (82 ∷ 111 ∷ 119 ∷ []) _ _ same in
    let bits = decimal_injective i j (omega arith) (omega arith) numbers in
    omega (arith, before, bits)

columns_differ : (i j : ℕ) → i < j → j < 32 → column_strobe_name i ≢ column_strobe_name j
columns_differ i j before few same =
    let numbers = append_cancel_left (102 ∷ 97 ∷ 98 ∷ 95 ∷ 115 ∷ 116 ∷ 114 ∷ 111 ∷ 98 ∷ 101 ∷ 95 ∷ []) _ _ same in
    let bits = decimal_injective i j (omega arith) (omega arith) numbers in
    omega (arith, before, bits)

module _ (fabric : PlainFabric) (is : IsFabric fabric) (are : AreTiles fabric) where
  abbrev placed : List PlacedTile
  placed = placed_tiles fabric

  abbrev begins : List PlainItem
  begins = flat_map tile_begin_wires placed

  abbrev instances : List PlainItem
  instances = map (tile_instance fabric) placed

  abbrev assigned : List PlainItem
  assigned = counted fabric.columns column_strobes

  abbrev strobe_wires : List PlainItem
  strobe_wires = counted fabric.columns (λ x. wire (Vector 20) (column_strobe_name x))

  abbrev row_wires : List PlainItem
  row_wires = counted fabric.rows (λ y. wire (Vector 32) (row_port y))

  abbrev chain_wires : List PlainItem
  chain_wires = map chain_wire placed

  abbrev pads : List Port
  pads = flat_map tile_pads placed

  standing : All (IsStanding fabric) placed
  standing = all_standing fabric is are

  -- ---- what holds of all names

  pub names_of_begins : All (AllNames IsBegin) begins
  names_of_begins =
      all_flat_map (AllNames IsBegin) tile_begin_wires placed
      (All-weaker (IsStanding fabric) (λ p. All (AllNames IsBegin) (tile_begin_wires p))
      (λ p stands. All-weaker (AllNames (IsBeginAt p.x p.y)) (AllNames IsBegin)
      (λ item all. All-weaker (IsBeginAt p.x p.y) IsBegin (λ name at. record { x = p.x; y = p.y; few_x = stands.few_x; few_y = stands.few_y; at = at }) (item_names item) all)
      (tile_begin_wires p) (begins_of_tile fabric p stands)) placed standing)

  pub names_of_pads : All (λ port. IsPad port.name) pads
  names_of_pads =
      all_flat_map (λ (port : Port). IsPad port.name) tile_pads placed
      (All-weaker (IsStanding fabric) (λ p. All (λ (port : Port). IsPad port.name) (tile_pads p))
      (λ p stands. All-weaker (λ (port : Port). IsTilePad p.x p.y port.name) (λ port. IsPad port.name)
      (λ port at. record { x = p.x; y = p.y; few_x = stands.few_x; few_y = stands.few_y; at = at }) (tile_pads p) (pads_of_tile p)) placed standing)

  names_of_instances : All (AllNames IsPlaceName) instances
  names_of_instances =
      All-map (AllNames IsPlaceName) (tile_instance fabric) placed
      (All-weaker (IsStanding fabric) (λ p. AllNames IsPlaceName (tile_instance fabric p))
      (λ p stands. one_name IsPlaceName (place_name p.x p.y) (record { x = p.x; y = p.y; few_x = stands.few_x; few_y = stands.few_y; is = refl })) placed standing)

  names_of_chain : All (AllNames IsChainWire) chain_wires
  names_of_chain =
      All-map (AllNames IsChainWire) chain_wire placed
      (All-weaker (IsStanding fabric) (λ p. AllNames IsChainWire (chain_wire p))
      (λ p stands. one_name IsChainWire (chain_wire_name p.x p.y) (record { x = p.x; y = p.y; few_x = stands.few_x; few_y = stands.few_y; is = refl })) placed standing)

  module _ (P : List ℕ → Type 0) (begins_are : (name : List ℕ) → IsBegin name → P name) (places_are : (name : List ℕ) → IsPlaceName name → P name) where
    all_of_tiles : All (AllNames P) (begins ++ instances)
    all_of_tiles =
        All-append (AllNames P) begins instances
        (All-weaker (AllNames IsBegin) (AllNames P) (λ item all. All-weaker IsBegin P begins_are (item_names item) all) begins names_of_begins)
        (All-weaker (AllNames IsPlaceName) (AllNames P) (λ item all. All-weaker IsPlaceName P places_are (item_names item) all) instances names_of_instances)

  module _ (P : List ℕ → Type 0) (columns_are : (x : ℕ) → P (column_strobe_name x)) (loader : P loader_instance_name) (address : P address_port) (strobe : P strobe_port)
      (rows_are : (y : ℕ) → P (row_port y)) where
    all_of_frames : All (AllNames P) (frame_items fabric)
    all_of_frames =
        All-append (AllNames P) (loader_wires fabric.rows) (loader_instance fabric.rows ∷ (strobe_wires ++ assigned))
        (All-cons (AllNames P) (wire (Vector 32) address_port) (wire Scalar strobe_port ∷ row_wires) (one_name P address_port address)
        (All-cons (AllNames P) (wire Scalar strobe_port) row_wires (one_name P strobe_port strobe)
        (all_counted (AllNames P) fabric.rows (λ y. wire (Vector 32) (row_port y)) (λ y few. one_name P (row_port y) (rows_are y)))))
        (All-cons (AllNames P) (loader_instance fabric.rows) (strobe_wires ++ assigned) (one_name P loader_instance_name loader)
        (All-append (AllNames P) strobe_wires assigned
        (all_counted (AllNames P) fabric.columns (λ x. wire (Vector 20) (column_strobe_name x)) (λ x few. one_name P (column_strobe_name x) (columns_are x)))
        (all_counted (AllNames P) fabric.columns column_strobes (λ x few. All-nil P))))

    module _ (chains_are : (name : List ℕ) → IsChainWire name → P name) where
      all_carried : (mode : Mode) → All (AllNames P) (carrying_items mode fabric)
      all_carried modes.Frames = all_of_frames
      all_carried modes.Chain = All-weaker (AllNames IsChainWire) (AllNames P) (λ item all. All-weaker IsChainWire P chains_are (item_names item) all) chain_wires names_of_chain

      module _ (begins_are : (name : List ℕ) → IsBegin name → P name) (places_are : (name : List ℕ) → IsPlaceName name → P name) where
        all_items : All (AllNames P) (top_items fabric)
        all_items = All-append (AllNames P) (carrying_items (text_mode fabric) fabric) (begins ++ instances) (all_carried (text_mode fabric)) (all_of_tiles P begins_are places_are)

  -- ---- items

  abbrev Starts : ℕ → List ℕ → Type 0
  Starts n name = head name ≡ n

  -- with another letter than places
  abbrev StartsOther : List ℕ → Type 0
  StartsOther name = head name ≡ 88 → ⊥

  abbrev IsBeginOrPlace : List ℕ → Type 0
  IsBeginOrPlace name = IsBegin name ⊎ IsPlaceName name

  chain_differs : (a b : List ℕ) → IsChainWire a → IsBeginOrPlace b → a ≢ b
  chain_differs a b chain (inl begin) = chain_no_begin a b chain begin
  chain_differs a b chain (inr place) = chain_no_place a b chain place

  begins_clear : AllPairs Clear begins
  begins_clear =
      pairs_flat Clear tile_begin_wires placed
      (All-weaker (IsStanding fabric) (λ p. AllPairs Clear (tile_begin_wires p)) (tile_begins_clear fabric) placed standing)
      (pairs_weaker (IsStanding fabric) IsElsewhere (λ p q. Between Clear (tile_begin_wires p) (tile_begin_wires q)) placed
      (λ p q of_p of_q other.
      between (AllNames (IsBeginAt p.x p.y)) (AllNames (IsBeginAt q.x q.y)) Clear (tile_begin_wires p) (tile_begin_wires q)
      (λ a b all_a all_b. between (IsBeginAt p.x p.y) (IsBeginAt q.x q.y) Differ (item_names a) (item_names b)
      (λ n m at_n at_m. elsewhere p.x p.y q.x q.y n m of_p.few_x of_p.few_y of_q.few_x of_q.few_y other (begin_of_tile p.x p.y n at_n) (begin_of_tile q.x q.y m at_m)) all_a all_b)
      (begins_of_tile fabric p of_p) (begins_of_tile fabric q of_q))
      standing (placed_apart fabric))

  instances_clear : AllPairs Clear instances
  instances_clear =
      pairs_map Clear (tile_instance fabric) placed
      (pairs_weaker (IsStanding fabric) IsElsewhere (λ p q. Clear (tile_instance fabric p) (tile_instance fabric q)) placed
      (λ p q of_p of_q other. one_each_way Differ (place_name p.x p.y) (place_name q.x q.y) (λ same.
      let at = same_place p.x p.y q.x q.y of_p.few_x of_p.few_y of_q.few_x of_q.few_y same in other at.0 at.1))
      standing (placed_apart fabric))

  tiles_clear : AllPairs Clear (begins ++ instances)
  tiles_clear =
      pairs_append Clear begins instances begins_clear instances_clear
      (between (AllNames IsBegin) (AllNames IsPlaceName) Clear begins instances
      (λ a b all_a all_b. between IsBegin IsPlaceName Differ (item_names a) (item_names b) begin_no_place all_a all_b) names_of_begins names_of_instances)

  strobes_clear : AllPairs Clear (strobe_wires ++ assigned)
  strobes_clear =
      let few_columns = is.few_columns in
      let strobe_wire = λ (x : ℕ). wire (Vector 20) (column_strobe_name x) in
      pairs_append Clear strobe_wires assigned
      (pairs_counted Clear fabric.columns strobe_wire (λ i j before few.
      one_each_way Differ (column_strobe_name i) (column_strobe_name j) (columns_differ i j before (omega (arith, few, few_columns)))))
      (pairs_counted Clear fabric.columns column_strobes (λ i j before few. All-nil (λ n. All (Differ n) [])))
      (all_counted (λ a. All (Clear a) assigned) fabric.columns strobe_wire (λ x few.
      all_counted (Clear (strobe_wire x)) fabric.columns column_strobes (λ y among.
      one_name (λ n. All (Differ n) []) (column_strobe_name x) (All-nil (Differ (column_strobe_name x))))))

  loader_clear : AllPairs Clear (loader_instance fabric.rows ∷ (strobe_wires ++ assigned))
  loader_clear =
      AllPairs-cons Clear (loader_instance fabric.rows) (strobe_wires ++ assigned)
      (All-append (Clear (loader_instance fabric.rows)) strobe_wires assigned
      (all_counted (Clear (loader_instance fabric.rows)) fabric.columns (λ x. wire (Vector 20) (column_strobe_name x)) (λ x few.
      one_each_way Differ loader_instance_name (column_strobe_name x) (told_apart 4 loader_instance_name (column_strobe_name x) refl)))
      (all_counted (Clear (loader_instance fabric.rows)) fabric.columns column_strobes (λ x few.
      one_name (λ n. All (Differ n) []) loader_instance_name (All-nil (Differ loader_instance_name)))))
      strobes_clear

  frames_clear : AllPairs Clear (frame_items fabric)
  frames_clear =
      let few_rows = is.few_rows in
      let behind = strobe_wires ++ assigned in
      pairs_append Clear (loader_wires fabric.rows) (loader_instance fabric.rows ∷ behind)
      (AllPairs-cons Clear (wire (Vector 32) address_port) (wire Scalar strobe_port ∷ row_wires)
      (All-cons (Clear (wire (Vector 32) address_port)) (wire Scalar strobe_port) row_wires (one_each_way Differ address_port strobe_port (told_apart 0 address_port strobe_port refl))
      (all_counted (Clear (wire (Vector 32) address_port)) fabric.rows (λ y. wire (Vector 32) (row_port y)) (λ y few.
      one_each_way Differ address_port (row_port y) (told_apart 0 address_port (row_port y) refl))))
      (AllPairs-cons Clear (wire Scalar strobe_port) row_wires
      (all_counted (Clear (wire Scalar strobe_port)) fabric.rows (λ y. wire (Vector 32) (row_port y)) (λ y few.
      one_each_way Differ strobe_port (row_port y) (told_apart 0 strobe_port (row_port y) refl)))
      (pairs_counted Clear fabric.rows (λ y. wire (Vector 32) (row_port y)) (λ i j before few.
      one_each_way Differ (row_port i) (row_port j) (rows_differ i j before (omega (arith, few, few_rows)))))))
      loader_clear
      (between (AllNames (λ name. head name < 88)) (AllNames (Starts 102)) Clear (loader_wires fabric.rows) (loader_instance fabric.rows ∷ behind)
      (λ a b all_a all_b. between (λ name. head name < 88) (Starts 102) Differ (item_names a) (item_names b)
      (λ n m low high same. let heads = ap head same in omega (arith, low, high, heads)) all_a all_b)
      (All-cons (AllNames (λ name. head name < 88)) (wire (Vector 32) address_port) (wire Scalar strobe_port ∷ row_wires) (one_name (λ name. head name < 88) address_port (omega arith))
      (All-cons (AllNames (λ name. head name < 88)) (wire Scalar strobe_port) row_wires (one_name (λ name. head name < 88) strobe_port (omega arith))
      (all_counted (AllNames (λ name. head name < 88)) fabric.rows (λ y. wire (Vector 32) (row_port y)) (λ y few. one_name (λ name. head name < 88) (row_port y) (omega arith)))))
      (All-cons (AllNames (Starts 102)) (loader_instance fabric.rows) behind (one_name (Starts 102) loader_instance_name refl)
      (All-append (AllNames (Starts 102)) strobe_wires assigned
      (all_counted (AllNames (Starts 102)) fabric.columns (λ x. wire (Vector 20) (column_strobe_name x)) (λ x few. one_name (Starts 102) (column_strobe_name x) refl))
      (all_counted (AllNames (Starts 102)) fabric.columns column_strobes (λ x few. All-nil (Starts 102))))))

  chain_clear : AllPairs Clear chain_wires
  chain_clear =
      pairs_map Clear chain_wire placed
      (pairs_weaker (IsStanding fabric) IsElsewhere (λ p q. Clear (chain_wire p) (chain_wire q)) placed
      (λ p q of_p of_q other. one_each_way Differ (chain_wire_name p.x p.y) (chain_wire_name q.x q.y)
      (elsewhere p.x p.y q.x q.y (chain_wire_name p.x p.y) (chain_wire_name q.x q.y) of_p.few_x of_p.few_y of_q.few_x of_q.few_y other (chain_of_tile p.x p.y) (chain_of_tile q.x q.y)))
      standing (placed_apart fabric))

  carried_clear : (mode : Mode) → AllPairs Clear (carrying_items mode fabric)
  carried_clear modes.Frames = frames_clear
  carried_clear modes.Chain = chain_clear

  -- what carries the bits, and the tiles with the wires between them: in frames their first letters differ
  carried_and_tiles : (mode : Mode) → Between Clear (carrying_items mode fabric) (begins ++ instances)
  carried_and_tiles modes.Frames =
      between (AllNames StartsOther) (AllNames (Starts 88)) Clear (frame_items fabric) (begins ++ instances)
      (λ a b all_a all_b. between StartsOther (Starts 88) Differ (item_names a) (item_names b) (λ n m other is_88. heads_differ n m 88 is_88 other) all_a all_b)
      (all_of_frames StartsOther (λ x same. omega (arith, same)) (λ same. omega (arith, same)) (λ same. omega (arith, same)) (λ same. omega (arith, same)) (λ y same. omega (arith, same)))
      (all_of_tiles (Starts 88) begin_head place_head)
  carried_and_tiles modes.Chain =
      between (AllNames IsChainWire) (AllNames IsBeginOrPlace) Clear chain_wires (begins ++ instances)
      (λ a b all_a all_b. between IsChainWire IsBeginOrPlace Differ (item_names a) (item_names b) chain_differs all_a all_b)
      names_of_chain (all_of_tiles IsBeginOrPlace (λ name begin. inl begin) (λ name place. inr place))

  pub items_clear : AllPairs Clear (top_items fabric)
  items_clear =
      let mode = text_mode fabric in
      pairs_append Clear (carrying_items mode fabric) (begins ++ instances) (carried_clear mode) tiles_clear (carried_and_tiles mode)

  -- ---- ports

  front_apart : (front : Port) → (head front.name ≡ 88 → ⊥) → All (PortsDiffer front) pads
  front_apart front other = All-weaker (λ (port : Port). IsPad port.name) (PortsDiffer front) (λ port pad. heads_differ front.name port.name 88 (pad_head port.name pad) other) pads names_of_pads

  pads_apart : AllPairs PortsDiffer pads
  pads_apart =
      pairs_flat PortsDiffer tile_pads placed
      (all_of (λ (p : PlacedTile). AllPairs PortsDiffer (tile_pads p)) placed tile_pads_apart)
      (pairs_weaker (IsStanding fabric) IsElsewhere (λ p q. Between PortsDiffer (tile_pads p) (tile_pads q)) placed
      (λ p q of_p of_q other.
      between (λ (port : Port). IsTilePad p.x p.y port.name) (λ (port : Port). IsTilePad q.x q.y port.name) PortsDiffer (tile_pads p) (tile_pads q)
      (λ a b at_a at_b. elsewhere p.x p.y q.x q.y a.name b.name of_p.few_x of_p.few_y of_q.few_x of_q.few_y other (pad_of_tile p.x p.y a.name at_a) (pad_of_tile q.x q.y b.name at_b))
      (pads_of_tile p) (pads_of_tile q))
      standing (placed_apart fabric))

  pub ports_apart : AllPairs PortsDiffer (top_ports fabric)
  ports_apart =
      let loader_clock = scalar true clock_name in
      let clock = scalar true user_clock_name in
      let write_strobe = scalar true write_strobe_name in
      let words = data_port (text_mode fabric) in
      AllPairs-cons PortsDiffer loader_clock (clock ∷ write_strobe ∷ words ∷ pads)
      (All-cons (PortsDiffer loader_clock) clock (write_strobe ∷ words ∷ pads) (told_apart 0 clock_name user_clock_name refl)
      (All-cons (PortsDiffer loader_clock) write_strobe (words ∷ pads) (told_apart 0 clock_name write_strobe_name refl)
      (All-cons (PortsDiffer loader_clock) words pads (told_apart 0 clock_name write_data_name refl) (front_apart loader_clock (λ same. omega (arith, same))))))
      (AllPairs-cons PortsDiffer clock (write_strobe ∷ words ∷ pads)
      (All-cons (PortsDiffer clock) write_strobe (words ∷ pads) (told_apart 0 user_clock_name write_strobe_name refl)
      (All-cons (PortsDiffer clock) words pads (told_apart 0 user_clock_name write_data_name refl) (front_apart clock (λ same. omega (arith, same)))))
      (AllPairs-cons PortsDiffer write_strobe (words ∷ pads)
      (All-cons (PortsDiffer write_strobe) words pads (told_apart 5 write_strobe_name write_data_name refl) (front_apart write_strobe (λ same. omega (arith, same))))
      (AllPairs-cons PortsDiffer words pads (front_apart words (λ same. omega (arith, same))) pads_apart)))

  -- ---- ports and items

  port_clear : (name : List ℕ) → (head name ≡ 88 → ⊥) → name ≢ loader_instance_name → name ≢ address_port → name ≢ strobe_port → ((y : ℕ) → name ≢ row_port y) →
      ((x : ℕ) → name ≢ column_strobe_name x) → All (AllNames (Differ name)) (top_items fabric)
  port_clear name low no_loader no_address no_strobe no_row no_column =
      all_items (Differ name) no_column no_loader no_address no_strobe no_row (λ other chain. heads_differ name other 88 (chain_head other chain) low)
      (λ other begin. heads_differ name other 88 (begin_head other begin) low) (λ other place. heads_differ name other 88 (place_head other place) low)

  pad_clear : (name : List ℕ) → IsPad name → All (AllNames (Differ name)) (top_items fabric)
  pad_clear name pad =
      let other = λ (n : List ℕ) (low : head n ≡ 88 → ⊥) (same : name ≡ n). low (ap head (sym same) ∙ pad_head name pad) in
      all_items (Differ name) (λ x. other (column_strobe_name x) (λ same. omega (arith, same))) (other loader_instance_name (λ same. omega (arith, same)))
      (other address_port (λ same. omega (arith, same))) (other strobe_port (λ same. omega (arith, same))) (λ y. other (row_port y) (λ same. omega (arith, same)))
      (λ chain is_chain. pad_no_chain name chain pad is_chain) (λ begin is_begin. pad_no_begin name begin pad is_begin) (λ place is_place. pad_no_place name place pad is_place)

  abbrev Apart : Port → Type 0
  Apart port = All (AllNames (Differ port.name)) (top_items fabric)

  pub ports_and_items : All Apart (top_ports fabric)
  ports_and_items =
      let clock = scalar true user_clock_name in
      let write_strobe = scalar true write_strobe_name in
      let words = data_port (text_mode fabric) in
      All-cons Apart (scalar true clock_name) (clock ∷ write_strobe ∷ words ∷ pads)
      (port_clear clock_name (λ same. omega (arith, same)) (told_apart 0 clock_name loader_instance_name refl) (told_apart 0 clock_name address_port refl)
      (told_apart 0 clock_name strobe_port refl) (λ y. told_apart 0 clock_name (row_port y) refl) (λ x. told_apart 0 clock_name (column_strobe_name x) refl))
      (All-cons Apart clock (write_strobe ∷ words ∷ pads)
      (port_clear user_clock_name (λ same. omega (arith, same)) (told_apart 0 user_clock_name loader_instance_name refl) (told_apart 0 user_clock_name address_port refl)
      (told_apart 0 user_clock_name strobe_port refl) (λ y. told_apart 0 user_clock_name (row_port y) refl) (λ x. told_apart 0 user_clock_name (column_strobe_name x) refl))
      (All-cons Apart write_strobe (words ∷ pads)
      (port_clear write_strobe_name (λ same. omega (arith, same)) (told_apart 0 write_strobe_name loader_instance_name refl) (told_apart 0 write_strobe_name address_port refl)
      (told_apart 0 write_strobe_name strobe_port refl) (λ y. told_apart 0 write_strobe_name (row_port y) refl) (λ x. told_apart 0 write_strobe_name (column_strobe_name x) refl))
      (All-cons Apart words pads
      (port_clear write_data_name (λ same. omega (arith, same)) (told_apart 0 write_data_name loader_instance_name refl) (told_apart 0 write_data_name address_port refl)
      (told_apart 0 write_data_name strobe_port refl) (λ y. told_apart 0 write_data_name (row_port y) refl) (λ x. told_apart 0 write_data_name (column_strobe_name x) refl))
      (All-weaker (λ (port : Port). IsPad port.name) Apart (λ port pad. pad_clear port.name pad) pads names_of_pads))))
