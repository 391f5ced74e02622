-- The nets and the instances of a tile's module have names of their own.
use Rattle.std.proofs.Common.{◌≡◌, ℕ, zero, suc, ◌+◌, ◌<◌, ◌≤◌, List, [], ◌∷◌, ◌++◌, map, get_or, length, refl, sym, ap, ◌∙◌, subst, inl, inr, arith, Option, Some, None, All, append_assoc, append-nil}
use Rattle.std.specs.List.{flat_map, enumerate_from}
use Rattle.std.proofs.lemmas.Bool.{cases_Bool}
use Rattle.std.proofs.lemmas.List.{map-append, length-append, length-map}
use Rattle.std.proofs.lemmas.List.Elements.{All-nil, All-cons, All-append, All-head, All-tail, All-map}
use Rattle.fab_syntax.specs.declared.tree.Shape.{Shape}
use Rattle.fab_syntax.specs.declared.tree.Shape.TheVariants.{Scalar}
use Rattle.fab_syntax.specs.declared.tree.Port.{Port}
use Rattle.fab_syntax.specs.Plain.{PlainExpr, PlainItem, wire, reg, assign, latch, clocked, instance}
use Rattle.fab_meaning.specs.Runs.{clock_name, user_clock_name}
use Rattle.fab_meaning.specs.Loading.{write_strobe_name}
use Rattle.fab_meaning.proofs.Modules.{each_all}
use Rattle.fab_model.specs.declared.mode.Mode.{Mode}
use Rattle.fab_model.specs.declared.mode.Mode.TheVariants as modes
use Rattle.fab_model.specs.declared.tiles.WireRow.{WireRow}
use Rattle.fab_model.specs.declared.tiles.Bel.{Bel}
use Rattle.fab_model.specs.Rows.{is_jump, dest_bits}
use Rattle.fab_model.specs.Tiles.{PlainTile, counted, row_wires, bel_wires, wire_name, matrix_names, tile_bits, IsTile, bits_before}
use Rattle.fab_parts_sound_laws.specs.fab_gen_tile_Words.{IsNamed}
use Rattle.fab_parts_sound_laws.specs.fab_gen_tile_Names.{frame_data_name, frame_strobe_name, chain_in_name, chain_out_name, bits_name, config_instance_name, matrix_instance_name}
use Rattle.fab_parts_sound_laws.specs.fab_gen_tile_Borders.{border, passing_assign, beginning_assign, begin_assigns, dest_assign, row_assigns, border_ports}
use Rattle.fab_parts_sound_laws.specs.fab_gen_tile_ConfigModule.{config_ports}
use Rattle.fab_parts_sound_laws.specs.fab_gen_tile_TileModule.{bels_ports, tile_ports, bits_wire, no_config, config_instances, matrix_output_names, matrix_instances, bel_instance, bel_instances, tile_items}
use Rattle.fab_parts_sound_laws.proofs.Apart.{apart_if}
use Rattle.fab_parts_sound_laws.proofs.Names.{Differ, AreApart, IsNet, nets, net_names, instance_names}
use Rattle.fab_parts_sound_laws.proofs.Lists.{all_counted, all_flat_map, pairs_none, pairs_left}
use Rattle.fab_tiles_sound_laws.proofs.Ranks.{rank, StandAbove, none_above, group_above, single_above}
use Rattle.fab_tiles_sound_laws.proofs.PlainNames.{plain_names}
use Rattle.fab_tiles_sound_laws.proofs.Borders.{names_of, borders_apart, border_ranks}
use Rattle.fab_tiles_sound_laws.proofs.Places.{pairs_map, pads_apart, pad_ranks, bel_names, bels_apart_from, bel_ranks}

-- ---- the items

abbrev pub declarations : PlainTile → List PlainItem
declarations tile = map (wire Scalar) (matrix_names tile) ++ bits_wire (tile_bits tile)

abbrev pub instances : Mode → PlainTile → List PlainItem
instances mode tile = config_instances mode tile (tile_bits tile) ++ (matrix_instances tile (matrix_output_names tile) ++ bel_instances tile.bels)

abbrev pub later_items : Mode → PlainTile → List PlainItem
later_items mode tile = flat_map row_assigns tile.rows ++ instances mode tile

pub items_split : (mode : Mode) (tile : PlainTile) → tile_items mode tile ≡ declarations tile ++ later_items mode tile
items_split mode tile = sym (append_assoc (map (wire Scalar) (matrix_names tile)) (bits_wire (tile_bits tile)) (later_items mode tile))

-- What holds of each wire holds of all that is declared,
module _ (P : PlainItem → Type 0) (each : (shape : Shape) (name : List ℕ) → P (wire shape name)) where
  bits_declared : (bits : ℕ) → All P (bits_wire bits)
  bits_declared zero = All-nil P
  bits_declared (suc bits) = All-cons P _ [] (each _ _) (All-nil P)

  pub each_declaration : (tile : PlainTile) → All P (declarations tile)
  each_declaration tile =
      All-append P (map (wire Scalar) (matrix_names tile)) (bits_wire (tile_bits tile)) (All-map P (wire Scalar) (matrix_names tile) (λ k d few. each _ _)) (bits_declared (tile_bits tile))

-- what holds of each assignment holds of all that rows assign,
module _ (P : PlainItem → Type 0) (each : (target : List ℕ) (e : PlainExpr) → P (assign target e)) where
  begins_assigned : (row : WireRow) (source dest : Option (List ℕ)) → All P (begin_assigns row source dest)
  begins_assigned row None dest = All-nil P
  begins_assigned row (Some source) None = all_counted P (border row) (beginning_assign row 0) (λ output few. each _ _)
  begins_assigned row (Some source) (Some dest) =
      All-append P _ _ (all_counted P _ (passing_assign row) (λ bit few. each _ _)) (all_counted P row.count (beginning_assign row _) (λ output few. each _ _))

  row_assigned : (row : WireRow) → All P (row_assigns row)
  row_assigned row =
      let dests : All P (counted (dest_bits row) (dest_assign row)) = all_counted P (dest_bits row) (dest_assign row) (λ bit few. each _ _) in
      elim (cases_Bool (is_jump row.dir)) [
        | inl jump ↦ rw jump dests
        | inr other ↦ rw other (All-append P (begin_assigns row row.source row.dest) (counted (dest_bits row) (dest_assign row)) (begins_assigned row row.source row.dest) dests)
      ]

  each_assign : (rows : List WireRow) → All P (flat_map row_assigns rows)
  each_assign rows = all_flat_map P row_assigns rows (λ k d few. row_assigned (get_or rows k d))

  -- of what stands in place of a configuration,
  pub each_unconfigured : (mode : Mode) → All P (no_config mode)
  each_unconfigured modes.Frames = All-nil P
  each_unconfigured modes.Chain = All-cons P _ [] (each _ _) (All-nil P)

  pub each_later : (mode : Mode) (tile : PlainTile) → All P (instances mode tile) → All P (later_items mode tile)
  each_later mode tile of_instances = All-append P (flat_map row_assigns tile.rows) (instances mode tile) (each_assign tile.rows) of_instances

-- and together with the instances these are all items.
pub each_of_tile : (P : PlainItem → Type 0) (mode : Mode) (tile : PlainTile) → ((shape : Shape) (name : List ℕ) → P (wire shape name)) → ((target : List ℕ) (e : PlainExpr) → P (assign target e)) →
    All P (instances mode tile) → All P (tile_items mode tile)
each_of_tile P mode tile of_wire of_assign of_instances =
    subst (All P) (sym (items_split mode tile)) (All-append P (declarations tile) (later_items mode tile) (each_declaration P of_wire tile) (each_later P of_assign mode tile of_instances))

pub they_declare : (tile : PlainTile) → All IsNet (declarations tile)
they_declare tile = each_declaration IsNet (λ shape name. tt) tile

-- an assignment
abbrev IsAssign : PlainItem → Type 0
IsAssign (assign target e) = Unit {0}
IsAssign _ = ⊥

-- ---- their names

wire_nets : (names : List (List ℕ)) (items : List PlainItem) → net_names (map (wire Scalar) names ++ items) ≡ names ++ net_names items
wire_nets [] items = refl
wire_nets (name ∷ names) items = ap (λ rest. name ∷ rest) (wire_nets names items)

abbrev pub bits_names : (bits : ℕ) → List (List ℕ)
bits_names zero = []
bits_names (suc bits) = bits_name ∷ []

bits_nets : (bits : ℕ) → net_names (bits_wire bits) ≡ bits_names bits
bits_nets zero = refl
bits_nets (suc bits) = refl

pub declared_names : (tile : PlainTile) → net_names (declarations tile) ≡ matrix_names tile ++ bits_names (tile_bits tile)
declared_names tile = wire_nets (matrix_names tile) (bits_wire (tile_bits tile)) ∙ ap (λ rest. matrix_names tile ++ rest) (bits_nets (tile_bits tile))

instances_append : (xs ys : List PlainItem) → instance_names (xs ++ ys) ≡ instance_names xs ++ instance_names ys
instances_append [] ys = refl
instances_append (wire shape name ∷ xs) ys = instances_append xs ys
instances_append (reg shape name ∷ xs) ys = instances_append xs ys
instances_append (assign target e ∷ xs) ys = instances_append xs ys
instances_append (latch target gate e ∷ xs) ys = instances_append xs ys
instances_append (clocked clock target e ∷ xs) ys = instances_append xs ys
instances_append (instance module_name name joins ∷ xs) ys = ap (λ rest. name ∷ rest) (instances_append xs ys)

none_named : (items : List PlainItem) → All IsAssign items → instance_names items ≡ []
none_named [] all = refl
none_named (wire shape name ∷ items) all = absurd (All-head IsAssign (wire shape name) items all)
none_named (reg shape name ∷ items) all = absurd (All-head IsAssign (reg shape name) items all)
none_named (assign target e ∷ items) all = none_named items (All-tail IsAssign (assign target e) items all)
none_named (latch target gate e ∷ items) all = absurd (All-head IsAssign (latch target gate e) items all)
none_named (clocked clock target e ∷ items) all = absurd (All-head IsAssign (clocked clock target e) items all)
none_named (instance module_name name joins ∷ items) all = absurd (All-head IsAssign (instance module_name name joins) items all)

config_names : (bits : ℕ) → List (List ℕ)
config_names zero = []
config_names (suc bits) = config_instance_name ∷ []

none_configured : (mode : Mode) → instance_names (no_config mode) ≡ []
none_configured modes.Frames = refl
none_configured modes.Chain = refl

config_named : (mode : Mode) (tile : PlainTile) (bits : ℕ) → instance_names (config_instances mode tile bits) ≡ config_names bits
unfolding config_names
config_named mode tile zero = none_configured mode
config_named mode tile (suc bits) = refl

matrix_instance_names : (outputs : List (List ℕ)) → List (List ℕ)
matrix_instance_names [] = []
matrix_instance_names (output ∷ outputs) = matrix_instance_name ∷ []

matrix_named : (tile : PlainTile) (outputs : List (List ℕ)) → instance_names (matrix_instances tile outputs) ≡ matrix_instance_names outputs
unfolding matrix_instance_names
matrix_named tile [] = refl
matrix_named tile (output ∷ outputs) = refl

bels_named : (low : ℕ → ℕ) (first : ℕ) (bels : List Bel) →
    instance_names (map (λ (placed : ℕ × Bel). bel_instance placed.0 (low placed.0) placed.1) (enumerate_from first bels)) ≡ bel_names first bels
bels_named low first [] = refl
bels_named low first (bel ∷ bels) = ap (λ rest. bel_names first (bel ∷ []) ++ rest) (bels_named low (first + 1) bels)

abbrev named_instances : PlainTile → List (List ℕ)
named_instances tile = config_names (tile_bits tile) ++ (matrix_instance_names (matrix_output_names tile) ++ bel_names 0 tile.bels)

instances_named : (mode : Mode) (tile : PlainTile) → instance_names (later_items mode tile) ≡ named_instances tile
instances_named mode tile =
    instances_append (flat_map row_assigns tile.rows) (instances mode tile)
    ∙ ap (λ front. front ++ instance_names (instances mode tile)) (none_named (flat_map row_assigns tile.rows) (each_assign IsAssign (λ target e. tt) tile.rows))
    ∙ instances_append (config_instances mode tile (tile_bits tile)) _
    ∙ (λ j. config_named mode tile (tile_bits tile) j ++ (instances_append (matrix_instances tile (matrix_output_names tile)) (bel_instances tile.bels)
    ∙ (λ k. matrix_named tile (matrix_output_names tile) k ++ bels_named (bits_before tile.bels) 0 tile.bels k)) j)

-- ---- the groups, one behind another

abbrev name_of_port : Port → List ℕ
name_of_port port = port.name

abbrev groups : Mode → PlainTile → List (List ℕ)
groups mode tile =
    user_clock_name ∷ (map name_of_port (config_ports mode)
    ++ (map name_of_port (flat_map border_ports tile.rows) ++ (map name_of_port (bels_ports tile.bels) ++ (matrix_names tile ++ (bits_names (tile_bits tile) ++ named_instances tile)))))

grouped : (mode : Mode) (tile : PlainTile) → nets (tile_ports mode tile) (declarations tile) ++ instance_names (later_items mode tile) ≡ groups mode tile
grouped mode tile =
    let c = map name_of_port (config_ports mode) in
    let b = map name_of_port (flat_map border_ports tile.rows) in
    let d = map name_of_port (bels_ports tile.bels) in
    let m = matrix_names tile in
    let w = bits_names (tile_bits tile) in
    let ports : map name_of_port (config_ports mode ++ (flat_map border_ports tile.rows ++ bels_ports tile.bels)) ≡ c ++ (b ++ d) =
    map-append name_of_port (config_ports mode) (flat_map border_ports tile.rows ++ bels_ports tile.bels)
    ∙ ap (λ rest. c ++ rest) (map-append name_of_port (flat_map border_ports tile.rows) (bels_ports tile.bels)) in
    (λ j. user_clock_name ∷ ((ports j ++ declared_names tile j) ++ instances_named mode tile j))
    ∙ ap (λ rest. user_clock_name ∷ rest)
    (append_assoc (c ++ (b ++ d)) (m ++ w) (named_instances tile)
    ∙ append_assoc c (b ++ d) ((m ++ w) ++ named_instances tile)
    ∙ ap (λ rest. c ++ rest)
    (append_assoc b d ((m ++ w) ++ named_instances tile)
    ∙ ap (λ rest. b ++ (d ++ rest)) (append_assoc m w (named_instances tile))))

-- the clocks of a tile, and the ports by which its bits come
carried_above : (mode : Mode) (names : List (List ℕ)) → StandAbove 4 names → StandAbove 0 (user_clock_name ∷ (map name_of_port (config_ports mode) ++ names))
carried_above modes.Frames names later =
    single_above 0 1 user_clock_name _ (omega arith) refl
    (single_above 1 2 frame_data_name _ (omega arith) refl
    (single_above 2 3 frame_strobe_name _ (omega arith) refl
    (group_above 3 4 [] names (omega arith) (All-nil (λ name. rank name ≡ 4)) (pairs_none Differ) later)))
carried_above modes.Chain names later =
    let clocks = user_clock_name ∷ clock_name ∷ [] in
    let chain = chain_in_name ∷ chain_out_name ∷ [] in
    group_above 0 1 clocks _ (omega arith) (each_all (λ name. rank name ≡ 1) clocks (refl, (refl, tt))) (apart_if clocks refl)
    (single_above 1 3 write_strobe_name _ (omega arith) refl
    (group_above 3 4 chain names (omega arith) (each_all (λ name. rank name ≡ 4) chain (refl, (refl, tt))) (apart_if chain refl) later))

config_above : (low bits : ℕ) (names : List (List ℕ)) → low < 9 → StandAbove 9 names → StandAbove low (config_names bits ++ names)
unfolding config_names
config_above low zero names less later = group_above low 9 [] names less (All-nil (λ name. rank name ≡ 9)) (pairs_none Differ) later
config_above low (suc bits) names less later = single_above low 9 config_instance_name names less refl later

matrix_above : (low : ℕ) (outputs names : List (List ℕ)) → low < 10 → StandAbove 10 names → StandAbove low (matrix_instance_names outputs ++ names)
unfolding matrix_instance_names
matrix_above low [] names less later = group_above low 10 [] names less (All-nil (λ name. rank name ≡ 10)) (pairs_none Differ) later
matrix_above low (output ∷ outputs) names less later = single_above low 10 matrix_instance_name names less refl later

bits_above : (low bits : ℕ) (names : List (List ℕ)) → low < 8 → StandAbove 8 names → StandAbove low (bits_names bits ++ names)
bits_above low zero names less later = group_above low 8 [] names less (All-nil (λ name. rank name ≡ 8)) (pairs_none Differ) later
bits_above low (suc bits) names less later = single_above low 8 bits_name names less refl later

bels_above : (low : ℕ) (bels : List Bel) → low < 11 → StandAbove low (bel_names 0 bels)
bels_above low bels less = subst (StandAbove low) (append-nil (bel_names 0 bels)) (group_above low 11 (bel_names 0 bels) [] less (bel_ranks bels) (bels_apart_from 0 bels) (none_above 11))

module _ (mode : Mode) (tile : PlainTile) (is : IsTile tile) (named : IsNamed tile) where
  rows_apart : AreApart (names_of (flat_map row_wires tile.rows))
  rows_apart =
      pairs_left Differ (names_of (flat_map row_wires tile.rows)) (names_of (flat_map bel_wires tile.bels))
      (subst AreApart (map-append wire_name (flat_map row_wires tile.rows) (flat_map bel_wires tile.bels)) is.apart)

  few_wires : length (flat_map row_wires tile.rows) ≤ 4096
  few_wires =
      let all : length (matrix_names tile) ≤ 4096 = is.few in
      omega (arith, length-append (flat_map row_wires tile.rows) (flat_map bel_wires tile.bels), length-map (flat_map row_wires tile.rows ++ flat_map bel_wires tile.bels) wire_name)

  all_above : StandAbove 0 (groups mode tile)
  all_above =
      carried_above mode _
      (group_above 4 5 (map name_of_port (flat_map border_ports tile.rows)) _ (omega arith)
      (All-map (λ name. rank name ≡ 5) name_of_port (flat_map border_ports tile.rows) (border_ranks tile.rows))
      (pairs_map Differ name_of_port (flat_map border_ports tile.rows) (borders_apart tile.rows is.rows rows_apart few_wires))
      (group_above 5 6 (map name_of_port (bels_ports tile.bels)) _ (omega arith)
      (All-map (λ name. rank name ≡ 6) name_of_port (bels_ports tile.bels) (pad_ranks tile.bels))
      (pairs_map Differ name_of_port (bels_ports tile.bels) (pads_apart tile.bels))
      (group_above 6 7 (matrix_names tile) _ (omega arith) (plain_names tile named) is.apart
      (bits_above 7 (tile_bits tile) _ (omega arith)
      (config_above 8 (tile_bits tile) _ (omega arith)
      (matrix_above 9 (matrix_output_names tile) _ (omega arith) (bels_above 10 tile.bels (omega arith))))))))

  -- no two nets or instances have one name
  pub all_apart : AreApart (nets (tile_ports mode tile) (declarations tile) ++ instance_names (later_items mode tile))
  all_apart = subst AreApart (sym (grouped mode tile)) all_above.apart

  pub nets_apart : AreApart (nets (tile_ports mode tile) (declarations tile))
  nets_apart = pairs_left Differ (nets (tile_ports mode tile) (declarations tile)) (instance_names (later_items mode tile)) all_apart
