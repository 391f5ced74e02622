-- The items of a tile's module: which instances its names mean, and what stands there.
use Rattle.std.proofs.Common.{◌≡◌, ℕ, zero, suc, ◌+◌, ◌<◌, true, false, List, [], ◌∷◌, ◌++◌, length, map, slice_get, get_or, refl, ap, ◌∙◌, subst, inl, inr, arith, Option, Some, None, All, Contains}
use Rattle.std.specs.List.{flat_map, enumerate_from}
use Rattle.std.specs.Str.{bytes_eq}
use Rattle.std.proofs.lemmas.Bool.{cases_Bool}
use Rattle.std.proofs.lemmas.List.Elements.{All-nil, All-cons, All-head, All-tail, All-append, All-map, Contains-append_left, Contains-append_right}
use Rattle.std.proofs.lemmas.Slice.Eq.{bytes_eq-Decides}
use Rattle.fab_gen_tile.specs.fab_syntax.specs.declared.tree.Shape.TheVariants.{Scalar}
use Rattle.fab_gen_tile.specs.fab_syntax.specs.Plain.{PlainJoin, PlainItem, wire, instance}
use Rattle.fab_gen_tile.specs.fab_meaning.specs.Points.{Found, instance_named}
use Rattle.fab_gen_tile.specs.fab_meaning.proofs.Declared.{bytes_apart}
use Rattle.fab_gen_tile.specs.fab_model.specs.declared.mode.Mode.{Mode}
use Rattle.fab_gen_tile.specs.fab_model.specs.declared.tiles.WireRow.{WireRow}
use Rattle.fab_gen_tile.specs.fab_model.specs.declared.tiles.Bel.{Bel}
use Rattle.fab_gen_tile.specs.fab_model.specs.Rows.{is_jump, dest_bits}
use Rattle.fab_gen_tile.specs.fab_model.specs.Tiles.{PlainTile, counted, matrix_names, tile_bits, bits_before}
use Rattle.fab_gen_tile.specs.fab_prim.specs.Modules.{module_name}
use Rattle.fab_gen_tile.specs.Names.{config_module_name, matrix_module_name, config_instance_name, matrix_instance_name, bel_instance_name}
use Rattle.fab_gen_tile.specs.Borders.{border, passing_assign, beginning_assign, begin_assigns, dest_assign, row_assigns}
use Rattle.fab_gen_tile.specs.TileModule.{bits_wire, config_joins, config_instances, matrix_joins, matrix_output_names, matrix_instances, bel_joins, bel_instance, bel_instances, tile_items}
use Rattle.fab_tile_drives_laws.proofs.Endings.{last_byte, all_counted, all_flat_map}
use Rattle.fab_tile_drives_laws.proofs.Modes.{no_instance}
use Rattle.fab_tile_drives_laws.proofs.Members.{contains_first, contains_at, contains_map, contains_flat_map, get_enumerated}

-- ---- which instance a name means

-- an item that is no instance of this name
abbrev Passes : List ℕ → PlainItem → Type 0
Passes name item = (items : List PlainItem) → instance_named (item ∷ items) name ≡ instance_named items name

passed : (name : List ℕ) (front items : List PlainItem) → All (Passes name) front → instance_named (front ++ items) name ≡ instance_named items name
passed name [] items pass = refl
passed name (item ∷ front) items pass = All-head (Passes name) item front pass (front ++ items) ∙ passed name front items (All-tail (Passes name) item front pass)

-- items that are no instances at all
abbrev PassAll : List PlainItem → Type 0
PassAll items = (name : List ℕ) → All (Passes name) items

wires_pass : (names : List (List ℕ)) → PassAll (map (wire Scalar) names)
wires_pass names name = All-map (Passes name) (wire Scalar) names (λ k d few items. refl)

bits_pass : (bits : ℕ) → PassAll (bits_wire bits)
bits_pass zero name = All-nil (Passes name)
bits_pass (suc bits) name = All-cons (Passes name) _ [] (λ items. refl) (All-nil (Passes name))

begins_pass : (row : WireRow) (source dest : Option (List ℕ)) → PassAll (begin_assigns row source dest)
begins_pass row None dest name = All-nil (Passes name)
begins_pass row (Some source) None name = all_counted (Passes name) (border row) (beginning_assign row 0) (λ output few items. refl)
begins_pass row (Some source) (Some dest) name =
    All-append (Passes name) _ _
    (all_counted (Passes name) _ (passing_assign row) (λ bit few items. refl))
    (all_counted (Passes name) row.count (beginning_assign row _) (λ output few items. refl))

row_passes : (row : WireRow) → PassAll (row_assigns row)
row_passes row name =
    let dests : All (Passes name) (counted (dest_bits row) (dest_assign row)) = all_counted (Passes name) (dest_bits row) (dest_assign row) (λ bit few items. refl) in
    let begins : All (Passes name) (begin_assigns row row.source row.dest) = begins_pass row row.source row.dest name in
    elim (cases_Bool (is_jump row.dir)) [
      | inl jump ↦ rw jump dests
      | inr other ↦ rw other (All-append (Passes name) (begin_assigns row row.source row.dest) (counted (dest_bits row) (dest_assign row)) begins dests)
    ]

abbrev instances : Mode → PlainTile → List PlainItem
instances mode tile = config_instances mode tile (tile_bits tile) ++ (matrix_instances tile (matrix_output_names tile) ++ bel_instances tile.bels)

-- the instances stand behind all else
behind_wires : (mode : Mode) (tile : PlainTile) (name : List ℕ) → instance_named (tile_items mode tile) name ≡ instance_named (instances mode tile) name
behind_wires mode tile name =
    let rows : All (Passes name) (flat_map row_assigns tile.rows) = all_flat_map (Passes name) row_assigns tile.rows (λ k d few. row_passes (get_or tile.rows k d) name) in
    passed name (map (wire Scalar) (matrix_names tile)) _ (wires_pass (matrix_names tile) name)
    ∙ passed name (bits_wire (tile_bits tile)) _ (bits_pass (tile_bits tile) name)
    ∙ passed name (flat_map row_assigns tile.rows) (instances mode tile) rows

-- ---- the instances

abbrev of_module : (module_name : List ℕ) → (joins : List PlainJoin) → Found
of_module module_name joins = record { module_name = module_name; joins = joins }

config_first : (mode : Mode) (tile : PlainTile) (bits : ℕ) (items : List PlainItem) → 0 < bits →
    instance_named (config_instances mode tile bits ++ items) config_instance_name ≡ Some (of_module (config_module_name tile) (config_joins mode))
config_first mode tile zero items some = absurd (omega arith)
config_first mode tile (suc bits) items some = refl

pub config_found : (mode : Mode) (tile : PlainTile) → 0 < tile_bits tile → instance_named (tile_items mode tile) config_instance_name ≡ Some (of_module (config_module_name tile) (config_joins mode))
config_found mode tile some = behind_wires mode tile config_instance_name ∙ config_first mode tile (tile_bits tile) _ some

-- other names than that of the configuration
behind_config : (mode : Mode) (tile : PlainTile) (name : List ℕ) (bits : ℕ) (items : List PlainItem) → bytes_eq config_instance_name name ≡ false →
    instance_named (config_instances mode tile bits ++ items) name ≡ instance_named items name
behind_config mode tile name zero items other = no_instance mode items name
behind_config mode tile name (suc bits) items other = rw other refl

matrix_first : (tile : PlainTile) (outputs : List (List ℕ)) (items : List PlainItem) → 0 < length outputs →
    instance_named (matrix_instances tile outputs ++ items) matrix_instance_name ≡ Some (of_module (matrix_module_name tile) (matrix_joins tile))
matrix_first tile [] items some = absurd (omega arith)
matrix_first tile (output ∷ outputs) items some = refl

pub matrix_found : (mode : Mode) (tile : PlainTile) → 0 < length (matrix_output_names tile) → instance_named (tile_items mode tile) matrix_instance_name ≡ Some (of_module (matrix_module_name tile) (matrix_joins tile))
matrix_found mode tile some =
    behind_wires mode tile matrix_instance_name ∙ behind_config mode tile matrix_instance_name (tile_bits tile) _ refl ∙ matrix_first tile (matrix_output_names tile) _ some

behind_matrix : (tile : PlainTile) (name : List ℕ) (outputs : List (List ℕ)) (items : List PlainItem) → bytes_eq matrix_instance_name name ≡ false →
    instance_named (matrix_instances tile outputs ++ items) name ≡ instance_named items name
behind_matrix tile name [] items other = refl
behind_matrix tile name (output ∷ outputs) items other = rw other refl

-- BELs at different places have names of their own
bels_apart : (place other : ℕ) → place < other → bytes_eq (bel_instance_name place) (bel_instance_name other) ≡ false
bels_apart place other before =
    bytes_apart (bel_instance_name place) (bel_instance_name other)
    (λ same. (let equal : 65 + place ≡ 65 + other = ap (λ name. last_byte name 0) same in omega arith))

bel_at : (low : ℕ → ℕ) (first : ℕ) (bels : List Bel) (k : ℕ) (found : Bel) → slice_get bels k ≡ Some found →
    instance_named (map (λ (placed : ℕ × Bel). bel_instance placed.0 (low placed.0) placed.1) (enumerate_from first bels)) (bel_instance_name (first + k))
    ≡ Some (of_module (module_name found.kind) (bel_joins (first + k) (low (first + k)) found))
bel_at low first [] k found there = cc
bel_at low first (bel ∷ bels) zero found there =
    let same : bel ≡ found = cc in
    let number : first ≡ first + 0 = omega arith in
    let here : bytes_eq (bel_instance_name first) (bel_instance_name (first + 0)) ≡ true =
    (bytes_eq-Decides (bel_instance_name first) (bel_instance_name (first + 0))).1 (ap bel_instance_name number) in
    rw here (λ j. Some (of_module (module_name (same j).kind) (bel_joins (number j) (low (number j)) (same j))))
bel_at low first (bel ∷ bels) (suc k) found there =
    let number : first + 1 + k ≡ first + suc k = omega arith in
    let other : bytes_eq (bel_instance_name first) (bel_instance_name (first + suc k)) ≡ false = bels_apart first (first + suc k) (omega arith) in
    rw other (subst (λ n. instance_named (map (λ (placed : ℕ × Bel). bel_instance placed.0 (low placed.0) placed.1) (enumerate_from (first + 1) bels)) (bel_instance_name n)
    ≡ Some (of_module (module_name found.kind) (bel_joins n (low n) found))) number (bel_at low (first + 1) bels k found there))

pub bel_found : (mode : Mode) (tile : PlainTile) (bel : ℕ) (found : Bel) → slice_get tile.bels bel ≡ Some found →
    instance_named (tile_items mode tile) (bel_instance_name bel) ≡ Some (of_module (module_name found.kind) (bel_joins bel (bits_before tile.bels bel) found))
bel_found mode tile bel found there =
    let number : 0 + bel ≡ bel = omega arith in
    behind_wires mode tile (bel_instance_name bel)
    ∙ behind_config mode tile (bel_instance_name bel) (tile_bits tile) _ refl
    ∙ behind_matrix tile (bel_instance_name bel) (matrix_output_names tile) _ refl
    ∙ subst (λ n. instance_named (bel_instances tile.bels) (bel_instance_name n) ≡ Some (of_module (module_name found.kind) (bel_joins n (bits_before tile.bels n) found)))
    number (bel_at (bits_before tile.bels) 0 tile.bels bel found there)

-- ---- what stands there

-- an item behind the wires
row_item : (mode : Mode) (tile : PlainTile) (item : PlainItem) → Contains (flat_map row_assigns tile.rows) item → Contains (tile_items mode tile) item
row_item mode tile item there =
    Contains-append_right (map (wire Scalar) (matrix_names tile)) _ item
    (Contains-append_right (bits_wire (tile_bits tile)) _ item
    (Contains-append_left (flat_map row_assigns tile.rows) (instances mode tile) item there))

pub assign_there : (mode : Mode) (tile : PlainTile) (row : ℕ) (found : WireRow) (item : PlainItem) → slice_get tile.rows row ≡ Some found → Contains (row_assigns found) item → Contains (tile_items mode tile) item
assign_there mode tile row found item at there = row_item mode tile item (contains_flat_map row_assigns tile.rows row found item at there)

-- one of the instances
instance_item : (mode : Mode) (tile : PlainTile) (item : PlainItem) → Contains (instances mode tile) item → Contains (tile_items mode tile) item
instance_item mode tile item there =
    Contains-append_right (map (wire Scalar) (matrix_names tile)) _ item
    (Contains-append_right (bits_wire (tile_bits tile)) _ item
    (Contains-append_right (flat_map row_assigns tile.rows) (instances mode tile) item there))

config_among : (mode : Mode) (tile : PlainTile) (bits : ℕ) → 0 < bits → Contains (config_instances mode tile bits) (instance (config_module_name tile) config_instance_name (config_joins mode))
config_among mode tile zero some = absurd (omega arith)
config_among mode tile (suc bits) some = contains_first (instance (config_module_name tile) config_instance_name (config_joins mode)) []

pub config_there : (mode : Mode) (tile : PlainTile) → 0 < tile_bits tile → Contains (tile_items mode tile) (instance (config_module_name tile) config_instance_name (config_joins mode))
config_there mode tile some =
    let item = instance (config_module_name tile) config_instance_name (config_joins mode) in
    instance_item mode tile item (Contains-append_left (config_instances mode tile (tile_bits tile)) _ item (config_among mode tile (tile_bits tile) some))

matrix_among : (tile : PlainTile) (outputs : List (List ℕ)) → 0 < length outputs → Contains (matrix_instances tile outputs) (instance (matrix_module_name tile) matrix_instance_name (matrix_joins tile))
matrix_among tile [] some = absurd (omega arith)
matrix_among tile (output ∷ outputs) some = contains_first (instance (matrix_module_name tile) matrix_instance_name (matrix_joins tile)) []

pub matrix_there : (mode : Mode) (tile : PlainTile) → 0 < length (matrix_output_names tile) → Contains (tile_items mode tile) (instance (matrix_module_name tile) matrix_instance_name (matrix_joins tile))
matrix_there mode tile some =
    let item = instance (matrix_module_name tile) matrix_instance_name (matrix_joins tile) in
    instance_item mode tile item
    (Contains-append_right (config_instances mode tile (tile_bits tile)) _ item
    (Contains-append_left (matrix_instances tile (matrix_output_names tile)) (bel_instances tile.bels) item (matrix_among tile (matrix_output_names tile) some)))

pub bel_there : (mode : Mode) (tile : PlainTile) (bel : ℕ) (found : Bel) → slice_get tile.bels bel ≡ Some found → Contains (tile_items mode tile) (bel_instance bel (bits_before tile.bels bel) found)
bel_there mode tile bel found there =
    let item = bel_instance bel (bits_before tile.bels bel) found in
    let number : 0 + bel ≡ bel = omega arith in
    let placed : slice_get (enumerate_from 0 tile.bels) bel ≡ Some (bel, found) = get_enumerated 0 tile.bels bel found there ∙ ap (λ n. Some (n, found)) number in
    let among : Contains (bel_instances tile.bels) item =
    contains_map (λ (placed : ℕ × Bel). bel_instance placed.0 (bits_before tile.bels placed.0) placed.1) (enumerate_from 0 tile.bels) (bel, found)
    (contains_at (enumerate_from 0 tile.bels) bel (bel, found) placed) in
    instance_item mode tile item
    (Contains-append_right (config_instances mode tile (tile_bits tile)) _ item
    (Contains-append_right (matrix_instances tile (matrix_output_names tile)) (bel_instances tile.bels) item among))
