-- The instances of the top: one for each tile.
use Rattle.std.proofs.Common.{◌≡◌, ℕ, List, [], ◌∷◌, ◌++◌, map, refl, sym, ap, ◌∙◌, inl, inr, Some, All, Contains}
use Rattle.std.specs.List.{flat_map}
use Rattle.std.specs.Str.{bytes_eq}
use Rattle.std.proofs.lemmas.Bool.{cases_Bool, false≢true}
use Rattle.std.proofs.lemmas.Slice.Eq.{bytes_eq-Decides}
use Rattle.std.proofs.lemmas.List.Elements.{All-nil, All-cons, All-head, All-tail, All-append, All-map, All-weaker, Contains-append_right}
use Rattle.fab_syntax.specs.declared.tree.Shape.TheVariants.{Scalar, Vector}
use Rattle.fab_syntax.specs.Plain.{PlainItem, wire, reg, assign, latch, clocked, instance}
use Rattle.fab_fabric_text_defs.specs.fab_meaning_Points.{Found, instance_named}
use Rattle.fab_fabric_text_defs.specs.fab_model_mode_Mode.{Mode}
use Rattle.fab_fabric_text_defs.specs.fab_model_mode_Mode_TheVariants as modes
use Rattle.fab_fabric_text_defs.specs.fab_model_Rows.{is_jump}
use Rattle.fab_fabric_text_defs.specs.fab_model_tiles_WireRow.{WireRow}
use Rattle.fab_fabric_text_defs.specs.fab_model_Tiles.{PlainTile, counted}
use Rattle.fab_fabric_text_defs.specs.fab_model_Grid.{PlainFabric, tile_at}
use Rattle.fab_fabric_text_defs.specs.fab_fabric_Names.{place_name}
use Rattle.fab_fabric_text_defs.specs.fab_fabric_Fabric.{IsFabric}
use Rattle.fab_fabric_text_defs.specs.fab_gen_tile_Names.{tile_module_name}
use Rattle.fab_fabric_text_defs.specs.fab_gen_tile_Borders.{side_border}
use Rattle.fab_fabric_text_defs.specs.Names.{loader_instance_name, column_strobe_name, chain_wire_name, begin_wire_name}
use Rattle.fab_fabric_text_defs.specs.fab_gen_loader_Loader.{address_port, strobe_port, row_port}
use Rattle.fab_fabric_text_defs.specs.Places.{PlacedTile, placed_tiles}
use Rattle.fab_fabric_text_defs.specs.Mode.{text_mode}
use Rattle.fab_fabric_text_defs.specs.Top.{loader_wires, loader_instance, column_strobes, chain_wire, carrying_items, row_begin_wires, tile_begin_wires, tile_joins, tile_instance, top_items}
use Rattle.fab_tile_drives_laws.proofs.Endings.{all_flat_map, all_counted}
use Rattle.fab_tile_drives_laws.proofs.Members.{contains_map}
use Rattle.fab_drives_laws.proofs.Lists.{none_there, first_or_later, all_of, all_if}
use Rattle.fab_drives_laws.proofs.Apart.{told_apart}
use Rattle.fab_drives_laws.proofs.Places.{placed_tile, tile_is_placed, IsThere, all_placed, only_at_place}

-- ---- all items of the top

-- what holds of wires, of the assigned strobes and in frames of the loader holds of what carries the bits
all_of_carrying : (mode : Mode) (fabric : PlainFabric) (P : PlainItem → Type 0) → ((name : List ℕ) → P (wire Scalar name)) → ((name : List ℕ) → P (wire (Vector 32) name)) →
    ((name : List ℕ) → P (wire (Vector 20) name)) → ((x : ℕ) → P (column_strobes x)) → (mode ≡ modes.Frames → P (loader_instance fabric.rows)) → All P (carrying_items mode fabric)
all_of_carrying modes.Frames fabric P scalars words strobes assigns loader =
    let assigned = counted fabric.columns column_strobes in
    let strobe_wires = counted fabric.columns (λ x. wire (Vector 20) (column_strobe_name x)) in
    All-append P (loader_wires fabric.rows) (loader_instance fabric.rows ∷ (strobe_wires ++ assigned))
    (All-cons P (wire (Vector 32) address_port) (wire Scalar strobe_port ∷ counted fabric.rows (λ y. wire (Vector 32) (row_port y))) (words address_port)
    (All-cons P (wire Scalar strobe_port) (counted fabric.rows (λ y. wire (Vector 32) (row_port y))) (scalars strobe_port)
    (all_counted P fabric.rows (λ y. wire (Vector 32) (row_port y)) (λ y few. words (row_port y)))))
    (All-cons P (loader_instance fabric.rows) (strobe_wires ++ assigned) (loader refl)
    (All-append P strobe_wires assigned
    (all_counted P fabric.columns (λ x. wire (Vector 20) (column_strobe_name x)) (λ x few. strobes (column_strobe_name x)))
    (all_counted P fabric.columns column_strobes (λ x few. assigns x))))
all_of_carrying modes.Chain fabric P scalars words strobes assigns loader =
    All-map P chain_wire (placed_tiles fabric) (all_of (λ (p : PlacedTile). P (chain_wire p)) (placed_tiles fabric) (λ p. scalars (chain_wire_name p.x p.y)))

-- and with each tile's instance of all items
pub all_of_top : (fabric : PlainFabric) (P : PlainItem → Type 0) → ((name : List ℕ) → P (wire Scalar name)) → ((name : List ℕ) → P (wire (Vector 32) name)) →
    ((name : List ℕ) → P (wire (Vector 20) name)) → ((x : ℕ) → P (column_strobes x)) → (text_mode fabric ≡ modes.Frames → P (loader_instance fabric.rows)) →
    ((placed : PlacedTile) → IsThere fabric placed → P (tile_instance fabric placed)) → All P (top_items fabric)
all_of_top fabric P scalars words strobes assigns loader tiles =
    let mode = text_mode fabric in
    let placed = placed_tiles fabric in
    let instances = map (tile_instance fabric) placed in
    let begins = flat_map tile_begin_wires placed in
    All-append P (carrying_items mode fabric) (begins ++ instances) (all_of_carrying mode fabric P scalars words strobes assigns loader)
    (All-append P begins instances
    (all_flat_map P tile_begin_wires placed (all_of (λ (p : PlacedTile). All P (tile_begin_wires p)) placed (λ p.
    all_flat_map P (row_begin_wires p.x p.y) p.tile.rows (all_of (λ (row : WireRow). All P (row_begin_wires p.x p.y row)) p.tile.rows (λ row.
    all_if P (is_jump row.dir) [] (counted (side_border row row.source) (λ bit. wire Scalar (begin_wire_name p.x p.y row bit))) (All-nil P)
    (all_counted P (side_border row row.source) (λ bit. wire Scalar (begin_wire_name p.x p.y row bit)) (λ bit few. scalars (begin_wire_name p.x p.y row bit))))))))
    (All-map P (tile_instance fabric) placed
    (All-weaker (IsThere fabric) (λ (p : PlacedTile). P (tile_instance fabric p)) tiles placed (all_placed fabric))))

-- ---- instances by name

-- an item that is an instance of this name is that which was found
abbrev pub Agrees : (name : List ℕ) → Found → PlainItem → Type 0
Agrees name found (wire shape other) = Unit {0}
Agrees name found (reg shape other) = Unit {0}
Agrees name found (assign target e) = Unit {0}
Agrees name found (latch target gate e) = Unit {0}
Agrees name found (clocked clock target e) = Unit {0}
Agrees name found (instance module_name other joins) = other ≡ name → record { module_name = module_name; joins = joins } ≡ found

-- the one instance of a name is found by it
pub instance_found : (items : List PlainItem) (name : List ℕ) (found : Found) → Contains items (instance found.module_name name found.joins) → All (Agrees name found) items →
    instance_named items name ≡ Some found
instance_found [] name found there agree = absurd (none_there (instance found.module_name name found.joins) there)
instance_found (wire shape other ∷ items) name found there agree =
    elim (first_or_later (wire shape other) items (instance found.module_name name found.joins) there) [
      | inl is ↦ absurd cc
      | inr behind ↦ instance_found items name found behind (All-tail (Agrees name found) (wire shape other) items agree)
    ]
instance_found (reg shape other ∷ items) name found there agree =
    elim (first_or_later (reg shape other) items (instance found.module_name name found.joins) there) [
      | inl is ↦ absurd cc
      | inr behind ↦ instance_found items name found behind (All-tail (Agrees name found) (reg shape other) items agree)
    ]
instance_found (assign target e ∷ items) name found there agree =
    elim (first_or_later (assign target e) items (instance found.module_name name found.joins) there) [
      | inl is ↦ absurd cc
      | inr behind ↦ instance_found items name found behind (All-tail (Agrees name found) (assign target e) items agree)
    ]
instance_found (latch target gate e ∷ items) name found there agree =
    elim (first_or_later (latch target gate e) items (instance found.module_name name found.joins) there) [
      | inl is ↦ absurd cc
      | inr behind ↦ instance_found items name found behind (All-tail (Agrees name found) (latch target gate e) items agree)
    ]
instance_found (clocked clock target e ∷ items) name found there agree =
    elim (first_or_later (clocked clock target e) items (instance found.module_name name found.joins) there) [
      | inl is ↦ absurd cc
      | inr behind ↦ instance_found items name found behind (All-tail (Agrees name found) (clocked clock target e) items agree)
    ]
instance_found (instance module_name other joins ∷ items) name found there agree =
    elim (cases_Bool (bytes_eq other name)) [
      | inl yes_here ↦ rw yes_here (ap Some (All-head (Agrees name found) (instance module_name other joins) items agree ((bytes_eq-Decides other name).0 yes_here)))
      | inr not_here ↦ elim (first_or_later (instance module_name other joins) items (instance found.module_name name found.joins) there) [
        | inl is ↦ (
            let same : other ≡ name = cc in
            absurd (false≢true (sym not_here ∙ (bytes_eq-Decides other name).1 same)))
        | inr behind ↦ rw not_here (instance_found items name found behind (All-tail (Agrees name found) (instance module_name other joins) items agree))
      ]
    ]

-- ---- the instance of a tile

abbrev pub found_tile : PlainFabric → PlacedTile → Found
found_tile fabric placed = record { module_name = tile_module_name placed.tile; joins = tile_joins fabric placed }

pub tile_instance_there : (fabric : PlainFabric) (x y : ℕ) (tile : PlainTile) → tile_at fabric x y ≡ Some tile → Contains (top_items fabric) (tile_instance fabric (placed_tile x y tile))
tile_instance_there fabric x y tile is =
    let item = tile_instance fabric (placed_tile x y tile) in
    let placed = placed_tiles fabric in
    let instances = map (tile_instance fabric) placed in
    let begins = flat_map tile_begin_wires placed in
    Contains-append_right (carrying_items (text_mode fabric) fabric) (begins ++ instances) item
    (Contains-append_right begins instances item
    (contains_map (tile_instance fabric) placed (placed_tile x y tile) (tile_is_placed fabric x y tile is)))

pub tile_instance_found : (fabric : PlainFabric) → IsFabric fabric → (x y : ℕ) (tile : PlainTile) → tile_at fabric x y ≡ Some tile →
    instance_named (top_items fabric) (place_name x y) ≡ Some (found_tile fabric (placed_tile x y tile))
tile_instance_found fabric is x y tile there =
    let found = found_tile fabric (placed_tile x y tile) in
    instance_found (top_items fabric) (place_name x y) found (tile_instance_there fabric x y tile there)
    (all_of_top fabric (Agrees (place_name x y) found) (λ name. tt) (λ name. tt) (λ name. tt) (λ x. tt)
    (λ frames same. absurd (told_apart 0 loader_instance_name (place_name x y) refl same))
    (λ placed placed_there same. ap (found_tile fabric) (only_at_place fabric is x y tile there placed placed_there same)))
