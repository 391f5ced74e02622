-- With which shapes the nets of a tile's module are declared.
use Rattle.std.proofs.Common.{◌≡◌, ◌≢◌, ℕ, zero, suc, ◌<◌, false, List, [], ◌∷◌, ◌++◌, refl, sym, ap, ◌∙◌, subst, inl, inr, arith, Option, Some, All, Contains}
use Rattle.std.specs.Str.{bytes_eq}
use Rattle.std.proofs.lemmas.Bool.{cases_Bool}
use Rattle.std.proofs.lemmas.List.Elements.{All-head, All-tail, All-weaker, All-contains, Contains-append_left, Contains-append_right}
use Rattle.std.proofs.lemmas.Slice.Eq.{bytes_eq-Decides}
use Rattle.fab_syntax.specs.declared.tree.Shape.{Shape}
use Rattle.fab_syntax.specs.declared.tree.Shape.TheVariants.{Scalar, Vector}
use Rattle.fab_syntax.specs.declared.tree.Port.{Port}
use Rattle.fab_syntax.specs.Plain.{PlainItem, wire, reg, assign, latch, clocked, instance}
use Rattle.fab_syntax.specs.Declarations.{item_shape, declared_shape}
use Rattle.fab_meaning.proofs.Declared.{bytes_apart}
use Rattle.fab_model.specs.declared.mode.Mode.{Mode}
use Rattle.fab_model.specs.Tiles.{PlainTile, matrix_names, tile_bits, IsTile}
use Rattle.fab_parts_sound_laws.specs.fab_gen_tile_Words.{IsNamed}
use Rattle.fab_parts_sound_laws.specs.fab_gen_tile_Names.{bits_name}
use Rattle.fab_parts_sound_laws.specs.fab_gen_tile_TileModule.{tile_ports, bits_wire, tile_items}
use Rattle.fab_parts_sound_laws.proofs.Names.{Differ, AreApart, nets, net_names}
use Rattle.fab_parts_sound_laws.proofs.Declared.{port_names, port_declared}
use Rattle.fab_parts_sound_laws.proofs.Lists.{pairs_left, pairs_head, pairs_tail, pairs_right, pairs_across, contains_first, contains_later}
use Rattle.fab_parts_sound_laws.proofs.fab_tile_drives_laws_Widths.{scalar_wire, passed_wires}
use Rattle.fab_tiles_sound_laws.proofs.Apart.{declarations, later_items, items_split, bits_names, declared_names, nets_apart}

-- ---- a name with a shape is a net

known_item : (items : List PlainItem) (name : List ℕ) (shape : Shape) → item_shape items name ≡ Some shape → Contains (net_names items) name
known_item [] name shape e = cc
known_item (wire s other ∷ items) name shape e =
    elim (cases_Bool (bytes_eq other name)) [
      | inl t ↦ subst (λ n. Contains (n ∷ net_names items) name) (sym ((bytes_eq-Decides other name).0 t)) (contains_first name (net_names items))
      | inr f ↦ contains_later other (net_names items) name (known_item items name shape (rw f at e))
    ]
known_item (reg s other ∷ items) name shape e =
    elim (cases_Bool (bytes_eq other name)) [
      | inl t ↦ subst (λ n. Contains (n ∷ net_names items) name) (sym ((bytes_eq-Decides other name).0 t)) (contains_first name (net_names items))
      | inr f ↦ contains_later other (net_names items) name (known_item items name shape (rw f at e))
    ]
known_item (assign target value ∷ items) name shape e = known_item items name shape e
known_item (latch target gate value ∷ items) name shape e = known_item items name shape e
known_item (clocked clock target value ∷ items) name shape e = known_item items name shape e
known_item (instance module_name i joins ∷ items) name shape e = known_item items name shape e

pub known : (ports : List Port) (items : List PlainItem) (name : List ℕ) (shape : Shape) → declared_shape ports items name ≡ Some shape → Contains (nets ports items) name
known [] items name shape e = known_item items name shape e
known (port ∷ ports) items name shape e =
    elim (cases_Bool (bytes_eq port.name name)) [
      | inl t ↦ subst (λ n. Contains (n ∷ nets ports items) name) (sym ((bytes_eq-Decides port.name name).0 t)) (contains_first name (nets ports items))
      | inr f ↦ contains_later port.name (nets ports items) name (known ports items name shape (rw f at e))
    ]

-- ---- more items do not hide it

kept_item : (items more : List PlainItem) (name : List ℕ) (shape : Shape) → item_shape items name ≡ Some shape → item_shape (items ++ more) name ≡ Some shape
kept_item [] more name shape e = cc
kept_item (wire s other ∷ items) more name shape e =
    elim (cases_Bool (bytes_eq other name)) [
      | inl t ↦ (let found : Some s ≡ Some shape = rw t at e in rw t found)
      | inr f ↦ rw f (kept_item items more name shape (rw f at e))
    ]
kept_item (reg s other ∷ items) more name shape e =
    elim (cases_Bool (bytes_eq other name)) [
      | inl t ↦ (let found : Some s ≡ Some shape = rw t at e in rw t found)
      | inr f ↦ rw f (kept_item items more name shape (rw f at e))
    ]
kept_item (assign target value ∷ items) more name shape e = kept_item items more name shape e
kept_item (latch target gate value ∷ items) more name shape e = kept_item items more name shape e
kept_item (clocked clock target value ∷ items) more name shape e = kept_item items more name shape e
kept_item (instance module_name i joins ∷ items) more name shape e = kept_item items more name shape e

kept : (ports : List Port) (items more : List PlainItem) (name : List ℕ) (shape : Shape) → declared_shape ports items name ≡ Some shape →
    declared_shape ports (items ++ more) name ≡ Some shape
kept [] items more name shape e = kept_item items more name shape e
kept (port ∷ ports) items more name shape e =
    elim (cases_Bool (bytes_eq port.name name)) [
      | inl t ↦ (let found : Some port.shape ≡ Some shape = rw t at e in rw t found)
      | inr f ↦ rw f (kept ports items more name shape (rw f at e))
    ]

-- ---- nets that are apart have their own shapes

-- ports of other names are passed over
passed : (ports : List Port) (items : List PlainItem) (name : List ℕ) → All (λ (port : Port). port.name ≢ name) ports → declared_shape ports items name ≡ item_shape items name
passed [] items name apart = refl
passed (port ∷ ports) items name apart =
    let f : bytes_eq port.name name ≡ false = bytes_apart port.name name (All-head (λ (port : Port). port.name ≢ name) port ports apart) in
    rw f (passed ports items name (All-tail (λ (port : Port). port.name ≢ name) port ports apart))

-- ports whose names are apart from other names
ports_apart : (ports : List Port) (others : List (List ℕ)) (name : List ℕ) → AreApart (port_names ports ++ others) → Contains others name →
    All (λ (port : Port). port.name ≢ name) ports
ports_apart [] others name apart there k d few = absurd (omega arith)
ports_apart (port ∷ ports) others name apart there zero d few =
    let names = port_names ports in
    All-contains (Differ port.name) (names ++ others) name (pairs_head Differ port.name (names ++ others) apart) (Contains-append_right names others name there)
ports_apart (port ∷ ports) others name apart there (suc k) d few =
    let names = port_names ports in
    ports_apart ports others name (pairs_tail Differ port.name (names ++ others) apart) there k d (omega arith)

-- ---- the nets of a tile

abbrev pub shape_of : Mode → PlainTile → List ℕ → Option Shape
shape_of mode tile name = declared_shape (tile_ports mode tile) (declarations tile) name

-- as its module has it
pub whole_shape : (mode : Mode) (tile : PlainTile) (name : List ℕ) (shape : Shape) → shape_of mode tile name ≡ Some shape → declared_shape (tile_ports mode tile) (tile_items mode tile) name ≡ Some shape
whole_shape mode tile name shape e =
    ap (λ items. declared_shape (tile_ports mode tile) items name) (items_split mode tile) ∙ kept (tile_ports mode tile) (declarations tile) (later_items mode tile) name shape e

module _ (mode : Mode) (tile : PlainTile) (is : IsTile tile) (named : IsNamed tile) where
  split_apart : AreApart (port_names (tile_ports mode tile) ++ (matrix_names tile ++ bits_names (tile_bits tile)))
  split_apart = subst (λ names. AreApart (port_names (tile_ports mode tile) ++ names)) (declared_names tile) (nets_apart mode tile is named)

  pub port_shape : (port : Port) → Contains (tile_ports mode tile) port → shape_of mode tile port.name ≡ Some port.shape
  port_shape port there =
      port_declared port (tile_ports mode tile) (declarations tile) (pairs_left Differ (port_names (tile_ports mode tile)) (net_names (declarations tile)) (nets_apart mode tile is named)) there

  pub matrix_shape : (name : List ℕ) → Contains (matrix_names tile) name → shape_of mode tile name ≡ Some Scalar
  matrix_shape name there =
      passed (tile_ports mode tile) (declarations tile) name
      (ports_apart (tile_ports mode tile) (matrix_names tile ++ bits_names (tile_bits tile)) name split_apart
      (Contains-append_left (matrix_names tile) (bits_names (tile_bits tile)) name there))
      ∙ scalar_wire (matrix_names tile) (bits_wire (tile_bits tile)) name there

  bits_there : (bits : ℕ) → 0 < bits → Contains (bits_names bits) bits_name
  bits_there zero some = absurd (omega arith)
  bits_there (suc bits) some = contains_first bits_name []

  wire_there : (bits : ℕ) → 0 < bits → item_shape (bits_wire bits) bits_name ≡ Some (Vector bits)
  wire_there zero some = absurd (omega arith)
  wire_there (suc bits) some = refl

  pub bits_shape : 0 < tile_bits tile → shape_of mode tile bits_name ≡ Some (Vector (tile_bits tile))
  bits_shape some =
      let there = bits_there (tile_bits tile) some in
      let across : All (λ x. All (Differ x) (bits_names (tile_bits tile))) (matrix_names tile) =
      pairs_across Differ (matrix_names tile) (bits_names (tile_bits tile))
      (pairs_right Differ (port_names (tile_ports mode tile)) (matrix_names tile ++ bits_names (tile_bits tile)) split_apart) in
      passed (tile_ports mode tile) (declarations tile) bits_name
      (ports_apart (tile_ports mode tile) (matrix_names tile ++ bits_names (tile_bits tile)) bits_name split_apart
      (Contains-append_right (matrix_names tile) (bits_names (tile_bits tile)) bits_name there))
      ∙ passed_wires (matrix_names tile) (bits_wire (tile_bits tile)) bits_name
      (All-weaker (λ x. All (Differ x) (bits_names (tile_bits tile))) (λ other. other ≢ bits_name)
      (λ x differ. All-contains (Differ x) (bits_names (tile_bits tile)) bits_name differ there) (matrix_names tile) across)
      ∙ wire_there (tile_bits tile) some
