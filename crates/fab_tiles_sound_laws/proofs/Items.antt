-- Items of a tile's module whose names are declared, and the rules on names, selects and widths that they keep.
use Rattle.std.proofs.Common.{◌≡◌, ℕ, ◌<◌, ◌≤◌, Bool, List, [], ◌∷◌, length, sym, ap, ◌∙◌, subst, Option, Some, None, All, Contains}
use Rattle.std.specs.List.{flat_map}
use Rattle.std.proofs.lemmas.List.Elements.{All-nil, All-cons, All-append, All-weaker}
use Rattle.fab_syntax.specs.declared.tree.Shape.{Shape}
use Rattle.fab_syntax.specs.declared.tree.Shape.TheVariants.{Scalar, Vector}
use Rattle.fab_syntax.specs.Plain.{PlainExpr, PlainJoin, PlainItem, constant, variable, pick, part, concatenation, complement, operation, conditional, wire, reg, assign, latch, clocked, instance}
use Rattle.fab_syntax.specs.Declarations.{width_if_any}
use Rattle.fab_syntax.specs.Sound.{instance_name, use_of, joined_expressions, uses, mentions_in, refusals, item_expressions, width_of, width_of_name, SelectFits, OperandsFit, SidesFit, Every, IsVectorAnd}
use Rattle.fab_model.specs.declared.mode.Mode.{Mode}
use Rattle.fab_model.specs.Tiles.{PlainTile, IsTile}
use Rattle.fab_parts_sound_laws.specs.fab_gen_tile_Words.{IsNamed}
use Rattle.fab_parts_sound_laws.specs.fab_gen_tile_TileModule.{tile_ports, tile_items, tile_module}
use Rattle.fab_parts_sound_laws.proofs.Names.{IsKnown, UsesNets, OwnKnown, uses_known, nets, names_fit}
use Rattle.fab_parts_sound_laws.proofs.Lists.{all_flat_map}
use Rattle.fab_tiles_sound_laws.proofs.Apart.{declarations, later_items, items_split, each_declaration, they_declare, all_apart}
use Rattle.fab_tiles_sound_laws.proofs.Shapes.{shape_of, whole_shape, known}

-- ---- what stands in a tile's items

-- one bit: a net, or a constant
abbrev pub IsBit : Mode → PlainTile → PlainExpr → Type 0
IsBit mode tile (variable name) = shape_of mode tile name ≡ Some Scalar
IsBit mode tile (constant bits) = length bits ≡ 1
IsBit mode tile _ = ⊥

-- a net, or some bits of one
abbrev pub IsOfNet : Mode → PlainTile → PlainExpr → Type 0
IsOfNet mode tile (variable name) = (shape : Shape) × (shape_of mode tile name ≡ Some shape)
IsOfNet mode tile (part name high low) = (bits : ℕ) × (shape_of mode tile name ≡ Some (Vector bits)) × (low ≤ high) × (high < bits)
IsOfNet mode tile _ = ⊥

abbrev pub JoinStands : Mode → PlainTile → Option PlainExpr → Type 0
JoinStands mode tile None = ⊥
JoinStands mode tile (Some e) = IsOfNet mode tile e

abbrev pub ItemStands : Mode → PlainTile → PlainItem → Type 0
ItemStands mode tile (assign target e) = (shape_of mode tile target ≡ Some Scalar) × IsBit mode tile e
ItemStands mode tile (instance module_name i joins) = All (λ (join : PlainJoin). JoinStands mode tile join.to) joins
ItemStands mode tile _ = ⊥

-- ---- names

module _ (mode : Mode) (tile : PlainTile) where
  abbrev tile_nets : List (List ℕ)
  tile_nets = nets (tile_ports mode tile) (declarations tile)

  is_net : (name : List ℕ) (shape : Shape) → shape_of mode tile name ≡ Some shape → Contains tile_nets name
  is_net name shape e = known (tile_ports mode tile) (declarations tile) name shape e

  only : (P : PlainExpr → Type 0) (e : PlainExpr) → P e → All P (e ∷ [])
  only P e holds = All-cons P e [] holds (All-nil P)

  -- What holds of constants and nets holds of a bit; what holds of nets and their parts holds of what is of a net.
  of_bit : (P : PlainExpr → Type 0) → ((bits : List Bool) → length bits ≡ 1 → P (constant bits)) → ((name : List ℕ) → shape_of mode tile name ≡ Some Scalar → P (variable name)) →
      (e : PlainExpr) → IsBit mode tile e → P e
  of_bit P of_constant of_name (constant bits) is = of_constant bits is
  of_bit P of_constant of_name (variable name) is = of_name name is
  of_bit P of_constant of_name (pick name index) is = absurd is
  of_bit P of_constant of_name (part name high low) is = absurd is
  of_bit P of_constant of_name (concatenation es) is = absurd is
  of_bit P of_constant of_name (complement e) is = absurd is
  of_bit P of_constant of_name (operation op a b) is = absurd is
  of_bit P of_constant of_name (conditional c a b) is = absurd is

  of_net : (P : PlainExpr → Type 0) → ((name : List ℕ) (shape : Shape) → shape_of mode tile name ≡ Some shape → P (variable name)) →
      ((name : List ℕ) (high low bits : ℕ) → shape_of mode tile name ≡ Some (Vector bits) → low ≤ high → high < bits → P (part name high low)) → (e : PlainExpr) → IsOfNet mode tile e → P e
  of_net P of_name of_part (constant bits) is = absurd is
  of_net P of_name of_part (variable name) is = of_name name is.0 is.1
  of_net P of_name of_part (pick name index) is = absurd is
  of_net P of_name of_part (part name high low) is = of_part name high low is.0 is.1 is.2 is.3
  of_net P of_name of_part (concatenation es) is = absurd is
  of_net P of_name of_part (complement e) is = absurd is
  of_net P of_name of_part (operation op a b) is = absurd is
  of_net P of_name of_part (conditional c a b) is = absurd is

  abbrev UsesKnown : PlainExpr → Type 0
  UsesKnown e = All (IsKnown tile_nets) (uses e)

  name_known : (name : List ℕ) (shape : Shape) → shape_of mode tile name ≡ Some shape → UsesKnown (variable name)
  name_known name shape e = uses_known tile_nets (variable name) (only (OwnKnown tile_nets) (variable name) (is_net name shape e))

  bit_known : (e : PlainExpr) → IsBit mode tile e → UsesKnown e
  bit_known = of_bit UsesKnown (λ bits one. All-nil (IsKnown tile_nets)) (λ name. name_known name Scalar)

  of_net_known : (e : PlainExpr) → IsOfNet mode tile e → UsesKnown e
  of_net_known =
      of_net UsesKnown name_known
      (λ name high low bits is order within. uses_known tile_nets (part name high low) (only (OwnKnown tile_nets) (part name high low) (is_net name (Vector bits) is)))

  join_known : (to : Option PlainExpr) → JoinStands mode tile to → All (IsKnown tile_nets) (flat_map uses (joined_expressions to))
  join_known None stands = absurd stands
  join_known (Some e) stands = all_flat_map (IsKnown tile_nets) uses (e ∷ []) (only (λ e. All (IsKnown tile_nets) (uses e)) e (of_net_known e stands))

  item_known : (item : PlainItem) → ItemStands mode tile item → UsesNets tile_nets item
  item_known (wire shape name) stands = absurd stands
  item_known (reg shape name) stands = absurd stands
  item_known (assign target e) stands = All-cons (IsKnown tile_nets) (use_of target) (uses e) (is_net target Scalar stands.0) (bit_known e stands.1)
  item_known (latch target gate e) stands = absurd stands
  item_known (clocked clock target e) stands = absurd stands
  item_known (instance module_name i joins) stands =
      All-cons (IsKnown tile_nets) (instance_name i) (flat_map (λ (join : PlainJoin). flat_map uses (joined_expressions join.to)) joins) tt
      (all_flat_map (IsKnown tile_nets) (λ (join : PlainJoin). flat_map uses (joined_expressions join.to)) joins
      (All-weaker (λ (join : PlainJoin). JoinStands mode tile join.to) (λ (join : PlainJoin). All (IsKnown tile_nets) (flat_map uses (joined_expressions join.to)))
      (λ join there. join_known join.to there) joins stands))

  -- ---- selects

  abbrev Selects : PlainExpr → Type 0
  Selects = SelectFits (tile_module mode tile)

  bit_selects : (e : PlainExpr) → IsBit mode tile e → Every Selects e
  bit_selects = of_bit (Every Selects) (λ bits one. only Selects (constant bits) tt) (λ name is. only Selects (variable name) tt)

  of_net_selects : (e : PlainExpr) → IsOfNet mode tile e → Every Selects e
  of_net_selects =
      of_net (Every Selects) (λ name shape is. only Selects (variable name) tt)
      (λ name high low bits is order within. only Selects (part name high low)
      (subst (λ shape. IsVectorAnd shape (λ n. (low ≤ high) × (high < n))) (sym (whole_shape mode tile name (Vector bits) is)) (order, within)))

  abbrev Operands : PlainExpr → Type 0
  Operands = OperandsFit (tile_module mode tile)

  bit_operands : (e : PlainExpr) → IsBit mode tile e → Every Operands e
  bit_operands = of_bit (Every Operands) (λ bits one. only Operands (constant bits) tt) (λ name is. only Operands (variable name) tt)

  of_net_operands : (e : PlainExpr) → IsOfNet mode tile e → Every Operands e
  of_net_operands =
      of_net (Every Operands) (λ name shape is. only Operands (variable name) tt) (λ name high low bits is order within. only Operands (part name high low) tt)

  join_each : (P : PlainExpr → Type 0) → ((e : PlainExpr) → IsOfNet mode tile e → P e) → (to : Option PlainExpr) → JoinStands mode tile to → All P (joined_expressions to)
  join_each P each None stands = absurd stands
  join_each P each (Some e) stands = only P e (each e stands)

  item_each : (P : PlainExpr → Type 0) → ((e : PlainExpr) → IsBit mode tile e → P e) → ((e : PlainExpr) → IsOfNet mode tile e → P e) →
      (item : PlainItem) → ItemStands mode tile item → All P (item_expressions item)
  item_each P of_bit of_net (wire shape name) stands = absurd stands
  item_each P of_bit of_net (reg shape name) stands = absurd stands
  item_each P of_bit of_net (assign target e) stands = only P e (of_bit e stands.1)
  item_each P of_bit of_net (latch target gate e) stands = absurd stands
  item_each P of_bit of_net (clocked clock target e) stands = absurd stands
  item_each P of_bit of_net (instance module_name i joins) stands =
      all_flat_map P (λ (join : PlainJoin). joined_expressions join.to) joins
      (All-weaker (λ (join : PlainJoin). JoinStands mode tile join.to) (λ (join : PlainJoin). All P (joined_expressions join.to)) (λ join there. join_each P of_net join.to there) joins stands)

  -- ---- widths

  pub width_is : (name : List ℕ) (shape : Shape) → shape_of mode tile name ≡ Some shape → width_of_name (tile_module mode tile) name ≡ width_if_any (Some shape)
  width_is name shape e = ap width_if_any (whole_shape mode tile name shape e)

  bit_wide : (e : PlainExpr) → IsBit mode tile e → width_of (tile_module mode tile) e ≡ 1
  bit_wide = of_bit (λ e. width_of (tile_module mode tile) e ≡ 1) (λ bits one. one) (λ name is. width_is name Scalar is)

  item_sides : (item : PlainItem) → ItemStands mode tile item → SidesFit (tile_module mode tile) item
  item_sides (wire shape name) stands = absurd stands
  item_sides (reg shape name) stands = absurd stands
  item_sides (assign target e) stands = width_is target Scalar stands.0 ∙ sym (bit_wide e stands.1)
  item_sides (latch target gate e) stands = absurd stands
  item_sides (clocked clock target e) stands = absurd stands
  item_sides (instance module_name i joins) stands = tt

  -- ---- the rules, where all later items stand

  -- what holds of wires and of items that stand
  each_item : (P : PlainItem → Type 0) → ((shape : Shape) (name : List ℕ) → P (wire shape name)) → ((item : PlainItem) → ItemStands mode tile item → P item) → All (ItemStands mode tile) (later_items mode tile) →
      All P (tile_items mode tile)
  each_item P of_wire of_item stand =
      subst (All P) (sym (items_split mode tile))
      (All-append P (declarations tile) (later_items mode tile) (each_declaration P of_wire tile) (All-weaker (ItemStands mode tile) P of_item (later_items mode tile) stand))

  pub names_stand : IsTile tile → IsNamed tile → All (ItemStands mode tile) (later_items mode tile) → refusals [] (mentions_in (tile_module mode tile)) ≡ []
  names_stand is named stand =
      names_fit (tile_module mode tile) (declarations tile) (later_items mode tile) (items_split mode tile) (they_declare tile) (all_apart mode tile is named)
      (All-weaker (ItemStands mode tile) (UsesNets tile_nets) item_known (later_items mode tile) stand)

  pub selects_stand : All (ItemStands mode tile) (later_items mode tile) → All (λ item. All (Every (SelectFits (tile_module mode tile))) (item_expressions item)) (tile_items mode tile)
  selects_stand stand =
      each_item (λ item. All (Every Selects) (item_expressions item)) (λ shape name. All-nil (Every Selects)) (item_each (Every Selects) bit_selects of_net_selects) stand

  pub widths_stand : All (ItemStands mode tile) (later_items mode tile) →
      All (λ item. All (Every (OperandsFit (tile_module mode tile))) (item_expressions item) × SidesFit (tile_module mode tile) item) (tile_items mode tile)
  widths_stand stand =
      each_item (λ item. All (Every Operands) (item_expressions item) × SidesFit (tile_module mode tile) item) (λ shape name. (All-nil (Every Operands), tt))
      (λ item there. (item_each (Every Operands) bit_operands of_net_operands item there, item_sides item there)) stand
