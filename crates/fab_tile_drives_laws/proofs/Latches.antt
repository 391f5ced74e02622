-- The module of a tile's configuration bits shows them in their order.
use Rattle.std.proofs.Common.{◌≡◌, ℕ, zero, suc, ◌<◌, Bool, true, false, List, [], ◌∷◌, ◌++◌, reverse, refl, sym, ap, ◌∙◌, inl, inr, arith, Some, Contains, append-nil, append_assoc}
use Rattle.std.specs.Str.{bytes_eq}
use Rattle.std.proofs.lemmas.Bool.{cases_Bool}
use Rattle.std.proofs.lemmas.List.{reverse-append}
use Rattle.std.proofs.lemmas.List.Elements.{Contains-append_right}
use Rattle.std.proofs.lemmas.Slice.Eq.{bytes_eq-Decides}
use Rattle.fab_bits.specs.Bits.{first_bits}
use Rattle.fab_bits.proofs.Numbers.{get_first_bits}
use Rattle.fab_gen_tile.specs.fab_syntax.specs.declared.tree.Shape.TheVariants.{Scalar}
use Rattle.fab_gen_tile.specs.fab_syntax.specs.Plain.{PlainExpr, PlainItem, PlainModule, variable, plain_exprs, reg, assign}
use Rattle.fab_gen_tile.specs.fab_syntax.specs.Declarations.{width_if_any, item_shape}
use Rattle.fab_gen_tile.specs.fab_meaning.specs.Value.{value, concatenated, bit_at}
use Rattle.fab_gen_tile.specs.fab_meaning.specs.Points.{Path, point, module_at}
use Rattle.fab_gen_tile.specs.fab_meaning.specs.Settled.{Assignment, names_at}
use Rattle.fab_gen_tile.specs.fab_meaning.proofs.Declared.{bits_of_name}
use Rattle.fab_gen_tile.specs.fab_meaning.specs.Ports.{config_name}
use Rattle.fab_gen_tile.specs.fab_model.specs.declared.mode.Mode.{Mode}
use Rattle.fab_gen_tile.specs.fab_model.specs.Tiles.{PlainTile, counted, tile_bits}
use Rattle.fab_gen_tile.specs.Names.{latch_name}
use Rattle.fab_gen_tile.specs.ConfigModule.{keeping_items, config_items, all_latches, config_module}
use Rattle.fab_tile_drives_laws.proofs.Members.{contains_first}
use Rattle.fab_tile_drives_laws.proofs.Modes.{bits_port, register_behind}
use Rattle.fab_tile_drives_laws.proofs.Driven.{width_of}

-- ---- widths

registers : (n : ℕ) (f : ℕ → List ℕ) (items : List PlainItem) (bit : ℕ) → bit < n → item_shape (counted n (λ i. reg Scalar (f i)) ++ items) (f bit) ≡ Some Scalar
unfolding counted
registers zero f items bit few = absurd (omega arith)
registers (suc n) f items zero few =
    let here : bytes_eq (f 0) (f 0) ≡ true = (bytes_eq-Decides (f 0) (f 0)).1 refl in
    rw here refl
registers (suc n) f items (suc bit) few =
    elim (cases_Bool (bytes_eq (f 0) (f (suc bit)))) [
      | inl t ↦ rw t refl
      | inr f' ↦ rw f' (registers n (λ i. f (suc i)) items bit (omega arith))
    ]

pub latch_width : (mode : Mode) (tile : PlainTile) (bit : ℕ) → bit < tile_bits tile → width_of (config_module mode tile) (latch_name bit) ≡ 1
latch_width mode tile bit few = register_behind mode (tile_bits tile) bit (config_items mode tile) ∙ ap width_if_any (registers (tile_bits tile) latch_name _ bit few)

pub all_width : (mode : Mode) (tile : PlainTile) → width_of (config_module mode tile) config_name ≡ tile_bits tile
all_width mode tile = bits_port mode (tile_bits tile) (config_items mode tile)

-- ---- the value of all bits

parts_append : (names : List ℕ → List Bool) (xs ys : List PlainExpr) →
    concatenated names (plain_exprs (xs ++ ys)) ≡ concatenated names (plain_exprs ys) ++ concatenated names (plain_exprs xs)
parts_append names [] ys = sym (append-nil (concatenated names (plain_exprs ys)))
parts_append names (x ∷ xs) ys =
    ap (λ bits. bits ++ value names x) (parts_append names xs ys)
    ∙ append_assoc (concatenated names (plain_exprs ys)) (concatenated names (plain_exprs xs)) (value names x)

-- parts of one bit each, the last of them first
reversed_parts : (names : List ℕ → List Bool) (n : ℕ) (f : ℕ → PlainExpr) (g : ℕ → Bool) → ((i : ℕ) → i < n → value names (f i) ≡ g i ∷ []) →
    concatenated names (plain_exprs (reverse (counted n f))) ≡ first_bits n g
unfolding counted
reversed_parts names zero f g each = refl
reversed_parts names (suc n) f g each =
    let later = counted n (λ i. f (suc i)) in
    let rest : concatenated names (plain_exprs (reverse later)) ≡ first_bits n (λ i. g (suc i)) =
    reversed_parts names n (λ i. f (suc i)) (λ i. g (suc i)) (λ i few. each (suc i) (omega arith)) in
    let here : value names (f 0) ≡ g 0 ∷ [] = each 0 (omega arith) in
    ap (λ es. concatenated names (plain_exprs es)) (reverse-append (f 0 ∷ []) later)
    ∙ parts_append names (reverse later) (f 0 ∷ [])
    ∙ (λ j. here j ++ rest j)

module _ (mode : Mode) (text : List PlainModule) (now : Assignment) (path : Path) (tile : PlainTile) (stands : module_at text path ≡ Some (config_module mode tile)) where
  latch_seen : (bit : ℕ) → bit < tile_bits tile → value (names_at text now path) (variable (latch_name bit)) ≡ now (point path (latch_name bit) 0) ∷ []
  latch_seen bit few = bits_of_name text now path (config_module mode tile) (latch_name bit) 1 stands (latch_width mode tile bit few)

  pub latches_seen : (bit : ℕ) → bit < tile_bits tile → bit_at (value (names_at text now path) (all_latches (tile_bits tile))) bit ≡ now (point path (latch_name bit) 0)
  latches_seen bit few =
      ap (λ bits. bit_at bits bit)
      (reversed_parts (names_at text now path) (tile_bits tile) (λ bit. variable (latch_name bit)) (λ bit. now (point path (latch_name bit) 0)) latch_seen)
      ∙ get_first_bits (tile_bits tile) (λ bit. now (point path (latch_name bit) 0)) bit false few

-- the assign of all bits
pub all_there : (mode : Mode) (tile : PlainTile) → Contains (config_module mode tile).items (assign config_name (all_latches (tile_bits tile)))
all_there mode tile =
    let item = assign config_name (all_latches (tile_bits tile)) in
    Contains-append_right (counted (tile_bits tile) (λ bit. reg Scalar (latch_name bit))) (keeping_items mode tile ++ item ∷ []) item
    (Contains-append_right (keeping_items mode tile) (item ∷ []) item (contains_first item []))
