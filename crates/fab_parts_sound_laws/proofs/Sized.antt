-- Expressions whose names are known, whose selects and operands fit, and that are so many bits wide, built from such expressions.
use Rattle.std.proofs.Common.{◌≡◌, ℕ, zero, suc, ◌+◌, ◌-◌, ◌/◌, ◌<◌, ◌≤◌, List, length, refl, sym, ap, ◌∙◌, subst, Some, Contains}
use Rattle.fab_bits.specs.Bits.{digits}
use Rattle.fab_syntax.specs.declared.tree.Op.TheVariants.{And, Equal, Minus}
use Rattle.fab_syntax.specs.declared.tree.Shape.TheVariants.{Vector}
use Rattle.fab_syntax.specs.Declarations.{declared_shape}
use Rattle.fab_syntax.specs.Plain.{PlainExpr, PlainItem, PlainModule, constant, variable, part, complement, operation, conditional, wire, reg, assign, latch, clocked, instance}
use Rattle.fab_syntax.specs.Sound.{width_of, width_of_name, SelectFits, OperandsFit, IsVectorAnd, IsScalarInput}
use Rattle.fab_parts_sound_laws.proofs.Names.{OwnKnown}
use Rattle.fab_parts_sound_laws.proofs.Expressions.{Holds, holds_weaker}
use Rattle.fab_parts_sound_laws.proofs.Flat.{IsSized, ItemFits}
use Rattle.fab_parts_sound_laws.proofs.FlatNames.{UsesOnly}

pub length-digits : (width n : ℕ) → length (digits width n) ≡ width
length-digits zero n = refl
length-digits (suc width) n = ap suc (length-digits width (n / 2))

-- the names of a module's nets, and the module
module _ (names : List (List ℕ)) (m : PlainModule) where
  abbrev pub IsRight : PlainExpr → Type 0
  IsRight e = OwnKnown names e × SelectFits m e × OperandsFit m e

  abbrev pub Fits : (width : ℕ) → PlainExpr → Type 0
  Fits width e = Holds IsRight e × (width_of m e ≡ width)

  -- ---- expressions

  pub name_fits : (name : List ℕ) (width : ℕ) → Contains names name → width_of_name m name ≡ width → Fits width (variable name)
  name_fits name width there wide = ((there, tt, tt), wide)

  pub number_fits : (width n : ℕ) → Fits width (constant (digits width n))
  number_fits width n = ((tt, tt, tt), length-digits width n)

  -- the bits of a vector from one to another
  pub part_fits : (name : List ℕ) (high low of : ℕ) → Contains names name → declared_shape m.ports m.items name ≡ Some (Vector of) → low ≤ high → high < of → Fits (high + 1 - low) (part name high low)
  part_fits name high low of there is in_order within =
      ((there, subst (λ shape. IsVectorAnd shape (λ n. (low ≤ high) × (high < n))) (sym is) (in_order, within), tt), refl)

  pub not_fits : (width : ℕ) (e : PlainExpr) → Fits width e → Fits width (complement e)
  not_fits width e fits = (((tt, tt, tt), fits.0), fits.1)

  pub equal_fits : (width : ℕ) (a b : PlainExpr) → Fits width a → Fits width b → Fits 1 (operation Equal a b)
  equal_fits width a b of_a of_b = (((tt, tt, of_a.1 ∙ sym of_b.1), of_a.0, of_b.0), refl)

  pub and_fits : (width : ℕ) (a b : PlainExpr) → Fits width a → Fits width b → Fits width (operation And a b)
  and_fits width a b of_a of_b = (((tt, tt, of_a.1 ∙ sym of_b.1), of_a.0, of_b.0), of_a.1)

  pub minus_fits : (width : ℕ) (a b : PlainExpr) → Fits width a → Fits width b → Fits width (operation Minus a b)
  minus_fits width a b of_a of_b = (((tt, tt, of_a.1 ∙ sym of_b.1), of_a.0, of_b.0), of_a.1)

  pub choice_fits : (width : ℕ) (test first second : PlainExpr) → Fits 1 test → Fits width first → Fits width second → Fits width (conditional test first second)
  choice_fits width test first second of_test of_first of_second = (((tt, tt, (of_test.1, of_first.1 ∙ sym of_second.1)), of_test.0, of_first.0, of_second.0), of_first.1)

  -- ---- items

  -- an item that drives a net of so many bits
  abbrev pub DrivesAt : (width : ℕ) → PlainItem → Type 0
  DrivesAt width (assign target e) = Contains names target × (width_of_name m target ≡ width) × Fits width e
  DrivesAt width (clocked clock target e) = Contains names clock × IsScalarInput m clock × Contains names target × (width_of_name m target ≡ width) × Fits width e
  DrivesAt width _ = ⊥

  sized : (e : PlainExpr) → Holds IsRight e → Holds (IsSized m) e
  sized e right = holds_weaker IsRight (IsSized m) (λ sub is. (is.1, is.2)) e right

  known : (e : PlainExpr) → Holds IsRight e → Holds (OwnKnown names) e
  known e right = holds_weaker IsRight (OwnKnown names) (λ sub is. is.0) e right

  pub item_fits : (width : ℕ) (item : PlainItem) → DrivesAt width item → ItemFits m item
  item_fits width (wire shape name) drives = absurd drives
  item_fits width (reg shape name) drives = absurd drives
  item_fits width (assign target e) drives = (sized e drives.2.0, drives.1 ∙ sym drives.2.1)
  item_fits width (latch target gate e) drives = absurd drives
  item_fits width (clocked clock target e) drives = (sized e drives.4.0, drives.3 ∙ sym drives.4.1, drives.1)
  item_fits width (instance module_name i joins) drives = absurd drives

  pub item_uses : (width : ℕ) (item : PlainItem) → DrivesAt width item → UsesOnly names item
  item_uses width (wire shape name) drives = absurd drives
  item_uses width (reg shape name) drives = absurd drives
  item_uses width (assign target e) drives = (drives.0, known e drives.2.0)
  item_uses width (latch target gate e) drives = absurd drives
  item_uses width (clocked clock target e) drives = (drives.0, drives.2, known e drives.4.0)
  item_uses width (instance module_name i joins) drives = absurd drives
