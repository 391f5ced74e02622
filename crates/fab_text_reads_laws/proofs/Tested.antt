-- A test of texts that are written out, which computes.
use Rattle.std.proofs.Common.{◌≡◌, ◌<◌, ◌≤◌, ℕ, Bool, true, false, ◌&&◌, List, [], ◌∷◌, length, refl, arith, Option, Some, None}
use Rattle.std.specs.Prelude.{not, is_none, nat_le, nat_lt}
use Rattle.std.specs.List.{list_all}
use Rattle.std.proofs.lemmas.Bool.Decides.{nat_tests}
use Rattle.fab_syntax.specs.declared.tree.Shape.{Shape}
use Rattle.fab_syntax.specs.declared.tree.Shape.TheVariants.{Scalar, Vector}
use Rattle.fab_syntax.specs.declared.tree.Port.{Port}
use Rattle.fab_syntax.specs.Plain.{PlainExpr, PlainExprs, PlainItem, PlainModule, constant, variable, pick, part, concatenation, complement, operation, conditional, none, more, wire, reg, assign, latch, clocked, instance}
use Rattle.fab_tokens.specs.declared.token.Keyword.{Keyword}
use Rattle.fab_tokens.specs.Literals.{is_word_byte, max_number}
use Rattle.fab_tokens.specs.Tokens.{IsIdentifier, begins_with_digit, keyword_of}
use Rattle.fab_grammar_defs.specs.Printable.{IsWritten, AreWritten, HasPart, IsPrintable, IsShape, ArePorts, IsItem, AreItems, IsModule, nested}
use Rattle.fab_text_reads_laws.proofs.Words.{parts_true}

abbrev pub is_name : List ℕ → Bool
is_name name = nat_lt 0 (length name) && (list_all is_word_byte name && (not (begins_with_digit name) && is_none (keyword_of name)))

abbrev mutual
  pub is_written : PlainExpr → Bool
  is_written (constant bits) = nat_lt 0 (length bits) && nat_le (length bits) 128
  is_written (variable name) = is_name name
  is_written (pick name index) = is_name name && is_written index
  is_written (part name high low) = is_name name && (nat_le high max_number && nat_le low max_number)
  is_written (concatenation es) = has_part es && are_written es
  is_written (complement e) = is_written e
  is_written (operation op a b) = is_written a && is_written b
  is_written (conditional c a b) = is_written c && (is_written a && is_written b)

  pub are_written : PlainExprs → Bool
  are_written none = true
  are_written (more e es) = is_written e && are_written es

  pub has_part : PlainExprs → Bool
  has_part none = false
  has_part (more e es) = true

abbrev pub is_printable : PlainExpr → Bool
is_printable e = is_written e && nat_le (nested false e) 300

abbrev pub is_shape : Shape → Bool
is_shape Scalar = true
is_shape (Vector width) = nat_lt 0 width && nat_le width 4294967295

abbrev pub are_ports : List Port → Bool
are_ports [] = true
are_ports (port ∷ ports) = (is_shape port.shape && is_name port.name) && are_ports ports

-- an instance has no place in the texts that are tested
abbrev pub is_item : PlainItem → Bool
is_item (wire shape name) = is_shape shape && is_name name
is_item (reg shape name) = is_shape shape && is_name name
is_item (assign target value) = is_name target && is_printable value
is_item (latch target gate value) = is_name target && (is_printable gate && is_printable value)
is_item (clocked clock target value) = is_name clock && (is_name target && is_printable value)
is_item (instance module_name name joins) = false

abbrev pub are_items : List PlainItem → Bool
are_items [] = true
are_items (item ∷ items) = is_item item && are_items items

abbrev pub is_module : PlainModule → Bool
is_module m = is_name m.name && (are_ports m.ports && are_items m.items)

-- ---- what the test tells

below : (m n : ℕ) → nat_lt m n ≡ true → m < n
below m n is = grind (arith, nat_tests)

up_to : (m n : ℕ) → nat_le m n ≡ true → m ≤ n
up_to m n is = grind (arith, nat_tests)

no_digit : (b : Bool) → not b ≡ true → b ≡ false
no_digit true is = absurd cc
no_digit false is = refl

none_is : (found : Option Keyword) → is_none found ≡ true → found ≡ None
none_is None is = refl
none_is (Some keyword) is = absurd cc

pub name_of : (name : List ℕ) → is_name name ≡ true → IsIdentifier name
name_of name is =
    let one = parts_true (nat_lt 0 (length name)) _ is in
    let two = parts_true (list_all is_word_byte name) _ one.1 in
    let three = parts_true (not (begins_with_digit name)) (is_none (keyword_of name)) two.1 in
    record { some = below 0 (length name) one.0; bytes = two.0; first = no_digit (begins_with_digit name) three.0; free = none_is (keyword_of name) three.1 }

mutual
  pub written_of : (e : PlainExpr) → is_written e ≡ true → IsWritten e
  written_of (constant bits) is = let one = parts_true (nat_lt 0 (length bits)) _ is in (below 0 (length bits) one.0, up_to (length bits) 128 one.1)
  written_of (variable name) is = name_of name is
  written_of (pick name index) is = let one = parts_true (is_name name) (is_written index) is in (name_of name one.0, written_of index one.1)
  written_of (part name high low) is =
      let one = parts_true (is_name name) _ is in
      let two = parts_true (nat_le high max_number) _ one.1 in
      (name_of name one.0, up_to high max_number two.0, up_to low max_number two.1)
  written_of (concatenation es) is = let one = parts_true (has_part es) (are_written es) is in (part_of es one.0, all_written es one.1)
  written_of (complement e) is = written_of e is
  written_of (operation op a b) is = let one = parts_true (is_written a) (is_written b) is in (written_of a one.0, written_of b one.1)
  written_of (conditional c a b) is =
      let one = parts_true (is_written c) _ is in
      let two = parts_true (is_written a) (is_written b) one.1 in
      (written_of c one.0, written_of a two.0, written_of b two.1)

  all_written : (es : PlainExprs) → are_written es ≡ true → AreWritten es
  all_written none is = tt
  all_written (more e es) is = let one = parts_true (is_written e) (are_written es) is in (written_of e one.0, all_written es one.1)

  part_of : (es : PlainExprs) → has_part es ≡ true → HasPart es
  part_of none is = absurd cc
  part_of (more e es) is = tt

pub printable_of : (e : PlainExpr) → is_printable e ≡ true → IsPrintable e
printable_of e is = let one = parts_true (is_written e) _ is in (written_of e one.0, up_to (nested false e) 300 one.1)

shape_of : (shape : Shape) → is_shape shape ≡ true → IsShape shape
shape_of Scalar is = tt
shape_of (Vector width) is = let one = parts_true (nat_lt 0 width) _ is in (below 0 width one.0, up_to width 4294967295 one.1)

pub tested_ports : (ports : List Port) → are_ports ports ≡ true → ArePorts ports
tested_ports [] is = tt
tested_ports (port ∷ ports) is =
    let one = parts_true (is_shape port.shape && is_name port.name) (are_ports ports) is in
    let two = parts_true (is_shape port.shape) (is_name port.name) one.0 in
    ((shape_of port.shape two.0, name_of port.name two.1), tested_ports ports one.1)

pub tested_item : (item : PlainItem) → is_item item ≡ true → IsItem item
tested_item (wire shape name) is = let one = parts_true (is_shape shape) (is_name name) is in (shape_of shape one.0, name_of name one.1)
tested_item (reg shape name) is = let one = parts_true (is_shape shape) (is_name name) is in (shape_of shape one.0, name_of name one.1)
tested_item (assign target value) is = let one = parts_true (is_name target) (is_printable value) is in (name_of target one.0, printable_of value one.1)
tested_item (latch target gate value) is =
    let one = parts_true (is_name target) _ is in
    let two = parts_true (is_printable gate) (is_printable value) one.1 in
    (name_of target one.0, printable_of gate two.0, printable_of value two.1)
tested_item (clocked clock target value) is =
    let one = parts_true (is_name clock) _ is in
    let two = parts_true (is_name target) (is_printable value) one.1 in
    (name_of clock one.0, name_of target two.0, printable_of value two.1)
tested_item (instance module_name name joins) is = absurd cc

tested_items : (items : List PlainItem) → are_items items ≡ true → AreItems items
tested_items [] is = tt
tested_items (item ∷ items) is = let one = parts_true (is_item item) (are_items items) is in (tested_item item one.0, tested_items items one.1)

pub tested_module : (m : PlainModule) → is_module m ≡ true → IsModule m
tested_module m is =
    let one = parts_true (is_name m.name) _ is in
    let two = parts_true (are_ports m.ports) (are_items m.items) one.1 in
    (name_of m.name one.0, tested_ports m.ports two.0, tested_items m.items two.1)
