-- A printed text that a file can hold is narrow: no byte of it stands for more than 2 ^ 32 bits.
use Rattle.std.proofs.Common.{◌≡◌, ℕ, ◌+◌, ◌-◌, ◌*◌, ◌^◌, ◌<◌, ◌≤◌, Bool, true, false, List, [], ◌∷◌, ◌++◌, length, codes, decimal, reverse, map, All, Option, Some, None, if◌then◌else◌, length-append, arith, inl, inr}
use Rattle.std.specs.List.{flat_map}
use Rattle.std.specs.Str.{bytes_eq}
use Rattle.std.proofs.lemmas.Bool.{cases_Bool}
use Rattle.std.proofs.lemmas.List.Elements.{All-nil, All-cons, All-append}
use Rattle.fab_base.specs.declared.TheConstants.{MAX_FILE_BYTES}
use Rattle.fab_syntax.specs.declared.tree.Op.{Op}
use Rattle.fab_syntax.specs.declared.tree.Op.TheVariants.{And, Or, Xor, Equal, Minus}
use Rattle.fab_syntax.specs.declared.tree.Shape.{Shape}
use Rattle.fab_syntax.specs.declared.tree.Shape.TheVariants.{Scalar, Vector}
use Rattle.fab_syntax.specs.declared.tree.Port.{Port}
use Rattle.fab_syntax.specs.Plain.{PlainExpr, PlainExprs, PlainJoin, PlainItem, PlainModule, constant, variable, pick, part, concatenation, complement, operation, conditional, none, more, wire, reg, assign, latch, clocked, instance}
use Rattle.fab_syntax.specs.Declarations.{width, item_shape, width_if_any, declared_width}
use Rattle.fab_syntax.specs.Sound.{expression_width, parts_width, subexpressions, parts_subexpressions, joined_expressions, item_expressions, width_of_name, Every}
use Rattle.fab_syntax.specs.Spelling.{digit, constant_text, op_text, select_text, opening, closing, comma, expr_text, exprs_text, joined_text, join_text, joins_text, latch_head, clocked_head, update_text, ports_text, item_text, items_text, module_text, text_bytes}
use Rattle.fab_sound.specs.Narrow.{AreNarrow, IsNarrow}
use Rattle.fab_grammar_defs.specs.Printable.{IsWritten, AreWritten, IsShape, ArePorts, IsJoined, AreJoins, IsItem, AreItems, AreModules}

-- ---- names

shape_small : (shape : Shape) → IsShape shape → width shape ≤ 4294967296
shape_small Scalar is = omega arith
shape_small (Vector n) is = omega (arith, is.1)

items_small : (items : List PlainItem) (name : List ℕ) → AreItems items → width_if_any (item_shape items name) ≤ 4294967296
items_small [] name are = omega arith
items_small (wire shape other ∷ items) name are = elim (cases_Bool (bytes_eq other name)) [
  | inl t ↦ rw t (shape_small shape are.0.0)
  | inr f ↦ rw f (items_small items name are.1)
]
items_small (reg shape other ∷ items) name are = elim (cases_Bool (bytes_eq other name)) [
  | inl t ↦ rw t (shape_small shape are.0.0)
  | inr f ↦ rw f (items_small items name are.1)
]
items_small (assign target value ∷ items) name are = items_small items name are.1
items_small (latch target gate value ∷ items) name are = items_small items name are.1
items_small (clocked clock target value ∷ items) name are = items_small items name are.1
items_small (instance module_name i joins ∷ items) name are = items_small items name are.1

names_small : (ports : List Port) (items : List PlainItem) (name : List ℕ) → ArePorts ports → AreItems items → declared_width ports items name ≤ 4294967296
names_small [] items name are there = items_small items name there
names_small (port ∷ ports) items name are there = elim (cases_Bool (bytes_eq port.name name)) [
  | inl t ↦ rw t (shape_small port.shape are.0.0)
  | inr f ↦ rw f (names_small ports items name are.1 there)
]

-- ---- expressions

op_some : (op : Op) → 0 < length (op_text op)
op_some And = omega arith
op_some Or = omega arith
op_some Xor = omega arith
op_some Equal = omega arith
op_some Minus = omega arith

-- what stands before and behind
before : (a b : List ℕ) (n : ℕ) → length (a ++ b) ≤ n → length a ≤ n
before a b n fits = let long = length-append a b in omega (arith, fits, long)

behind : (a b : List ℕ) (n : ℕ) → length (a ++ b) ≤ n → length b ≤ n
behind a b n fits = let long = length-append a b in omega (arith, fits, long)

-- wide enough for a text and more
on : (wide : ℕ) (a b : List ℕ) → wide ≤ 4294967296 * length a → wide ≤ 4294967296 * length (a ++ b)
on wide a b fits = let long = length-append a b in omega (arith, fits, long)

after : (wide : ℕ) (a b : List ℕ) → wide ≤ 4294967296 * length b → wide ≤ 4294967296 * length (a ++ b)
after wide a b fits = let long = length-append a b in omega (arith, fits, long)

module _ (names : List ℕ → ℕ) (few : (name : List ℕ) → names name ≤ 4294967296) where
  -- what an operator gives is no wider than what it takes, or one bit
  of_operation : (op : Op) (a b : PlainExpr) (text : List ℕ) → 0 < length text → expression_width names a ≤ 4294967296 * length text →
      expression_width names (operation op a b) ≤ 4294967296 * length text
  of_operation And a b text some fits = fits
  of_operation Or a b text some fits = fits
  of_operation Xor a b text some fits = fits
  of_operation Equal a b text some fits = omega (arith, some)
  of_operation Minus a b text some fits = fits

  mutual
    bound : (operand : Bool) (e : PlainExpr) → IsWritten e → expression_width names e ≤ 4294967296 * length (expr_text operand e)
    bound operand (constant bits) written =
        let most = written.1 in after (length bits) (decimal (length bits)) (codes "'b" ++ reverse (map digit bits)) (on (length bits) (codes "'b") (reverse (map digit bits)) (omega (arith, most)))
    bound operand (variable name) written = let most = few name in let some = written.some in omega (arith, most, some)
    bound operand (pick name index) written = let some = written.0.some in on 1 name (codes "[" ++ (expr_text false index ++ codes "]")) (omega (arith, some))
    bound operand (part name high low) written =
        let some = written.0.some in let most = written.1 in on ((high + 1) - low) name (codes "[" ++ (select_text high low ++ codes "]")) (omega (arith, some, most))
    bound operand (concatenation es) written =
        let wide = parts_width names es in after wide (codes "{") (exprs_text true es ++ codes "}") (on wide (exprs_text true es) (codes "}") (bound_parts true es written.1))
    bound operand (complement e) written =
        let wide = expression_width names e in
        after wide (opening operand) (codes "~" ++ (expr_text true e ++ closing operand))
        (after wide (codes "~") (expr_text true e ++ closing operand) (on wide (expr_text true e) (closing operand) (bound true e written)))
    bound operand (operation op a b) written =
        let wide = expression_width names a in
        let rest = op_text op ++ (expr_text true b ++ closing operand) in
        let fits = after wide (opening operand) (expr_text true a ++ rest) (on wide (expr_text true a) rest (bound true a written.0)) in
        let some = after 1 (opening operand) (expr_text true a ++ rest) (after 1 (expr_text true a) rest (on 1 (op_text op) (expr_text true b ++ closing operand) (omega (arith, op_some op)))) in
        of_operation op a b (opening operand ++ (expr_text true a ++ rest)) (omega (arith, some)) fits
    bound operand (conditional c a b) written =
        let wide = expression_width names a in
        let last = codes " : " ++ (expr_text true b ++ closing operand) in
        after wide (opening operand) (expr_text true c ++ (codes " ? " ++ (expr_text true a ++ last)))
        (after wide (expr_text true c) (codes " ? " ++ (expr_text true a ++ last)) (after wide (codes " ? ") (expr_text true a ++ last) (on wide (expr_text true a) last (bound true a written.1))))

    bound_parts : (first : Bool) (es : PlainExprs) → AreWritten es → parts_width names es ≤ 4294967296 * length (exprs_text first es)
    bound_parts first none written = omega arith
    bound_parts first (more e es) written =
        let here = bound false e written.0 in
        let later = bound_parts false es written.1 in
        let long = length-append (expr_text false e) (exprs_text false es) in
        after (expression_width names e + parts_width names es) (comma first) (expr_text false e ++ exprs_text false es) (omega (arith, here, later, long))

  -- ---- all that is in them

  module _ (n : ℕ) (short : n ≤ MAX_FILE_BYTES) where
    abbrev Small : PlainExpr → Type 0
    Small e = expression_width names e < 2 ^ 64

    small : (operand : Bool) (e : PlainExpr) → IsWritten e → length (expr_text operand e) ≤ n → Small e
    small operand e written fits = let wide = bound operand e written in omega (arith, wide, fits, short)

    mutual
      every : (operand : Bool) (e : PlainExpr) → IsWritten e → length (expr_text operand e) ≤ n → Every Small e
      every operand (constant bits) written fits = All-cons Small (constant bits) [] (small operand (constant bits) written fits) (All-nil Small)
      every operand (variable name) written fits = All-cons Small (variable name) [] (small operand (variable name) written fits) (All-nil Small)
      every operand (pick name index) written fits =
          let inside = behind (codes "[") (expr_text false index ++ codes "]") n (behind name (codes "[" ++ (expr_text false index ++ codes "]")) n fits) in
          All-cons Small (pick name index) (subexpressions index) (small operand (pick name index) written fits) (every false index written.1 (before (expr_text false index) (codes "]") n inside))
      every operand (part name high low) written fits = All-cons Small (part name high low) [] (small operand (part name high low) written fits) (All-nil Small)
      every operand (concatenation es) written fits =
          let inside = before (exprs_text true es) (codes "}") n (behind (codes "{") (exprs_text true es ++ codes "}") n fits) in
          All-cons Small (concatenation es) (parts_subexpressions es) (small operand (concatenation es) written fits) (every_part true es written.1 inside)
      every operand (complement e) written fits =
          let inside = behind (codes "~") (expr_text true e ++ closing operand) n (behind (opening operand) (codes "~" ++ (expr_text true e ++ closing operand)) n fits) in
          All-cons Small (complement e) (subexpressions e) (small operand (complement e) written fits) (every true e written (before (expr_text true e) (closing operand) n inside))
      every operand (operation op a b) written fits =
          let last = expr_text true b ++ closing operand in
          let inside = behind (opening operand) (expr_text true a ++ (op_text op ++ last)) n fits in
          let second = behind (op_text op) last n (behind (expr_text true a) (op_text op ++ last) n inside) in
          All-cons Small (operation op a b) (subexpressions a ++ subexpressions b) (small operand (operation op a b) written fits)
          (All-append Small (subexpressions a) (subexpressions b) (every true a written.0 (before (expr_text true a) (op_text op ++ last) n inside))
          (every true b written.1 (before (expr_text true b) (closing operand) n second)))
      every operand (conditional c a b) written fits =
          let last = expr_text true b ++ closing operand in
          let middle = expr_text true a ++ (codes " : " ++ last) in
          let inside = behind (opening operand) (expr_text true c ++ (codes " ? " ++ middle)) n fits in
          let second = behind (codes " ? ") middle n (behind (expr_text true c) (codes " ? " ++ middle) n inside) in
          let third = behind (codes " : ") last n (behind (expr_text true a) (codes " : " ++ last) n second) in
          All-cons Small (conditional c a b) (subexpressions c ++ (subexpressions a ++ subexpressions b)) (small operand (conditional c a b) written fits)
          (All-append Small (subexpressions c) (subexpressions a ++ subexpressions b) (every true c written.0 (before (expr_text true c) (codes " ? " ++ middle) n inside))
          (All-append Small (subexpressions a) (subexpressions b) (every true a written.1 (before (expr_text true a) (codes " : " ++ last) n second))
          (every true b written.2 (before (expr_text true b) (closing operand) n third))))

      every_part : (first : Bool) (es : PlainExprs) → AreWritten es → length (exprs_text first es) ≤ n → All Small (parts_subexpressions es)
      every_part first none written fits = All-nil Small
      every_part first (more e es) written fits =
          let inside = behind (comma first) (expr_text false e ++ exprs_text false es) n fits in
          All-append Small (subexpressions e) (parts_subexpressions es) (every false e written.0 (before (expr_text false e) (exprs_text false es) n inside))
          (every_part false es written.1 (behind (expr_text false e) (exprs_text false es) n inside))

    -- ---- items

    of_option : (to : Option PlainExpr) → IsJoined to → length (joined_text to) ≤ n → All (Every Small) (joined_expressions to)
    of_option None is fits = All-nil (Every Small)
    of_option (Some e) is fits = All-cons (Every Small) e [] (every false e is.0 fits) (All-nil (Every Small))

    of_joins : (first : Bool) (joins : List PlainJoin) → AreJoins joins → length (joins_text first joins) ≤ n → All (Every Small) (flat_map (λ join. joined_expressions join.to) joins)
    of_joins first [] are fits = All-nil (Every Small)
    of_joins first (join ∷ joins) are fits =
        let inside = behind (comma first) (join_text join ++ joins_text false joins) n fits in
        let own = behind (codes ".") (join.port ++ (codes "(" ++ (joined_text join.to ++ codes ")"))) n (before (join_text join) (joins_text false joins) n inside) in
        let bracketed = behind (codes "(") (joined_text join.to ++ codes ")") n (behind join.port (codes "(" ++ (joined_text join.to ++ codes ")")) n own) in
        All-append (Every Small) (joined_expressions join.to) (flat_map (λ join. joined_expressions join.to) joins) (of_option join.to are.0.1 (before (joined_text join.to) (codes ")") n bracketed))
        (of_joins false joins are.1 (behind (join_text join) (joins_text false joins) n inside))

    -- the value of an update
    of_update : (target arrow : List ℕ) (value : PlainExpr) → length (update_text target arrow value) ≤ n → length (expr_text false value) ≤ n
    of_update target arrow value fits =
        before (expr_text false value) (codes ";") n (behind arrow (expr_text false value ++ codes ";") n (behind target (arrow ++ (expr_text false value ++ codes ";")) n fits))

    of_item : (item : PlainItem) → IsItem item → length (item_text item) ≤ n → All (Every Small) (item_expressions item)
    of_item (wire shape name) is fits = All-nil (Every Small)
    of_item (reg shape name) is fits = All-nil (Every Small)
    of_item (assign target value) is fits =
        All-cons (Every Small) value [] (every false value is.1.0 (of_update target (codes " = ") value (behind (codes "assign ") (update_text target (codes " = ") value) n fits))) (All-nil (Every Small))
    of_item (latch target gate value) is fits =
        let update = update_text target (codes " = ") value in
        let inside = behind latch_head (expr_text false gate ++ (codes ") " ++ update)) n fits in
        let last = behind (codes ") ") update n (behind (expr_text false gate) (codes ") " ++ update) n inside) in
        All-cons (Every Small) gate (value ∷ []) (every false gate is.1.0 (before (expr_text false gate) (codes ") " ++ update) n inside))
        (All-cons (Every Small) value [] (every false value is.2.0 (of_update target (codes " = ") value last)) (All-nil (Every Small)))
    of_item (clocked clock target value) is fits =
        let update = update_text target (codes " <= ") value in
        let last = behind (codes ") ") update n (behind clock (codes ") " ++ update) n (behind clocked_head (clock ++ (codes ") " ++ update)) n fits)) in
        All-cons (Every Small) value [] (every false value is.2.0 (of_update target (codes " <= ") value last)) (All-nil (Every Small))
    of_item (instance module_name name joins) is fits =
        let last = joins_text true joins ++ codes ");" in
        let named = behind (codes " ") (name ++ (codes " (" ++ last)) n (behind module_name (codes " " ++ (name ++ (codes " (" ++ last))) n fits) in
        let opened = behind (codes " (") last n (behind name (codes " (" ++ last) n named) in
        of_joins true joins is.3 (before (joins_text true joins) (codes ");") n opened)

    of_items : (items : List PlainItem) → AreItems items → length (items_text items) ≤ n → All (λ item. All (Every Small) (item_expressions item)) items
    of_items [] are fits = All-nil (λ item. All (Every Small) (item_expressions item))
    of_items (item ∷ items) are fits =
        let rest = codes "\n" ++ items_text items in
        let inside = behind (codes "  ") (item_text item ++ rest) n fits in
        All-cons (λ item. All (Every Small) (item_expressions item)) item items (of_item item are.0 (before (item_text item) rest n inside))
        (of_items items are.1 (behind (codes "\n") (items_text items) n (behind (item_text item) rest n inside)))

-- ---- texts

pub narrow_text : (text : List PlainModule) → AreModules text → length (text_bytes text) ≤ MAX_FILE_BYTES → AreNarrow text
narrow_text [] are short = All-nil (λ (m : PlainModule). All (λ item. All (Every (IsNarrow m)) (item_expressions item)) m.items)
narrow_text (m ∷ ms) are short =
    let here = before (module_text m) (text_bytes ms) MAX_FILE_BYTES short in
    let last = items_text m.items ++ codes "endmodule\n" in
    let ported = behind (codes " (\n") (ports_text m.ports ++ (codes ");\n" ++ last)) MAX_FILE_BYTES
    (behind m.name (codes " (\n" ++ (ports_text m.ports ++ (codes ");\n" ++ last))) MAX_FILE_BYTES
    (behind (codes "module ") (m.name ++ (codes " (\n" ++ (ports_text m.ports ++ (codes ");\n" ++ last)))) MAX_FILE_BYTES here)) in
    let items = before (items_text m.items) (codes "endmodule\n") MAX_FILE_BYTES (behind (codes ");\n") last MAX_FILE_BYTES (behind (ports_text m.ports) (codes ");\n" ++ last) MAX_FILE_BYTES ported)) in
    All-cons (λ (m : PlainModule). All (λ item. All (Every (IsNarrow m)) (item_expressions item)) m.items) m ms
    (of_items (width_of_name m) (λ name. names_small m.ports m.items name are.0.1 are.0.2) MAX_FILE_BYTES (omega arith) m.items are.0.2 items)
    (narrow_text ms are.1 (behind (module_text m) (text_bytes ms) MAX_FILE_BYTES short))
