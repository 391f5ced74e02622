-- From the tests of expressions and items to the rules on a text.
use Rattle.std.proofs.Common.{◌≡◌, ℕ, ◌+◌, ◌^◌, ◌<◌, ◌≤◌, List, map, length, get_or, Option, Some, None, Bool, true, false, ◌&&◌, refl, sym, ap, ◌∙◌, subst, arith}
use Rattle.std.specs.Prelude.{nat_eq, nat_lt, nat_le, All, Result, Ok, Err, IfOk}
use Rattle.std.specs.List.{list_all}
use Rattle.std.proofs.lemmas.Bool.Decides.{nat_tests}
use Rattle.std.proofs.lemmas.List.{get_or-map, length-map}
use Rattle.std.proofs.lemmas.List.Elements.{All-map}
use Rattle.std.proofs.lemmas.List.Sums.{AllPass-from_list_all, list_all-from_AllPass}
use Rattle.fab_base.specs.declared.words.Reason.{Reason}
use Rattle.fab_syntax.specs.declared.tree.Op.TheVariants.{And, Or, Xor, Equal, Minus}
use Rattle.fab_syntax.specs.declared.tree.Shape.{Shape}
use Rattle.fab_syntax.specs.declared.tree.Shape.TheVariants.{Scalar, Vector}
use Rattle.fab_syntax.specs.Plain.{PlainExpr, PlainExprs, PlainItem, PlainModule, constant, variable, pick, part, concatenation, complement, operation, conditional, none, more, wire, reg, assign, latch, clocked, instance}
use Rattle.fab_syntax.specs.Declarations.{declared_shape, width_if_any}
use Rattle.fab_syntax.specs.Sound.{subexpressions, expression_width, parts_width, width_of_name, width_of, IsVectorAnd, SelectFits, OperandsFit, Every, SidesFit, item_expressions, SelectsFit, WidthsFit, IsFirstBroken}
use Rattle.fab_sound.specs.Narrow.{IsNarrow, AreNarrow}
use Rattle.fab_sound.specs.declared.sizes.Rule.TheVariants.{Selects, Widths}
use Rattle.fab_sound.specs.declared.tables.Known.{Known}
use Rattle.fab_sound.specs.declared.tables.Library.{Library}
use Rattle.fab_sound.specs.inner.Checks.{found, shape_declared, HasNets, known_module, library_text, IsLibrary, found_width, operand_widths, vector_width, picks_each, holds_part, select_passes, operands_pass, all_selects_pass, all_operands_pass, sides_pass, item_passes, module_passes, all_narrow, item_narrow, module_narrow}
use Rattle.fab_sound.proofs.Noting.{Names}
use Rattle.fab_sound.proofs.Nets.{found_shape}

-- ---- a test that says whether a fact holds

abbrev pub Says : Bool → Type 0 → Type 0
Says b P = (b ≡ true → P) × (P → b ≡ true)

says_unit : Says true (Unit {0})
says_unit = (λ h. tt, λ u. refl)

says_no : Says false ⊥
says_no = (λ h. cc, λ h. absurd h)

says_along : (a b : Bool) (P : Type 0) → a ≡ b → Says b P → Says a P
says_along a b P e h = (λ y. h.0 (sym e ∙ y), λ p. e ∙ h.1 p)

says_both : (a b : Bool) (P Q : Type 0) → Says a P → Says b Q → Says (a && b) (P × Q)
says_both true b P Q h k = (λ y. (h.0 refl, k.0 y), λ pq. k.1 pq.1)
says_both false b P Q h k = (λ y. cc, λ pq. h.1 pq.0)

says_alone : (a : Bool) (P : Type 0) → Says a P → Says (a && true) P
says_alone true P h = h
says_alone false P h = h

says_eq : (a b : ℕ) → Says (nat_eq a b) (a ≡ b)
says_eq a b = (λ h. grind (arith, nat_tests), λ h. grind (arith, nat_tests))

says_turned : (a b : ℕ) → Says (nat_eq a b) (b ≡ a)
says_turned a b = (λ h. grind (arith, nat_tests), λ h. grind (arith, nat_tests))

says_le : (a b : ℕ) → Says (nat_le a b) (a ≤ b)
says_le a b = (λ h. grind (arith, nat_tests), λ h. grind (arith, nat_tests))

says_lt : (a b : ℕ) → Says (nat_lt a b) (a < b)
says_lt a b = (λ h. grind (arith, nat_tests), λ h. grind (arith, nat_tests))

says_list : {X : Type 0} (p : X → Bool) (P : X → Type 0) (xs : List X) →
    ((k : ℕ) (d : X) → k < length xs → Says (p (get_or xs k d)) (P (get_or xs k d))) → Says (list_all p xs) (All P xs)
says_list {X} p P xs each = (
  λ h k d inside. (each k d inside).0 (AllPass-from_list_all p xs h k d inside),
  λ all. list_all-from_AllPass p xs (λ k d inside. (each k d inside).1 (all k d inside)),
)

says_map : {X Y : Type 0} (f : X → Y) (Q : Y → Type 0) (b : Bool) (xs : List X) → Says b (All (λ x. Q (f x)) xs) → Says b (All Q (map f xs))
says_map {X} {Y} f Q b xs h = (
  λ y. All-map Q f xs (h.0 y),
  λ all. h.1 (λ k d inside. subst Q (get_or-map f xs k d (f d) inside) (all k (f d) (subst (λ (n : ℕ). k < n) (sym (length-map xs f)) inside))),
)

-- what a test says, of a result
pub yes_of : (r : Bool) (b : Bool) (P : Type 0) → Says b P → r ≡ b → r ≡ true → P
yes_of r b P says is y = says.0 (sym is ∙ y)

pub no_of : (r : Bool) (b : Bool) (P : Type 0) → Says b P → r ≡ b → r ≡ false → ¬ P
no_of r b P says is n = λ p. let t : true ≡ false = sym (says.1 p) ∙ sym is ∙ n in cc

pub along_ok : {X E : Type 0} (r : Result X E) (A B : X → Type 0) → ((x : X) → A x → B x) → IfOk r A → IfOk r B
along_ok (Ok x) A B f h = f x h
along_ok (Err e) A B f h = tt

-- ---- widths by a map are those of the module

module _ (f g : List ℕ → ℕ) (same : (n : List ℕ) → f n ≡ g n) where
  mutual
    same_width : (e : PlainExpr) → expression_width f e ≡ expression_width g e
    same_width (constant bits) = refl
    same_width (variable name) = same name
    same_width (pick name index) = refl
    same_width (part name high low) = refl
    same_width (concatenation es) = same_parts es
    same_width (complement e) = same_width e
    same_width (operation And a b) = same_width a
    same_width (operation Or a b) = same_width a
    same_width (operation Xor a b) = same_width a
    same_width (operation Equal a b) = refl
    same_width (operation Minus a b) = same_width a
    same_width (conditional c a b) = same_width a

    same_parts : (es : PlainExprs) → parts_width f es ≡ parts_width g es
    same_parts none = refl
    same_parts (more e es) = ap (λ w. w + parts_width f es) (same_width e) ∙ ap (λ w. expression_width g e + w) (same_parts es)

pick_says : (o : Option Shape) (w : ℕ) → Says (picks_each (vector_width o) w) (IsVectorAnd o (λ n. 2 ^ w ≡ n))
pick_says None w = says_no
pick_says (Some Scalar) w = says_no
pick_says (Some (Vector n)) w = says_eq (2 ^ w) n

part_says : (o : Option Shape) (high low : ℕ) → Says (holds_part (vector_width o) high low) (IsVectorAnd o (λ n. (low ≤ high) × (high < n)))
part_says None high low = says_no
part_says (Some Scalar) high low = says_no
part_says (Some (Vector n)) high low = says_both (nat_le low high) (nat_lt high n) (low ≤ high) (high < n) (says_le low high) (says_lt high n)

module _ (S : Type 0) (names : Names S) (m : PlainModule) (has : HasNets names m) where
  name_is : (name : List ℕ) → found_width names name ≡ width_of_name m name
  name_is name = ap width_if_any (found_shape S names m has name)

  pub width_is : (e : PlainExpr) → expression_width (found_width names) e ≡ width_of m e
  width_is e = same_width (found_width names) (width_of_name m) name_is e

  select_says : (e : PlainExpr) → Says (select_passes names e (operand_widths (found_width names) e)) (SelectFits m e)
  select_says (constant bits) = says_unit
  select_says (variable name) = says_unit
  select_says (pick name index) =
      let shape : Option Shape = declared_shape m.ports m.items name in
      says_along (picks_each (vector_width (shape_declared (found names name))) (expression_width (found_width names) index)) (picks_each (vector_width shape) (width_of m index))
      (IsVectorAnd shape (λ n. 2 ^ width_of m index ≡ n))
      (ap (λ o. picks_each (vector_width o) (expression_width (found_width names) index)) (found_shape S names m has name) ∙ ap (picks_each (vector_width shape)) (width_is index))
      (pick_says shape (width_of m index))
  select_says (part name high low) =
      let shape : Option Shape = declared_shape m.ports m.items name in
      says_along (holds_part (vector_width (shape_declared (found names name))) high low) (holds_part (vector_width shape) high low)
      (IsVectorAnd shape (λ n. (low ≤ high) × (high < n)))
      (ap (λ o. holds_part (vector_width o) high low) (found_shape S names m has name)) (part_says shape high low)
  select_says (concatenation es) = says_unit
  select_says (complement e) = says_unit
  select_says (operation op a b) = says_unit
  select_says (conditional c a b) = says_unit

  equal_says : (a b : PlainExpr) → Says (nat_eq (expression_width (found_width names) a) (expression_width (found_width names) b)) (width_of m a ≡ width_of m b)
  equal_says a b =
      says_along (nat_eq (expression_width (found_width names) a) (expression_width (found_width names) b)) (nat_eq (width_of m a) (width_of m b)) (width_of m a ≡ width_of m b)
      (ap (λ w. nat_eq w (expression_width (found_width names) b)) (width_is a) ∙ ap (nat_eq (width_of m a)) (width_is b)) (says_eq (width_of m a) (width_of m b))

  one_says : (e : PlainExpr) → Says (nat_eq (expression_width (found_width names) e) 1) (width_of m e ≡ 1)
  one_says e =
      says_along (nat_eq (expression_width (found_width names) e) 1) (nat_eq (width_of m e) 1) (width_of m e ≡ 1) (ap (λ w. nat_eq w 1) (width_is e)) (says_eq (width_of m e) 1)

  target_says : (target : List ℕ) (e : PlainExpr) →
      Says (nat_eq (expression_width (found_width names) e) (found_width names target)) (width_of_name m target ≡ width_of m e)
  target_says target e =
      says_along (nat_eq (expression_width (found_width names) e) (found_width names target)) (nat_eq (width_of m e) (width_of_name m target))
      (width_of_name m target ≡ width_of m e)
      (ap (λ w. nat_eq w (found_width names target)) (width_is e) ∙ ap (nat_eq (width_of m e)) (name_is target)) (says_turned (width_of m e) (width_of_name m target))

  operands_says : (e : PlainExpr) → Says (operands_pass e (operand_widths (found_width names) e)) (OperandsFit m e)
  operands_says (constant bits) = says_unit
  operands_says (variable name) = says_unit
  operands_says (pick name index) = says_unit
  operands_says (part name high low) = says_unit
  operands_says (concatenation es) = says_unit
  operands_says (complement e) = says_unit
  operands_says (operation op a b) = equal_says a b
  operands_says (conditional c a b) = says_both _ _ (width_of m c ≡ 1) (width_of m a ≡ width_of m b) (one_says c) (equal_says a b)

  sides_says : (item : PlainItem) → Says (sides_pass (found_width names) item) (SidesFit m item)
  sides_says (wire shape name) = says_unit
  sides_says (reg shape name) = says_unit
  sides_says (assign target e) = target_says target e
  sides_says (latch target gate e) = says_both _ _ (width_of m gate ≡ 1) (width_of_name m target ≡ width_of m e) (one_says gate) (target_says target e)
  sides_says (clocked clock target e) = target_says target e
  sides_says (instance module_name i joins) = says_unit

  all_selects_says : (e : PlainExpr) → Says (all_selects_pass names e) (Every (SelectFits m) e)
  all_selects_says e =
      says_list (λ q. select_passes names q (operand_widths (found_width names) q)) (SelectFits m) (subexpressions e) (λ k d inside. select_says (get_or (subexpressions e) k d))

  all_operands_says : (e : PlainExpr) → Says (all_operands_pass (found_width names) e) (Every (OperandsFit m) e)
  all_operands_says e =
      says_list (λ q. operands_pass q (operand_widths (found_width names) q)) (OperandsFit m) (subexpressions e) (λ k d inside. operands_says (get_or (subexpressions e) k d))

  item_selects : (item : PlainItem) → Says (item_passes Selects names item) (All (Every (SelectFits m)) (item_expressions item))
  item_selects item =
      says_alone (list_all (all_selects_pass names) (item_expressions item)) (All (Every (SelectFits m)) (item_expressions item))
      (says_list (all_selects_pass names) (Every (SelectFits m)) (item_expressions item) (λ k d inside. all_selects_says (get_or (item_expressions item) k d)))

  item_widths : (item : PlainItem) → Says (item_passes Widths names item) (All (Every (OperandsFit m)) (item_expressions item) × SidesFit m item)
  item_widths item =
      says_both (list_all (all_operands_pass (found_width names)) (item_expressions item)) (sides_pass (found_width names) item)
      (All (Every (OperandsFit m)) (item_expressions item)) (SidesFit m item)
      (says_list (all_operands_pass (found_width names)) (Every (OperandsFit m)) (item_expressions item) (λ k d inside. all_operands_says (get_or (item_expressions item) k d)))
      (sides_says item)

  narrow_says : (e : PlainExpr) → Says (nat_lt (expression_width (found_width names) e) (2 ^ 64)) (IsNarrow m e)
  narrow_says e =
      says_along (nat_lt (expression_width (found_width names) e) (2 ^ 64)) (nat_lt (width_of m e) (2 ^ 64)) (IsNarrow m e) (ap (λ w. nat_lt w (2 ^ 64)) (width_is e))
      (says_lt (width_of m e) (2 ^ 64))

  all_narrow_says : (e : PlainExpr) → Says (all_narrow (found_width names) e) (Every (IsNarrow m) e)
  all_narrow_says e =
      says_list (λ q. nat_lt (expression_width (found_width names) q) (2 ^ 64)) (IsNarrow m) (subexpressions e) (λ k d inside. narrow_says (get_or (subexpressions e) k d))

  item_narrow_says : (item : PlainItem) → Says (item_narrow names item) (All (Every (IsNarrow m)) (item_expressions item))
  item_narrow_says item =
      says_list (all_narrow (found_width names)) (Every (IsNarrow m)) (item_expressions item) (λ k d inside. all_narrow_says (get_or (item_expressions item) k d))

-- ---- the rules

module _ (library : Library) (is : IsLibrary library) where
  pub selects_says : Says (list_all (module_passes Selects) library.modules.items) (SelectsFit (library_text library))
  selects_says =
      says_map known_module (λ m. All (λ (item : PlainItem). All (Every (SelectFits m)) (item_expressions item)) m.items)
      (list_all (module_passes Selects) library.modules.items) library.modules.items
      (says_list (module_passes Selects) (λ known. All (λ (item : PlainItem). All (Every (SelectFits (known_module known))) (item_expressions item)) (known_module known).items)
      library.modules.items (λ k d inside.
      let known : Known = get_or library.modules.items k d in
      says_list (item_passes Selects known.names) (λ (item : PlainItem). All (Every (SelectFits (known_module known))) (item_expressions item)) (known_module known).items
      (λ j q within. item_selects _ known.names (known_module known) (is.nets k d inside) (get_or (known_module known).items j q))))

  pub widths_says : Says (list_all (module_passes Widths) library.modules.items) (WidthsFit (library_text library))
  widths_says =
      says_map known_module (λ m. All (λ (item : PlainItem). All (Every (OperandsFit m)) (item_expressions item) × SidesFit m item) m.items)
      (list_all (module_passes Widths) library.modules.items) library.modules.items
      (says_list (module_passes Widths)
      (λ known. All (λ (item : PlainItem). All (Every (OperandsFit (known_module known))) (item_expressions item) × SidesFit (known_module known) item) (known_module known).items)
      library.modules.items (λ k d inside.
      let known : Known = get_or library.modules.items k d in
      says_list (item_passes Widths known.names)
      (λ (item : PlainItem). All (Every (OperandsFit (known_module known))) (item_expressions item) × SidesFit (known_module known) item) (known_module known).items
      (λ j q within. item_widths _ known.names (known_module known) (is.nets k d inside) (get_or (known_module known).items j q))))

  pub text_narrow_says : Says (list_all module_narrow library.modules.items) (AreNarrow (library_text library))
  text_narrow_says =
      says_map known_module (λ m. All (λ (item : PlainItem). All (Every (IsNarrow m)) (item_expressions item)) m.items)
      (list_all module_narrow library.modules.items) library.modules.items
      (says_list module_narrow (λ known. All (λ (item : PlainItem). All (Every (IsNarrow (known_module known))) (item_expressions item)) (known_module known).items)
      library.modules.items (λ k d inside.
      let known : Known = get_or library.modules.items k d in
      says_list (item_narrow known.names) (λ (item : PlainItem). All (Every (IsNarrow (known_module known))) (item_expressions item)) (known_module known).items
      (λ j q within. item_narrow_says _ known.names (known_module known) (is.nets k d inside) (get_or (known_module known).items j q))))

pub for_reason : (text : List PlainModule) (own reason : Reason) → Some own ≡ Some reason → IsFirstBroken text own → IsFirstBroken text reason
for_reason text own reason e h = let same : own ≡ reason = cc in subst (λ (r : Reason). IsFirstBroken text r) same h
