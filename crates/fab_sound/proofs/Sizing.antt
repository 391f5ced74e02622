-- The widths of expressions from the list of their parts, gone through from its end.
use Rattle.std.proofs.Common.{◌≡◌, ℕ, ◌+◌, ◌-◌, ◌^◌, ◌<◌, ◌≤◌, List, [], ◌∷◌, ◌++◌, map, length, take, drop, get_or, Bool, true, false, ◌&&◌, append_assoc, append-nil, refl, sym, ap, ◌∙◌, subst, inl, inr, arith, reverse, Vec, Global}
use Rattle.std.specs.Prelude.{nat_eq, nat_lt}
use Rattle.std.specs.List.{list_all, sum}
use Rattle.std.proofs.lemmas.Bool.{cases_Bool}
use Rattle.std.proofs.lemmas.Bool.Decides.{nat_tests}
use Rattle.std.proofs.lemmas.List.{get_or-reverse, get_or_past, length-reverse, take_all, reverse-append, take-append-drop, length-drop, length-map, drop_all}
use Rattle.std.proofs.Math.Seq.{drop-append_seam}
use Rattle.std.proofs.Math.Pow.{pow_mono}
use Rattle.std.proofs.lemmas.List.Sums.{sum_by-cons, sum_by_more}
use Rattle.std.proofs.lemmas.List.Folds.{list_all-append}
use Rattle.fab_syntax.specs.declared.tree.Op.TheVariants.{And, Or, Xor, Equal, Minus}
use Rattle.fab_syntax.specs.declared.tree.Expr.{Expr, Cat}
use Rattle.fab_syntax.proofs.Plain.{plain_concatenation}
use Rattle.fab_syntax.specs.Plain.{PlainExpr, PlainExprs, plain_expr, plain_exprs, constant, variable, pick, part, concatenation, complement, operation, conditional, none, more}
use Rattle.fab_syntax.specs.Sound.{subexpressions, parts_subexpressions, expression_width, parts_width}
use Rattle.fab_sound.specs.inner.Checks.{inner_parts, found_width, parts_list, operands, width_over, widths_from, operand_widths, select_passes, operands_pass, all_selects_pass, all_operands_pass, narrow_over, all_narrow}
use Rattle.fab_sound.proofs.Noting.{Names}
use Rattle.fab_sound.proofs.Waiting.{itself_first}

-- ---- a stack of widths

pub parts_listed : (es : List PlainExpr) → parts_list (plain_exprs es) ≡ es
parts_listed [] = refl
parts_listed (e ∷ es) = ap (λ rest. e ∷ rest) (parts_listed es)

pub sum_more : (ws : List ℕ) (k : ℕ) → sum (take (k + 1) ws) ≡ sum (take k ws) + get_or ws k 0
sum_more ws k =
    elim (cases_Bool (nat_lt k (length ws))) [
      | inl y ↦ (let inside : k < length ws = grind (arith, nat_tests) in sum_by_more (λ w. w) ws k 0 inside)
      | inr n ↦ (let past : length ws ≤ k = grind (arith, nat_tests) in
          let after : length ws ≤ k + 1 = omega arith in
          ap sum (take_all (k + 1) ws after ∙ sym (take_all k ws past)) ∙ none_more (sum (take k ws)) (get_or ws k 0) (get_or_past ws k 0 past))
    ]
  where
    none_more : (a b : ℕ) → b ≡ 0 → a ≡ a + b
    none_more a b e = omega arith

pub top_inside : (ws : List ℕ) (k : ℕ) → k < length ws → get_or ws (length ws - 1 - k) 0 ≡ get_or (reverse ws) k 0
top_inside ws k inside = sym (get_or-reverse ws k 0 inside)

pub top_past : (ws : List ℕ) (k : ℕ) → length ws ≤ k → 0 ≡ get_or (reverse ws) k 0
top_past ws k past = let long : length (reverse ws) ≤ k = subst (λ (n : ℕ). n ≤ k) (sym (length-reverse ws)) past in sym (get_or_past (reverse ws) k 0 long)

pub reverse_taken : (xs : List ℕ) (n : ℕ) → reverse (take (length xs - n) xs) ≡ drop n (reverse xs)
reverse_taken xs n =
    let k : ℕ = length xs - n in
    let split : reverse (drop k xs) ++ reverse (take k xs) ≡ reverse xs = sym (reverse-append (take k xs) (drop k xs)) ∙ ap reverse (take-append-drop k xs) in
    let count : length (reverse (drop k xs)) ≡ length xs - k = length-reverse (drop k xs) ∙ length-drop k xs in
    elim (cases_Bool (nat_lt n (length xs))) [
      | inl y ↦ (let inside : n < length xs = grind (arith, nat_tests) in
          let is : length (reverse (drop k xs)) ≡ n = count ∙ back (length xs) n inside in
          sym (ap (drop n) (sym split) ∙ ap (λ m. drop m (reverse (drop k xs) ++ reverse (take k xs))) (sym is) ∙ drop-append_seam (reverse (drop k xs)) (reverse (take k xs))))
      | inr f ↦ (let past : length xs ≤ n = grind (arith, nat_tests) in
          let zero_is : k ≡ 0 = omega arith in
          let long : length (reverse xs) ≤ n = subst (λ (m : ℕ). m ≤ n) (sym (length-reverse xs)) past in
          ap (λ m. reverse (take m xs)) zero_is ∙ sym (drop_all n (reverse xs) long))
    ]
  where
    back : (a b : ℕ) → b < a → a - (a - b) ≡ b
    back a b h = omega arith

pub stack_step : (xs taken new : List ℕ) (n own : ℕ) → taken ≡ take (length xs - n) xs → new ≡ taken ++ own ∷ [] → reverse new ≡ own ∷ drop n (reverse xs)
stack_step xs taken new n own cut put =
    ap reverse put ∙ reverse-append taken (own ∷ []) ∙ ap (λ ws. own ∷ reverse ws) cut ∙ ap (λ ws. own ∷ ws) (reverse_taken xs n)

-- the parts of a concatenation that an expression is
pub cat_operands : (e : Expr) (parts : Vec Expr Global) → e ≡ Cat parts → (es : PlainExprs) × (plain_expr e ≡ concatenation es) × (length (parts_list es) ≡ length parts.items)
cat_operands e parts is = (
  plain_exprs (map plain_expr parts.items),
  ap plain_expr is ∙ plain_concatenation parts,
  ap length (parts_listed (map plain_expr parts.items)) ∙ length-map parts.items plain_expr,
)

pub far_pick : (n index : ℕ) → n < 2 ^ 32 → 32 ≤ index → nat_eq (2 ^ index) n ≡ false
far_pick n index short far = let long : 2 ^ 32 ≤ 2 ^ index = pow_mono far in grind (arith, nat_tests)

-- ---- the width of an expression over its operands

module _ (names : List ℕ → ℕ) where
  sum_parts : (es : PlainExprs) (ws : List ℕ) → sum (take (length (parts_list es)) (map (expression_width names) (parts_list es) ++ ws)) ≡ parts_width names es
  sum_parts none ws = refl
  sum_parts (more e es) ws =
      sum_by-cons (λ w. w) (expression_width names e) (take (length (parts_list es)) (map (expression_width names) (parts_list es) ++ ws))
      ∙ ap (λ s. expression_width names e + s) (sum_parts es ws)

  drop_operands : (es : List PlainExpr) (ws : List ℕ) → drop (length es) (map (expression_width names) es ++ ws) ≡ ws
  drop_operands [] ws = refl
  drop_operands (e ∷ es) ws = drop_operands es ws

  own_is : (e : PlainExpr) (ws : List ℕ) → width_over names e (map (expression_width names) (operands e) ++ ws) ≡ expression_width names e
  own_is (constant bits) ws = refl
  own_is (variable name) ws = refl
  own_is (pick name index) ws = refl
  own_is (part name high low) ws = refl
  own_is (concatenation es) ws = sum_parts es ws
  own_is (complement e) ws = refl
  own_is (operation And a b) ws = refl
  own_is (operation Or a b) ws = refl
  own_is (operation Xor a b) ws = refl
  own_is (operation Equal a b) ws = refl
  own_is (operation Minus a b) ws = refl
  own_is (conditional c a b) ws = refl

  lift : (e : PlainExpr) (rest : List PlainExpr) → widths_from names (inner_parts e ++ rest) ≡ operand_widths names e ++ widths_from names rest →
      widths_from names (subexpressions e ++ rest) ≡ expression_width names e ∷ widths_from names rest
  lift e rest inner =
      ap (λ es. widths_from names (es ++ rest)) (itself_first e)
      ∙ ap (λ ws. width_over names e ws ∷ drop (length (operands e)) ws) inner
      ∙ ap (λ w. w ∷ drop (length (operands e)) (map (expression_width names) (operands e) ++ widths_from names rest)) (own_is e (widths_from names rest))
      ∙ ap (λ ws. expression_width names e ∷ ws) (drop_operands (operands e) (widths_from names rest))

  mutual
    pub inner_widths : (e : PlainExpr) (rest : List PlainExpr) →
        widths_from names (inner_parts e ++ rest) ≡ operand_widths names e ++ widths_from names rest
    inner_widths (constant bits) rest = refl
    inner_widths (variable name) rest = refl
    inner_widths (pick name index) rest = (lift index rest (inner_widths index rest))
    inner_widths (part name high low) rest = refl
    inner_widths (concatenation es) rest = parts_widths es rest
    inner_widths (complement e) rest = (lift e rest (inner_widths e rest))
    inner_widths (operation op a b) rest =
        ap (widths_from names) (append_assoc (subexpressions a) (subexpressions b) rest)
        ∙ (lift a (subexpressions b ++ rest) (inner_widths a (subexpressions b ++ rest)))
        ∙ ap (λ ws. expression_width names a ∷ ws) ((lift b rest (inner_widths b rest)))
    inner_widths (conditional c a b) rest =
        ap (widths_from names) (append_assoc (subexpressions c) (subexpressions a ++ subexpressions b) rest)
        ∙ (lift c ((subexpressions a ++ subexpressions b) ++ rest) (inner_widths c ((subexpressions a ++ subexpressions b) ++ rest)))
        ∙ ap (λ es. expression_width names c ∷ widths_from names es) (append_assoc (subexpressions a) (subexpressions b) rest)
        ∙ ap (λ ws. expression_width names c ∷ ws) ((lift a (subexpressions b ++ rest) (inner_widths a (subexpressions b ++ rest))))
        ∙ ap (λ ws. expression_width names c ∷ expression_width names a ∷ ws) ((lift b rest (inner_widths b rest)))

    parts_widths : (es : PlainExprs) (rest : List PlainExpr) →
        widths_from names (parts_subexpressions es ++ rest) ≡ map (expression_width names) (parts_list es) ++ widths_from names rest
    parts_widths none rest = refl
    parts_widths (more e es) rest =
        ap (widths_from names) (append_assoc (subexpressions e) (parts_subexpressions es) rest)
        ∙ (lift e (parts_subexpressions es ++ rest) (inner_widths e (parts_subexpressions es ++ rest)))
        ∙ ap (λ ws. expression_width names e ∷ ws) (parts_widths es rest)

  pub whole_widths : (e : PlainExpr) (rest : List PlainExpr) → widths_from names (subexpressions e ++ rest) ≡ expression_width names e ∷ widths_from names rest
  whole_widths e rest = lift e rest (inner_widths e rest)

-- ---- a test of each expression of a list, by the widths of those behind it

abbrev pub steps_pass : (names : List ℕ → ℕ) → (test : PlainExpr → List ℕ → Bool) → List PlainExpr → Bool
steps_pass names test [] = true
steps_pass names test (e ∷ es) = test e (widths_from names es) && steps_pass names test es

module _ (names : List ℕ → ℕ) (test : PlainExpr → List ℕ → Bool)
    (local : (e : PlainExpr) (ws : List ℕ) → test e (operand_widths names e ++ ws) ≡ test e (operand_widths names e)) where
  abbrev pub one : PlainExpr → Bool
  one e = test e (operand_widths names e)

  and_assoc : (a b c : Bool) → ((a && b) && c) ≡ (a && (b && c))
  and_assoc true b c = refl
  and_assoc false b c = refl

  both : (xs ys rest : List PlainExpr) (tail : Bool) → steps_pass names test (xs ++ (ys ++ rest)) ≡ (list_all one xs && steps_pass names test (ys ++ rest)) →
      steps_pass names test (ys ++ rest) ≡ (list_all one ys && tail) → steps_pass names test ((xs ++ ys) ++ rest) ≡ (list_all one (xs ++ ys) && tail)
  both xs ys rest tail first second =
      ap (steps_pass names test) (append_assoc xs ys rest)
      ∙ first
      ∙ ap (λ b. list_all one xs && b) second
      ∙ sym (and_assoc (list_all one xs) (list_all one ys) tail)
      ∙ ap (λ b. b && tail) (sym (list_all-append one xs ys))

  further : (e : PlainExpr) (rest : List PlainExpr) →
      steps_pass names test (inner_parts e ++ rest) ≡ (list_all one (inner_parts e) && steps_pass names test rest) →
      steps_pass names test (subexpressions e ++ rest) ≡ (list_all one (subexpressions e) && steps_pass names test rest)
  further e rest inner =
      ap (λ es. steps_pass names test (es ++ rest)) (itself_first e)
      ∙ ap (λ ws. test e ws && steps_pass names test (inner_parts e ++ rest)) (inner_widths names e rest)
      ∙ ap (λ b. b && steps_pass names test (inner_parts e ++ rest)) (local e (widths_from names rest))
      ∙ ap (λ b. one e && b) inner
      ∙ sym (and_assoc (one e) (list_all one (inner_parts e)) (steps_pass names test rest))
      ∙ ap (λ es. list_all one es && steps_pass names test rest) (sym (itself_first e))

  mutual
    inner_steps : (e : PlainExpr) (rest : List PlainExpr) →
        steps_pass names test (inner_parts e ++ rest) ≡ (list_all one (inner_parts e) && steps_pass names test rest)
    inner_steps (constant bits) rest = refl
    inner_steps (variable name) rest = refl
    inner_steps (pick name index) rest = (further index rest (inner_steps index rest))
    inner_steps (part name high low) rest = refl
    inner_steps (concatenation es) rest = parts_steps es rest
    inner_steps (complement e) rest = (further e rest (inner_steps e rest))
    inner_steps (operation op a b) rest =
        both (subexpressions a) (subexpressions b) rest (steps_pass names test rest) (further a (subexpressions b ++ rest) (inner_steps a (subexpressions b ++ rest))) (further b rest (inner_steps b rest))
    inner_steps (conditional c a b) rest =
        let later = both (subexpressions a) (subexpressions b) rest (steps_pass names test rest) (further a (subexpressions b ++ rest) (inner_steps a (subexpressions b ++ rest))) (further b rest (inner_steps b rest)) in
        both (subexpressions c) (subexpressions a ++ subexpressions b) rest (steps_pass names test rest)
        (further c ((subexpressions a ++ subexpressions b) ++ rest) (inner_steps c ((subexpressions a ++ subexpressions b) ++ rest))) later

    parts_steps : (es : PlainExprs) (rest : List PlainExpr) →
        steps_pass names test (parts_subexpressions es ++ rest) ≡ (list_all one (parts_subexpressions es) && steps_pass names test rest)
    parts_steps none rest = refl
    parts_steps (more e es) rest =
        both (subexpressions e) (parts_subexpressions es) rest (steps_pass names test rest) (further e (parts_subexpressions es ++ rest) (inner_steps e (parts_subexpressions es ++ rest))) (parts_steps es rest)

  whole_steps : (e : PlainExpr) (rest : List PlainExpr) →
      steps_pass names test (subexpressions e ++ rest) ≡ (list_all one (subexpressions e) && steps_pass names test rest)
  whole_steps e rest = further e rest (inner_steps e rest)

  and_true : (b : Bool) → (b && true) ≡ b
  and_true true = refl
  and_true false = refl

  pub all_steps : (e : PlainExpr) → steps_pass names test (subexpressions e) ≡ list_all one (subexpressions e)
  all_steps e = ap (steps_pass names test) (sym (append-nil (subexpressions e))) ∙ whole_steps e [] ∙ and_true (list_all one (subexpressions e))

own_alone : (names : List ℕ → ℕ) (e : PlainExpr) → width_over names e (operand_widths names e) ≡ expression_width names e
own_alone names e = ap (width_over names e) (sym (append-nil (operand_widths names e))) ∙ own_is names e []

pub all_widths : (names : List ℕ → ℕ) (e : PlainExpr) → widths_from names (subexpressions e) ≡ expression_width names e ∷ []
all_widths names e = ap (widths_from names) (sym (append-nil (subexpressions e))) ∙ whole_widths names e []

select_local : (S : Type 0) (names : Names S) (e : PlainExpr) (ws : List ℕ) →
    select_passes names e (operand_widths (found_width names) e ++ ws) ≡ select_passes names e (operand_widths (found_width names) e)
select_local S names (constant bits) ws = refl
select_local S names (variable name) ws = refl
select_local S names (pick name index) ws = refl
select_local S names (part name high low) ws = refl
select_local S names (concatenation es) ws = refl
select_local S names (complement e) ws = refl
select_local S names (operation op a b) ws = refl
select_local S names (conditional c a b) ws = refl

operands_local : (names : List ℕ → ℕ) (e : PlainExpr) (ws : List ℕ) → operands_pass e (operand_widths names e ++ ws) ≡ operands_pass e (operand_widths names e)
operands_local names (constant bits) ws = refl
operands_local names (variable name) ws = refl
operands_local names (pick name index) ws = refl
operands_local names (part name high low) ws = refl
operands_local names (concatenation es) ws = refl
operands_local names (complement e) ws = refl
operands_local names (operation op a b) ws = refl
operands_local names (conditional c a b) ws = refl

pub all_selects : (S : Type 0) (names : Names S) (e : PlainExpr) →
    steps_pass (found_width names) (select_passes names) (subexpressions e) ≡ all_selects_pass names e
all_selects S names e = all_steps (found_width names) (select_passes names) (select_local S names) e

pub all_operands : (names : List ℕ → ℕ) (e : PlainExpr) → steps_pass names operands_pass (subexpressions e) ≡ all_operands_pass names e
all_operands names e = all_steps names operands_pass (operands_local names) e

narrow_local : (names : List ℕ → ℕ) (e : PlainExpr) (ws : List ℕ) → narrow_over names e (operand_widths names e ++ ws) ≡ narrow_over names e (operand_widths names e)
narrow_local names e ws = ap (λ w. nat_lt w (2 ^ 64)) (own_is names e ws ∙ sym (own_alone names e))

pub all_are_narrow : (names : List ℕ → ℕ) (e : PlainExpr) → steps_pass names (narrow_over names) (subexpressions e) ≡ all_narrow names e
all_are_narrow names e =
    all_steps names (narrow_over names) (narrow_local names) e ∙ ap (λ test. list_all test (subexpressions e)) (λ k part. nat_lt (own_alone names part k) (2 ^ 64))
