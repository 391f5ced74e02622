-- Compiled expressions, form by form.
use Rattle.std.proofs.Common.{◌≡◌, ℕ, zero, suc, ◌+◌, ◌-◌, ◌^◌, ◌<◌, ◌≤◌, Bool, List, [], ◌∷◌, length, map, take, drop, get_or, slice_range, Option, Some, Result, Ok, Err, IfOk, refl, sym, ap, ap₂, ◌∙◌, subst, arith}
use Rattle.fab_syntax.specs.declared.tree.Op.{Op}
use Rattle.fab_syntax.specs.declared.tree.Op.TheVariants as ops
use Rattle.fab_syntax.specs.declared.tree.Expr.{Expr}
use Rattle.fab_syntax.specs.Plain.{PlainExpr, PlainExprs, constant, variable, pick, part, concatenation, complement, operation, conditional, none, more, plain_expr, plain_exprs}
use Rattle.fab_values.specs.Declarations.{Declaration, bits_of, found_in, width}
use Rattle.fab_values.specs.Evaluation.{expr_width, local_width, IsFit, AreFit}
use Rattle.fab_values.specs.declared.names.Local.{Local}
use Rattle.fab_values.proofs.Widths.{vector_found, index_small}
use Rattle.fab_systems_laws.specs.Ternary.{Tern, known}
use Rattle.fab_solutions_laws.specs.fab_ternary_laws_Operators.{tern_at, inverse, tern_operated, one_of, entry}
use Rattle.fab_solutions_laws.specs.fab_ternary_laws_Shown.{first_terns}
use Rattle.fab_solutions_laws.specs.fab_ternary_laws_Values.{tern_value}
use Rattle.fab_equations.proofs.Located.{found_within}
use Rattle.fab_compiled.specs.declared.tree.Tree.{Tree, Const, Bits, Pick', Cat', Not', And', Or', Xor', Equal', Minus', Cond'}
use Rattle.fab_compiled.specs.declared.compiler.Place.{Place}
use Rattle.fab_compiled.specs.Trees.{tree_value, tree_width, IsMade, IsBelowPlace}
use Rattle.fab_compiled.specs.Compiling.{local_terns, named_terns, IsCompiled, AreCompiled, IsPlaceOf, tree_is_constant, IsOperation}

-- ---- parts of names

pub drop_first : (low n : ℕ) (f : ℕ → Tern) → low ≤ n → drop low (first_terns n f) ≡ first_terns (n - low) (λ k. f (low + k))
drop_first zero n f l = let e : n - 0 ≡ n = omega arith in let g : (k : ℕ) → f k ≡ f (0 + k) = λ k. ap f (omega arith) in
    (λ j. first_terns n (λ k. g k j)) ∙ ap (λ m. first_terns m (λ k. f (0 + k))) (sym e)
drop_first (suc low) zero f l = absurd (omega arith)
drop_first (suc low) (suc n) f l =
    let e : n - low ≡ suc n - suc low = omega arith in
    let g : (k : ℕ) → f (suc (low + k)) ≡ f (suc low + k) = λ k. ap f (omega arith) in
    drop_first low n (λ k. f (suc k)) (omega arith) ∙ (λ j. first_terns (n - low) (λ k. g k j)) ∙ ap (λ m. first_terns m (λ k. f (suc low + k))) e

pub take_first : (m n : ℕ) (f : ℕ → Tern) → m ≤ n → take m (first_terns n f) ≡ first_terns m f
take_first zero n f l = refl
take_first (suc m) zero f l = absurd (omega arith)
take_first (suc m) (suc n) f l = ap (λ ts. f 0 ∷ ts) (take_first m n (λ k. f (suc k)) (omega arith))

range_first : (n : ℕ) (f : ℕ → Tern) (low high : ℕ) → low ≤ high → high < n → first_terns (high + 1 - low) (λ k. f (low + k)) ≡ slice_range (first_terns n f) low (high + 1)
range_first n f low high ordered within =
    sym (ap (take (high + 1 - low)) (drop_first low n f (omega arith)) ∙ take_first (high + 1 - low) (n - low) (λ k. f (low + k)) (omega arith))

module _ (ds : List Declaration) where
  -- ---- names

  named : (name : List ℕ) (local : Local) → found_in ds name ≡ Some local → (place : Place) → IsPlaceOf (found_in ds name) place →
      (place.first ≡ local.first) × (place.count ≡ width local.shape)
  named name local found place is = subst (λ (o : Option Local). IsPlaceOf o place) found is

  room : (name : List ℕ) (local : Local) → found_in ds name ≡ Some local → local.first + width local.shape ≤ bits_of ds
  room name local found = omega (arith, found_within 0 ds name local found)

  pub variable_compiled : (name : List ℕ) (place : Place) → IsFit ds (variable name) → IsPlaceOf (found_in ds name) place →
      IsCompiled ds (variable name) (Bits place.first place.count) place.count
  variable_compiled name place fit is =
      let local = fit.0 in
      let at_place = named name local fit.1 place is in
      record {
        made = tt;
        tree_wide = refl;
        is_wide = at_place.1 ∙ sym (ap local_width fit.1);
        below = omega (arith, room name local fit.1, at_place.0, at_place.1);
        value = λ at. (λ j. first_terns (at_place.1 j) (λ k. at (at_place.0 j + k))) ∙ ap (local_terns at) (sym fit.1);
      }

  pub part_compiled : (name : List ℕ) (high low : ℕ) (place : Place) → IsFit ds (part name high low) → IsPlaceOf (found_in ds name) place →
      IsCompiled ds (part name high low) (Bits (place.first + low) (high + 1 - low)) (high + 1 - low)
  part_compiled name high low place fit is =
      let found = vector_found (found_in ds name) fit.0 fit.1 in
      let local = found.0 in
      let at_place = named name local found.1 place is in
      let within : high < width local.shape = omega (arith, fit.3, found.2) in
      record {
        made = tt;
        tree_wide = refl;
        is_wide = refl;
        below = omega (arith, room name local found.1, at_place.0, within, fit.2);
        value = λ at.
            let f : (k : ℕ) → at (place.first + low + k) ≡ at (local.first + (low + k)) = λ k. ap at (omega (arith, at_place.0)) in
            (λ j. first_terns (high + 1 - low) (λ k. f k j))
            ∙ range_first (width local.shape) (λ k. at (local.first + k)) low high fit.2 within
            ∙ ap (λ (o : Option Local). slice_range (local_terns at o) low (high + 1)) (sym found.1);
      }

  pub pick_small : (name : List ℕ) (e : PlainExpr) (place : Place) (index : Tree) (wide : ℕ) → place.count < 2 ^ 32 → IsFit ds (pick name e) → IsPlaceOf (found_in ds name) place →
      IsCompiled ds e index wide → wide < 32
  pick_small name e place index wide few fit is compiled =
      let found = vector_found (found_in ds name) (2 ^ expr_width ds e) fit.0 in
      let at_place = named name found.0 found.1 place is in
      index_small wide place.count (at_place.1 ∙ found.2 ∙ ap (λ n. 2 ^ n) (sym compiled.is_wide)) few

  pub pick_compiled : (name : List ℕ) (e : PlainExpr) (place : Place) (p : _) (index : Tree) (wide : ℕ) → place.count < 2 ^ 32 → IsFit ds (pick name e) → IsPlaceOf (found_in ds name) place →
      IsCompiled ds e index wide → IsCompiled ds (pick name e) (Pick' place.first wide p index) 1
  pick_compiled name e place p index wide few fit is compiled =
      let found = vector_found (found_in ds name) (2 ^ expr_width ds e) fit.0 in
      let local = found.0 in
      let at_place = named name local found.1 place is in
      let count : width local.shape ≡ 2 ^ wide = found.2 ∙ ap (λ n. 2 ^ n) (sym compiled.is_wide) in
      let small = pick_small name e place index wide few fit is compiled in
      record {
        made = (compiled.tree_wide, omega (arith, small), compiled.made);
        tree_wide = refl;
        is_wide = refl;
        below = (omega (arith, room name local found.1, at_place.0, count), compiled.below);
        value = λ at. (λ j. entry (first_terns (sym count j) (λ k. at (at_place.0 j + k))) (compiled.value at j) ∷ [])
            ∙ ap (λ (o : Option Local). entry (local_terns at o) (tern_value (named_terns ds at) e) ∷ []) (sym found.1);
      }

  -- ---- operators

  pub constant_compiled : (word : List Bool) (tree : Tree) (wide : ℕ) → tree_is_constant word tree → wide ≡ length word → IsCompiled ds (constant word) tree wide
  constant_compiled word (Const bits) wide is e = record {
    made = tt;
    tree_wide = ap length is ∙ sym e;
    is_wide = e;
    below = tt;
    value = λ at. ap (map known) is;
  }
  constant_compiled word (Bits first count) wide is e = absurd is
  constant_compiled word (Pick' first width p index) wide is e = absurd is
  constant_compiled word (Cat' p low width q high) wide is e = absurd is
  constant_compiled word (Not' p a) wide is e = absurd is
  constant_compiled word (And' p a q b) wide is e = absurd is
  constant_compiled word (Or' p a q b) wide is e = absurd is
  constant_compiled word (Xor' p a q b) wide is e = absurd is
  constant_compiled word (Equal' width p a q b) wide is e = absurd is
  constant_compiled word (Minus' width p a q b) wide is e = absurd is
  constant_compiled word (Cond' p c q a r b) wide is e = absurd is

  pub not_compiled : (e : PlainExpr) (p : _) (tree : Tree) (wide : ℕ) → IsCompiled ds e tree wide → IsCompiled ds (complement e) (Not' p tree) wide
  not_compiled e p tree wide c = record { made = c.made; tree_wide = c.tree_wide; is_wide = c.is_wide; below = c.below; value = λ at. ap (map inverse) (c.value at) }

  pub cond_compiled : (e f g : PlainExpr) (p q r : _) (c a b : Tree) (test_wide yes_wide no_wide : ℕ) → IsFit ds (conditional e f g) → IsCompiled ds e c test_wide → IsCompiled ds f a yes_wide → IsCompiled ds g b no_wide →
      IsCompiled ds (conditional e f g) (Cond' p c q a r b) yes_wide
  cond_compiled e f g p q r c a b test_wide yes_wide no_wide fit ce ca cb = record {
    made = (ce.tree_wide ∙ ce.is_wide ∙ fit.0, ca.tree_wide ∙ ca.is_wide ∙ fit.1 ∙ sym (cb.tree_wide ∙ cb.is_wide), ce.made, ca.made, cb.made);
    tree_wide = ca.tree_wide;
    is_wide = ca.is_wide;
    below = (ce.below, ca.below, cb.below);
    value = λ at j. one_of (tern_at (ce.value at j) 0) (ca.value at j) (cb.value at j);
  }

  module _ (e f : PlainExpr) (left right : Tree) (left_wide right_wide : ℕ) (ca : IsCompiled ds e left left_wide) (cb : IsCompiled ds f right right_wide) where
    agree : expr_width ds e ≡ expr_width ds f → tree_width left ≡ tree_width right
    agree same = ca.tree_wide ∙ ca.is_wide ∙ same ∙ sym (cb.tree_wide ∙ cb.is_wide)

    right_is : expr_width ds e ≡ expr_width ds f → tree_width right ≡ left_wide
    right_is same = sym (agree same) ∙ ca.tree_wide

    both_values : (op : Op) (a b : Tree) → a ≡ left → b ≡ right → (at : ℕ → Tern) →
        tern_operated op (tree_value at a) (tree_value at b) ≡ tern_operated op (tern_value (named_terns ds at) e) (tern_value (named_terns ds at) f)
    both_values op a b la rb at = ap₂ (tern_operated op) (ap (tree_value at) la ∙ ca.value at) (ap (tree_value at) rb ∙ cb.value at)

    pub operation_compiled : (op : Op) (tree : Tree) (wide : ℕ) → expr_width ds e ≡ expr_width ds f → IsOperation op left left_wide right tree wide → IsCompiled ds (operation op e f) tree wide
    operation_compiled ops.And (And' p a q b) wide same (la, rb, w) = record {
      made = (ap tree_width la ∙ agree same ∙ ap tree_width (sym rb), subst IsMade (sym la) ca.made, subst IsMade (sym rb) cb.made);
      tree_wide = ap tree_width la ∙ ca.tree_wide ∙ sym w;
      is_wide = w ∙ ca.is_wide;
      below = (subst (IsBelowPlace (bits_of ds)) (sym la) ca.below, subst (IsBelowPlace (bits_of ds)) (sym rb) cb.below);
      value = both_values ops.And a b la rb;
    }
    operation_compiled ops.Or (Or' p a q b) wide same (la, rb, w) = record {
      made = (ap tree_width la ∙ agree same ∙ ap tree_width (sym rb), subst IsMade (sym la) ca.made, subst IsMade (sym rb) cb.made);
      tree_wide = ap tree_width la ∙ ca.tree_wide ∙ sym w;
      is_wide = w ∙ ca.is_wide;
      below = (subst (IsBelowPlace (bits_of ds)) (sym la) ca.below, subst (IsBelowPlace (bits_of ds)) (sym rb) cb.below);
      value = both_values ops.Or a b la rb;
    }
    operation_compiled ops.Xor (Xor' p a q b) wide same (la, rb, w) = record {
      made = (ap tree_width la ∙ agree same ∙ ap tree_width (sym rb), subst IsMade (sym la) ca.made, subst IsMade (sym rb) cb.made);
      tree_wide = ap tree_width la ∙ ca.tree_wide ∙ sym w;
      is_wide = w ∙ ca.is_wide;
      below = (subst (IsBelowPlace (bits_of ds)) (sym la) ca.below, subst (IsBelowPlace (bits_of ds)) (sym rb) cb.below);
      value = both_values ops.Xor a b la rb;
    }
    operation_compiled ops.Equal (Equal' n p a q b) wide same (is, la, rb, w) = record {
      made = (ap tree_width la ∙ ca.tree_wide ∙ sym is, ap tree_width rb ∙ right_is same ∙ sym is, subst IsMade (sym la) ca.made, subst IsMade (sym rb) cb.made);
      tree_wide = sym w;
      is_wide = w;
      below = (subst (IsBelowPlace (bits_of ds)) (sym la) ca.below, subst (IsBelowPlace (bits_of ds)) (sym rb) cb.below);
      value = both_values ops.Equal a b la rb;
    }
    operation_compiled ops.Minus (Minus' n p a q b) wide same (is, la, rb, w) = record {
      made = (ap tree_width la ∙ ca.tree_wide ∙ sym is, ap tree_width rb ∙ right_is same ∙ sym is, subst IsMade (sym la) ca.made, subst IsMade (sym rb) cb.made);
      tree_wide = is ∙ sym w;
      is_wide = w ∙ ca.is_wide;
      below = (subst (IsBelowPlace (bits_of ds)) (sym la) ca.below, subst (IsBelowPlace (bits_of ds)) (sym rb) cb.below);
      value = both_values ops.Minus a b la rb;
    }
    operation_compiled op tree wide same is = absurd is

  -- ---- concatenations

  pub none_compiled : (tree : Tree) (wide : ℕ) → tree_is_constant [] tree → wide ≡ 0 → AreCompiled ds none tree wide
  none_compiled tree wide is e =
      let c = constant_compiled [] tree wide is e in
      record { made = c.made; tree_wide = c.tree_wide; is_wide = c.is_wide; below = c.below; value = c.value }

  -- ---- as the code has it

  pub as_compiled : (e f : PlainExpr) (a b : Tree) (v w : ℕ) → IsCompiled ds e a v → f ≡ e → b ≡ a → w ≡ v → IsCompiled ds f b w
  as_compiled e f a b v w c p q r =
      subst (λ (x : PlainExpr). IsCompiled ds x b w) (sym p) (subst (λ (x : Tree). IsCompiled ds e x w) (sym q) (subst (λ (n : ℕ). IsCompiled ds e a n) (sym r) c))

  pub cat_compiled : (es : PlainExprs) (tree : Tree) (wide : ℕ) → AreCompiled ds es tree wide → IsCompiled ds (concatenation es) tree wide
  cat_compiled es tree wide c = record { made = c.made; tree_wide = c.tree_wide; is_wide = c.is_wide; below = c.below; value = c.value }

  pub pick_declared : (name : List ℕ) (e : PlainExpr) → IsFit ds (pick name e) → (local : Local) × (found_in ds name ≡ Some local)
  pick_declared name e fit = let found = vector_found (found_in ds name) (2 ^ expr_width ds e) fit.0 in (found.0, found.1)

  pub part_declared : (name : List ℕ) (high low : ℕ) → IsFit ds (part name high low) → (local : Local) × (found_in ds name ≡ Some local)
  part_declared name high low fit = let found = vector_found (found_in ds name) fit.0 fit.1 in (found.0, found.1)

  -- a part of a name lies within it
  pub part_room : (name : List ℕ) (high low : ℕ) (place : Place) → IsFit ds (part name high low) → IsPlaceOf (found_in ds name) place → (low ≤ high) × (high < place.count)
  part_room name high low place fit is =
      let found = vector_found (found_in ds name) fit.0 fit.1 in
      let at_place = named name found.0 found.1 place is in
      (fit.2, omega (arith, fit.3, found.2, at_place.1))

  pub place_room : (name : List ℕ) (local : Local) → found_in ds name ≡ Some local → local.first + width local.shape ≤ bits_of ds
  place_room name local found = room name local found

  pub fit_part : (parts : List Expr) (k : ℕ) (e : Expr) → k < length parts → e ≡ get_or parts k e → AreFit ds (plain_exprs (map plain_expr parts)) → IsFit ds (plain_expr e)
  fit_part [] k e l is fit = absurd (omega arith)
  fit_part (p ∷ parts) zero e l is fit = subst (λ (x : Expr). IsFit ds (plain_expr x)) (sym is) fit.0
  fit_part (p ∷ parts) (suc k) e l is fit = fit_part parts k e (omega arith) is fit.1

-- behind the last part there is none
pub no_parts : (parts : List Expr) → [] ≡ drop (length parts) (map plain_expr parts)
no_parts [] = refl
no_parts (p ∷ parts) = no_parts parts

-- one part more of a concatenation
pub part_more : (parts : List Expr) (k : ℕ) (e : Expr) → k < length parts → e ≡ get_or parts k e →
    plain_exprs (drop k (map plain_expr parts)) ≡ more (plain_expr e) (plain_exprs (drop (k + 1) (map plain_expr parts)))
part_more [] k e l is = absurd (omega arith)
part_more (p ∷ parts) zero e l is = ap (λ (x : Expr). more (plain_expr x) (plain_exprs (map plain_expr parts))) (sym is)
part_more (p ∷ parts) (suc k) e l is =
    let next : suc k + 1 ≡ suc (k + 1) = omega arith in
    part_more parts k e (omega arith) is ∙ ap (λ (n : ℕ). more (plain_expr e) (plain_exprs (drop n (plain_expr p ∷ map plain_expr parts)))) (sym next)

pub ok_map : {A E : Type 0} (r : Result A E) (P R : A → Type 0) → IfOk r P → ((v : A) → P v → R v) → IfOk r R
ok_map (Ok v) P R p f = f v p
ok_map (Err e) P R p f = tt

pub ok_both : {A E : Type 0} (r : Result A E) (P Q R : A → Type 0) → IfOk r P → IfOk r Q → ((v : A) → P v → Q v → R v) → IfOk r R
ok_both (Ok v) P Q R p q f = f v p q
ok_both (Err e) P Q R p q f = tt
