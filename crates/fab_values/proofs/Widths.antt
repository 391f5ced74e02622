-- The value of an expression has as many bits as the expression.
use Rattle.std.proofs.Common.{◌≡◌, ℕ, zero, suc, ◌+◌, ◌-◌, ◌^◌, ◌<◌, ◌≤◌, Bool, true, false, not, cond, ◌&&◌, ◌||◌, List, [], ◌∷◌, ◌++◌, length, get_or, take, drop, map, Option, Some, None, refl, sym, ap, ◌∙◌, inl, inr, arith, slice_range, MatchOption, is_some, subst, append-nil, append_assoc, pow_mono}
use Rattle.std.proofs.lemmas.Bool.{cases_Bool, cases_lt}
use Rattle.std.proofs.lemmas.List.{length-take, length-drop, length-map, length-append, take_more, get_or_append_left, get_or-append_right, get_or_default, get_or-map}
use Rattle.fab_bits.specs.Bits.{number, digits, each_bit, other_bit, same_bits}
use Rattle.fab_syntax.specs.declared.tree.Expr.{Expr}
use Rattle.fab_syntax.specs.declared.tree.Op.{Op}
use Rattle.fab_syntax.specs.declared.tree.Op.TheVariants.{And, Or, Xor, Equal, Minus}
use Rattle.fab_syntax.specs.declared.tree.Shape.TheVariants.{Scalar, Vector}
use Rattle.fab_syntax.specs.Plain.{PlainExpr, PlainExprs, constant, variable, pick, part, concatenation, complement, operation, conditional, none, more, plain_expr, plain_exprs}
use Rattle.fab_meaning.specs.Value.{value, concatenated, bit_at, operated}
use Rattle.fab_values.specs.Declarations.{Declaration, width, bits_of, found_in, bits_named}
use Rattle.fab_values.specs.Evaluation.{Held, IsWhole, IsPartBit, value_in, values_in, expr_width, exprs_width, local_width, IsVectorOf, IsFit, AreFit}
use Rattle.fab_values.specs.declared.names.Local.{Local}
use Rattle.fab_values.proofs.Named.{bits_length}
use Rattle.fab_values.proofs.Evaluated.{bit_not, bit_each}

-- a vector is declared
pub vector_found : (o : Option Local) (n : ℕ) → IsVectorOf o n → (local : Local) × (o ≡ Some local) × (width local.shape ≡ n)
vector_found None n h = absurd h
vector_found (Some local) n h = (local, refl, ap width h)

pub length_digits : (n k : ℕ) → length (digits n k) ≡ n
length_digits zero k = refl
length_digits (suc n) k = ap suc (length_digits n _)

length_each : (f : Bool → Bool → Bool) (xs ys : List Bool) → length xs ≡ length ys → length (each_bit f xs ys) ≡ length xs
length_each f [] ys e = refl
length_each f (x ∷ xs) [] e = absurd (omega (arith, e))
length_each f (x ∷ xs) (y ∷ ys) e = ap suc (length_each f xs ys (omega (arith, e)))

length_operated : (ds : List Declaration) (op : Op) (a b : PlainExpr) (xs ys : List Bool) → length xs ≡ expr_width ds a → length ys ≡ expr_width ds a →
    length (operated op xs ys) ≡ expr_width ds (operation op a b)
length_operated ds And a b xs ys e f = length_each _ xs ys (e ∙ sym f) ∙ e
length_operated ds Or a b xs ys e f = length_each _ xs ys (e ∙ sym f) ∙ e
length_operated ds Xor a b xs ys e f = length_each _ xs ys (e ∙ sym f) ∙ e
length_operated ds Equal a b xs ys e f = refl
length_operated ds Minus a b xs ys e f = length_digits (length xs) _ ∙ e

module _ (ds : List Declaration) (bits : List Bool) (whole : length bits ≡ bits_of ds) where
  length_part : (name : List ℕ) (high low n : ℕ) → IsVectorOf (found_in ds name) n → low ≤ high → high < n → length (slice_range (bits_named ds bits name) low (high + 1)) ≡ high + 1 - low
  length_part name high low n vector ordered within =
      let found = vector_found (found_in ds name) n vector in
      let wide : length (bits_named ds bits name) ≡ n = bits_length ds bits name found.0 found.1 whole ∙ found.2 in
      length-take (high + 1 - low) (drop low (bits_named ds bits name)) ∙ omega (arith, length-drop low (bits_named ds bits name), wide)

  mutual
    pub length_value : (e : PlainExpr) → IsFit ds e → length (value (bits_named ds bits) e) ≡ expr_width ds e
    length_value (constant word) fit = refl
    length_value (variable name) fit = bits_length ds bits name fit.0 fit.1 whole ∙ sym (ap local_width fit.1)
    length_value (pick name index) fit = refl
    length_value (part name high low) fit = length_part name high low fit.0 fit.1 fit.2 fit.3
    length_value (concatenation parts) fit = length_parts parts fit
    length_value (complement e) fit = length-map (value (bits_named ds bits) e) not ∙ length_value e fit
    length_value (operation op a b) fit =
        length_operated ds op a b (value (bits_named ds bits) a) (value (bits_named ds bits) b) (length_value a fit.2) (length_value b fit.3 ∙ sym fit.0)
    length_value (conditional c a b) fit =
        elim (cases_Bool (bit_at (value (bits_named ds bits) c) 0)) [
          | inl t ↦ rw t (length_value a fit.3)
          | inr f ↦ rw f (length_value b fit.4 ∙ sym fit.1)
        ]

    pub length_parts : (es : PlainExprs) → AreFit ds es → length (concatenated (bits_named ds bits) es) ≡ exprs_width ds es
    length_parts none fit = refl
    length_parts (more e rest) fit =
        length-append (concatenated (bits_named ds bits) rest) (value (bits_named ds bits) e)
        ∙ omega (arith, length_value e fit.0, length_parts rest fit.1)

pub sized : (held : Held) (e : PlainExpr) → IsWhole held → IsFit held.declarations e → length (value_in held e) ≡ expr_width held.declarations e
sized held e whole fit = length_value held.declarations held.bits whole e fit

-- where a place lies
pub past_width : (o : Option ℕ) (bit w : ℕ) → MatchOption o (bit < w) (λ rest. rest + w ≡ bit) → is_some o ≡ true → w ≤ bit
past_width None bit w h some = cc
past_width (Some rest) bit w h some = omega (arith, h)

pub within_width : (o : Option ℕ) (bit w : ℕ) → MatchOption o (bit < w) (λ rest. rest + w ≡ bit) → is_some o ≡ false → bit < w
within_width None bit w h none_there = h
within_width (Some rest) bit w h none_there = cc

-- an index of at most 2 ^ 32 values
pub index_small : (w n : ℕ) → n ≡ 2 ^ w → n < 2 ^ 32 → w < 32
index_small w n e l = elim (cases_lt w 32) [ inl small ↦ small | inr large ↦ absurd (omega (arith, pow_mono {i = 32} {j = w} large)) ]

-- the last part is the least significant
pub values_push : (names : List ℕ → List Bool) (es : List PlainExpr) (e : PlainExpr) →
    concatenated names (plain_exprs (es ++ e ∷ [])) ≡ value names e ++ concatenated names (plain_exprs es)
values_push names [] e = sym (append-nil (value names e))
values_push names (first ∷ es) e = ap (λ bits. bits ++ value names first) (values_push names es e) ∙ append_assoc (value names e) (concatenated names (plain_exprs es)) (value names first)

pub width_push : (ds : List Declaration) (es : List PlainExpr) (e : PlainExpr) → exprs_width ds (plain_exprs (es ++ e ∷ [])) ≡ exprs_width ds (plain_exprs es) + expr_width ds e
width_push ds [] e = omega arith
width_push ds (first ∷ es) e = omega (arith, width_push ds es e)

pub fit_at : (ds : List Declaration) (es : List PlainExpr) (k : ℕ) (d : PlainExpr) → AreFit ds (plain_exprs es) → k < length es → IsFit ds (get_or es k d)
fit_at ds [] k d fit l = absurd (omega arith)
fit_at ds (e ∷ es) zero d fit l = fit.0
fit_at ds (e ∷ es) (suc k) d fit l = fit_at ds es k d fit.1 (omega arith)

pub fit_take : (ds : List Declaration) (es : List PlainExpr) (k : ℕ) → AreFit ds (plain_exprs es) → AreFit ds (plain_exprs (take k es))
fit_take ds es zero fit = tt
fit_take ds [] (suc k) fit = tt
fit_take ds (e ∷ es) (suc k) fit = (fit.0, fit_take ds es k fit.1)

-- a part of a concatenation, from its end
pub last_part : (held : Held) (es : List PlainExpr) (k : ℕ) (e : PlainExpr) → IsWhole held → AreFit held.declarations (plain_exprs es) → k < length es → get_or es k e ≡ e →
    IsFit held.declarations e
    × (exprs_width held.declarations (plain_exprs (take (k + 1) es)) ≡ exprs_width held.declarations (plain_exprs (take k es)) + expr_width held.declarations e)
    × ((rest : ℕ) → rest < expr_width held.declarations e → bit_at (values_in held (plain_exprs (take (k + 1) es))) rest ≡ bit_at (value_in held e) rest)
    × ((rest more : ℕ) → more + expr_width held.declarations e ≡ rest → bit_at (values_in held (plain_exprs (take (k + 1) es))) rest ≡ bit_at (values_in held (plain_exprs (take k es))) more)
last_part held es k e whole fit l is =
    let names = bits_named held.declarations held.bits in
    let here : IsFit held.declarations e = subst (IsFit held.declarations) is (fit_at held.declarations es k e fit l) in
    let parted : take (k + 1) es ≡ take k es ++ e ∷ [] = take_more es k e l ∙ ap (λ x. take k es ++ x ∷ []) is in
    let bits : values_in held (plain_exprs (take (k + 1) es)) ≡ value_in held e ++ values_in held (plain_exprs (take k es)) =
    ap (λ xs. concatenated names (plain_exprs xs)) parted ∙ values_push names (take k es) e in
    let wide : length (value_in held e) ≡ expr_width held.declarations e = sized held e whole here in (
      here,
      ap (λ xs. exprs_width held.declarations (plain_exprs xs)) parted ∙ width_push held.declarations (take k es) e,
      λ rest below. ap (λ xs. get_or xs rest false) bits ∙ get_or_append_left (value_in held e) (values_in held (plain_exprs (take k es))) false rest (omega (arith, wide)),
      λ rest more past. ap (λ xs. get_or xs rest false) bits
          ∙ get_or-append_right (value_in held e) (values_in held (plain_exprs (take k es))) (expr_width held.declarations e) rest false wide (omega (arith, past))
          ∙ ap (λ n. get_or (values_in held (plain_exprs (take k es))) n false) (let back : rest - expr_width held.declarations e ≡ more = omega (arith, past) in back),
    )

-- ---- bits of operators over expressions

module _ (held : Held) (a b : PlainExpr) (bit : ℕ) (whole : IsWhole held) where
  pub bit_complement : IsFit held.declarations a → bit < expr_width held.declarations a → not (bit_at (value_in held a) bit) ≡ bit_at (value_in held (complement a)) bit
  bit_complement fit l = sym (bit_not (value_in held a) bit (omega (arith, sized held a whole fit)))

  each_operand : (f : Bool → Bool → Bool) → IsFit held.declarations a → IsFit held.declarations b → expr_width held.declarations a ≡ expr_width held.declarations b → bit < expr_width held.declarations a →
      f (bit_at (value_in held a) bit) (bit_at (value_in held b) bit) ≡ bit_at (each_bit f (value_in held a) (value_in held b)) bit
  each_operand f fit_a fit_b same l =
      let wide_a = sized held a whole fit_a in
      let wide_b = sized held b whole fit_b in
      sym (bit_each f (value_in held a) (value_in held b) bit (omega (arith, wide_a)) (omega (arith, wide_a, wide_b, same)))

  pub bit_and : IsFit held.declarations (operation And a b) → bit < expr_width held.declarations a →
      bit_at (value_in held a) bit && bit_at (value_in held b) bit ≡ bit_at (value_in held (operation And a b)) bit
  bit_and fit l = each_operand (λ x y. x && y) fit.2 fit.3 fit.0 l

  pub bit_or : IsFit held.declarations (operation Or a b) → bit < expr_width held.declarations a →
      bit_at (value_in held a) bit || bit_at (value_in held b) bit ≡ bit_at (value_in held (operation Or a b)) bit
  bit_or fit l = each_operand (λ x y. x || y) fit.2 fit.3 fit.0 l

  pub bit_xor : IsFit held.declarations (operation Xor a b) → bit < expr_width held.declarations a →
      other_bit (bit_at (value_in held a) bit) (bit_at (value_in held b) bit) ≡ bit_at (value_in held (operation Xor a b)) bit
  bit_xor fit l = each_operand other_bit fit.2 fit.3 fit.0 l

-- the place of a bit in a concatenation
pub found_part : (held : Held) (parts : List Expr) (bit place end k : ℕ) (d : Expr) → IsWhole held → AreFit held.declarations (plain_exprs (map plain_expr parts)) →
    end ≡ k + 1 → k < length parts →
    bit_at (values_in held (plain_exprs (take end (map plain_expr parts)))) place ≡ bit_at (values_in held (plain_exprs (map plain_expr parts))) bit →
    d ≡ get_or parts k d → place < expr_width held.declarations (plain_expr d) → IsPartBit held parts bit k place
found_part held parts bit place end k d whole fit last within same is below =
    let es = map plain_expr parts in
    let mapped : (x : Expr) → get_or parts k x ≡ d = λ x. get_or_default parts k x d within ∙ sym is in
    let at : get_or es k (plain_expr d) ≡ plain_expr d = get_or-map plain_expr parts k d (plain_expr d) within ∙ ap plain_expr (sym is) in
    let part = last_part held es k (plain_expr d) whole fit (omega (arith, within, length-map parts plain_expr)) at in
    let so_far = subst (λ n. bit_at (values_in held (plain_exprs (take n es))) place ≡ bit_at (values_in held (plain_exprs es)) bit) last same in
    record {
      within = within;
      fit = λ x. subst (λ (y : Expr). IsFit held.declarations (plain_expr y)) (sym (mapped x)) part.0;
      place_within = λ x. subst (λ (y : Expr). place < expr_width held.declarations (plain_expr y)) (sym (mapped x)) below;
      same = λ x. sym so_far ∙ part.2 place below ∙ ap (λ (y : Expr). bit_at (value_in held (plain_expr y)) place) (sym (mapped x));
    }
