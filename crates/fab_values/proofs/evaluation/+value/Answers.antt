use Rattle.std.proofs.Common.{◌≡◌, ◌∙◌, ◌<◌, ◌≤◌, ◌+◌, ◌-◌, ◌^◌, ◌&&◌, ◌||◌, ℕ, false, List, sym, ap, subst, rules, arith, length, map, not, take, get_or}
use Rattle.std.proofs.Math.ListN.{drop_of_length-le}
use Rattle.std.proofs.lemmas.List.{get_or-map, length-map}
use Rattle.fab_bits.specs.Bits.{number, digits, other_bit}
use Rattle.fab_syntax.specs.declared.tree.Op.TheVariants.{And, Or, Xor}
use Rattle.fab_syntax.specs.declared.tree.Expr.{Expr, Cat}
use Rattle.fab_syntax.specs.Plain.{plain_expr, plain_exprs, concatenation, complement, operation}
use Rattle.fab_syntax.proofs.Plain.{plain_concatenation}
use Rattle.fab_meaning.specs.Value.{bit_at}
use Rattle.fab_values.specs.Evaluation.{expr_width, exprs_width, value_in, values_in, operands_agree, operands_difference, operands_width, IsFit, AreFit}
use Rattle.fab_values.proofs.Widths.{sized, past_width, within_width, index_small, bit_complement, bit_and, bit_or, bit_xor}
use Rattle.fab_values.proofs.Evaluated.{agree as bits_agree, differ, bit_not, bit_each, bit_difference, borrow_more, borrow_at, borrowed, unequal, taken, kept, xor_is, index_fits}
use Rattle.fab_values.proofs.evaluation.+value.Goals as goal
use Rattle.fab_values.proofs.evaluation.+value.Goals.{difference_bit-then-minuend-subtrahend, difference_bit-else-minuend-subtrahend}

pub agree-returns-then-is_some : goal.agree-returns-then-is_some
agree-returns-then-is_some t c =
    let held = c.args.values.now in
    let a = plain_expr c.deref-first.result.now in
    let b = plain_expr c.deref-second.result.now in
    let is : plain_expr c.args.expr.now ≡ operation c.in-Two.field-0 a b =
    ap plain_expr c.in-Two.is ∙ (λ j. operation c.in-Two.field-0 (plain_expr (sym c.deref-first.ensures j)) (plain_expr (sym c.deref-second.ensures j))) in
    let fit : IsFit held.declarations (operation c.in-Two.field-0 a b) = subst (IsFit held.declarations) is c.requires.fit in
    let wide_a = sized held a c.requires.whole fit.2 in
    let wide_b = sized held b c.requires.whole fit.3 in
    let past = past_width c.past_expr.result c.loop-bit.bit (expr_width held.declarations a) c.past_expr.ensures (sym c.is_some.ensures ∙ c.if-is_some.true) in
    bits_agree (value_in held a) (value_in held b) (wide_a ∙ fit.0 ∙ sym wide_b) (λ k l. c.loop-bit.invariant k (omega (arith, past, wide_a)))
    ∙ ap (operands_agree held) (sym is)

pub agree-returns-then-eval_bit : goal.agree-returns-then-eval_bit
agree-returns-then-eval_bit t c =
    let held = c.args.values.now in
    let a = plain_expr c.deref-first.result.now in
    let b = plain_expr c.deref-second.result.now in
    let is : plain_expr c.args.expr.now ≡ operation c.in-Two.field-0 a b =
    ap plain_expr c.in-Two.is ∙ (λ j. operation c.in-Two.field-0 (plain_expr (sym c.deref-first.ensures j)) (plain_expr (sym c.deref-second.ensures j))) in
    let fit : IsFit held.declarations (operation c.in-Two.field-0 a b) = subst (IsFit held.declarations) is c.requires.fit in
    let wide_a = sized held a c.requires.whole fit.2 in
    let wide_b = sized held b c.requires.whole fit.3 in
    let within = within_width c.past_expr.result c.loop-bit.bit (expr_width held.declarations a) c.past_expr.ensures (sym c.is_some.ensures ∙ c.if-is_some.false) in
    differ (value_in held a) (value_in held b) c.loop-bit.bit (wide_a ∙ fit.0 ∙ sym wide_b) (omega (arith, within, wide_a))
    (λ same. unequal _ _ c.if-eval_bit.true (c.eval_bit.ensures ∙ same ∙ sym c.eval_bit-in-loop-bit.ensures))
    ∙ ap (operands_agree held) (sym is)

pub agree-returns-after-loop-bit : goal.agree-returns-after-loop-bit
agree-returns-after-loop-bit t c =
    let held = c.args.values.now in
    let a = plain_expr c.deref-first.result.now in
    let b = plain_expr c.deref-second.result.now in
    let is : plain_expr c.args.expr.now ≡ operation c.in-Two.field-0 a b =
    ap plain_expr c.in-Two.is ∙ (λ j. operation c.in-Two.field-0 (plain_expr (sym c.deref-first.ensures j)) (plain_expr (sym c.deref-second.ensures j))) in
    let fit : IsFit held.declarations (operation c.in-Two.field-0 a b) = subst (IsFit held.declarations) is c.requires.fit in
    let wide_a = sized held a c.requires.whole fit.2 in
    let wide_b = sized held b c.requires.whole fit.3 in
    bits_agree (value_in held a) (value_in held b) (wide_a ∙ fit.0 ∙ sym wide_b) (λ k l. c.loop-bit.invariant k (omega (arith, fit.1, c.loop-bit-test.false, wide_a)))
    ∙ ap (operands_agree held) (sym is)

pub difference_bit-loop-place-preserved : goal.difference_bit-loop-place-preserved
difference_bit-loop-place-preserved t c =
    let held = c.args.values.now in
    let a = plain_expr c.deref-first.result.now in
    let b = plain_expr c.deref-second.result.now in
    let is : plain_expr c.args.expr.now ≡ operation c.in-Two.field-0 a b =
    ap plain_expr c.in-Two.is ∙ (λ j. operation c.in-Two.field-0 (plain_expr (sym c.deref-first.ensures j)) (plain_expr (sym c.deref-second.ensures j))) in
    let fit : IsFit held.declarations (operation c.in-Two.field-0 a b) = subst (IsFit held.declarations) is c.requires.fit in
    let wide_a = sized held a c.requires.whole fit.2 in
    let wide_b = sized held b c.requires.whole fit.3 in
    let within : c.args.bit < expr_width held.declarations a = subst (λ e. c.args.bit < operands_width held e) is c.requires.within in
    let place = c.loop-place.place in
    let xs = value_in held a in
    let ys = value_in held b in
    let here : borrowed c.eval_bit-minuend.result c.eval_bit-subtrahend.result c.loop-place.borrow ≡ borrow_at false xs ys (place + 1) =
    (λ j. borrowed (c.eval_bit-minuend.ensures j) (c.eval_bit-subtrahend.ensures j) (c.loop-place.invariant j))
    ∙ sym (borrow_more false xs ys place (omega (arith, wide_a, c.loop-place-test.true, within)) (wide_a ∙ fit.0 ∙ sym wide_b)) in
    elim c.if-minuend-subtrahend.branch [
      | difference_bit-then-minuend-subtrahend w ↦ w.borrow-is ∙ taken _ _ c.loop-place.borrow w.if-minuend-subtrahend.true ∙ here
      | difference_bit-else-minuend-subtrahend w ↦ w.borrow-is ∙ kept _ _ c.loop-place.borrow w.if-minuend-subtrahend.false ∙ here
    ]

pub difference_bit-returns-after-loop-place : goal.difference_bit-returns-after-loop-place
difference_bit-returns-after-loop-place t c =
    let held = c.args.values.now in
    let a = plain_expr c.deref-first.result.now in
    let b = plain_expr c.deref-second.result.now in
    let is : plain_expr c.args.expr.now ≡ operation c.in-Two.field-0 a b =
    ap plain_expr c.in-Two.is ∙ (λ j. operation c.in-Two.field-0 (plain_expr (sym c.deref-first.ensures j)) (plain_expr (sym c.deref-second.ensures j))) in
    let fit : IsFit held.declarations (operation c.in-Two.field-0 a b) = subst (IsFit held.declarations) is c.requires.fit in
    let wide_a = sized held a c.requires.whole fit.2 in
    let wide_b = sized held b c.requires.whole fit.3 in
    let within : c.args.bit < expr_width held.declarations a = subst (λ e. c.args.bit < operands_width held e) is c.requires.within in
    let bit = c.args.bit in
    let xs = value_in held a in
    let ys = value_in held b in
    let last : c.loop-place.place ≡ bit = omega (arith, c.loop-place-test.false, c.loop-place.auto.place-end) in
    let borrows : c.loop-place.borrow ≡ borrow_at false xs ys bit = c.loop-place.invariant ∙ ap (borrow_at false xs ys) last in
    let none_borrowed : number xs + 2 ^ length xs - number ys - 0 ≡ number xs + 2 ^ length xs - number ys = omega arith in
    xor_is _ _ ∙ ap (λ x. other_bit x c.loop-place.borrow) (xor_is _ _)
    ∙ (λ j. other_bit (other_bit (c.eval_bit.ensures j) (c.eval_bit-in-Two.ensures j)) (borrows j))
    ∙ bit_difference false xs ys bit (omega (arith, wide_a, within)) (wide_a ∙ fit.0 ∙ sym wide_b)
    ∙ ap (λ n. bit_at (digits (length xs) n) bit) none_borrowed
    ∙ ap (λ e. bit_at (operands_difference held e) bit) (sym is)

pub eval_bit-returns-in-Not : goal.eval_bit-returns-in-Not
eval_bit-returns-in-Not t c =
    let held = c.args.values.now in
    let e = plain_expr c.deref-in-Not.result.now in
    let is : plain_expr c.args.expr.now ≡ complement e = ap plain_expr c.in-Not.is ∙ ap (λ (x : Expr). complement (plain_expr x)) (sym c.deref-in-Not.ensures) in
    ap not c.eval_bit-in-Not.ensures
    ∙ bit_complement held e e c.args.bit c.requires.whole (subst (IsFit held.declarations) is c.requires.fit) (subst (λ x. c.args.bit < expr_width held.declarations x) is c.requires.within)
    ∙ ap (λ x. bit_at (value_in held x) c.args.bit) (sym is)

pub eval_bit-returns-in-And : goal.eval_bit-returns-in-And
eval_bit-returns-in-And t c =
    let held = c.args.values.now in
    let a = plain_expr c.deref-in-And.result.now in
    let b = plain_expr c.deref-in-And-2.result.now in
    let is : plain_expr c.args.expr.now ≡ operation And a b =
    ap plain_expr c.in-Two.is ∙ (λ j. operation (c.in-And.is j) (plain_expr (sym c.deref-in-And.ensures j)) (plain_expr (sym c.deref-in-And-2.ensures j))) in
    (λ j. ◌&&◌ (c.eval_bit-in-And.ensures j) (c.eval_bit-in-And-2.ensures j))
    ∙ bit_and held a b c.args.bit c.requires.whole (subst (IsFit held.declarations) is c.requires.fit) (subst (λ e. c.args.bit < expr_width held.declarations e) is c.requires.within)
    ∙ ap (λ e. bit_at (value_in held e) c.args.bit) (sym is)

pub eval_bit-returns-in-Or : goal.eval_bit-returns-in-Or
eval_bit-returns-in-Or t c =
    let held = c.args.values.now in
    let a = plain_expr c.deref-in-Or.result.now in
    let b = plain_expr c.deref-in-Or-2.result.now in
    let is : plain_expr c.args.expr.now ≡ operation Or a b =
    ap plain_expr c.in-Two.is ∙ (λ j. operation (c.in-Or.is j) (plain_expr (sym c.deref-in-Or.ensures j)) (plain_expr (sym c.deref-in-Or-2.ensures j))) in
    (λ j. ◌||◌ (c.eval_bit-in-Or.ensures j) (c.eval_bit-in-Or-2.ensures j))
    ∙ bit_or held a b c.args.bit c.requires.whole (subst (IsFit held.declarations) is c.requires.fit) (subst (λ e. c.args.bit < expr_width held.declarations e) is c.requires.within)
    ∙ ap (λ e. bit_at (value_in held e) c.args.bit) (sym is)

pub eval_bit-returns-in-Xor : goal.eval_bit-returns-in-Xor
eval_bit-returns-in-Xor t c =
    let held = c.args.values.now in
    let a = plain_expr c.deref-in-Xor.result.now in
    let b = plain_expr c.deref-in-Xor-2.result.now in
    let is : plain_expr c.args.expr.now ≡ operation Xor a b =
    ap plain_expr c.in-Two.is ∙ (λ j. operation (c.in-Xor.is j) (plain_expr (sym c.deref-in-Xor.ensures j)) (plain_expr (sym c.deref-in-Xor-2.ensures j))) in
    xor_is _ _ ∙ (λ j. other_bit (c.eval_bit-in-Xor.ensures j) (c.eval_bit-in-Xor-2.ensures j))
    ∙ bit_xor held a b c.args.bit c.requires.whole (subst (IsFit held.declarations) is c.requires.fit) (subst (λ e. c.args.bit < expr_width held.declarations e) is c.requires.within)
    ∙ ap (λ e. bit_at (value_in held e) c.args.bit) (sym is)

pub index_value-loop-place-init : goal.index_value-loop-place-init
index_value-loop-place-init t c =
    let held = c.args.values.now in
    let e = plain_expr c.args.index.now in
    let small = index_small (expr_width held.declarations e) c.args.count c.requires.count c.ranges.count.fits in
    record {
      low = omega arith;
      so_far = sym (ap number (drop_of_length-le (value_in held e) {i = 32} (omega (arith, small, sized held e c.requires.whole c.requires.fit))));
    }

pub index_value-overflow_mul-number : goal.index_value-overflow_mul-number
index_value-overflow_mul-number t c =
    let held = c.args.values.now in
    let e = plain_expr c.args.index.now in
    let small = index_small (expr_width held.declarations e) c.args.count c.requires.count c.ranges.count.fits in
    let fits = index_fits (value_in held e) c.loop-place.place (omega (arith, small, sized held e c.requires.whole c.requires.fit)) in
    omega (arith, fits, c.loop-place.invariant.so_far)

pub index_value-overflow_add-number : goal.index_value-overflow_add-number
index_value-overflow_add-number t c =
    let held = c.args.values.now in
    let e = plain_expr c.args.index.now in
    let small = index_small (expr_width held.declarations e) c.args.count c.requires.count c.ranges.count.fits in
    let fits = index_fits (value_in held e) c.loop-place.place (omega (arith, small, sized held e c.requires.whole c.requires.fit)) in
    omega (arith, fits, c.loop-place.invariant.so_far, c.weight.ensures.small)

pub index_value-loop-place-preserved : goal.index_value-loop-place-preserved
index_value-loop-place-preserved t c =
    let held = c.args.values.now in
    let e = plain_expr c.args.index.now in
    let xs = value_in held e in
    let place = c.loop-place.place in
    let past = past_width c.past_expr.result (place - 1) (expr_width held.declarations e) c.past_expr.ensures (c.is_none.ensures ∙ ap not c.if-is_none.false) in
    let wide = sized held e c.requires.whole c.requires.fit in
    record {
      low = omega (arith, c.loop-place.invariant.low);
      so_far = c.loop-place.invariant.so_far ∙ ap number (drop_of_length-le xs {i = place} (omega (arith, past, wide))) ∙ sym (ap number (drop_of_length-le xs {i = place - 1} (omega (arith, past, wide))));
    }

pub eval_bit-part_at-requires : goal.eval_bit-part_at-requires
eval_bit-part_at-requires t c =
    let is : plain_expr c.args.expr.now ≡ concatenation (plain_exprs (map plain_expr c.deref-in-Cat.result.now)) =
    ap plain_expr c.in-Cat.is ∙ plain_concatenation c.in-Cat.parts ∙ ap (λ (es : List Expr). concatenation (plain_exprs (map plain_expr es))) (sym c.deref-in-Cat.ensures.value) in
    record {
      whole = c.requires.whole;
      fit = subst (IsFit c.args.values.now.declarations) is c.requires.fit;
      within = subst (λ e. c.args.bit < expr_width c.args.values.now.declarations e) is c.requires.within;
    }
