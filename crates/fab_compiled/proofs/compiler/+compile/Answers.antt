use Rattle.std.proofs.Common.{rules, ◌≡◌, ◌+◌, ◌-◌, ◌<◌, ℕ, List, length, map, drop, sym, ap, ◌∙◌, subst, arith}
use Rattle.fab_syntax.specs.declared.tree.Expr.{Expr}
use Rattle.fab_syntax.specs.Plain.{PlainExpr, PlainExprs, variable, pick, part, concatenation, complement, operation, conditional, plain_expr, plain_exprs, plain_text}
use Rattle.fab_syntax.proofs.Plain.{plain_concatenation}
use Rattle.fab_values.specs.Declarations.{Declaration, declarations}
use Rattle.fab_values.specs.Evaluation.{IsFit}
use Rattle.fab_equations.specs.Instances.{Instance, instances}
use Rattle.fab_equations.specs.Numbering.{IsInstanceOfNumber}
use Rattle.fab_equations.proofs.Numbering.{some_there}
use Rattle.fab_compiled.specs.declared.compiler.Compiled.{Compiled}
use Rattle.fab_compiled.specs.declared.tree.Tree.{Bits}
use Rattle.fab_compiled.specs.Compiling.{IsCompiled, AreCompiled, IsOperation}
use Rattle.fab_compiled.specs.inner.Joining.{AreJoined}
use Rattle.fab_compiled.proofs.Compiling.{variable_compiled, part_compiled, pick_compiled, pick_small, not_compiled, cond_compiled, operation_compiled, as_compiled, cat_compiled, pick_declared, part_declared, part_room, fit_part, no_parts, part_more, ok_map, ok_both}
use denote.Param.Weighed.{at_most}
use Rattle.fab_syntax.proofs.tree.Expr.TheLaws.{the_size}
use Rattle.fab_compiled.proofs.compiler.+compile.Goals as goal

pub compile-place_of-place-requires-clause-declared : goal.compile-place_of-place-requires-clause-declared
compile-place_of-place-requires-clause-declared t c i is =
    subst (IsFit (declarations i.here)) (ap plain_expr c.in-Var.is ∙ ap variable (sym c.bytes.ensures)) (c.requires.fit i is)

pub compile-place_of-place-requires-in-Pick-clause-declared : goal.compile-place_of-place-requires-in-Pick-clause-declared
compile-place_of-place-requires-in-Pick-clause-declared t c i is =
    let e = plain_expr c.in-Pick.index.value in
    pick_declared (declarations i.here) c.bytes-in-Pick.result.now e
    (subst (IsFit (declarations i.here)) (ap plain_expr c.in-Pick.is ∙ ap (λ (n : List ℕ). pick n e) (sym c.bytes-in-Pick.ensures)) (c.requires.fit i is))

pub compile-overflow_cast-index : goal.compile-overflow_cast-index
compile-overflow_cast-index t c =
    let there = some_there (instances (plain_text c.args.equations.now)) c.args.instance c.requires.instance in
    let i = there.0 in
    let e = plain_expr c.deref.result.now in
    let same : plain_expr c.args.expr.now ≡ pick c.bytes-in-Pick.result.now e =
    ap plain_expr c.in-Pick.is ∙ (λ j. pick (sym c.bytes-in-Pick.ensures j) (plain_expr (sym c.deref.ensures j))) in
    let index = c.in_ok-index-in-Pick.index in
    let small =
    pick_small (declarations i.here) c.bytes-in-Pick.result.now e c.place_of-place-in-Pick.result index.tree.value index.width
    (omega (arith, c.place_of-place-in-Pick.ensures.small))
    (subst (IsFit (declarations i.here)) same (c.requires.fit i there.1)) (c.place_of-place-in-Pick.ensures.place i there.1) (c.in_ok-index-in-Pick.ensures i there.1) in
    omega (arith, small)

pub compile-place_of-place-requires-in-Part-clause-declared : goal.compile-place_of-place-requires-in-Part-clause-declared
compile-place_of-place-requires-in-Part-clause-declared t c i is =
    part_declared (declarations i.here) c.bytes-in-Part.result.now c.in-Part.high c.in-Part.low
    (subst (IsFit (declarations i.here)) (ap plain_expr c.in-Part.is ∙ ap (λ (n : List ℕ). part n c.in-Part.high c.in-Part.low) (sym c.bytes-in-Part.ensures)) (c.requires.fit i is))

pub compile-overflow_add-count : goal.compile-overflow_add-count
compile-overflow_add-count t c =
    let there = some_there (instances (plain_text c.args.equations.now)) c.args.instance c.requires.instance in
    let i = there.0 in
    let room =
    part_room (declarations i.here) c.bytes-in-Part.result.now c.in-Part.high c.in-Part.low c.place_of-place-in-Part.result
    (subst (IsFit (declarations i.here)) (ap plain_expr c.in-Part.is ∙ ap (λ (n : List ℕ). part n c.in-Part.high c.in-Part.low) (sym c.bytes-in-Part.ensures)) (c.requires.fit i there.1))
    (c.place_of-place-in-Part.ensures.place i there.1) in
    omega (arith, room.0, room.1, c.place_of-place-in-Part.ensures.small)

pub compile-overflow_sub-count : goal.compile-overflow_sub-count
compile-overflow_sub-count t c =
    let there = some_there (instances (plain_text c.args.equations.now)) c.args.instance c.requires.instance in
    let i = there.0 in
    let room =
    part_room (declarations i.here) c.bytes-in-Part.result.now c.in-Part.high c.in-Part.low c.place_of-place-in-Part.result
    (subst (IsFit (declarations i.here)) (ap plain_expr c.in-Part.is ∙ ap (λ (n : List ℕ). part n c.in-Part.high c.in-Part.low) (sym c.bytes-in-Part.ensures)) (c.requires.fit i there.1))
    (c.place_of-place-in-Part.ensures.place i there.1) in
    omega (arith, room.0)

pub compile-overflow_add-place : goal.compile-overflow_add-place
compile-overflow_add-place t c =
    let there = some_there (instances (plain_text c.args.equations.now)) c.args.instance c.requires.instance in
    let i = there.0 in
    let room =
    part_room (declarations i.here) c.bytes-in-Part.result.now c.in-Part.high c.in-Part.low c.place_of-place-in-Part.result
    (subst (IsFit (declarations i.here)) (ap plain_expr c.in-Part.is ∙ ap (λ (n : List ℕ). part n c.in-Part.high c.in-Part.low) (sym c.bytes-in-Part.ensures)) (c.requires.fit i there.1))
    (c.place_of-place-in-Part.ensures.place i there.1) in
    omega (arith, room.0, room.1, c.place_of-place-in-Part.ensures.small)

pub compile-parts_fit-requires-clause-parts : goal.compile-parts_fit-requires-clause-parts
compile-parts_fit-requires-clause-parts t c =
    ap plain_expr c.in-Cat.is ∙ plain_concatenation c.in-Cat.parts ∙ ap (λ (es : List Expr). concatenation (plain_exprs (map plain_expr es))) (sym c.deref-parts.ensures.value)

pub compile-returns-in-Var : goal.compile-returns-in-Var
compile-returns-in-Var t c =
    let place = c.place_of-place.result in
    let name = c.bytes.result.now in
    let same : plain_expr c.args.expr.now ≡ variable name = ap plain_expr c.in-Var.is ∙ ap variable (sym c.bytes.ensures) in
    ok_both c.boxed.result (λ (m : Compiled). m.tree.value ≡ Bits place.first place.count) (λ (m : Compiled). m.width ≡ c.from.result)
    (λ (m : Compiled). (i : Instance) → IsInstanceOfNumber (plain_text c.args.equations.now) c.args.instance i → IsCompiled (declarations i.here) (plain_expr c.args.expr.now) m.tree.value m.width)
    c.boxed.ensures.tree c.boxed.ensures.width
    (λ m tree wide i is.
    as_compiled (declarations i.here) (variable name) (plain_expr c.args.expr.now) (Bits place.first place.count) m.tree.value place.count m.width
    (variable_compiled (declarations i.here) name place (subst (IsFit (declarations i.here)) same (c.requires.fit i is)) (c.place_of-place.ensures.place i is)) same tree (wide ∙ c.from.ensures))

pub compile-returns-in_ok-index-in-Pick : goal.compile-returns-in_ok-index-in-Pick
compile-returns-in_ok-index-in-Pick t c =
    let place = c.place_of-place-in-Pick.result in
    let name = c.bytes-in-Pick.result.now in
    let e = plain_expr c.deref.result.now in
    let index = c.in_ok-index-in-Pick.index in
    let same : plain_expr c.args.expr.now ≡ pick name e = ap plain_expr c.in-Pick.is ∙ (λ j. pick (sym c.bytes-in-Pick.ensures j) (plain_expr (sym c.deref.ensures j))) in
    ok_both c.boxed-in-Pick.result _ _
    (λ (m : Compiled). (i : Instance) → IsInstanceOfNumber (plain_text c.args.equations.now) c.args.instance i → IsCompiled (declarations i.here) (plain_expr c.args.expr.now) m.tree.value m.width)
    c.boxed-in-Pick.ensures.tree c.boxed-in-Pick.ensures.width
    (λ m tree wide i is.
    as_compiled (declarations i.here) (pick name e) (plain_expr c.args.expr.now) _ m.tree.value 1 m.width
    (pick_compiled (declarations i.here) name e place _ index.tree.value index.width (omega (arith, c.place_of-place-in-Pick.ensures.small))
    (subst (IsFit (declarations i.here)) same (c.requires.fit i is)) (c.place_of-place-in-Pick.ensures.place i is) (c.in_ok-index-in-Pick.ensures i is)) same tree wide)

pub compile-returns-in-Part : goal.compile-returns-in-Part
compile-returns-in-Part t c =
    let place = c.place_of-place-in-Part.result in
    let name = c.bytes-in-Part.result.now in
    let high = c.in-Part.high in
    let low = c.in-Part.low in
    let same : plain_expr c.args.expr.now ≡ part name high low = ap plain_expr c.in-Part.is ∙ ap (λ (n : List ℕ). part n high low) (sym c.bytes-in-Part.ensures) in
    ok_both c.boxed-in-Part.result (λ (m : Compiled). m.tree.value ≡ Bits (place.first + low) (high + 1 - low)) (λ (m : Compiled). m.width ≡ c.from-in-Part.result)
    (λ (m : Compiled). (i : Instance) → IsInstanceOfNumber (plain_text c.args.equations.now) c.args.instance i → IsCompiled (declarations i.here) (plain_expr c.args.expr.now) m.tree.value m.width)
    c.boxed-in-Part.ensures.tree c.boxed-in-Part.ensures.width
    (λ m tree wide i is.
    as_compiled (declarations i.here) (part name high low) (plain_expr c.args.expr.now) (Bits (place.first + low) (high + 1 - low)) m.tree.value (high + 1 - low) m.width
    (part_compiled (declarations i.here) name high low place (subst (IsFit (declarations i.here)) same (c.requires.fit i is)) (c.place_of-place-in-Part.ensures.place i is)) same tree
    (wide ∙ c.from-in-Part.ensures))

pub compile-returns-in-Cat : goal.compile-returns-in-Cat
compile-returns-in-Cat t c =
    let es = plain_exprs (map plain_expr c.deref-parts.result.now) in
    let same : plain_expr c.args.expr.now ≡ concatenation es =
    ap plain_expr c.in-Cat.is ∙ plain_concatenation c.in-Cat.parts ∙ ap (λ (ps : List Expr). concatenation (plain_exprs (map plain_expr ps))) (sym c.deref-parts.ensures.value) in
    ok_map c.compile_parts.result
    (λ (m : Compiled). (i : Instance) → IsInstanceOfNumber (plain_text c.args.equations.now) c.args.instance i → AreCompiled (declarations i.here) es m.tree.value m.width)
    (λ (m : Compiled). (i : Instance) → IsInstanceOfNumber (plain_text c.args.equations.now) c.args.instance i → IsCompiled (declarations i.here) (plain_expr c.args.expr.now) m.tree.value m.width)
    c.compile_parts.ensures
    (λ m all i is. subst (λ (e : PlainExpr). IsCompiled (declarations i.here) e m.tree.value m.width) (sym same) (cat_compiled (declarations i.here) es m.tree.value m.width (all i is)))

pub compile-returns-in_ok-inner-in-Not : goal.compile-returns-in_ok-inner-in-Not
compile-returns-in_ok-inner-in-Not t c =
    let e = plain_expr c.deref-in-Not.result.now in
    let inner = c.in_ok-inner-in-Not.inner in
    let same : plain_expr c.args.expr.now ≡ complement e = ap plain_expr c.in-Not.is ∙ ap (λ (x : Expr). complement (plain_expr x)) (sym c.deref-in-Not.ensures) in
    ok_both c.boxed-in-Not.result _ _
    (λ (m : Compiled). (i : Instance) → IsInstanceOfNumber (plain_text c.args.equations.now) c.args.instance i → IsCompiled (declarations i.here) (plain_expr c.args.expr.now) m.tree.value m.width)
    c.boxed-in-Not.ensures.tree c.boxed-in-Not.ensures.width
    (λ m tree wide i is.
    as_compiled (declarations i.here) (complement e) (plain_expr c.args.expr.now) _ m.tree.value inner.width m.width
    (not_compiled (declarations i.here) e _ inner.tree.value inner.width (c.in_ok-inner-in-Not.ensures i is)) same tree wide)

pub compile-returns-in_ok-right-in-Two : goal.compile-returns-in_ok-right-in-Two
compile-returns-in_ok-right-in-Two t c =
    let a = plain_expr c.deref-in-Two.result.now in
    let b = plain_expr c.deref-in-Two-2.result.now in
    let left = c.in_ok-left-in-Two.left in
    let right = c.in_ok-right-in-Two.right in
    let same : plain_expr c.args.expr.now ≡ operation c.in-Two.op a b =
    ap plain_expr c.in-Two.is ∙ (λ j. operation c.in-Two.op (plain_expr (sym c.deref-in-Two.ensures j)) (plain_expr (sym c.deref-in-Two-2.ensures j))) in
    ok_map c.operation.result (λ (m : Compiled). IsOperation c.in-Two.op left.tree.value left.width right.tree.value m.tree.value m.width)
    (λ (m : Compiled). (i : Instance) → IsInstanceOfNumber (plain_text c.args.equations.now) c.args.instance i → IsCompiled (declarations i.here) (plain_expr c.args.expr.now) m.tree.value m.width)
    c.operation.ensures
    (λ m made i is.
    let fit : IsFit (declarations i.here) (operation c.in-Two.op a b) = subst (IsFit (declarations i.here)) same (c.requires.fit i is) in
    subst (λ (e : PlainExpr). IsCompiled (declarations i.here) e m.tree.value m.width) (sym same)
    (operation_compiled (declarations i.here) a b left.tree.value right.tree.value left.width right.width (c.in_ok-left-in-Two.ensures i is) (c.in_ok-right-in-Two.ensures i is)
    c.in-Two.op m.tree.value m.width fit.0 made))

pub compile-returns-in_ok-no-in-Cond : goal.compile-returns-in_ok-no-in-Cond
compile-returns-in_ok-no-in-Cond t c =
    let e = plain_expr c.deref-in-Cond.result.now in
    let f = plain_expr c.deref-in-Cond-2.result.now in
    let g = plain_expr c.deref-in-Cond-3.result.now in
    let test = c.in_ok-test-in-Cond.test in
    let yes = c.in_ok-yes-in-Cond.yes in
    let no = c.in_ok-no-in-Cond.no in
    let same : plain_expr c.args.expr.now ≡ conditional e f g =
    ap plain_expr c.in-Cond.is ∙ (λ j. conditional (plain_expr (sym c.deref-in-Cond.ensures j)) (plain_expr (sym c.deref-in-Cond-2.ensures j)) (plain_expr (sym c.deref-in-Cond-3.ensures j))) in
    ok_both c.boxed-in-Cond.result _ _
    (λ (m : Compiled). (i : Instance) → IsInstanceOfNumber (plain_text c.args.equations.now) c.args.instance i → IsCompiled (declarations i.here) (plain_expr c.args.expr.now) m.tree.value m.width)
    c.boxed-in-Cond.ensures.tree c.boxed-in-Cond.ensures.width
    (λ m tree wide i is.
    as_compiled (declarations i.here) (conditional e f g) (plain_expr c.args.expr.now) _ m.tree.value yes.width m.width
    (cond_compiled (declarations i.here) e f g _ _ _ test.tree.value yes.tree.value no.tree.value test.width yes.width no.width
    (subst (IsFit (declarations i.here)) same (c.requires.fit i is)) (c.in_ok-test-in-Cond.ensures i is) (c.in_ok-yes-in-Cond.ensures i is) (c.in_ok-no-in-Cond.ensures i is)) same tree wide)

pub compile_parts-compile-requires : goal.compile_parts-compile-requires
compile_parts-compile-requires t c =
    let room : c.loop-end.end - 1 < length c.args.parts.now = omega (arith, c.loop-end.invariant.within, c.loop-end-test.true) in
    let lower = at_most the_size c.args.parts.now (c.loop-end.end - 1) c.index-parts-end.result room in
    let same = ap the_size c.index-parts-end.is in (
      first_of (omega (arith, lower, same, c.decreases), search rules, grind (arith, lower, same, c.decreases)),
      (
        c.requires.instance,
        λ i is.
            fit_part (declarations i.here) c.args.parts.now (c.loop-end.end - 1) c.index-parts-end.result room c.index-parts-end.is (c.requires.fit i is),
      ),
    )

pub compile_parts-loop-end-init : goal.compile_parts-loop-end-init
compile_parts-loop-end-init t c = record {
  within = omega arith;
  compiled = λ i is.
      let joined = c.in_ok-joined.joined in
      subst (λ (es : List PlainExpr). AreJoined (declarations i.here) (plain_exprs es) joined.low.tree.value joined.low.width joined.group.tree.value joined.group.width)
      (no_parts c.args.parts.now) (c.in_ok-joined.ensures (declarations i.here));
}

pub compile_parts-loop-end-preserved : goal.compile_parts-loop-end-preserved
compile_parts-loop-end-preserved t c = record {
  within = omega (arith, c.loop-end.invariant.within);
  compiled = λ i is.
      let parts = map plain_expr c.args.parts.now in
      let k = c.loop-end.end - 1 in
      let e = c.index-parts-end.result in
      let room : k < length c.args.parts.now = omega (arith, c.loop-end.invariant.within, c.loop-end-test.true) in
      let last : c.loop-end.end ≡ k + 1 = omega (arith, c.loop-end-test.true) in
      let old = c.loop-end.joined in
      let new = c.in_ok-joined-2.joined in
      let rest : AreJoined (declarations i.here) (plain_exprs (drop (k + 1) parts)) old.low.tree.value old.low.width old.group.tree.value old.group.width =
      subst (λ (n : ℕ). AreJoined (declarations i.here) (plain_exprs (drop n parts)) old.low.tree.value old.low.width old.group.tree.value old.group.width) last
      (c.loop-end.invariant.compiled i is) in
      subst (λ (es : PlainExprs). AreJoined (declarations i.here) es new.low.tree.value new.low.width new.group.tree.value new.group.width)
      (sym (part_more c.args.parts.now k e room c.index-parts-end.is))
      (c.in_ok-joined-2.ensures (declarations i.here) (plain_expr e) (plain_exprs (drop (k + 1) parts)) rest (c.in_ok-high.ensures i is));
}

pub compile_parts-returns : goal.compile_parts-returns
compile_parts-returns t c =
    let none : c.loop-end.end ≡ 0 = omega (arith, c.loop-end-test.false) in
    let old = c.loop-end.joined in
    let es = plain_exprs (map plain_expr c.args.parts.now) in
    ok_map c.close.result
    (λ (m : Compiled). (ds : List Declaration) (fs : PlainExprs) → AreJoined ds fs old.low.tree.value old.low.width old.group.tree.value old.group.width →
    AreCompiled ds fs m.tree.value m.width)
    (λ (m : Compiled). (i : Instance) → IsInstanceOfNumber (plain_text c.args.equations.now) c.args.instance i → AreCompiled (declarations i.here) es m.tree.value m.width)
    c.close.ensures
    (λ m all i is. all (declarations i.here) es
    (subst (λ (n : ℕ). AreJoined (declarations i.here) (plain_exprs (drop n (map plain_expr c.args.parts.now))) old.low.tree.value old.low.width old.group.tree.value old.group.width) none
    (c.loop-end.invariant.compiled i is)))
