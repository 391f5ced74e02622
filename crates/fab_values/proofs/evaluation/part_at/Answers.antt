use Rattle.std.proofs.Common.{◌≡◌, ◌∙◌, ◌+◌, ◌-◌, ◌<◌, ◌≤◌, sym, ap, subst, arith, length, map, take, get_or}
use Rattle.std.proofs.lemmas.List.{get_or-map, length-map}
use Rattle.fab_syntax.specs.Plain.{plain_expr, plain_exprs}
use Rattle.fab_meaning.specs.Value.{bit_at}
use Rattle.fab_values.specs.Evaluation.{expr_width, exprs_width, value_in, values_in}
use Rattle.fab_values.proofs.Widths.{last_part, found_part}
use Rattle.fab_values.proofs.evaluation.part_at.Goals as goal

pub loop-end-preserved : goal.loop-end-preserved
loop-end-preserved c =
    let held = c.args.values.now in
    let es = map plain_expr c.args.parts.now in
    let k = c.loop-end.end - 1 in
    let e = plain_expr c.index-parts-end.result in
    let last : c.loop-end.end ≡ k + 1 = omega (arith, c.loop-end-test.true) in
    let within : k < length c.args.parts.now = omega (arith, c.loop-end.invariant.end, c.loop-end-test.true) in
    let is : get_or es k e ≡ e = get_or-map plain_expr c.args.parts.now k c.index-parts-end.result e within ∙ ap plain_expr (sym c.index-parts-end.is) in
    let part = last_part held es k e c.requires.whole c.requires.fit (omega (arith, within, length-map c.args.parts.now plain_expr)) is in
    record {
      end = omega (arith, c.loop-end.invariant.end);
      within = omega (arith, part.1, c.in-Some.ensures, subst (λ n. c.loop-end.place < exprs_width held.declarations (plain_exprs (take n es))) last c.loop-end.invariant.within);
      same = sym (part.3 c.loop-end.place c.in-Some.more c.in-Some.ensures)
          ∙ subst (λ n. bit_at (values_in held (plain_exprs (take n es))) c.loop-end.place ≡ bit_at (values_in held (plain_exprs es)) c.args.bit) last c.loop-end.invariant.same;
    }

pub returns-in-None-clause-part : goal.returns-in-None-clause-part
returns-in-None-clause-part c =
    let k = c.loop-end.end - 1 in
    let last : c.loop-end.end ≡ k + 1 = omega (arith, c.loop-end-test.true) in
    let within : k < length c.args.parts.now = omega (arith, c.loop-end.invariant.end, c.loop-end-test.true) in
    found_part c.args.values.now c.args.parts.now c.args.bit c.loop-end.place c.loop-end.end k c.index-parts-end.result c.requires.whole c.requires.fit last within
    c.loop-end.invariant.same c.index-parts-end.is c.in-None.ensures
