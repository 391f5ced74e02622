use Rattle.std.proofs.Common.{◌<◌, ◌≡◌, ◌-◌, ◌+◌, ◌^◌, arith, ◌∙◌, pow-suc, add-one}
use Rattle.fab_bits.specs.Widths.{select_width}
use Rattle.fab_bits.proofs.Least.{lt_pow, width_more, width_done, small_power, least_if}
use Rattle.fab_bits.proofs.select_width.Goals as goal

pub overflow_add-width : goal.overflow_add-width
overflow_add-width c = omega (arith, lt_pow c.loop-values.width)

pub loop-values-preserved : goal.loop-values-preserved
loop-values-preserved c =
    let w = c.loop-values.width in
    let n = c.args.n in
    let p : 2 ^ w < n = omega arith in
    let last : w + 1 - 1 ≡ w = omega arith in
    record {
      power = rw add-one (omega (arith, pow-suc 2 w));
      small = omega arith;
      within = omega (arith, lt_pow w);
      same = width_more w n p ∙ c.loop-values.invariant.same;
      below = λ some. rw last p;
    }

pub returns-clause-small : goal.returns-clause-small
returns-clause-small c = small_power c.loop-values.width (omega arith)

pub returns-clause-value : goal.returns-clause-value
unfolding select_width
returns-clause-value c = width_done _ c.loop-values.width c.args.n (omega arith) ∙ c.loop-values.invariant.same

pub returns-clause-least : goal.returns-clause-least
returns-clause-least c = record {
  enough = omega arith;
  least = least_if c.loop-values.width c.args.n c.loop-values.invariant.below;
}
