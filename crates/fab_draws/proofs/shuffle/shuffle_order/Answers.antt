use Rattle.std.proofs.Common.{◌≡◌, ◌+◌, ◌-◌, length, refl, sym, ap, ◌∙◌, arith}
use Rattle.std.proofs.lemmas.List.Sorted.{IsPermutation-refl, IsPermutation-trans}
use Rattle.rand_pcg.specs.Lcg.{Lcg}
use Rattle.fab_draws.specs.Draws.{after, word_at}
use Rattle.fab_draws.proofs.Drawing.{after_none, more_drawn}
use Rattle.fab_draws.proofs.Shuffling.{shuffle_more, shuffle_none}
use Rattle.fab_draws.proofs.shuffle.shuffle_order.Goals as goal

pub loop-last-init : goal.loop-last-init
loop-last-init c =
    let n = length c.args.order.now in
    let g : Lcg = c.args.random.now in
    let none : n - n ≡ 0 = omega arith in
    record {
      few = omega arith;
      order = refl;
      same = IsPermutation-refl c.args.order.now;
      drawn = sym (after_none g) ∙ ap (λ k. after k g) (sym none);
    }

pub loop-last-preserved : goal.loop-last-preserved
loop-last-preserved c =
    let n = length c.args.order.now in
    let last = c.loop-last.last - 1 in
    let more : n - c.loop-last.last + 1 ≡ n - (c.loop-last.last - 1) = omega arith in
    record {
      few = omega arith;
      order =
          shuffle_more last c.loop-last.random c.draw_below-other.new.random c.loop-last.order c.swap.new.self c.loop-last.last c.draw_below-other.result (omega arith) (omega arith)
          c.draw_below-other.ensures.rest c.draw_below-other.ensures.word c.swap.ensures.after
          ∙ c.loop-last.invariant.order;
      same = IsPermutation-trans c.args.order.now c.loop-last.order c.swap.new.self c.loop-last.invariant.same c.swap.ensures.permutation;
      drawn =
          more_drawn (n - c.loop-last.last) 1 c.args.random.now c.loop-last.random c.draw_below-other.new.random c.loop-last.invariant.drawn c.draw_below-other.ensures.rest
          ∙ ap (λ k. after k c.args.random.now) more;
    }

pub returns-clause-order : goal.returns-clause-order
returns-clause-order c =
    sym (shuffle_none c.loop-last.last (word_at c.loop-last.random) c.loop-last.order (omega arith)) ∙ c.loop-last.invariant.order

pub returns-clause-rest : goal.returns-clause-rest
returns-clause-rest c =
    let all : length c.args.order.now - c.loop-last.last ≡ length c.args.order.now - 1 = omega arith in
    c.loop-last.invariant.drawn ∙ ap (λ k. after k c.args.random.now) all
