use Rattle.std.proofs.Common.{◌≡◌, ◌+◌, ◌*◌, ◌∷◌, ◌++◌, [], ◌∙◌, ap, sym, arith}
use Rattle.fab_sample.specs.declared.design.Latch.{Latch}
use Rattle.fab_draws.specs.Draws.{after, word_at}
use Rattle.fab_sample.specs.Drawn.{drawn_latch}
use Rattle.fab_draws.proofs.Drawing.{after_none, more_drawn}
use Rattle.fab_sample.proofs.DesignDraws.{latch_here}
use Rattle.fab_sample.proofs.Steps.{map_more}
use Rattle.fab_sample.proofs.design.draw_latches.Goals as goal

pub loop-number-init : goal.loop-number-init
loop-number-init c = record { drawn = sym (after_none c.args.random.now); latches = c.new-latches.ensures.items }

pub loop-number-preserved : goal.loop-number-preserved
loop-number-preserved c =
    let start = c.args.random.now in
    let number = c.loop-number._number in
    let size = c.args.size in
    let same : 2 * number + 2 ≡ 2 * (number + 1) = omega arith in
    let latch : c.draw_latch.result ≡ drawn_latch size (word_at start) number =
    c.draw_latch.ensures.latch ∙ latch_here size number start c.loop-number.random c.loop-number.invariant.drawn in
    record {
      drawn = more_drawn (2 * number) 2 start c.loop-number.random c.draw_latch.new.random c.loop-number.invariant.drawn c.draw_latch.ensures.rest ∙ ap
          (λ n. after n start) same;
      latches =
          map_more (drawn_latch size (word_at start)) number c.loop-number.latches.items c.push.new.self.items c.loop-number.invariant.latches
          (c.in_ok-push.ensures.items ∙ ap (λ (it : Latch). c.loop-number.latches.items ++ it ∷ []) latch);
    }
