use Rattle.std.proofs.Common.{◌≡◌, ◌+◌, ◌*◌, ◌∷◌, ◌++◌, [], ◌∙◌, ap, sym, arith}
use Rattle.fab_sample.specs.declared.design.Cover.{Cover}
use Rattle.fab_draws.specs.Draws.{after, word_at}
use Rattle.fab_sample.specs.Drawn.{drawn_cover}
use Rattle.fab_draws.proofs.Drawing.{after_none, more_drawn}
use Rattle.fab_sample.proofs.DesignDraws.{cover_here}
use Rattle.fab_sample.proofs.Steps.{map_more}
use Rattle.fab_sample.proofs.design.draw_covers.Goals as goal

pub loop-number-init : goal.loop-number-init
loop-number-init c = record { drawn = sym (after_none c.args.random.now); covers = c.new-covers.ensures.items }

pub loop-number-preserved : goal.loop-number-preserved
loop-number-preserved c =
    let start = c.args.random.now in
    let number = c.loop-number.number in
    let size = c.args.size in
    let same : 4 * number + 4 ≡ 4 * (number + 1) = omega arith in
    let cover : c.draw_cover.result ≡ drawn_cover size (word_at start) number =
    c.draw_cover.ensures.cover ∙ cover_here size number start c.loop-number.random c.loop-number.invariant.drawn in
    record {
      drawn = more_drawn (4 * number) 4 start c.loop-number.random c.draw_cover.new.random c.loop-number.invariant.drawn c.draw_cover.ensures.rest ∙ ap
          (λ n. after n start) same;
      covers =
          map_more (drawn_cover size (word_at start)) number c.loop-number.covers.items c.push.new.self.items c.loop-number.invariant.covers
          (c.in_ok-push.ensures.items ∙ ap (λ (it : Cover). c.loop-number.covers.items ++ it ∷ []) cover);
    }
