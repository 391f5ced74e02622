use Rattle.std.proofs.Common.{◌≡◌, ◌∷◌, ◌++◌, [], ◌∙◌, ap, sym, ℕ, Bool, add-zero}
use Rattle.fab_draws.specs.Draws.{is_one, word_at}
use Rattle.fab_draws.proofs.Drawing.{after_none, more_drawn, word_here}
use Rattle.fab_sample.proofs.Steps.{map_more}
use Rattle.fab_sample.proofs.stimulus.draw_line.Goals as goal

pub loop-place-init : goal.loop-place-init
loop-place-init c = record { drawn = sym (after_none c.args.random.now); line = c.new-line.ensures.items }

pub loop-place-preserved : goal.loop-place-preserved
loop-place-preserved c =
    let start = c.args.random.now in
    let place = c.loop-place._place in
    let word = word_here place start c.loop-place.random c.loop-place.invariant.drawn ∙ ap (word_at start) (add-zero place) in
    let bit : c.draw_bit.result ≡ is_one (word_at start place) = c.draw_bit.ensures.word ∙ ap (λ (w : ℕ). is_one w) word in
    record {
      drawn = more_drawn place 1 start c.loop-place.random c.draw_bit.new.random c.loop-place.invariant.drawn c.draw_bit.ensures.rest;
      line =
          map_more (λ p. is_one (word_at start p)) place c.loop-place.line.items c.push.new.self.items c.loop-place.invariant.line
          (c.in_ok-push.ensures.items ∙ ap (λ (b : Bool). c.loop-place.line.items ++ b ∷ []) bit);
    }
