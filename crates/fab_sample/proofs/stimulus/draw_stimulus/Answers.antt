use Rattle.std.proofs.Common.{◌≡◌, ◌+◌, ◌*◌, ◌∷◌, ◌++◌, [], List, map, ◌∙◌, ap, sym, arith, Bool}
use Rattle.fab_draws.specs.Draws.{after, word_at}
use Rattle.fab_sample.specs.Drawn.{drawn_line, stimulus_line}
use Rattle.fab_draws.proofs.Drawing.{after_none, more_drawn, words_here}
use Rattle.fab_sample.proofs.Steps.{map_more, map_of_push}
use Rattle.fab_sample.proofs.stimulus.draw_stimulus.Goals as goal

pub loop-cycle-init : goal.loop-cycle-init
loop-cycle-init c =
    let start = c.args.random.now in
    let none : 0 ≡ 0 * c.args.size = omega arith in
    record { drawn = sym (after_none start) ∙ ap (λ n. after n start) none; lines = ap (map (λ line. line.items)) c.new-lines.ensures.items }

pub loop-cycle-preserved : goal.loop-cycle-preserved
loop-cycle-preserved c =
    let start = c.args.random.now in
    let here = c.loop-cycle.random in
    let cycle = c.loop-cycle._cycle in
    let size = c.args.size in
    let row = c.in_ok-draw_line.field-0 in
    let same : cycle * size + size ≡ (cycle + 1) * size = omega arith in
    let line : row.items ≡ drawn_line size (word_at start) cycle =
    c.in_ok-draw_line.ensures.line ∙ ap (stimulus_line size) (words_here (cycle * size) start here c.loop-cycle.invariant.drawn) in
    let before = map (λ line. line.items) c.loop-cycle.lines.items in
    let more = map_of_push (λ line. line.items) c.loop-cycle.lines.items row c.push.new.self.items c.in_ok-push.ensures.items in
    record {
      drawn =
          more_drawn (cycle * size) size start here c.draw_line.new.random c.loop-cycle.invariant.drawn c.in_ok-draw_line.ensures.rest
          ∙ ap (λ n. after n start) same;
      lines =
          map_more (drawn_line size (word_at start)) cycle before (map (λ line. line.items) c.push.new.self.items) c.loop-cycle.invariant.lines
          (more ∙ ap (λ (l : List Bool). before ++ l ∷ []) line);
    }
