use Rattle.std.proofs.Common.{◌≡◌, ◌*◌, map}
use Rattle.std.specs.List.{range_with_len}
use Rattle.fab_draws.specs.Draws.{after, word_at}
use Rattle.fab_sample.specs.Drawn.{drawn_line}
use Rattle.fab_sample.proofs.stimulus.draw_stimulus.Given as goal

abbrev pub invariant-loop-cycle : goal.invariant-loop-cycle
invariant-loop-cycle l = record {
  drawn : l.random ≡ after (l._cycle * l.size) l.fn.random;
  lines : map (λ line. line.items) l.lines.items ≡ map (drawn_line l.size (word_at l.fn.random)) (range_with_len 0 l._cycle);
}
