use Rattle.std.proofs.Common.{◌≡◌, ◌*◌, map}
use Rattle.std.specs.List.{range_with_len}
use Rattle.fab_draws.specs.Draws.{after, word_at}
use Rattle.fab_sample.specs.Drawn.{drawn_latch}
use Rattle.fab_sample.proofs.design.draw_latches.Given as goal

abbrev pub invariant-loop-number : goal.invariant-loop-number
invariant-loop-number l = record {
  drawn : l.random ≡ after (2 * l._number) l.fn.random;
  latches : l.latches.items ≡ map (drawn_latch l.size (word_at l.fn.random)) (range_with_len 0 l._number);
}
