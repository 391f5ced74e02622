use Rattle.std.proofs.Common.{◌≡◌, ◌*◌, map}
use Rattle.std.specs.List.{range_with_len}
use Rattle.fab_draws.specs.Draws.{after, word_at}
use Rattle.fab_sample.specs.Drawn.{drawn_cover}
use Rattle.fab_sample.proofs.design.draw_covers.Given as goal

abbrev pub invariant-loop-number : goal.invariant-loop-number
invariant-loop-number l = record {
  drawn : l.random ≡ after (4 * l.number) l.fn.random;
  covers : l.covers.items ≡ map (drawn_cover l.size (word_at l.fn.random)) (range_with_len 0 l.number);
}
