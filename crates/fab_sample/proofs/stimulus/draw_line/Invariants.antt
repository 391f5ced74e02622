use Rattle.std.proofs.Common.{◌≡◌, map}
use Rattle.std.specs.List.{range_with_len}
use Rattle.fab_draws.specs.Draws.{after, is_one, word_at}
use Rattle.fab_sample.proofs.stimulus.draw_line.Given as goal

abbrev pub invariant-loop-place : goal.invariant-loop-place
invariant-loop-place l = record {
  drawn : l.random ≡ after l._place l.fn.random;
  line : l.line.items ≡ map (λ place. is_one (word_at l.fn.random place)) (range_with_len 0 l._place);
}
