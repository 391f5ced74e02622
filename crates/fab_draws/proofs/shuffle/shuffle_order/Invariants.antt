-- What is left of the shuffle gives the order that is to come.
use Rattle.std.proofs.Common.{◌≡◌, ◌-◌, ◌≤◌, length}
use Rattle.std.specs.List.Sorted.{IsPermutation}
use Rattle.fab_draws.specs.Draws.{after, word_at}
use Rattle.fab_draws.specs.Shuffled.{shuffled}
use Rattle.fab_draws.proofs.shuffle.shuffle_order.Given as goal

abbrev pub invariant-loop-last : goal.invariant-loop-last
invariant-loop-last l = record {
  few : length l.initial.order - l.last ≤ length l.initial.order - 1;
  order : shuffled l.last (word_at l.random) l.order ≡ shuffled (length l.initial.order) (word_at l.initial.random) l.initial.order;
  same : IsPermutation l.initial.order l.order;
  drawn : l.random ≡ after (length l.initial.order - l.last) l.initial.random;
}
