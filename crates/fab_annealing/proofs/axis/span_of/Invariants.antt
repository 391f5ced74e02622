use Rattle.std.proofs.Common.{◌≡◌, ◌≤◌, max, min, fold, take, get_or}
use Rattle.fab_annealing.proofs.axis.span_of.Given as goal

abbrev pub invariant-loop-item : goal.invariant-loop-item
invariant-loop-item l = record {
  low : l.low ≡ fold (λ low other. min low (get_or l.places other 0)) (get_or l.places (get_or l.items 0 0) 0) (take l.item-index l.items);
  high : l.high ≡ fold (λ high other. max high (get_or l.places other 0)) (get_or l.places (get_or l.items 0 0) 0) (take l.item-index l.items);
  near : l.high ≤ 31;
}
