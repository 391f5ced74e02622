use Rattle.std.proofs.Common.{◌≡◌, map, nat_eq, take}
use Rattle.fab_select.specs.Selection.{firsts}
use Rattle.fab_matrix.proofs.grouping.order_of.Given as goal

abbrev pub invariant-loop-pair : goal.invariant-loop-pair
invariant-loop-pair l = l.order.keys ≡ firsts nat_eq (map (λ pair. pair.output) (take l.pair-index l.pairs))
