use Rattle.std.proofs.Common.{◌≡◌, take, All}
use Rattle.fab_select.specs.declared.pair.Pair.{Pair}
use Rattle.fab_partial.proofs.uses.has_pair.Given as goal

-- no pair so far has the numbers
abbrev pub invariant-loop-pair : goal.invariant-loop-pair
invariant-loop-pair l = All (λ (pair : Pair). pair ≡ record { output = l.output; input = l.input } → ⊥) (take l.pair-index l.pairs)
