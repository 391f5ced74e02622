use Rattle.std.proofs.Common.{map, take}
use Rattle.fab_bits.specs.Keys.{key_names}
use Rattle.fab_matrix.specs.inner.Numbering.{AreNumbersOf}
use Rattle.fab_matrix.proofs.listed.number_names.Given as goal

-- the pairs so far are numbered
abbrev pub invariant-loop-pair : goal.invariant-loop-pair
invariant-loop-pair l = record {
  outputs : AreNumbersOf (map (λ pair. pair.0) (take l.pair-index l.pairs)) (key_names l.outputs.keys) (map (λ pair. pair.output) l.numbers.items);
  inputs : AreNumbersOf (map (λ pair. pair.1) (take l.pair-index l.pairs)) (key_names l.inputs.keys) (map (λ pair. pair.input) l.numbers.items);
}
