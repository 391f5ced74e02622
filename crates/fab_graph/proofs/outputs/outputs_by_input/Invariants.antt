use Rattle.std.proofs.Common.{◌≡◌, ℕ, length, take}
use Rattle.fab_bits.specs.Keys.{group_at}
use Rattle.fab_ways_laws.specs.Edges.{outputs_of}
use Rattle.fab_graph.proofs.outputs.outputs_by_input.Given as goal

-- the groups are those of the pairs so far
abbrev pub invariant-loop-pair : goal.invariant-loop-pair
invariant-loop-pair l = record {
  len : length l.groups.items ≡ l.inputs;
  groups : (input : ℕ) → group_at l.groups.items input ≡ outputs_of (take l.pair-index l.pairs) input;
}
