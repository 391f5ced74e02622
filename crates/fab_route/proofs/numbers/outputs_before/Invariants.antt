use Rattle.std.proofs.Common.{◌≡◌, length}
use Rattle.fab_route.specs.inner.Numbers.{AreBefore}
use Rattle.fab_route.proofs.numbers.outputs_before.Given as goal

abbrev pub invariant-loop-wire : goal.invariant-loop-wire
invariant-loop-wire l = record {
  long : length l.outputs.items ≡ l.wire-index;
  before : AreBefore l.fabric l.wire-index l.wires l.outputs.items;
}
