use Rattle.std.proofs.Common.{◌≡◌, ◌++◌, map, take}
use Rattle.fab_place.specs.inner.Constraints.{pad_in}
use Rattle.fab_place.proofs.constraints.put_outputs.Given as goal

abbrev pub invariant-loop-output : goal.invariant-loop-output
invariant-loop-output l = l.found.items ≡ l.fn.found.items ++ map (λ output. pad_in l.constraints l.numbers output.0) (take l.output-index l.outputs)
