use Rattle.std.proofs.Common.{◌≡◌, ◌++◌, map, take}
use Rattle.fab_place.specs.inner.Constraints.{pad_in}
use Rattle.fab_place.proofs.constraints.put_inputs.Given as goal

abbrev pub invariant-loop-port : goal.invariant-loop-port
invariant-loop-port l = l.found.items ≡ l.fn.found.items ++ map (pad_in l.constraints l.numbers) (take l.port-index l.inputs)
