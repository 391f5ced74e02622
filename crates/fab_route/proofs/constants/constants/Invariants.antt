use Rattle.std.proofs.Common.{ℕ, ◌<◌, ◌↔◌, Contains}
use Rattle.fab_fabric.specs.Wires.{numbered_wire}
use Rattle.fab_legal.specs.Steps.{IsConstant, bit_drive}
use Rattle.fab_route.specs.Plain.{numbering_of}
use Rattle.fab_route.proofs.constants.constants.Given as goal

abbrev pub invariant-loop-node : goal.invariant-loop-node
invariant-loop-node l = (node : ℕ) → Contains l.found.items node ↔ ((node < l.node) × IsConstant l.fabric (bit_drive l.value) (numbered_wire ((numbering_of l.nodes).wire node)))
