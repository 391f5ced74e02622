use Rattle.std.proofs.Common.{◌≡◌, ◌++◌, map, drop}
use Rattle.fab_model.specs.Wires.{plain_bel_wires}
use Rattle.fab_fabric.specs.inner.Index.{plain_wire}
use Rattle.fab_fabric.proofs.index.push_bels.Given as goal

-- the wires so far and those of the other BELs are those of all BELs
abbrev pub invariant-loop-number : goal.invariant-loop-number
invariant-loop-number l = map plain_wire l.wires.items ++ plain_bel_wires l.number (drop l.number l.bels) ≡ map plain_wire l.fn.wires.items ++ plain_bel_wires 0 l.bels
