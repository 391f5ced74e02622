use Rattle.std.proofs.Common.{◌≡◌, ◌++◌, map, take}
use Rattle.fab_meaning.specs.Ports.{scalar}
use Rattle.fab_matrix.proofs.numbers.push_scalars.Given as goal

-- the ports so far are those of the names so far
abbrev pub invariant-loop-name : goal.invariant-loop-name
invariant-loop-name l = l.ports.items ≡ l.initial.ports.items ++ map (scalar l.input) (take l.name-index l.names)
