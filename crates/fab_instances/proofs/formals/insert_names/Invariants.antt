use Rattle.std.proofs.Common.{◌++◌, take}
use Rattle.fab_instances.specs.Formals.{SameNames}
use Rattle.fab_bits.specs.Keys.{key_names}
use Rattle.fab_instances.proofs.formals.insert_names.Given as goal

abbrev pub invariant-loop-name : goal.invariant-loop-name
invariant-loop-name l = SameNames (key_names l.ports.keys) (key_names l.fn.ports.keys ++ take l.name-index l.names)
