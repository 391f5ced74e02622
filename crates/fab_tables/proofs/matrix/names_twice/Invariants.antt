use Rattle.std.proofs.Common.{◌≡◌, [], drop}
use Rattle.fab_tables.specs.Matrix.{names_twice}
use Rattle.fab_bits.specs.Keys.{key_names}
use Rattle.fab_tables.proofs.matrix.names_twice.Given as goal

abbrev pub invariant-loop-name : goal.invariant-loop-name
invariant-loop-name l = names_twice (key_names l.seen.keys) (drop l.name-index l.names) ≡ names_twice [] l.names
