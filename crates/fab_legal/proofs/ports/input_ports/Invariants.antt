use Rattle.std.proofs.Common.{◌≡◌, [], take}
use Rattle.std.specs.Str.{bytes_eq}
use Rattle.indexmap.specs.IndexSet.{insert_all}
use Rattle.fab_bits.specs.Keys.{key_names}
use Rattle.fab_legal.proofs.ports.input_ports.Given as goal

abbrev pub invariant-loop-name : goal.invariant-loop-name
invariant-loop-name l = key_names l.ports.keys ≡ insert_all bytes_eq [] (take l.name-index l.names)
