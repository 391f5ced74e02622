use Rattle.std.proofs.Common.{◌≡◌, [], map, take}
use Rattle.std.specs.Str.{bytes_eq}
use Rattle.indexmap.specs.IndexSet.{insert_all}
use Rattle.fab_bits.specs.Keys.{key_names}
use Rattle.fab_legal.specs.WellMade.{output_name}
use Rattle.fab_legal.proofs.ports.output_ports.Given as goal

abbrev pub invariant-loop-name : goal.invariant-loop-name
invariant-loop-name l = key_names l.ports.keys ≡ insert_all bytes_eq [] (map output_name (take l.name-index l.outputs))
