use Rattle.std.proofs.Common.{◌≡◌, [], take}
use Rattle.std.specs.Str.{bytes_eq}
use Rattle.indexmap.specs.IndexSet.{insert_all}
use Rattle.fab_bits.specs.Keys.{key_names}
use Rattle.fab_legal.specs.Lines.{named}
use Rattle.fab_route.proofs.lines.line_names.Given as goal

abbrev pub invariant-loop-pad : goal.invariant-loop-pad
invariant-loop-pad l = key_names l.names.keys ≡ insert_all bytes_eq [] (named (take l.pad-index l.pads))
