use Rattle.std.proofs.Common.{◌≡◌, map, take}
use Rattle.fab_bits.specs.Keys.{key_names}
use Rattle.fab_legal.specs.inner.Keeping.{numbered_pad}
use Rattle.fab_legal.proofs.ports.numbered.Given as goal

abbrev pub invariant-loop-name : goal.invariant-loop-name
invariant-loop-name l = l.lines.items ≡ map (numbered_pad (key_names l.ports.keys)) (take l.name-index l.pads)
