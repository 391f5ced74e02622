use Rattle.std.proofs.Common.{◌≡◌, take}
use Rattle.fab_read.specs.Fabrics.{places}
use Rattle.fab_read.proofs.grid.places.Given as goal

abbrev pub invariant-loop-line : goal.invariant-loop-line
invariant-loop-line l = l.found.items ≡ places l.types (take l.line-index l.lines)
