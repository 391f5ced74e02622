use Rattle.std.proofs.Common.{◌≡◌, ◌++◌, map, take}
use Rattle.fab_read.specs.Fabrics.{type_number}
use Rattle.fab_read.proofs.grid.push_line.Given as goal

abbrev pub invariant-loop-cell : goal.invariant-loop-cell
invariant-loop-cell l = l.places.items ≡ l.fn.places.items ++ map (type_number l.types) (take l.cell-index l.cells)
