use Rattle.std.proofs.Common.{◌≡◌, take}
use Rattle.fab_blocks.proofs.grid.copies.Given as goal

abbrev pub invariant-loop-cell : goal.invariant-loop-cell
invariant-loop-cell l = l.made.items ≡ take l.cell-index l.cells
