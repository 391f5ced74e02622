use Rattle.std.proofs.Common.{◌≡◌, ◌++◌, map, take}
use Rattle.fab_texts.specs.Printed.{rows_text}
use Rattle.fab_impl.specs.Spelled.{cell_line}
use Rattle.fab_impl.proofs.writer.put_cells.Given as goal

abbrev pub invariant-loop-cell : goal.invariant-loop-cell
invariant-loop-cell l = l.out.items ≡ l.fn.out.items ++ rows_text (map cell_line (take l.cell-index l.cells))
