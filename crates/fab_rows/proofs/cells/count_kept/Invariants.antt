use Rattle.std.proofs.Common.{◌≡◌, ◌≤◌, take, length}
use Rattle.fab_lines.specs.Parts.{without_back, is_empty_cell}
use Rattle.fab_rows.proofs.cells.count_kept.Given as goal

abbrev pub invariant-loop-count : goal.invariant-loop-count
invariant-loop-count l = record {
  within : l.count ≤ length l.cells;
  same : without_back is_empty_cell (take l.count l.cells) ≡ without_back is_empty_cell l.cells;
}

abbrev pub decreases-loop-count : goal.decreases-loop-count
decreases-loop-count l = l.count
