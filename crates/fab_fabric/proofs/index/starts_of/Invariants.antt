use Rattle.std.proofs.Common.{◌≡◌, ℕ, ◌<◌, length, get_or}
use Rattle.fab_model.specs.Wires.{wires_before_row}
use Rattle.fab_fabric.proofs.index.starts_of.Given as goal

abbrev pub invariant-loop-row : goal.invariant-loop-row
invariant-loop-row l = record {
  start : l.start ≡ wires_before_row l.rows l.row-index;
  as_many : length l.starts.items ≡ l.row-index;
  starts : (row : ℕ) → row < l.row-index → get_or l.starts.items row 0 ≡ wires_before_row l.rows row;
}
