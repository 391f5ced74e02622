use Rattle.std.proofs.Common.{◌≡◌, ℕ, ◌<◌, ◌++◌, length, get_or, count_by, take, drop}
use Rattle.fab_fabric.specs.inner.Index.{has_side}
use Rattle.fab_fabric.proofs.Passing.{passing}
use Rattle.fab_fabric.proofs.ends.ends_of.Given as goal

-- the rows found so far and those among the other rows are those of all rows
abbrev pub invariant-loop-number : goal.invariant-loop-number
invariant-loop-number l = record {
  as_many : length l.before.items ≡ l.number;
  counted : length l.found.items ≡ count_by (has_side l.side l.dir) (take l.number l.rows);
  before : (row : ℕ) → row < l.number → get_or l.before.items row 0 ≡ count_by (has_side l.side l.dir) (take row l.rows);
  numbers : l.found.items ++ passing (has_side l.side l.dir) l.number (drop l.number l.rows) ≡ passing (has_side l.side l.dir) 0 l.rows;
}
