use Rattle.std.proofs.Common.{◌≡◌, false, take, All}
use Rattle.fab_partial.specs.Columns.{lies_within}
use Rattle.fab_partial.proofs.uses.used_cell.Given as goal

-- the cells so far stand elsewhere
abbrev pub invariant-loop-line : goal.invariant-loop-line
invariant-loop-line l = All (λ line. lies_within l.first l.last line.1.x ≡ false) (take l.line-index l.cells)
