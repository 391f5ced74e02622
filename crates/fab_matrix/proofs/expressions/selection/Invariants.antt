use Rattle.std.proofs.Common.{◌≡◌, ◌≤◌, drop, map, get_or}
use Rattle.fab_syntax.specs.Plain.{plain_expr}
use Rattle.fab_matrix.specs.Matrix.{chain}
use Rattle.fab_matrix.specs.inner.Grouped.{name_at}
use Rattle.fab_matrix.proofs.expressions.selection.Given as goal

-- the value so far is the chain from the next number on
abbrev pub invariant-loop-number : goal.invariant-loop-number
invariant-loop-number l = record {
  least : 1 ≤ l.number;
  chain : plain_expr l.value ≡ chain l.field.low l.field.width l.number (name_at l.inputs (get_or l.chosen 0 0)) (map (name_at l.inputs) (drop l.number l.chosen));
}
