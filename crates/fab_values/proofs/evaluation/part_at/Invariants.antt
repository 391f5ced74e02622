use Rattle.std.proofs.Common.{◌≡◌, ◌<◌, ◌≤◌, map, take, length}
use Rattle.fab_syntax.specs.Plain.{plain_expr, plain_exprs}
use Rattle.fab_meaning.specs.Value.{bit_at}
use Rattle.fab_values.specs.Evaluation.{exprs_width, values_in}
use Rattle.fab_values.proofs.evaluation.part_at.Given as goal

-- the bit is one of the parts that are left
abbrev pub invariant-loop-end : goal.invariant-loop-end
invariant-loop-end l = record {
  end : l.end ≤ length l.parts;
  within : l.place < exprs_width l.values.declarations (plain_exprs (take l.end (map plain_expr l.parts)));
  same : bit_at (values_in l.values (plain_exprs (take l.end (map plain_expr l.parts)))) l.place
      ≡ bit_at (values_in l.values (plain_exprs (map plain_expr l.parts))) l.bit;
}

abbrev pub decreases-loop-end : goal.decreases-loop-end
decreases-loop-end l = l.end
