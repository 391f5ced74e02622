use Rattle.std.proofs.Common.{◌≤◌, length, map, drop}
use Rattle.fab_syntax.specs.Plain.{plain_expr, plain_exprs, plain_text}
use Rattle.fab_values.specs.Declarations.{declarations}
use Rattle.fab_equations.specs.Instances.{Instance}
use Rattle.fab_equations.specs.Numbering.{IsInstanceOfNumber}
use Rattle.fab_compiled.specs.inner.Joining.{AreJoined}
use Rattle.fab_compiled.proofs.compiler.+compile.Given as goal

-- the parts from the end on
abbrev pub invariant-compile_parts-loop-end : goal.invariant-compile_parts-loop-end
invariant-compile_parts-loop-end l = record {
  within : l.end ≤ length l.parts;
  compiled : (i : Instance) → IsInstanceOfNumber (plain_text l.equations) l.instance i →
      AreJoined (declarations i.here) (plain_exprs (drop l.end (map plain_expr l.parts))) l.joined.low.tree.value l.joined.low.width
      l.joined.group.tree.value l.joined.group.width;
}

abbrev pub decreases-compile_parts-loop-end : goal.decreases-compile_parts-loop-end
decreases-compile_parts-loop-end l = l.end
