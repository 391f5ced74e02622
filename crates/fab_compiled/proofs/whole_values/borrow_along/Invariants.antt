use Rattle.std.proofs.Common.{◌≡◌, false}
use Rattle.fab_syntax.specs.declared.tree.Op.TheVariants as ops
use Rattle.fab_values.proofs.Evaluated.{borrow_at}
use Rattle.fab_solutions_laws.specs.fab_ternary_laws_Operators.{tern_operated}
use Rattle.fab_compiled.specs.Evaluation.{known_bits}
use Rattle.fab_compiled.proofs.Written.{plain, IsPartly}
use Rattle.fab_compiled.proofs.whole_values.borrow_along.Given as goal

-- what the bits so far borrow, and which are written
abbrev pub invariant-loop-place : goal.invariant-loop-place
invariant-loop-place l = record {
  borrows : l.borrow ≡ borrow_at false (known_bits (plain l.initial.left)) (known_bits (plain l.right)) l.place;
  part : IsPartly l.place (tern_operated ops.Minus (plain l.initial.left) (plain l.right)) (plain l.initial.left) (plain l.left);
}
