use Rattle.fab_solutions_laws.specs.fab_ternary_laws_Operators.{each_tern}
use Rattle.fab_compiled.specs.Pairs.{by}
use Rattle.fab_compiled.proofs.Written.{plain, IsPartly}
use Rattle.fab_compiled.proofs.whole_values.pair_each.Given as goal

abbrev pub invariant-loop-place : goal.invariant-loop-place
invariant-loop-place l = IsPartly l.place (each_tern (by l.pairing) (plain l.initial.left) (plain l.right)) (plain l.initial.left) (plain l.left)
