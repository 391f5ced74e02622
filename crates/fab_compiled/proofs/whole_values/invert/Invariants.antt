use Rattle.std.proofs.Common.{map}
use Rattle.fab_solutions_laws.specs.fab_ternary_laws_Operators.{inverse as inverse_of}
use Rattle.fab_compiled.proofs.Written.{plain, IsPartly}
use Rattle.fab_compiled.proofs.whole_values.invert.Given as goal

abbrev pub invariant-loop-place : goal.invariant-loop-place
invariant-loop-place l = IsPartly l.place (map inverse_of (plain l.initial.bits)) (plain l.initial.bits) (plain l.bits)
