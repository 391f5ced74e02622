use Rattle.std.proofs.Common.{map}
use Rattle.fab_systems_laws.specs.Ternary.{unknown}
use Rattle.fab_compiled.proofs.Written.{plain, IsPartly}
use Rattle.fab_compiled.proofs.whole_values.forget.Given as goal

abbrev pub invariant-loop-place : goal.invariant-loop-place
invariant-loop-place l = IsPartly l.place (map (λ t. unknown) (plain l.initial.left)) (plain l.initial.left) (plain l.left)
