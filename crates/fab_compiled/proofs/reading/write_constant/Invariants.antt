use Rattle.std.proofs.Common.{map}
use Rattle.fab_systems_laws.specs.Ternary.{known}
use Rattle.fab_compiled.proofs.Written.{plain, IsPartly}
use Rattle.fab_compiled.proofs.reading.write_constant.Given as goal

-- the bits so far
abbrev pub invariant-loop-place : goal.invariant-loop-place
invariant-loop-place l = IsPartly l.place (map known l.constant) (plain l.initial.bits) (plain l.bits)
