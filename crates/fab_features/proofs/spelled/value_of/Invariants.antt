use Rattle.std.proofs.Common.{◌≡◌, ◌+◌, ◌-◌, false, get_or}
use Rattle.fab_bits.specs.Bits.{number, first_bits}
use Rattle.fab_lines.specs.Numbers.{capped}
use Rattle.fab_features.proofs.spelled.value_of.Given as goal

-- the most significant bits so far
abbrev pub invariant-loop-place : goal.invariant-loop-place
invariant-loop-place l = l.value ≡ capped (number (first_bits l.place (λ k. get_or l.bits (l.low + (l.width - l.place) + k) false)))
