-- Counts of wires, summed one by one.
use Rattle.std.proofs.Common.{◌≡◌, ◌<◌, ◌+◌, ℕ, Option, Some, None, arith}
use Rattle.std.specs.Option.{SomeIff}
use Rattle.fab_fabric.specs.Sums.{sum_to}
use Rattle.fab_fabric.proofs.Summed.{sum_more}

-- a sum that fits is one summand longer
pub sum_on : (summand : ℕ → ℕ) (n before more limit : ℕ) (added : Option ℕ) (sum : ℕ) → SomeIff added (before + more < limit) (before + more) → added ≡ Some sum → before ≡ sum_to n summand → more ≡ summand n
    → sum ≡ sum_to (n + 1) summand
sum_on summand n before more limit None sum iff is so_far here = absurd cc
sum_on summand n before more limit (Some other) sum iff is so_far here = let same : other ≡ sum = cc in omega (arith, same, iff.1, so_far, here, sum_more n summand)
