-- Single turns of the search for the best end, and of the way back from it.
use Rattle.std.specs.Prelude.{◌≡◌, ℕ, ◌+◌, Bool, false, List, [], ◌∷◌, Contains, Option, Some, None, option_map, if◌then◌else◌, nat_eq, nat_lt}
use Rattle.fab_timing.specs.inner.Arrivals.{PlainSteps}

-- the better of an end with its delay and of another end, which has this sum
abbrev pub better : Option (ℕ × ℕ) → (end : ℕ × ℕ) → (sum : Option ℕ) → Option (ℕ × ℕ)
better best end None = best
better None end (Some sum) = Some (end.0, sum + end.1)
better (Some old) end (Some sum) = if nat_lt old.1 (sum + end.1) then Some (end.0, sum + end.1) else Some old

abbrev pub stop_at : (latest : ℕ → Option ℕ) → (node : ℕ) → Option (ℕ × ℕ)
stop_at latest node = option_map (λ sum. (node, sum)) (latest node)

-- whether a step from a node of some sum gives this sum
abbrev pub gives : Option ℕ → (units sum : ℕ) → Bool
gives None units sum = false
gives (Some old) units sum = nat_eq (old + units) sum

-- the first node from which one of the steps gives this sum
abbrev pub source_of : (latest : ℕ → Option ℕ) → (sum : ℕ) → List (ℕ × ℕ) → Option ℕ
source_of latest sum [] = None
source_of latest sum (step ∷ more) = if gives (latest step.0) step.1 sum then Some step.0 else source_of latest sum more

-- a walk with the sum of a node begins there; or it comes from another node with the sum of this one
abbrev pub ComesFrom : PlainSteps → (latest : ℕ → Option ℕ) → (at : ℕ × ℕ) → Option (ℕ × ℕ) → Type 0
ComesFrom steps latest at None = steps.starts at.0 ≡ Some at.1
ComesFrom steps latest at (Some from) = (units : ℕ) × Contains (steps.before at.0) (from.0, units) × (latest from.0 ≡ Some from.1) × (at.1 ≡ from.1 + units)
