-- The greatest sums over nodes that have numbers. A node has a list of the steps into it.
use Rattle.std.specs.Prelude.{◌≡◌, ℕ, ◌+◌, ◌≤◌, ◌<◌, max, Bool, true, List, [], ◌∷◌, Contains, Option, Some, None, option_map}

-- For each node the units of a start there, if it has one, and each step into it: the node before, and the units of the step.
pub record PlainSteps : Type 0 where
  pub starts : ℕ → Option ℕ
  pub before : ℕ → List (ℕ × ℕ)

-- a node is reached with a sum, from a start and by steps
pub data Arrives (steps : PlainSteps) : (node sum : ℕ) → Type 0 where
  begins : {node sum : ℕ} → steps.starts node ≡ Some sum → Arrives steps node sum
  goes : {node : ℕ} (from sum units : ℕ) → Arrives steps from sum → Contains (steps.before node) (from, units) → Arrives steps node (sum + units)

-- the node is never reached; or it is reached with this sum and with none above it
abbrev pub IsLatest : PlainSteps → (node : ℕ) → Option ℕ → Type 0
IsLatest steps node None = (sum : ℕ) → Arrives steps node sum → ⊥
IsLatest steps node (Some sum) = Arrives steps node sum × ((other : ℕ) → Arrives steps node other → other ≤ sum)

abbrev pub later_of : Option ℕ → Option ℕ → Option ℕ
later_of None other = other
later_of (Some sum) None = Some sum
later_of (Some sum) (Some other) = Some (max sum other)

abbrev pub by_steps : (latest : ℕ → Option ℕ) → List (ℕ × ℕ) → Option ℕ
by_steps latest [] = None
by_steps latest (step ∷ more) = later_of (option_map (λ sum. sum + step.1) (latest step.0)) (by_steps latest more)

-- the greatest of what a start gives a node and of what each step into it gives
abbrev pub latest_by : PlainSteps → (latest : ℕ → Option ℕ) → (node : ℕ) → Option ℕ
latest_by steps latest node = later_of (steps.starts node) (by_steps latest (steps.before node))

-- along each step ranks grow
abbrev pub IsRanked : PlainSteps → (rank : ℕ → ℕ) → Type 0
IsRanked steps rank = (node : ℕ) (step : ℕ × ℕ) → Contains (steps.before node) step → rank step.0 < rank node

-- Nodes of a set that holds with each node those before it, and their sums, each of which follows from those before it.
pub record AreKnown (steps : PlainSteps) (is_known : ℕ → Bool) (latest : ℕ → Option ℕ) : Type 0 where
  pub closed : (node : ℕ) (step : ℕ × ℕ) → is_known node ≡ true → Contains (steps.before node) step → is_known step.0 ≡ true
  pub by : (node : ℕ) → is_known node ≡ true → latest node ≡ latest_by steps latest node

-- If ranks grow along steps, each sum of such a set is the greatest.
abbrev pub KnownAreLatest : Type 0
KnownAreLatest =
    (steps : PlainSteps) (rank : ℕ → ℕ) (is_known : ℕ → Bool) (latest : ℕ → Option ℕ) → IsRanked steps rank → AreKnown steps is_known latest →
    (node : ℕ) → is_known node ≡ true → IsLatest steps node (latest node)

-- ---- no cycle of steps

-- whoever goes backwards from the node comes to an end
pub data IsGrounded (steps : PlainSteps) : ℕ → Type 0 where
  grounded : {node : ℕ} → ((step : ℕ × ℕ) → Contains (steps.before node) step → IsGrounded steps step.0) → IsGrounded steps node

-- Nodes that are all grounded can be ranked.
abbrev pub GroundedAreRanked : Type 0
GroundedAreRanked = (steps : PlainSteps) → ((node : ℕ) → IsGrounded steps node) → (rank : ℕ → ℕ) × IsRanked steps rank
