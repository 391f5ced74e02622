-- The tables over which the search runs, and what it leaves there.
use Rattle.std.specs.Prelude.{◌≡◌, ℕ, ◌+◌, ◌*◌, ◌^◌, ◌<◌, ◌≤◌, List, [], ◌∷◌, All, Contains, Vec, map, length, slice_index_or, Option, Some, None}
use Rattle.fab_timing.specs.declared.steps.Steps.{Steps}
use Rattle.fab_timing.specs.inner.Arrivals.{PlainSteps, latest_by}
use Rattle.fab_timing.specs.Walks.{Stop}

-- the steps that lead to a node; none past the last
abbrev pub before_in : {A : Type 0} → List (Vec (ℕ × ℕ) A) → (node : ℕ) → List (ℕ × ℕ)
before_in groups node = slice_index_or (map (λ group. group.items) groups) node []

-- what a table has for a node; nothing past the last
abbrev pub sum_at : List (Option ℕ) → (node : ℕ) → Option ℕ
sum_at sums node = slice_index_or sums node None

-- the steps of the tables, in which nodes are places
abbrev pub plain_steps : Steps → PlainSteps
plain_steps steps = record { starts = sum_at steps.starts.items; before = before_in steps.before.items }

-- the most units of a start, and of a step: those of a join between opposite corners of the greatest grid
abbrev pub most_units : ℕ
most_units = 127

-- A step into a node leads from one of so many nodes, and takes some units.
pub record IsShortStep (nodes : ℕ) (step : ℕ × ℕ) : Type 0 where
  pub within : step.0 < nodes
  pub some : 0 < step.1
  pub few : step.1 ≤ most_units

-- Tables of one length with short steps.
pub record AreTables (steps : Steps) : Type 0 where
  pub few : length steps.starts.items < 2 ^ 32
  pub lengths : length steps.before.items ≡ length steps.starts.items
  pub starts : (node units : ℕ) → sum_at steps.starts.items node ≡ Some units → units ≤ most_units
  pub short : (node : ℕ) → All (IsShortStep (length steps.starts.items)) (before_in steps.before.items node)

-- each node has what it has by those before it
abbrev pub AreSums : Steps → List (Option ℕ) → Type 0
AreSums steps sums = (node : ℕ) → sum_at sums node ≡ latest_by (plain_steps steps) (sum_at sums) node

-- no sum is above that of so many steps
abbrev pub AreAtMost : (steps : ℕ) → List (Option ℕ) → Type 0
AreAtMost steps sums = (node sum : ℕ) → sum_at sums node ≡ Some sum → sum ≤ steps * most_units

-- no sum is above that of as many steps as there are nodes
abbrev pub AreSmall : List (Option ℕ) → Type 0
AreSmall sums = AreAtMost (length sums) sums

-- ---- walks

-- from a stop on, along steps, up to a last stop
abbrev pub GoesTo : PlainSteps → Stop → List Stop → (last : Stop) → Type 0
GoesTo steps at [] last = at ≡ last
GoesTo steps at (next ∷ more) last =
    (units : ℕ) × Contains (steps.before next.0.0) (at.0.0, units) × (next.1 ≡ at.1 + units) × GoesTo steps next more last

-- from a start on
abbrev pub IsTrail : PlainSteps → List Stop → (last : Stop) → Type 0
IsTrail steps [] last = ⊥
IsTrail steps (first ∷ more) last = (steps.starts first.0.0 ≡ Some first.1) × GoesTo steps first more last

-- ---- ends

-- The sum at an end and the units of this end make a delay.
pub record EndsWith (ends : List (ℕ × ℕ)) (latest : ℕ → Option ℕ) (node delay : ℕ) : Type 0 where
  pub units : ℕ
  pub listed : Contains ends (node, units)
  pub sum : ℕ
  pub comes : latest node ≡ Some sum
  pub delay_is : delay ≡ sum + units

-- no end has a sum; or one has this delay, and none a greater one
abbrev pub IsLatestEnd : List (ℕ × ℕ) → (latest : ℕ → Option ℕ) → Option (ℕ × ℕ) → Type 0
IsLatestEnd ends latest None = (node delay : ℕ) → EndsWith ends latest node delay → ⊥
IsLatestEnd ends latest (Some end) = EndsWith ends latest end.0 end.1 × ((node delay : ℕ) → EndsWith ends latest node delay → delay ≤ end.1)
