-- The state of the search for the greatest sums.
use Rattle.std.specs.Prelude.{◌≡◌, ℕ, ◌<◌, Bool, true, false, List, [], ◌∷◌, length, get_or, sum_by, Contains, Option, Some, None, if◌then◌else◌}
use Rattle.fab_timing.specs.declared.search.Mark.{Mark}
use Rattle.fab_timing.specs.declared.search.Mark.TheVariants as marks
use Rattle.fab_timing.specs.declared.steps.Steps.{Steps}
use Rattle.fab_timing.specs.inner.Arrivals.{IsRanked, AreKnown}
use Rattle.fab_timing.specs.inner.Tables.{plain_steps, sum_at, AreAtMost}

abbrev pub is_settled : Mark → Bool
is_settled marks.New = false
is_settled marks.Waiting = false
is_settled marks.Settled = true

abbrev pub mark_at : List Mark → (node : ℕ) → Mark
mark_at list node = get_or list node marks.New

-- how many turns a node still has before it
abbrev pub turns_of : Mark → ℕ
turns_of marks.New = 2
turns_of marks.Waiting = 1
turns_of marks.Settled = 0

abbrev pub one_if_settled : Mark → ℕ
one_if_settled mark = if is_settled mark then 1 else 0

abbrev pub settled : List Mark → ℕ
settled list = sum_by one_if_settled list

abbrev pub first_of : Option ℕ → Option ℕ → Option ℕ
first_of None later = later
first_of (Some node) later = Some node

-- the first node from which a step leads and which is not settled
abbrev pub unsettled : List Mark → List (ℕ × ℕ) → Option ℕ
unsettled list [] = None
unsettled list (step ∷ more) = first_of (if is_settled (mark_at list step.0) then None else Some step.0) (unsettled list more)

-- Settled nodes have their sums. Those that wait are the nodes of the path, and each step of the path goes on to a lower rank.
pub record IsSearch (steps : Steps) (list : List Mark) (sums : List (Option ℕ)) (path : List ℕ) : Type 0 where
  pub marked : length list ≡ length steps.starts.items
  pub summed : length sums ≡ length steps.starts.items
  pub known : AreKnown (plain_steps steps) (λ node. is_settled (mark_at list node)) (sum_at sums)
  pub small : AreAtMost (settled list) sums
  pub on_path : (node : ℕ) → mark_at list node ≡ marks.Waiting → Contains path node
  pub waits : (node : ℕ) → Contains path node → mark_at list node ≡ marks.Waiting
  pub falls : (rank : ℕ → ℕ) → IsRanked (plain_steps steps) rank → (j k : ℕ) → j < k → k < length path → rank (get_or path k 0) < rank (get_or path j 0)

-- what was met stays met
abbrev pub StaysMet : (old new : List Mark) → Type 0
StaysMet old new = (node : ℕ) → (mark_at old node ≡ marks.New → ⊥) → mark_at new node ≡ marks.New → ⊥
