-- Points that are groups of finer points.
use Rattle.std.specs.Prelude.{◌≡◌, ◌⊎◌, ℕ, ◌+◌, ◌*◌, ◌<◌, Bool, true, false}
use Rattle.fab_systems_laws.specs.System.{IsRanked}

-- A fine point has its place in its group.
-- It reads given fine points, ones of its own group at lower places, and ones of groups that its group reads and that are not given.
pub record AreGrouped {P Q : Type 0} (has given : P → Bool) (reads : P → P → Bool)
    (fine fine_given : Q → Bool) (fine_reads : Q → Q → Bool) (group : Q → P) (place : Q → ℕ) (places : ℕ) : Type 0 where
  pub inside : (q : Q) → fine q ≡ true → (has (group q) ≡ true) × (place q < places)
  pub apart : (q : Q) → fine_given q ≡ true → fine q ≡ false
  pub reached : (q r : Q) → fine q ≡ true → fine_reads q r ≡ true →
      (fine_given r ≡ true) ⊎ ((fine r ≡ true) × (((group r ≡ group q) × (place r < place q)) ⊎ ((reads (group q) (group r) ≡ true) × (given (group r) ≡ false))))

-- Where the groups are ranked, so are the fine points: by their group, and within it by their place.
abbrev pub GroupsRank : (P Q : Type 0) → Type 0
GroupsRank P Q =
    (has given : P → Bool) (reads : P → P → Bool) (rank : P → ℕ) (ranks : ℕ)
    (fine fine_given : Q → Bool) (fine_reads : Q → Q → Bool) (group : Q → P) (place : Q → ℕ) (places : ℕ) →
    IsRanked has given reads rank ranks → AreGrouped has given reads fine fine_given fine_reads group place places →
    IsRanked fine fine_given fine_reads (λ q. rank (group q) * places + place q) (ranks * places)
