-- Equations over points of any type: under an assignment of values to all points, `next` is the value that a point's equation asks for, which the point shows.
-- A set of points is a test.
use Rattle.std.specs.Prelude.{◌≡◌, ◌⊎◌, ℕ, ◌<◌, Bool, true, false, List, length}
use Rattle.std.specs.List.{Contains}

-- two assignments give each point of the set the same value
abbrev pub AgreeOn : {P X : Type 0} → (P → Bool) → (a b : P → X) → Type 0
AgreeOn {P} has a b = (p : P) → has p ≡ true → a p ≡ b p

-- what a point of the set shows depends only on the points that it reads
abbrev pub ReadsOnly : {P X : Type 0} → (P → Bool) → (reads : P → P → Bool) → (next : P → (P → X) → X) → Type 0
ReadsOnly {P} {X} has reads next = (p : P) (a b : P → X) → has p ≡ true → AgreeOn (reads p) a b → next p a ≡ next p b

-- all equations of the set hold
abbrev pub IsSettledOn : {P X : Type 0} → (P → Bool) → (next : P → (P → X) → X) → (P → X) → Type 0
IsSettledOn {P} has next a = (p : P) → has p ≡ true → a p ≡ next p a

-- the equations of the set hold, and no other point has changed
pub record IsSettledFrom {P X : Type 0} (has : P → Bool) (next : P → (P → X) → X) (old new : P → X) : Type 0 where
  pub settled : IsSettledOn has next new
  pub others : (p : P) → has p ≡ false → new p ≡ old p

-- no point of the set reads itself, not even through others: what it reads is given from outside, or has a lower rank in the set
pub record IsRanked {P : Type 0} (has given : P → Bool) (reads : P → P → Bool) (rank : P → ℕ) (ranks : ℕ) : Type 0 where
  pub bound : (p : P) → has p ≡ true → rank p < ranks
  pub apart : (p : P) → given p ≡ true → has p ≡ false
  pub lower : (p q : P) → has p ≡ true → reads p q ≡ true → (given q ≡ true) ⊎ ((has q ≡ true) × (rank q < rank p))

-- each point of the set is on the list
abbrev pub AreListed : {P : Type 0} → (P → Bool) → List P → Type 0
AreListed {P} has points = (p : P) → has p ≡ true → Contains points p

-- Of a ranked set there is a settled assignment, whatever the other points have,
-- and any two that agree on the given points agree on the set.
abbrev pub SettlesOnce : Type 0 → Type 0
SettlesOnce P =
    (has given : P → Bool) (reads : P → P → Bool) (rank : P → ℕ) (ranks : ℕ) (next : P → (P → Bool) → Bool) →
    IsRanked has given reads rank ranks → ReadsOnly has reads next →
    ((old : P → Bool) → (new : P → Bool) × IsSettledFrom has next old new)
    × ((a b : P → Bool) → IsSettledOn has next a → IsSettledOn has next b → AgreeOn given a b → AgreeOn has a b)

-- A ranked set of listed points needs no more ranks than the list is long.
abbrev pub RanksByCount : Type 0 → Type 0
RanksByCount P =
    (has given : P → Bool) (reads : P → P → Bool) (rank : P → ℕ) (ranks : ℕ) (points : List P) →
    IsRanked has given reads rank ranks → AreListed has points →
    (other : P → ℕ) × IsRanked has given reads other (length points)
