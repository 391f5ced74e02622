-- Systems of equations over three values. A point that no equation decides is unknown.
use Rattle.std.specs.Prelude.{◌≡◌, Bool, true, false, List}
use Rattle.fab_systems_laws.specs.System.{IsSettledOn, IsSettledFrom, AreListed}

pub data Tern : Type 0 where
  no : Tern
  yes : Tern
  unknown : Tern

abbrev pub known : Bool → Tern
known true = yes
known false = no

-- a known value stands in the other, and an unknown one may be anything there
abbrev pub IsBelow : (t u : Tern) → Type 0
IsBelow no u = no ≡ u
IsBelow yes u = yes ≡ u
IsBelow unknown u = Unit {0}

abbrev pub AreBelow : {P : Type 0} → (t u : P → Tern) → Type 0
AreBelow {P} t u = (p : P) → IsBelow (t p) (u p)

-- what is known of a point of the set stays known where more is known of all points
abbrev pub IsMonotone : {P : Type 0} → (P → Bool) → (show : P → (P → Tern) → Tern) → Type 0
IsMonotone {P} has show = (p : P) (t u : P → Tern) → has p ≡ true → AreBelow t u → IsBelow (show p t) (show p u)

abbrev pub Approximates : {P : Type 0} → (t : P → Tern) (a : P → Bool) → Type 0
Approximates t a = AreBelow t (λ p. known (a p))

-- what is known that a point of the set shows, it shows under each assignment that the ternary one approximates
abbrev pub IsApproximation : {P : Type 0} → (P → Bool) → (show : P → (P → Tern) → Tern) → (next : P → (P → Bool) → Bool) → Type 0
IsApproximation {P} has show next = (p : P) (t : P → Tern) (a : P → Bool) → has p ≡ true → Approximates t a → IsBelow (show p t) (known (next p a))

-- where all is known, so is what each point of the set shows
abbrev pub IsExact : {P : Type 0} → (P → Bool) → (show : P → (P → Tern) → Tern) → (next : P → (P → Bool) → Bool) → Type 0
IsExact {P} has show next = (p : P) (a : P → Bool) → has p ≡ true → show p (λ q. known (a q)) ≡ known (next p a)

-- a solution that is below each one with the same other points
pub record IsLeast {P : Type 0} (has : P → Bool) (show : P → (P → Tern) → Tern) (old t : P → Tern) : Type 0 where
  pub solves : IsSettledFrom has show old t
  pub least : (u : P → Tern) → IsSettledFrom has show old u → AreBelow t u

-- A set of listed points has a least solution, whatever the other points have.
abbrev pub LeastExists : Type 0 → Type 0
LeastExists P =
    (has : P → Bool) (points : List P) (show : P → (P → Tern) → Tern) → AreListed has points → IsMonotone has show →
    (old : P → Tern) → (t : P → Tern) × IsLeast has show old t

-- Two least solutions with the same other points are the same.
abbrev pub LeastIsUnique : Type 0 → Type 0
LeastIsUnique P =
    (has : P → Bool) (show : P → (P → Tern) → Tern) (old t u : P → Tern) →
    IsLeast has show old t → IsLeast has show old u → (p : P) → t p ≡ u p

-- What is known in the least solution holds in each settled assignment whose other points are as the ternary ones allow.
abbrev pub LeastHolds : Type 0 → Type 0
LeastHolds P =
    (has : P → Bool) (points : List P) (show : P → (P → Tern) → Tern) (next : P → (P → Bool) → Bool) →
    AreListed has points → IsMonotone has show → IsApproximation has show next →
    (old t : P → Tern) → IsLeast has show old t →
    (a : P → Bool) → IsSettledOn has next a → ((p : P) → has p ≡ false → IsBelow (old p) (known (a p))) → Approximates t a

-- A settled assignment, taken as a ternary one, is a solution.
abbrev pub SettledSolves : Type 0 → Type 0
SettledSolves P =
    (has : P → Bool) (show : P → (P → Tern) → Tern) (next : P → (P → Bool) → Bool) → IsExact has show next →
    (a : P → Bool) → IsSettledOn has next a → IsSettledOn has show (λ p. known (a p))
