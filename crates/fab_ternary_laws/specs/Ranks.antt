-- Ranked sets of points under ternary values.
use Rattle.std.specs.Prelude.{◌≡◌, ℕ, Bool, true}
use Rattle.fab_systems_laws.specs.System.{IsSettledOn, IsRanked}
use Rattle.fab_systems_laws.specs.Ternary.{Tern, known}

-- A ranked set over known given points, whose points show known values where they read known ones, has known values in every ternary solution:
-- those of any settled assignment.
abbrev pub KnownRanks : Type 0 → Type 0
KnownRanks P =
    (has given : P → Bool) (reads : P → P → Bool) (rank : P → ℕ) (ranks : ℕ) (show : P → (P → Tern) → Tern) (next : P → (P → Bool) → Bool)
    (t : P → Tern) (a : P → Bool) → IsRanked has given reads rank ranks → ((p : P) → given p ≡ true → t p ≡ known (a p)) →
    ((p : P) → has p ≡ true → ((q : P) → reads p q ≡ true → t q ≡ known (a q)) → show p t ≡ known (next p a)) →
    IsSettledOn has show t → IsSettledOn has next a → (p : P) → has p ≡ true → t p ≡ known (a p)
