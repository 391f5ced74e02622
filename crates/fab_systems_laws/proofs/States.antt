-- Blocks of events settle a ranked set over states of any type, where an activated point takes what it shows in the state before.
use Rattle.std.proofs.Common.{◌≡◌, ℕ, ◌≤◌, Bool, true, false, List, length, ◌∙◌, arith}
use Rattle.std.specs.List.{All}
use Rattle.fab_systems_laws.specs.System.{AgreeOn, ReadsOnly, IsSettledOn, IsRanked}
use Rattle.fab_systems_laws.specs.Steps.{IsBlock, blocks_then}
use Rattle.fab_systems_laws.proofs.Solutions.{shows_settled}
use Rattle.fab_systems_laws.proofs.Runs.{Run, run_settles}

-- An event may do more than the equations say: `Inv` is what holds of all states on the way, and has the given points right.
pub states_settle : {S P E : Type 0} (has given : P → Bool) (reads : P → P → Bool) (rank : P → ℕ) (ranks : ℕ) (next : P → (P → Bool) → Bool) →
    IsRanked has given reads rank ranks → ReadsOnly has reads next →
    (settled : P → Bool) → IsSettledOn has next settled →
    (at : S → P → Bool) (step : E → S → S → Type 0) (activates : E → P → Bool) (Inv : S → Type 0) →
    ((e : E) (s t : S) → Inv s → step e s t → Inv t) →
    ((s : S) → Inv s → AgreeOn given (at s) settled) →
    ((e : E) (s t : S) (p : P) → Inv s → step e s t → has p ≡ true → activates e p ≡ false → at t p ≡ at s p) →
    ((e : E) (s t : S) (p : P) → Inv s → step e s t → has p ≡ true → activates e p ≡ true → at t p ≡ next p (at s)) →
    (blocks : List (List E)) (more : List E) (s t : S) → Run step (blocks_then blocks more) s t → Inv s →
    All (IsBlock activates has) blocks → ranks ≤ length blocks →
    AgreeOn has (at t) settled
states_settle has given reads rank ranks next ranked only settled is at step activates Inv inv right keeps takes blocks more s t run i all enough p h =
    run_settles at step activates Inv has rank settled inv keeps
    (λ e a b q j d g act below. takes e a b q j d g act ∙ shows_settled has given reads rank ranks next ranked only (at a) settled is (right a j) q g below)
    blocks more s t run i all p h (omega (arith, ranked.bound p h))
