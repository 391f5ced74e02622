-- Items of counted lists.
use Rattle.std.proofs.Common.{◌≡◌, ◌<◌, ℕ, zero, suc, refl, arith}
use Rattle.std.specs.Prelude.{slice_index_or}
use Rattle.fab_model.specs.Tiles.{counted}

pub counted_at : {X : Type 0} (n : ℕ) (f : ℕ → X) (i : ℕ) (d : X) → i < n → slice_index_or (counted n f) i d ≡ f i
unfolding counted
counted_at zero f i d below = absurd (omega (arith, below))
counted_at (suc n) f zero d below = refl
counted_at (suc n) f (suc i) d below = counted_at n (λ k. f (suc k)) i d (omega (arith, below))
