-- Values that are drawn.
use Rattle.std.specs.Prelude.{◌≡◌, ℕ, zero, suc, Bool, true, false, List, [], ◌∷◌, length, slice_get, Some}
use Rattle.fab_systems_laws.specs.Ternary.{known}
use Rattle.fab_ternary.specs.declared.Tern.{Tern}
use Rattle.fab_network.specs.Passes.{kept_tern}
use Rattle.fab_draws.specs.Draws.{is_one}

-- how many of the first points are marked so
abbrev pub marked_before : (mark : Bool) → List Bool → (point : ℕ) → ℕ
marked_before mark marks zero = 0
marked_before mark [] (suc point) = 0
marked_before true (true ∷ marks) (suc point) = suc (marked_before true marks point)
marked_before true (false ∷ marks) (suc point) = marked_before true marks point
marked_before false (true ∷ marks) (suc point) = marked_before false marks point
marked_before false (false ∷ marks) (suc point) = suc (marked_before false marks point)

-- Each point that is marked so has bit 0 of a word, in the order of the points; all others have what they had.
pub record AreDrawn (draws : ℕ → ℕ) (marks : List Bool) (mark : Bool) (old new : List Tern) : Type 0 where
  pub long : length new ≡ length old
  pub drawn : (point : ℕ) → slice_get marks point ≡ Some mark → kept_tern new point ≡ known (is_one (draws (marked_before mark marks point)))
  pub others : (point : ℕ) → (slice_get marks point ≡ Some mark → ⊥) → kept_tern new point ≡ kept_tern old point
