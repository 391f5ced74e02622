-- Orders that words shuffle.
use Rattle.std.specs.Prelude.{ℕ, zero, suc, ◌%◌, List}
use Rattle.std.specs.List.{swap}
use Rattle.fab_draws.specs.Draws.{behind}

-- The first so many places of an order, shuffled: from the last of them down to 1, place i changes with the one that a word modulo i + 1 tells.
abbrev pub shuffled : (places : ℕ) → (draws : ℕ → ℕ) → List ℕ → List ℕ
shuffled zero draws order = order
shuffled (suc zero) draws order = order
shuffled (suc (suc i)) draws order = shuffled (suc i) (behind 1 draws) (swap order (suc i) (draws 0 % suc (suc i)))
