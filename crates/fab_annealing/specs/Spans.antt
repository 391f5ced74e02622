-- How far the places of items spread.
use Rattle.std.specs.Prelude.{ℕ, ◌-◌, List, [], ◌∷◌, fold, max, min}
use Rattle.fab_annealing.specs.declared.axis.Span.{Span}

-- the least place of some items, and the greatest
abbrev pub least : (place : ℕ → ℕ) → (items : List ℕ) → ℕ
least place [] = 0
least place (item ∷ items) = fold (λ low other. min low (place other)) (place item) items

abbrev pub greatest : (place : ℕ → ℕ) → (items : List ℕ) → ℕ
greatest place [] = 0
greatest place (item ∷ items) = fold (λ high other. max high (place other)) (place item) items

abbrev pub spread : (place : ℕ → ℕ) → (items : List ℕ) → ℕ
spread place items = greatest place items - least place items

abbrev pub span_of : (place : ℕ → ℕ) → (items : List ℕ) → Span
span_of place items = record { low = least place items; high = greatest place items }
