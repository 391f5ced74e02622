-- What the points of a text have.
use Rattle.std.specs.Prelude.{ℕ, ◌<◌, List, length, slice_get, slice_index, Option, Some, None}
use Rattle.fab_systems_laws.specs.Ternary.{unknown}
use Rattle.fab_systems_laws.specs.Ternary.{Tern as PlainTern}
use Rattle.fab_ternary.specs.declared.Tern.{Tern}
use Rattle.fab_ternary.specs.Terns.{plain_tern}

abbrev pub tern_or_unknown : Option Tern → PlainTern
tern_or_unknown None = unknown
tern_or_unknown (Some t) = plain_tern t

-- each point is led to one that has a value
abbrev pub IsView : List Tern → List ℕ → Type 0
IsView terns leads = (point : ℕ) → point < length leads → slice_index leads point < length terns

-- what a point has: what is kept for the one to which it is led
abbrev pub seen : List Tern → List ℕ → (point : ℕ) → PlainTern
seen terns leads point = tern_or_unknown (slice_get terns (slice_index leads point))
