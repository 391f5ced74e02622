-- What is done next for a point that waits.
use Rattle.std.specs.Prelude.{◌≡◌, Bool, false, List, Some, slice_get}
use Rattle.fab_ahead.specs.declared.rows.Next.{Next}
use Rattle.fab_ahead.specs.declared.rows.Next.TheVariants.{Ask, Look, LookInRow}

-- A point that is asked for has not been asked for before.
abbrev pub AsksUnmarked : (marks : List Bool) → Next → Type 0
AsksUnmarked marks (Ask point) = slice_get marks point ≡ Some false
AsksUnmarked marks Look = Unit {0}
AsksUnmarked marks LookInRow = Unit {0}
