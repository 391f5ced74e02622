-- Names that are numbered in the order in which they first come.
use Rattle.std.specs.Prelude.{◌≡◌, ◌<◌, ℕ, List, map, length, All}
use Rattle.std.specs.Str.{bytes_eq}
use Rattle.fab_select.specs.Selection.{firsts}
use Rattle.fab_matrix.specs.Names.{Name}
use Rattle.fab_matrix.specs.inner.Grouped.{name_at}

-- The numbers stand for these names: each is the place of its name among the keys, which are the names at their first places.
pub record AreNumbersOf (names keys : List Name) (numbers : List ℕ) : Type 0 where
  pub order : keys ≡ firsts bytes_eq names
  pub within : All (λ number. number < length keys) numbers
  pub same : map (name_at keys) numbers ≡ names
