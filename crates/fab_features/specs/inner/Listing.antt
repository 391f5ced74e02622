-- How the features of a design are listed, from tables by number.
use Rattle.std.specs.Prelude.{◌≡◌, ◌<◌, ℕ, ◌+◌, ◌*◌, List, ◌++◌, length, nat_eq, option_map, slice_index_or, Option, None}
use Rattle.std.specs.List.{find}
use Rattle.fab_model.specs.Tiles.{PlainTile}
use Rattle.fab_model.specs.Grid.{PlainFabric}
pub use Rattle.fab_fabric.specs.Drive.{site_at}
use Rattle.fab_fabric.specs.declared.wire.Site.{Site}
use Rattle.fab_use_defs.specs.fab_fabric_text_defs_Places.{PlacedTile}
use Rattle.fab_implementation.specs.Plain.{Edge}
use Rattle.fab_fasm.specs.declared.feature.Feature.{Feature}
use Rattle.fab_fasm.specs.Printing.{line_by_line}

-- these features are added, and their line numbers go on
abbrev pub Pushes : (old new more : List Feature) → Type 0
Pushes old new more = new ≡ old ++ line_by_line (length old + 1) more

-- two numbers, of which the first is a key
abbrev pub Keyed : Type 0
Keyed = ℕ × ℕ

-- what the first pair of a key has
abbrev pub first_value : List Keyed → (key : ℕ) → Option ℕ
first_value pairs key = option_map (λ (pair : Keyed). pair.1) (find (λ pair. nat_eq pair.0 key) pairs)

-- the table has that for each key below its size
pub record HoldsFirsts (size : ℕ) (pairs : List Keyed) (table : List (Option ℕ)) : Type 0 where
  pub as_many : length table ≡ size
  pub each : (key : ℕ) → key < size → slice_index_or table key None ≡ first_value pairs key

-- an edge by the wire that it enters
abbrev pub edge_key : Edge → Keyed
edge_key edge = (edge.1.0, edge.0.0)

-- ---- sites

-- a site by numbers that a grid with so many rows may have
pub record IsNear (rows : ℕ) (site : Site) : Type 0 where
  pub x : site.x < 32
  pub y : site.y < rows
  pub bel : site.bel < 26

-- a site by numbers that the fabric may have
pub record IsInGrid (fabric : PlainFabric) (site : Site) : Type 0 where
  pub x : site.x < fabric.columns
  pub y : site.y < fabric.rows
  pub bel : site.bel < 26

-- sites are numbered by column, row and letter
abbrev pub site_index : (rows : ℕ) → Site → ℕ
site_index rows site = (site.x * rows + site.y) * 26 + site.bel

-- a cell by its site
abbrev pub line_key : (rows : ℕ) → ℕ × Site → Keyed
line_key rows line = (site_index rows line.1, line.0)

abbrev pub placed_tile : (x y : ℕ) → PlainTile → PlacedTile
placed_tile x y tile = record { x = x; y = y; tile = tile }
