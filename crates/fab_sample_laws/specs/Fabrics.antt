-- The fabric that the files of a sample spell.
use Rattle.std.specs.Prelude.{◌≡◌, ◌≤◌, ℕ, ◌+◌, List, [], ◌∷◌, ◌++◌, All, codes, map, replicate, Option, Some, None}
use Rattle.std.specs.List.{flat_map}
use Rattle.fab_desk.specs.Files.{Map}
use Rattle.fab_kinds.specs.declared.kind.Kind.TheVariants as kinds
use Rattle.fab_model.specs.declared.mode.Mode.TheVariants as modes
use Rattle.fab_model.specs.declared.tiles.Bel.{Bel}
use Rattle.fab_model.specs.Grid.{PlainFabric}
use Rattle.fab_read.specs.Fabrics.{SpellsFabric}
use Rattle.fab_sample.specs.declared.file.File.{File}
use Rattle.fab_sample.specs.Files.{fabric_files}

-- ---- the files

abbrev pub Stands : Map → File → Type 0
Stands files file = files file.name ≡ Some file.text

abbrev pub IsAbsent : Map → List ℕ → Type 0
IsAbsent files name = files name ≡ None

-- the tables that would say where the configuration bits of the tiles stand
abbrev pub place_tables : List (List ℕ)
place_tables = codes "SW_ConfigMem.csv" ∷ codes "SLOG_ConfigMem.csv" ∷ codes "SE_ConfigMem.csv" ∷ []

-- The files of the fabric are there, and no such table is. Nothing is asked of other names.
pub record TellsFabric (files : Map) (size : ℕ) : Type 0 where
  pub stand : All (Stands files) (fabric_files size)
  pub no_places : All (IsAbsent files) place_tables

-- ---- the fabric

abbrev pub pads : List Bel
pads = record { kind = kinds.Io; prefix = codes "A_" } ∷ record { kind = kinds.Io; prefix = codes "B_" } ∷ []

abbrev pub look_up_tables : List Bel
look_up_tables = record { kind = kinds.Lut4c; prefix = codes "LA_" } ∷ record { kind = kinds.Lut4c; prefix = codes "LB_" } ∷ []

-- the types of a row of the grid: one in the west, `size` of logic, and one in the east
abbrev pub row_types : (size : ℕ) → List (Option ℕ)
row_types size = Some 0 ∷ replicate size (Some 1) ++ Some 2 ∷ []

-- so many rows of logic, with two pads at both ends of each, whose configuration frames keep
pub record IsSampleFabric (size : ℕ) (fabric : PlainFabric) : Type 0 where
  pub columns : fabric.columns ≡ size + 2
  pub rows : fabric.rows ≡ size
  pub grid : fabric.grid ≡ flat_map (λ row. row) (replicate size (row_types size))
  pub mode : fabric.mode ≡ modes.Frames
  pub names : map (λ tile. tile.name) fabric.types ≡ codes "SW" ∷ codes "SLOG" ∷ codes "SE" ∷ []
  pub bels : map (λ tile. tile.bels) fabric.types ≡ pads ∷ look_up_tables ∷ pads ∷ []

-- the files of each sample spell such a fabric
abbrev pub SampleFabricsAreRead : Type 0
SampleFabricsAreRead =
    (files : Map) (size : ℕ) → 2 ≤ size → size ≤ 16 → TellsFabric files size →
    (fabric : PlainFabric) × SpellsFabric files (codes "sample.csv") fabric × IsSampleFabric size fabric
