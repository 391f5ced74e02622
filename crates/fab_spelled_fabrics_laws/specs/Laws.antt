-- A fabric that files spell is one that the tables promise: no more need be asked of it.
use Rattle.std.specs.Prelude.{◌≡◌, All, List, true, ℕ}
use Rattle.fab_desk.specs.Files.{Map}
use Rattle.fab_lines.specs.Names.{is_identifier}
use Rattle.fab_model.specs.Grid.{PlainFabric}
use Rattle.fab_model.specs.Tiles.{matrix_names}
use Rattle.fab_fabric.specs.Fabric.{AreTiles, IsFabric}
use Rattle.fab_spelled_fabrics_laws.specs.fab_read_Fabrics.{SpellsFabric}

-- its grid, its types and their tables
abbrev pub SpelledFabricsAreFabrics : Type 0
SpelledFabricsAreFabrics = (files : Map) (name : List ℕ) (fabric : PlainFabric) → SpellsFabric files name fabric → IsFabric fabric

-- the rows, names and pairs of its tiles
abbrev pub SpelledFabricsHaveTiles : Type 0
SpelledFabricsHaveTiles = (files : Map) (name : List ℕ) (fabric : PlainFabric) → SpellsFabric files name fabric → AreTiles fabric

-- Each matrix name is a letter or `_`, and then letters, digits and `_`. So a wire is a word, and its name has no dot.
abbrev pub MatrixNamesAreIdentifiers : Type 0
MatrixNamesAreIdentifiers =
    (files : Map) (name : List ℕ) (fabric : PlainFabric) → SpellsFabric files name fabric → All (λ tile. All (λ wire. is_identifier wire ≡ true) (matrix_names tile)) fabric.types
