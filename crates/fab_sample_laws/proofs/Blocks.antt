-- What the blocks of a sample's fabric say, and its grid.
use Rattle.std.proofs.Common.{ℕ, zero, suc, ◌+◌, List, [], ◌∷◌, ◌++◌, codes, Some, None}
use Rattle.std.specs.Prelude.{replicate}
use Rattle.fab_model.specs.declared.tiles.Dir.{Dir}
use Rattle.fab_model.specs.declared.tiles.Dir.TheVariants as dirs
use Rattle.fab_model.specs.declared.tiles.WireRow.{WireRow}
use Rattle.fab_blocks.specs.Blocks.{PlainBlock}
use Rattle.fab_blocks.specs.Reading.{PlainGridLine}
use Rattle.fab_sample.specs.Lines.{Line}
use Rattle.fab_sample_laws.specs.Fabrics.{pads, look_up_tables}

-- six wires to a neighbour, and six from one
abbrev passing : Dir → (begin end : Line) → WireRow
passing dir begin end = record { dir = dir; source = Some begin; span = 1; dest = Some end; count = 6 }

abbrev leaving : Dir → (begin : Line) → WireRow
leaving dir begin = record { dir = dir; source = Some begin; span = 1; dest = None; count = 6 }

abbrev coming : Dir → (end : Line) → WireRow
coming dir end = record { dir = dir; source = None; span = 1; dest = Some end; count = 6 }

-- a wire that is always 0, and one that is always 1
abbrev constants : List WireRow
constants =
    record { dir = dirs.Jump; source = None; span = 0; dest = Some (codes "GND"); count = 1 }
    ∷ record { dir = dirs.Jump; source = None; span = 0; dest = Some (codes "VCC"); count = 1 }
    ∷ []

abbrev pub west : PlainBlock
west = record {
  name = codes "SW";
  rows = leaving dirs.East (codes "E1BEG") ∷ coming dirs.West (codes "W1END") ∷ constants;
  bels = pads;
  matrix = Some (codes "SW.list");
}

abbrev pub logic : PlainBlock
logic = record {
  name = codes "SLOG";
  rows = passing dirs.North (codes "N1BEG") (codes "N1END") ∷ passing dirs.East (codes "E1BEG") (codes "E1END") ∷ passing dirs.South (codes "S1BEG") (codes "S1END")
      ∷ passing dirs.West (codes "W1BEG") (codes "W1END") ∷ constants;
  bels = look_up_tables;
  matrix = Some (codes "SLOG.list");
}

abbrev pub east : PlainBlock
east = record {
  name = codes "SE";
  rows = leaving dirs.West (codes "W1BEG") ∷ coming dirs.East (codes "E1END") ∷ constants;
  bels = pads;
  matrix = Some (codes "SE.list");
}

-- so many lines of the grid, of which the first has this number
abbrev pub grid_from : (size number : ℕ) → (count : ℕ) → List PlainGridLine
grid_from size number zero = []
grid_from size number (suc count) =
    record { file = codes "sample.csv"; line = number; cells = codes "SW" ∷ replicate size (codes "SLOG") ++ codes "SE" ∷ [] } ∷ grid_from size (number + 1) count
