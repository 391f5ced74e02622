-- The files of a sample.
use Rattle.std.specs.Prelude.{ℕ, Bool, List, [], ◌∷◌, ◌++◌, codes}
use Rattle.fab_sample.specs.declared.side.Side.TheVariants.{East, West}
use Rattle.fab_sample.specs.declared.design.Cover.{Cover}
use Rattle.fab_sample.specs.declared.design.Latch.{Latch}
use Rattle.fab_sample.specs.declared.file.File.{File}
use Rattle.fab_sample.specs.Lines.{Line, text}
use Rattle.fab_sample.specs.Grid.{fabric_lines}
use Rattle.fab_sample.specs.Lists.{edge_lines, logic_lines}
use Rattle.fab_sample.specs.Drawn.{covers, sample_latches, sample_stimulus}
use Rattle.fab_sample.specs.Netlists.{netlist_lines, stimulus_text_lines}

-- a file of these lines
abbrev pub file_of : (name : Line) → List Line → File
file_of name lines = record { name = name; text = text lines }

-- the fabric
abbrev pub fabric_files : (size : ℕ) → List File
fabric_files size =
    file_of (codes "sample.csv") (fabric_lines size)
    ∷ file_of (codes "SW.list") (edge_lines East West)
    ∷ file_of (codes "SLOG.list") logic_lines
    ∷ file_of (codes "SE.list") (edge_lines West East)
    ∷ []

-- a design, and its stimulus
abbrev pub design_files : (size : ℕ) → List Cover → List Latch → (stimulus : List (List Bool)) → List File
design_files size covers latches stimulus =
    file_of (codes "sample.blif") (netlist_lines size covers latches)
    ∷ file_of (codes "sample.stim") (stimulus_text_lines size stimulus)
    ∷ []

abbrev pub sample_files : (size : ℕ) → (draws : ℕ → ℕ) → List File
sample_files size draws = fabric_files size ++ design_files size (covers size draws) (sample_latches size draws) (sample_stimulus size draws)
