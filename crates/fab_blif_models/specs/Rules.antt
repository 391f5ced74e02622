-- What holds of all models that are read.
use Rattle.std.specs.Prelude.{ℕ, ◌<◌, ◌≤◌, List, [], ◌∷◌, ◌++◌, length, map}
use Rattle.std.specs.List.{All, AllByRecursion, AllPairs, count_by, flat_map}
use Rattle.std.specs.Str.{bytes_eq}
use Rattle.fab_netlist.specs.Wide.{IsFineRow}
use Rattle.fab_blif_models.specs.Plain.{PlainBody, inputs, outputs, cover, latch, PlainStatement, PlainModel}

-- a cover has at most so many inputs, and rows that look at these alone; an initial value is at most 3
abbrev pub IsFineBody : (most : ℕ) → PlainBody → Type 0
IsFineBody most (cover ins output on rows) = (length ins ≤ most) × All (IsFineRow (length ins)) rows
IsFineBody most (latch input output control initial) = initial ≤ 3
IsFineBody most _ = Unit {0}

abbrev pub input_names : PlainBody → List (List ℕ)
input_names (inputs names) = names
input_names _ = []

abbrev pub output_names : PlainBody → List (List ℕ)
output_names (outputs names) = names
output_names _ = []

-- the ports that `.inputs` and `.outputs` declare
abbrev pub declared_inputs : List PlainStatement → List (List ℕ)
declared_inputs statements = flat_map (λ statement. input_names statement.body) statements

abbrev pub declared_outputs : List PlainStatement → List (List ℕ)
declared_outputs statements = flat_map (λ statement. output_names statement.body) statements

-- The lines of a model are fine, and `.inputs` and `.outputs` declare no port twice, nor one as both.
pub record IsModel (most : ℕ) (model : PlainModel) : Type 0 where
  pub bodies : AllByRecursion (λ statement. IsFineBody most statement.body) model.statements
  pub ports : (name : List ℕ) → count_by (bytes_eq name) (declared_inputs model.statements ++ declared_outputs model.statements) ≤ 1

abbrev pub AreModels : (most : ℕ) → List PlainModel → Type 0
AreModels most models = AllByRecursion (IsModel most) models

-- the numbers of the lines that begin models or are their statements, in the order of the models
abbrev pub line_numbers : List PlainModel → List ℕ
line_numbers models = flat_map (λ model. model.line ∷ map (λ statement. statement.line) model.statements) models

-- These lines ascend, no two the same, and stand in a file of so many lines.
pub record LinesAscend (models : List PlainModel) (count : ℕ) : Type 0 where
  pub ascend : AllPairs (λ before after. before < after) (line_numbers models)
  pub within : All (λ line. (1 ≤ line) × (line ≤ count)) (line_numbers models)
