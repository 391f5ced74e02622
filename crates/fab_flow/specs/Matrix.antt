-- What the command `matrix` does to the files, and why it ends otherwise.
use Rattle.std.specs.Prelude.{◌≡◌, ℕ, List, [], ◌∷◌, ◌++◌, codes, Option}
use Rattle.std.specs.Str.{bytes_eq}
use Rattle.fab_base.specs.declared.fault.Fault.{Fault}
use Rattle.fab_desk.specs.Files.{Map}
use Rattle.fab_paths.specs.Paths.{stem}
use Rattle.fab_syntax.specs.Spelling.{text_bytes}
use Rattle.fab_tables.specs.Lists.{Pair}
use Rattle.fab_list_files.specs.Sides.{SpellsPairs, MeetsPairs}
use Rattle.fab_matrix.specs.Matrix.{list_matrix, list_outputs}
use Rattle.fab_matrix.specs.Selects.{Selects}
use Rattle.fab_outputs.specs.Storing.{PlainOutput}
use Rattle.fab_outputs.specs.Ending.{HasCause}
use Rattle.fab_flow.specs.Texts.{MakesText}

-- ---- what is done

-- the module that is made of a list
abbrev pub module_name : (list : List ℕ) → List ℕ
module_name list = codes "matrix_" ++ stem list

-- The text is the printed module of these pairs, and each output of that module has the value of its selected input, wherever the
-- module stands.
pub record IsModuleOf (list : List ℕ) (pairs : List Pair) (text : List ℕ) : Type 0 where
  pub printed : text ≡ text_bytes (list_matrix (module_name list) pairs ∷ [])
  pub selects : Selects bytes_eq (list_matrix (module_name list) pairs) (list_outputs pairs) pairs

-- The text is the module of the pairs that the list spells with the files that it includes.
pub record IsTextOf (files : Map) (list text : List ℕ) : Type 0 where
  pub pairs : List Pair
  pub spelled : SpellsPairs files list pairs
  pub made : IsModuleOf list pairs text

-- The one output of the command is such a text.
abbrev pub MakesMatrix : (files : Map) → (list out : List ℕ) → (outputs : List PlainOutput) → Type 0
MakesMatrix files list out outputs = MakesText (λ text. IsTextOf files list text) out outputs

-- ---- why the command ends with a fault

-- nothing is refused
abbrev pub IsReadyForMatrix : (files : Map) (list : List ℕ) → Type 0
IsReadyForMatrix files list = (pairs : List Pair) × SpellsPairs files list pairs

-- absent, too long, malformed and over a limit: a list has no construct that is unsupported
abbrev pub matrix_refusals : List ℕ
matrix_refusals = 2 ∷ 3 ∷ 4 ∷ 6 ∷ []

-- What is refused is what a reader of the list comes upon.
abbrev pub HasMatrixCause : (told : Option Map) → (list : List ℕ) → (reads_rose writes_rose : Type 0) → Fault → Type 0
HasMatrixCause told list reads_rose writes_rose fault =
    HasCause told reads_rose writes_rose (λ files. MeetsPairs files list) (λ files. IsReadyForMatrix files list) matrix_refusals fault
