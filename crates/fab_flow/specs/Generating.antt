-- What the command `generate` does to the files, and why it ends otherwise.
use Rattle.std.specs.Prelude.{◌≡◌, ◌≤◌, ◌<◌, ℕ, List, [], ◌∷◌, length, Option}
use Rattle.fab_base.specs.declared.TheConstants.{MAX_FILE_BYTES}
use Rattle.fab_base.specs.Reading.{fault_at}
use Rattle.fab_base.specs.declared.fault.Fault.{Fault}
use Rattle.fab_base.specs.declared.problem.Problem.TheVariants as problems
use Rattle.fab_base.specs.declared.words.Quantity.TheVariants as quantities
use Rattle.fab_desk.specs.Files.{Map}
use Rattle.fab_syntax.specs.Plain.{PlainModule}
use Rattle.fab_syntax.specs.Spelling.{text_bytes}
use Rattle.fab_model.specs.Grid.{PlainFabric}
use Rattle.fab_files.specs.Files.{Event}
use Rattle.fab_files.specs.Stages.{MeetsBehind, MeetsLast}
use Rattle.fab_read.specs.Fabrics.{SpellsFabric, MeetsFabric}
use Rattle.fab_assemble.specs.fab_fabric_text_defs_Text.{fabric_text}
use Rattle.fab_assemble.specs.fab_drives_laws_Drives.{ShowsDrives}
use Rattle.fab_assemble.specs.fab_text_loads_laws_Loads.{LoadsConfigurations}
use Rattle.fab_assemble.specs.fab_fabric_text_defs_Texts.{IsFabricText}
pub use Rattle.fab_assemble.specs.fab_fabric_text_defs_Texts.{generated_text}
use Rattle.fab_outputs.specs.Storing.{PlainOutput}
use Rattle.fab_outputs.specs.Ending.{HasCause}
use Rattle.fab_flow.specs.Texts.{MakesText}

-- ---- the text of a fabric

-- its modules but loaders: primitives, tiles and the top
abbrev pub unloaded_text : PlainFabric → List PlainModule
unloaded_text fabric = fabric_text fabric []

-- how many bytes these have, printed
abbrev pub text_length : PlainFabric → ℕ
text_length fabric = length (text_bytes (unloaded_text fabric))

abbrev pub most_text_bytes : ℕ
most_text_bytes = 67043328

-- ---- what is done

-- The bytes are the printed text of the fabric that the file spells. In it each wire of the fabric has the value of what drives it under the
-- configuration bits, and the words of the bitstream of any such bits configure it so, whatever it held. With its loader it is no longer than a
-- file may be that is read.
pub record IsGeneratedText (files : Map) (name text : List ℕ) : Type 0 where
  pub fabric : PlainFabric
  pub spelled : SpellsFabric files name fabric
  pub printed : text ≡ text_bytes (generated_text fabric)
  pub is_text : IsFabricText fabric (generated_text fabric)
  pub drives : ShowsDrives fabric (generated_text fabric)
  pub loads : LoadsConfigurations fabric (generated_text fabric)
  pub short : text_length fabric ≤ most_text_bytes
  pub readable : length text ≤ MAX_FILE_BYTES

-- The one output of the command is such a text.
abbrev pub MakesFabric : (files : Map) → (name out : List ℕ) → (outputs : List PlainOutput) → Type 0
MakesFabric files name out outputs = MakesText (λ text. IsGeneratedText files name text) out outputs

-- ---- the first refusal

-- the text has too many bytes, which is told at line 0 of the fabric file
pub record IsTooLong (name : List ℕ) (fabric : PlainFabric) (fault : Fault) : Type 0 where
  pub long : most_text_bytes < text_length fabric
  pub is : fault ≡ fault_at name 0 (problems.Limit quantities.TextBytes (text_length fabric) most_text_bytes)

-- What the command comes upon: what a reader of the fabric does, and behind it a text that is too long.
abbrev pub MeetsGenerate : (files : Map) (name : List ℕ) → Event → Type 0
MeetsGenerate files name event = MeetsBehind (SpellsFabric files name) (MeetsFabric files name) (λ fabric. MeetsLast (IsTooLong name fabric)) event

-- nothing is refused
pub record IsReadyToGenerate (files : Map) (name : List ℕ) : Type 0 where
  pub fabric : PlainFabric
  pub spelled : SpellsFabric files name fabric
  pub short : text_length fabric ≤ most_text_bytes

-- ---- why the command ends with a fault

-- absent, too long, malformed, unsupported and over a limit
abbrev pub generate_refusals : List ℕ
generate_refusals = 2 ∷ 3 ∷ 4 ∷ 5 ∷ 6 ∷ []

abbrev pub HasGenerateCause : (told : Option Map) → (name : List ℕ) → (reads_rose writes_rose : Type 0) → Fault → Type 0
HasGenerateCause told name reads_rose writes_rose fault =
    HasCause told reads_rose writes_rose (λ files. MeetsGenerate files name) (λ files. IsReadyToGenerate files name) generate_refusals fault
