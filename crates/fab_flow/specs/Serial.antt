-- What the command `serial` does to the files, and why it ends otherwise.
use Rattle.std.specs.Prelude.{◌≡◌, ◌≤◌, ◌<◌, ℕ, List, [], ◌∷◌, codes, length, Option}
use Rattle.fab_base.specs.declared.TheConstants.{MAX_FILE_BYTES}
use Rattle.fab_base.specs.Reading.{fault_at}
use Rattle.fab_base.specs.declared.fault.Fault.{Fault}
use Rattle.fab_base.specs.declared.problem.Problem.TheVariants as problems
use Rattle.fab_base.specs.declared.words.Quantity.TheVariants as quantities
use Rattle.fab_desk.specs.Files.{Map}
use Rattle.fab_syntax.specs.Plain.{PlainModule}
use Rattle.fab_syntax.specs.Sound.{IsSound}
use Rattle.fab_syntax.specs.Spelling.{text_bytes}
use Rattle.fab_model.specs.Grid.{PlainFabric}
use Rattle.fab_model.specs.declared.mode.Mode.TheVariants as modes
use Rattle.fab_files.specs.Files.{Event}
use Rattle.fab_files.specs.Stages.{MeetsBehind, MeetsLast}
use Rattle.fab_read.specs.Fabrics.{SpellsFabric, MeetsFabric}
use Rattle.fab_assemble.specs.fab_fabric_text_defs_Texts.{IsFabricText}
use Rattle.fab_serial.specs.Module.{serial_text}
use Rattle.fab_serial.specs.Delivery.{DeliversSerially}
use Rattle.fab_serial_laws.specs.Loads.{LoadsSerially}
use Rattle.fab_outputs.specs.Storing.{PlainOutput}
use Rattle.fab_outputs.specs.Ending.{HasCause}
use Rattle.fab_flow.specs.Texts.{MakesText}
use Rattle.fab_flow.specs.Generating.{generated_text, unloaded_text, most_text_bytes, generate_refusals}

-- ---- the text

-- the text of a fabric with a serial port in front of its top
abbrev pub text_with_port : PlainFabric → List PlainModule
text_with_port fabric = serial_text (generated_text fabric)

-- how many bytes its modules but loaders have, printed: the port and the new top count
abbrev pub serial_length : PlainFabric → ℕ
serial_length fabric = length (text_bytes (serial_text (unloaded_text fabric)))

-- ---- what is done

-- The bytes are the printed text, with a serial port, of the fabric that the file spells. The text is sound. Whatever it held, the fabric behind the port
-- sees the words that are sent to it bit by bit, and those of the bitstream of any configuration bits configure it so. With its loader the text is no
-- longer than a file may be that is read.
pub record IsSerialText (files : Map) (name text : List ℕ) : Type 0 where
  pub fabric : PlainFabric
  pub spelled : SpellsFabric files name fabric
  pub frames : fabric.mode ≡ modes.Frames
  pub printed : text ≡ text_bytes (text_with_port fabric)
  pub is_text : IsFabricText fabric (generated_text fabric)
  pub sound : IsSound (text_with_port fabric)
  pub delivers : DeliversSerially (text_with_port fabric)
  pub loads : LoadsSerially fabric (text_with_port fabric)
  pub short : serial_length fabric ≤ most_text_bytes
  pub readable : length text ≤ MAX_FILE_BYTES

-- The one output of the command is such a text.
abbrev pub MakesSerial : (files : Map) → (name out : List ℕ) → (outputs : List PlainOutput) → Type 0
MakesSerial files name out outputs = MakesText (λ text. IsSerialText files name text) out outputs

-- ---- the first refusal

-- A fabric is refused whose configuration is a chain of flip-flops, since no words load it; or else one whose text has too many bytes. Either is told at
-- line 0 of the fabric file.
pub data RefusesSerial (name : List ℕ) (fabric : PlainFabric) : Fault → Type 0 where
  chain : fabric.mode ≡ modes.Chain → RefusesSerial name fabric (fault_at name 0 (problems.Unsupported (codes "serial FlipFlopChain")))
  long : fabric.mode ≡ modes.Frames → most_text_bytes < serial_length fabric →
      RefusesSerial name fabric (fault_at name 0 (problems.Limit quantities.TextBytes (serial_length fabric) most_text_bytes))

-- What the command comes upon: what a reader of the fabric does, and behind it a fabric that is refused.
abbrev pub MeetsSerial : (files : Map) (name : List ℕ) → Event → Type 0
MeetsSerial files name event = MeetsBehind (SpellsFabric files name) (MeetsFabric files name) (λ fabric. MeetsLast (RefusesSerial name fabric)) event

-- nothing is refused
pub record IsReadyForSerial (files : Map) (name : List ℕ) : Type 0 where
  pub fabric : PlainFabric
  pub spelled : SpellsFabric files name fabric
  pub frames : fabric.mode ≡ modes.Frames
  pub short : serial_length fabric ≤ most_text_bytes

-- ---- why the command ends with a fault

-- absent, too long, malformed, unsupported and over a limit, as for the command `generate`
abbrev pub HasSerialCause : (told : Option Map) → (name : List ℕ) → (reads_rose writes_rose : Type 0) → Fault → Type 0
HasSerialCause told name reads_rose writes_rose fault =
    HasCause told reads_rose writes_rose (λ files. MeetsSerial files name) (λ files. IsReadyForSerial files name) generate_refusals fault
