-- The file of an implementation: what it spells, and what a reader of it comes upon before anything is refused.
use Rattle.std.specs.Prelude.{ℕ, List}
use Rattle.fab_base.specs.declared.fault.Fault.{Fault}
use Rattle.fab_desk.specs.Files.{Map}
use Rattle.fab_model.specs.Grid.{PlainFabric}
use Rattle.fab_implementation.specs.Plain.{PlainImplementation}
use Rattle.fab_lines.specs.Order.{IsTextFault}
use Rattle.fab_texts.specs.Rows.{rows_of}
use Rattle.fab_lines.specs.Counts.{last_line}
use Rattle.fab_files.specs.Files.{Event}
use Rattle.fab_files.specs.Stages.{ReadsFrom, MeetsIn}
use Rattle.fab_impl.specs.Spelled.{Spells, Says, implementation_format}

-- The lines are those of the implementation, and none of them is refused. On a fabric that is one, the first of these says the second too.
pub record SpellsImplementation (fabric : PlainFabric) (bytes : List ℕ) (implementation : PlainImplementation) : Type 0 where
  pub lines : Spells fabric (rows_of bytes) implementation
  pub says : Says fabric (rows_of bytes) implementation

abbrev pub ReadsImplementation : (files : Map) (file : List ℕ) → PlainFabric → PlainImplementation → Type 0
ReadsImplementation files file fabric implementation = ReadsFrom files file (SpellsImplementation fabric) implementation

-- the first line that is refused, or else the end, of a file with these bytes
abbrev pub RefusesImplementation : PlainFabric → (file bytes : List ℕ) → Fault → Type 0
RefusesImplementation fabric file bytes fault = IsTextFault (implementation_format fabric) file (rows_of bytes) (last_line bytes) fault

abbrev pub MeetsImplementation : (files : Map) (file : List ℕ) → PlainFabric → Event → Type 0
MeetsImplementation files file fabric event = MeetsIn files file (RefusesImplementation fabric file) event
