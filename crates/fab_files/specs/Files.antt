-- Which files are handed out, and why a reader of several files ends before it is done.
use Rattle.std.specs.Prelude.{◌≡◌, ℕ, List, length, nat_lt, Option, Some, None, Result, Ok, Err, if◌then◌else◌}
use Rattle.std.specs.Option.{ForSome}
use Rattle.std.specs.Str.{is_utf8}
use Rattle.fab_base.specs.declared.TheConstants.{MAX_FILE_BYTES}
use Rattle.fab_base.specs.declared.fault.Fault.{Fault}
use Rattle.fab_base.specs.declared.fault.Fault.TheVariants as faults
use Rattle.fab_desk.specs.Files.{Map}

-- what stands under a name; a name that is not text is that of no file
abbrev pub standing : (files : Map) → (file : List ℕ) → Option (List ℕ)
standing files file = if is_utf8 file then files file else None

-- the bytes of a file, or why they are not handed out
abbrev pub given : (file : List ℕ) → Option (List ℕ) → Result (Option (List ℕ)) Fault
given file None = Ok None
given file (Some bytes) = if nat_lt MAX_FILE_BYTES (length bytes) then Err (faults.TooLong file) else Ok (Some bytes)

abbrev pub handed_out_if_there : (files : Map) → (file : List ℕ) → Result (Option (List ℕ)) Fault
handed_out_if_there files file = given file (standing files file)

-- the same of a file that has to be there
abbrev pub needed : (file : List ℕ) → Result (Option (List ℕ)) Fault → Result (List ℕ) Fault
needed file (Ok None) = Err (faults.Missing file)
needed file (Ok (Some bytes)) = Ok bytes
needed file (Err fault) = Err fault

abbrev pub handed_out : (files : Map) → (file : List ℕ) → Result (List ℕ) Fault
handed_out files file = needed file (handed_out_if_there files file)

-- What a reader comes upon, before anything is refused: it asks for a file, or it refuses for this fault.
pub data Event : Type 0 where
  asks : (file : List ℕ) → Event
  refuses : (fault : Fault) → Event

-- what a reader comes upon that asks for one file, which may be absent
abbrev pub MeetsIfThere : (files : Map) → (file : List ℕ) → Event → Type 0
MeetsIfThere files file (asks other) = other ≡ file
MeetsIfThere files file (refuses fault) = handed_out_if_there files file ≡ Err fault

-- or has to be there
abbrev pub MeetsFile : (files : Map) → (file : List ℕ) → Event → Type 0
MeetsFile files file (asks other) = other ≡ file
MeetsFile files file (refuses fault) = handed_out files file ≡ Err fault

-- Why a reader ends with a fault, where `meets files event` says what it comes upon in these files. A fault of the device
-- names a file that is asked for, and comes only where the device's count of failed reads rose. Every other fault but want
-- of memory is what is refused in the files that the desk tells, and none is of a kind that no file is refused for.
abbrev pub HasReadCause : (told : Option Map) → (reads_rose : Type 0) → (meets : Map → Event → Type 0) → Fault → Type 0
HasReadCause told reads_rose meets faults.Memory = Unit {0}
HasReadCause told reads_rose meets (faults.ReadFault file) = reads_rose × ForSome told (λ files. meets files (asks file))
HasReadCause told reads_rose meets (faults.Missing file) = ForSome told (λ files. meets files (refuses (faults.Missing file)))
HasReadCause told reads_rose meets (faults.TooLong file) = ForSome told (λ files. meets files (refuses (faults.TooLong file)))
HasReadCause told reads_rose meets (faults.Malformed place reason) = ForSome told (λ files. meets files (refuses (faults.Malformed place reason)))
HasReadCause told reads_rose meets (faults.Unsupported place construct) = ForSome told (λ files. meets files (refuses (faults.Unsupported place construct)))
HasReadCause told reads_rose meets (faults.Limit place quantity value bound) = ForSome told (λ files. meets files (refuses (faults.Limit place quantity value bound)))
HasReadCause told reads_rose meets _ = ⊥

-- The fault is no construct that fab does not support. A file by itself has none, and neither has a switch list.
abbrev pub IsSupported : Fault → Type 0
IsSupported (faults.Unsupported place construct) = ⊥
IsSupported fault = Unit {0}
