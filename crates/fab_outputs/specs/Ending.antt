-- Why a command ends with a fault that reads files and stores what it makes of them.
use Rattle.std.specs.Prelude.{◌≡◌, ℕ, true, List, Option, nat_eq}
use Rattle.std.specs.List.{list_any}
use Rattle.std.specs.Option.{ForSome}
use Rattle.fab_base.specs.declared.fault.Fault.{Fault}
use Rattle.fab_base.specs.declared.fault.Fault.TheVariants as faults
use Rattle.fab_base.specs.Report.{number_of}
use Rattle.fab_desk.specs.Files.{Map}
use Rattle.fab_files.specs.Files.{Event, asks, refuses}

-- What a command comes upon: `meets files event`, and `ready files` that nothing is refused. `numbers` are those of the faults for which it refuses.
pub record IsRefused (told : Option Map) (meets : Map → Event → Type 0) (numbers : List ℕ) (fault : Fault) : Type 0 where
  pub possible : list_any (nat_eq (number_of fault).0) numbers ≡ true
  pub met : ForSome told (λ files. meets files (refuses fault))

-- A failed read names a file that is asked for before anything is refused, and comes only where the device's count of failed reads rose. A failed
-- write comes only where that of failed writes rose, and nothing is refused. Memory may be refused at any time. Every other fault is the first refusal.
abbrev pub HasCause : (told : Option Map) → (reads_rose writes_rose : Type 0) → (meets : Map → Event → Type 0) → (ready : Map → Type 0) → (numbers : List ℕ) → Fault → Type 0
HasCause told reads_rose writes_rose meets ready numbers faults.Memory = Unit {0}
HasCause told reads_rose writes_rose meets ready numbers (faults.ReadFault file) = reads_rose × ForSome told (λ files. meets files (asks file))
HasCause told reads_rose writes_rose meets ready numbers (faults.WriteFault file) = writes_rose × ForSome told ready
HasCause told reads_rose writes_rose meets ready numbers fault = IsRefused told meets numbers fault

-- The same of a command that searches. With no path and with an overused wire it refuses nothing: the search fails, and `fails files fault` says for
-- what cause.
abbrev pub HasSearchCause : (told : Option Map) → (reads_rose writes_rose : Type 0) → (meets : Map → Event → Type 0) → (ready : Map → Type 0) → (fails : Map → Fault → Type 0) → (numbers : List ℕ) → Fault → Type 0
HasSearchCause told reads_rose writes_rose meets ready fails numbers (faults.NoPath net wire text) = ForSome told (λ files. fails files (faults.NoPath net wire text))
HasSearchCause told reads_rose writes_rose meets ready fails numbers (faults.Overused wire first second text) = ForSome told (λ files. fails files (faults.Overused wire first second text))
HasSearchCause told reads_rose writes_rose meets ready fails numbers fault = HasCause told reads_rose writes_rose meets ready numbers fault
