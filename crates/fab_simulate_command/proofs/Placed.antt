-- Why a file ends the command whose bytes are refused at a line.
use Rattle.std.proofs.Common.{◌≡◌, ◌⊎◌, ◌/◌, ◌+◌, ℕ, List, length, Option, Some, inl, inr, sym, ap, subst}
use Rattle.fab_base.specs.Reading.{fault_at}
use Rattle.fab_base.specs.declared.fault.Fault.{Fault}
use Rattle.fab_base.specs.declared.fault.Fault.TheVariants as faults
use Rattle.fab_base.specs.declared.problem.Problem.{Problem}
use Rattle.fab_base.specs.declared.problem.Problem.TheVariants as problems
use Rattle.fab_base.specs.declared.words.Reason.TheVariants as reasons
use Rattle.fab_base.specs.declared.words.Quantity.TheVariants as quantities
use Rattle.fab_desk.specs.Files.{Map}
use Rattle.fab_files.specs.Files.{Event, HasReadCause, refuses}
use Rattle.fab_files.proofs.Causes.{placed_cause}
use Rattle.fab_syntax.specs.Plain.{PlainModule}
use Rattle.fab_equations.specs.Instances.{whole_count, most_points, in_64_bits}
use Rattle.fab_equations.specs.Equations.{IsRefused}
use Rattle.fab_frames.specs.Refusals.{IsCut}
use Rattle.fab_texts.specs.Rows.{rows_of, entry_line}
use Rattle.fab_state.specs.Plain.{PlainState}
use Rattle.fab_sim.specs.fab_state_points_Entries.{reason_of}
use Rattle.fab_sim.specs.fab_state_points_Standing.{IsRefusedState}
use Rattle.fab_simulate_command.specs.Simulating.{RefusesDevice, RefusesState, absent, at_line, misspelled, unfit}

-- the fault tells a problem at a line of the file
abbrev pub IsPlaced : (file : List ℕ) → Fault → Type 0
IsPlaced file fault = (line : ℕ) × (problem : Problem) × (fault ≡ fault_at file line problem)

-- such a fault is what a reader ends with, unless memory was refused
pub refused_cause : (told : Option Map) (rose : Type 0) (meets : Map → Event → Type 0) (file : List ℕ) (refused : Fault → Type 0) (fault : Fault) →
    (refused fault → IsPlaced file fault) → (fault ≡ faults.Memory) ⊎ refused fault →
    ((files : Map) → told ≡ Some files → refused fault → meets files (refuses fault)) → HasReadCause told rose meets fault
refused_cause told rose meets file refused fault placed (inl memory) met = subst (HasReadCause told rose meets) (sym memory) tt
refused_cause told rose meets file refused fault placed (inr why) met =
    let at : IsPlaced file fault = placed why in
    placed_cause told rose meets file at.0 at.1 fault (λ files is. subst (λ (f : Fault). meets files (refuses f)) at.2 (met files is why)) (inr at.2)

-- ---- what is refused

pub cut_is_placed : (file bytes : List ℕ) (fault : Fault) → IsCut file bytes fault → IsPlaced file fault
cut_is_placed file bytes fault cut = (length bytes / 4 + 1, problems.Malformed reasons.Word, cut.told)

-- a text that is not sound or too large
pub unfit_is_placed : (file : List ℕ) (text : List PlainModule) (fault : Fault) → (fault ≡ faults.Memory → ⊥) → IsRefused file text fault → IsPlaced file fault
unfit_is_placed file text fault told (inl memory) = absurd (told memory)
unfit_is_placed file text fault told (inr (inl broken)) = (0, problems.Malformed broken.0, broken.2)
unfit_is_placed file text fault told (inr (inr large)) = (0, problems.Limit quantities.Points (in_64_bits (whole_count text)) most_points, large.2)

pub device_is_placed : (file bytes : List ℕ) (fault : Fault) → RefusesDevice file bytes fault → IsPlaced file fault
device_is_placed file bytes fault (misspelled is) = (is.line, is.problem, is.told)
device_is_placed file bytes fault (unfit text spelled told is) = unfit_is_placed file text fault told is

absent_is_placed : (text : List PlainModule) (file bytes : List ℕ) (state : PlainState) (counted : Fault) → (counted ≡ faults.Memory → ⊥) →
    IsRefusedState file text state counted → IsPlaced file (at_line (rows_of bytes) counted)
absent_is_placed text file bytes state counted told (inl memory) = absurd (told memory)
absent_is_placed text file bytes state counted told (inr (inl none)) =
    (entry_line (rows_of bytes) 1, problems.Malformed reasons.NoPort, ap (at_line (rows_of bytes)) none.1)
absent_is_placed text file bytes state counted told (inr (inr first)) =
    (entry_line (rows_of bytes) (1 + first.1.place + 1), problems.Malformed (reason_of first.1.entry), ap (at_line (rows_of bytes)) first.1.fault_is)

pub state_is_placed : (text : List PlainModule) (file bytes : List ℕ) (fault : Fault) → RefusesState text file bytes fault → IsPlaced file fault
state_is_placed text file bytes fault (misspelled is) = (is.number, is.problem, is.is)
state_is_placed text file bytes fault (absent state counted says told is at) =
    subst (IsPlaced file) (sym at) (absent_is_placed text file bytes state counted told is)
