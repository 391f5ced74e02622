-- What is read of a stimulus.
use Rattle.std.proofs.Common.{◌≡◌, ℕ, Bool, List, All, length, Result, Ok, Err, IfOk, ◌∙◌}
use Rattle.std.proofs.lemmas.List.{length-map}
use Rattle.std.proofs.lemmas.List.Elements.{All-weaker}
use Rattle.fab_base.specs.declared.fault.Fault.{Fault}
use Rattle.fab_desk.specs.Files.{Map}
use Rattle.fab_files.specs.Files.{handed_out}
use Rattle.fab_texts.specs.Rows.{PlainRow, rows_of}
use Rattle.fab_state.specs.Plain.{PlainState}
use Rattle.fab_stimulus.specs.Stimuli.{ports_of}
use Rattle.fab_stimulus.specs.Spelled.{Says, Spells}
use Rattle.fab_simulate_command.specs.inner.Going.{AreFull}
use Rattle.fab_simulate_command.specs.Simulating.{ReadsStimulus}

-- each line has a value for each input port
pub lines_are_full : (state : PlainState) (lines : List (List Bool)) (rows : List PlainRow) → Spells (ports_of state.ins) rows lines → AreFull state lines
lines_are_full state lines rows spelled =
    All-weaker (λ values. length values ≡ length (ports_of state.ins)) (λ values. length values ≡ length state.ins)
    (λ values long. long ∙ length-map state.ins (λ pad. pad.0)) lines spelled.sizes

pub stimulus_is_spelled : (files : Map) (file : List ℕ) (state : PlainState) (bytes : List ℕ) (result : Result (List (List Bool)) Fault) → handed_out files file ≡ Ok bytes →
    IfOk result (Spells (ports_of state.ins) (rows_of bytes)) → IfOk result (Says (ports_of state.ins) (rows_of bytes)) → IfOk result (ReadsStimulus files file state)
stimulus_is_spelled files file state bytes (Ok lines) found spelled says = record { bytes = bytes; found = found; spelled = record { spelled = spelled; says = says } }
stimulus_is_spelled files file state bytes (Err fault) found spelled says = tt
