-- What the command `simulate` does to the files, and why it ends otherwise.
use Rattle.std.specs.Prelude.{◌≡◌, ◌≢◌, ◌≤◌, ℕ, Bool, List, [], ◌∷◌, All, map, Option, Some, None}
use Rattle.fab_base.specs.declared.fault.Fault.{Fault}
use Rattle.fab_base.specs.declared.fault.Fault.TheVariants as faults
use Rattle.fab_desk.specs.Files.{Map}
use Rattle.fab_lines.specs.Counts.{last_line}
use Rattle.fab_files.specs.Files.{Event}
use Rattle.fab_files.specs.Stages.{ReadsFrom, MeetsIn, MeetsBehind}
use Rattle.fab_bits.specs.Bits.{digits}
use Rattle.fab_draws.specs.Draws.{draws_of}
use Rattle.fab_syntax.specs.Plain.{PlainModule}
use Rattle.fab_syntax.specs.Sound.{IsSound}
use Rattle.fab_grammar_defs.specs.Grammar.{SpellsText}
use Rattle.fab_vread.specs.Refusals.{IsVerilogRefusal}
use Rattle.fab_equations.specs.Instances.{whole_count, most_points}
use Rattle.fab_equations.specs.Equations.{IsRefused}
use Rattle.fab_lines.specs.Order.{IsTextFault}
use Rattle.fab_texts.specs.Rows.{PlainRow, rows_of, entry_line}
use Rattle.fab_frames.specs.Refusals.{IsCut}
use Rattle.fab_state.specs.Plain.{PlainState}
use Rattle.fab_state.specs.Spelled as states
use Rattle.fab_sim.specs.fab_state_points_Entries.{entries_of, HasEntry}
use Rattle.fab_sim.specs.fab_state_points_Standing.{HasStream, IsRefusedState}
use Rattle.fab_systems_laws.specs.Ternary.{Tern as PlainTern, known}
use Rattle.fab_ternary.specs.declared.Tern.{Tern}
use Rattle.fab_ternary.specs.Terns.{plain_tern}
use Rattle.fab_stimulus.specs.Stimuli.{ports_of, stimulus_format}
use Rattle.fab_stimulus.specs.Spelled as stimuli
use Rattle.fab_stimulus.specs.Traces.{trace_text}
use Rattle.fab_sim.specs.fab_simulation_laws_Simulation.{Simulates}
use Rattle.fab_sim.specs.fab_ordering_laws_Ordered.{SimulatesInOrder}
use Rattle.fab_outputs.specs.Bitstreams.{AreBytesOf}
use Rattle.fab_outputs.specs.Storing.{PlainOutput, output}
use Rattle.fab_outputs.specs.Ending.{HasCause}

-- the names of the files that are read, in this order, and of the output
pub record SimulationFiles : Type 0 where
  pub verilog : List ℕ
  pub bit : List ℕ
  pub state : List ℕ
  pub stimulus : List ℕ
  pub trace : List ℕ

abbrev pub simulation_files : (verilog bit state stimulus trace : List ℕ) → SimulationFiles
simulation_files verilog bit state stimulus trace =
    record { verilog = verilog; bit = bit; state = state; stimulus = stimulus; trace = trace }

-- ---- the Verilog text

-- The bytes are those of a text that is sound and not too large.
pub record SpellsDevice (bytes : List ℕ) (text : List PlainModule) : Type 0 where
  pub spelled : SpellsText 300 128 bytes text
  pub sound : IsSound text
  pub small : whole_count text ≤ most_points

abbrev pub ReadsDevice : (files : Map) (file : List ℕ) → List PlainModule → Type 0
ReadsDevice files file text = ReadsFrom files file SpellsDevice text

-- The bytes spell no text, or one that is not sound or too large.
pub data RefusesDevice (file bytes : List ℕ) : Fault → Type 0 where
  misspelled : {fault : Fault} → IsVerilogRefusal file bytes fault → RefusesDevice file bytes fault
  unfit : {fault : Fault} (text : List PlainModule) → SpellsText 300 128 bytes text → fault ≢ faults.Memory → IsRefused file text fault →
      RefusesDevice file bytes fault

abbrev pub MeetsDevice : (files : Map) (file : List ℕ) → Event → Type 0
MeetsDevice files file event = MeetsIn files file (RefusesDevice file) event

-- ---- the words

abbrev pub SpellsWords : (bytes words : List ℕ) → Type 0
SpellsWords bytes words = AreBytesOf words bytes

abbrev pub ReadsWords : (files : Map) (file words : List ℕ) → Type 0
ReadsWords files file words = ReadsFrom files file SpellsWords words

-- the bytes end within a word
abbrev pub MeetsWords : (files : Map) (file : List ℕ) → Event → Type 0
MeetsWords files file event = MeetsIn files file (IsCut file) event

-- ---- the state

-- the text has the inputs that carry words, and the port or the flip-flop of each line
pub record HasPoints (text : List PlainModule) (state : PlainState) : Type 0 where
  pub stream : HasStream text
  pub entries : All (HasEntry text) (entries_of state)

-- The lines are those of the state, none of them is refused, and the text has what they name.
pub record SpellsState (text : List PlainModule) (bytes : List ℕ) (state : PlainState) : Type 0 where
  pub spelled : states.Spells (rows_of bytes) state
  pub says : states.Says (rows_of bytes) state
  pub points : HasPoints text state

abbrev pub ReadsState : (files : Map) (file : List ℕ) → List PlainModule → PlainState → Type 0
ReadsState files file text state = ReadsFrom files file (SpellsState text) state

-- A fault that counts the lines that hold a word, as a printed state has them, tells the line of the file.
abbrev pub at_line : List PlainRow → Fault → Fault
at_line rows (faults.Malformed place reason) = faults.Malformed (record { file = place.file; line = entry_line rows place.line }) reason
at_line rows fault = fault

-- A line is refused, or else the first one whose port or flip-flop the text does not have.
pub data RefusesState (text : List PlainModule) (file bytes : List ℕ) : Fault → Type 0 where
  misspelled : {fault : Fault} → IsTextFault states.state_format file (rows_of bytes) (last_line bytes) fault → RefusesState text file bytes fault
  absent : {fault : Fault} (state : PlainState) (counted : Fault) → states.Says (rows_of bytes) state → counted ≢ faults.Memory →
      IsRefusedState file text state counted → fault ≡ at_line (rows_of bytes) counted → RefusesState text file bytes fault

abbrev pub MeetsState : (files : Map) (file : List ℕ) → List PlainModule → Event → Type 0
MeetsState files file text event = MeetsIn files file (RefusesState text file) event

-- ---- the stimulus

-- The lines are those of a stimulus for the input ports of the state, and none of them is refused.
pub record SpellsStimulus (state : PlainState) (bytes : List ℕ) (lines : List (List Bool)) : Type 0 where
  pub spelled : stimuli.Spells (ports_of state.ins) (rows_of bytes) lines
  pub says : stimuli.Says (ports_of state.ins) (rows_of bytes) lines

abbrev pub ReadsStimulus : (files : Map) (file : List ℕ) → PlainState → List (List Bool) → Type 0
ReadsStimulus files file state lines = ReadsFrom files file (SpellsStimulus state) lines

abbrev pub RefusesStimulus : PlainState → (file bytes : List ℕ) → Fault → Type 0
RefusesStimulus state file bytes fault = IsTextFault (stimulus_format (ports_of state.ins)) file (rows_of bytes) (last_line bytes) fault

abbrev pub MeetsStimulus : (files : Map) (file : List ℕ) → PlainState → Event → Type 0
MeetsStimulus files file state event = MeetsIn files file (RefusesStimulus state file) event

-- ---- what is done

-- What an ordered simulation shows over the words that are drawn from a seed, all of it known.
pub record ShowsInOrder (text : List PlainModule) (state : PlainState) (seed : ℕ) (words lines : List (List Bool)) (shown : List (List PlainTern)) : Type 0 where
  pub bits : List (List Bool)
  pub simulates : SimulatesInOrder text state (draws_of seed) words lines bits
  pub known_is : shown ≡ map (map known) bits

-- Without an order this is what a simulation shows, and with one what points show that are activated one by one, as its seed draws.
abbrev pub Shows : List PlainModule → PlainState → (order : Option ℕ) → (words lines : List (List Bool)) → (shown : List (List PlainTern)) → Type 0
Shows text state None words lines shown = Simulates text state words lines shown
Shows text state (Some seed) words lines shown = ShowsInOrder text state seed words lines shown

-- The bytes are the trace of the state's output ports, line by line what the text shows.
pub record Traces (text : List PlainModule) (state : PlainState) (order : Option ℕ) (words : List ℕ) (lines : List (List Bool)) (bytes : List ℕ) : Type 0 where
  pub shown : List (List Tern)
  pub simulates : Shows text state order (map (digits 32) words) lines (map (map plain_tern) shown)
  pub bytes_are : bytes ≡ trace_text (ports_of state.outs) shown

-- The files spell words, a state of the text and a stimulus, and the bytes are the trace.
pub record IsTrace (files : Map) (bit standing stimulus : List ℕ) (text : List PlainModule) (order : Option ℕ) (bytes : List ℕ) : Type 0 where
  pub words : List ℕ
  pub state : PlainState
  pub lines : List (List Bool)
  pub loaded : ReadsWords files bit words
  pub stands : ReadsState files standing text state
  pub given : ReadsStimulus files stimulus state lines
  pub traces : Traces text state order words lines bytes

-- A file spells a text, and the one output is the trace that the other files and the order ask for.
pub record MakesTrace (files : Map) (names : SimulationFiles) (order : Option ℕ) (outputs : List PlainOutput) : Type 0 where
  pub text : List PlainModule
  pub bytes : List ℕ
  pub device : ReadsDevice files names.verilog text
  pub made : IsTrace files names.bit names.state names.stimulus text order bytes
  pub outputs_are : outputs ≡ output names.trace bytes ∷ []

-- ---- why the command ends with a fault

-- what is come upon behind the text and the words
abbrev pub MeetsBehindWords : (files : Map) (state stimulus : List ℕ) → List PlainModule → Event → Type 0
MeetsBehindWords files state stimulus text event =
    MeetsBehind (ReadsState files state text) (MeetsState files state text) (λ it. MeetsStimulus files stimulus it) event

-- and behind the text alone
abbrev pub MeetsBehindDevice : (files : Map) (bit state stimulus : List ℕ) → List PlainModule → Event → Type 0
MeetsBehindDevice files bit state stimulus text event =
    MeetsBehind (ReadsWords files bit) (MeetsWords files bit) (λ words. MeetsBehindWords files state stimulus text) event

-- What the command comes upon: in the text first, then in the words, in the state, and in the stimulus.
abbrev pub MeetsSimulation : (files : Map) (names : SimulationFiles) → Event → Type 0
MeetsSimulation files names event =
    MeetsBehind (ReadsDevice files names.verilog) (MeetsDevice files names.verilog) (λ text. MeetsBehindDevice files names.bit names.state names.stimulus text) event

-- nothing is refused
pub record IsReadyToSimulate (files : Map) (names : SimulationFiles) : Type 0 where
  pub text : List PlainModule
  pub words : List ℕ
  pub state : PlainState
  pub lines : List (List Bool)
  pub device : ReadsDevice files names.verilog text
  pub loaded : ReadsWords files names.bit words
  pub stands : ReadsState files names.state text state
  pub given : ReadsStimulus files names.stimulus state lines

-- absent, too long, malformed, unsupported, and over a limit
abbrev pub simulate_refusals : List ℕ
simulate_refusals = 2 ∷ 3 ∷ 4 ∷ 5 ∷ 6 ∷ []

abbrev pub HasSimulateCause : (told : Option Map) → (names : SimulationFiles) → (reads_rose writes_rose : Type 0) → Fault → Type 0
HasSimulateCause told names reads_rose writes_rose fault =
    HasCause told reads_rose writes_rose (λ files. MeetsSimulation files names) (λ files. IsReadyToSimulate files names) simulate_refusals fault
