-- What is come upon in the files of a simulation, one behind the other.
use Rattle.std.proofs.Common.{◌≡◌, ◌≢◌, ◌≤◌, ◌⊎◌, ℕ, List, Option, Some, inl, inr, map, refl, sym, ◌∙◌, subst}
use Rattle.fab_base.specs.declared.fault.Fault.{Fault}
use Rattle.fab_base.specs.declared.fault.Fault.TheVariants as faults
use Rattle.fab_desk.specs.Files.{Map}
use Rattle.fab_files.specs.Files.{Event, HasReadCause}
use Rattle.fab_files.specs.Stages.{ReadsFrom, at_first, behind_it, of_bytes}
use Rattle.fab_files.proofs.Causes.{cause_weaker}
use Rattle.fab_syntax.specs.Plain.{PlainModule}
use Rattle.fab_syntax.specs.Sound.{IsSound}
use Rattle.fab_grammar_defs.specs.Grammar.{SpellsText}
use Rattle.fab_equations.specs.Instances.{whole_count, most_points}
use Rattle.fab_equations.specs.Equations.{IsRefused}
use Rattle.fab_outputs.specs.declared.storing.Output.{Output}
use Rattle.fab_outputs.specs.Storing.{PlainOutput, plain_output}
use Rattle.fab_outputs.proofs.Ending.{Reads, cause_of_read}
use Rattle.fab_state.specs.Plain.{PlainState}
use Rattle.fab_simulate_command.specs.inner.Going.{IsStimulated}
use Rattle.fab_simulate_command.specs.Simulating.{HasSimulateCause, IsReadyToSimulate, IsTrace, MakesTrace, MeetsBehindDevice, MeetsDevice, MeetsSimulation, MeetsStimulus, ReadsDevice, ReadsState, ReadsWords, SimulationFiles, simulate_refusals, unfit}
use Rattle.fab_simulate_command.proofs.Placed.{refused_cause, unfit_is_placed}

-- the file spells a text, which may be refused yet
abbrev pub ReadsText : (files : Map) (file : List ℕ) → List PlainModule → Type 0
ReadsText files file text = ReadsFrom files file (SpellsText 300 128) text

pub device_is_read : (files : Map) (file : List ℕ) (text : List PlainModule) → IsSound text → whole_count text ≤ most_points → ReadsText files file text → ReadsDevice files file text
device_is_read files file text sound small reads =
    record { bytes = reads.bytes; found = reads.found; spelled = record { spelled = reads.spelled; sound = sound; small = small } }

refused_tells : (file : List ℕ) (text : List PlainModule) (fault : Fault) → IsRefused file text fault → (fault ≡ faults.Memory) ⊎ (IsRefused file text fault × (fault ≢ faults.Memory))
refused_tells file text fault (inl memory) = inl memory
refused_tells file text fault (inr (inl broken)) = inr (inr (inl broken), λ memory. let differ = sym broken.2 ∙ memory in cc)
refused_tells file text fault (inr (inr large)) = inr (inr (inr large), λ memory. let differ = sym large.2 ∙ memory in cc)

module _ (told : Option Map) (rose : Type 0) (names : SimulationFiles) (text : List PlainModule) (fault : Fault) where
  -- what is come upon where the file spells this text
  abbrev pub MeetsRead : Map → Event → Type 0
  MeetsRead files event = ReadsText files names.verilog text → MeetsSimulation files names event

  -- a text that was read is not sound or too large
  pub unfit_cause : IsRefused names.verilog text fault → HasReadCause told rose MeetsRead fault
  unfit_cause refused =
      refused_cause told rose MeetsRead names.verilog (λ f. IsRefused names.verilog text f × (f ≢ faults.Memory)) fault (λ why. unfit_is_placed names.verilog text fault why.1 why.0)
      (refused_tells names.verilog text fault refused) (λ files is why reads. at_first (of_bytes reads.found (unfit text reads.spelled why.1 why.0)))

  -- a file behind it is refused
  pub behind_cause : IsSound text → whole_count text ≤ most_points → HasReadCause told rose (λ files. MeetsBehindDevice files names.bit names.state names.stimulus text) fault →
      HasReadCause told rose MeetsRead fault
  behind_cause sound small cause =
      cause_weaker told told rose rose (λ files. MeetsBehindDevice files names.bit names.state names.stimulus text) MeetsRead fault refl (λ r. r)
      (λ files is event met reads. behind_it (device_is_read files names.verilog text sound small reads) met) cause

among : Reads simulate_refusals
among = record { missing = refl; long = refl; malformed = refl; unsupported = refl; limit = refl }

module _ (told : Option Map) (names : SimulationFiles) (reads writes : Type 0) (fault : Fault) where
  all_cause : HasReadCause told reads (λ files. MeetsSimulation files names) fault → HasSimulateCause told names reads writes fault
  all_cause cause =
      cause_of_read told reads writes (λ files. MeetsSimulation files names) (λ files. IsReadyToSimulate files names) simulate_refusals among
      (λ files. MeetsSimulation files names) (λ files event is x. x) fault cause

  -- the text is refused
  pub text_cause : HasReadCause told reads (λ files. MeetsDevice files names.verilog) fault → HasSimulateCause told names reads writes fault
  text_cause cause =
      all_cause (cause_weaker told told reads reads (λ files. MeetsDevice files names.verilog) (λ files. MeetsSimulation files names) fault refl (λ r. r) (λ files is event met. at_first met) cause)

  -- it is refused behind its reading, or a file behind it is
  pub read_cause : (now : Option Map) (first : Type 0) (text : List PlainModule) → now ≡ told → (first → reads) → ((files : Map) → told ≡ Some files → ReadsText files names.verilog text) →
      HasReadCause now first (λ files. MeetsRead told reads names text fault files) fault → HasSimulateCause told names reads writes fault
  read_cause now first text same higher spelled cause =
      all_cause (cause_weaker now told first reads (λ files. MeetsRead told reads names text fault files) (λ files. MeetsSimulation files names) fault same higher
      (λ files is event met. met (spelled files is)) cause)

-- nothing is refused where a trace is made
pub ready_of : (files : Map) (names : SimulationFiles) (order : Option ℕ) (outputs : List PlainOutput) → MakesTrace files names order outputs → IsReadyToSimulate files names
ready_of files names order outputs it = record {
  text = it.text;
  words = it.made.words;
  state = it.made.state;
  lines = it.made.lines;
  device = it.device;
  loaded = it.made.loaded;
  stands = it.made.stands;
  given = it.made.given;
}

-- the same of outputs that are lent
pub made_of : (files : Map) (names : SimulationFiles) (order : Option ℕ) (made lent : List Output) → lent ≡ made → MakesTrace files names order (map plain_output made) →
    MakesTrace files names order (map plain_output lent)
made_of files names order made lent same it = subst (λ (o : List Output). MakesTrace files names order (map plain_output o)) (sym same) it

-- what the other files make of a text
pub is_trace : (files : Map) (bit standing stimulus : List ℕ) (text : List PlainModule) (order : Option ℕ) (lent words : List ℕ) (state : PlainState) (bytes : List ℕ) → lent ≡ words →
    ReadsWords files bit words → ReadsState files standing text state → IsStimulated files stimulus text state order lent bytes → IsTrace files bit standing stimulus text order bytes
is_trace files bit standing stimulus text order lent words state bytes lent_is loaded stands made =
    let it : IsStimulated files stimulus text state order words bytes = subst (λ (w : List ℕ). IsStimulated files stimulus text state order w bytes) lent_is made in
    record { words = words; state = state; lines = it.lines; loaded = loaded; stands = stands; given = it.given; traces = it.traces }

-- the stimulus is refused
pub stimulus_cause : (told now : Option Map) (first reads : Type 0) (bit standing stimulus : List ℕ) (text : List PlainModule) (words : List ℕ) (state : PlainState) (fault : Fault) →
    now ≡ told → (first → reads) → ((files : Map) → told ≡ Some files → ReadsWords files bit words) → ((files : Map) → told ≡ Some files → ReadsState files standing text state) →
    HasReadCause now first (λ files. MeetsStimulus files stimulus state) fault → HasReadCause told reads (λ files. MeetsBehindDevice files bit standing stimulus text) fault
stimulus_cause told now first reads bit standing stimulus text words state fault same higher loaded stands cause =
    cause_weaker now told first reads (λ files. MeetsStimulus files stimulus state) (λ files. MeetsBehindDevice files bit standing stimulus text) fault same higher
    (λ files is event met. behind_it (loaded files is) (behind_it (stands files is) met)) cause
