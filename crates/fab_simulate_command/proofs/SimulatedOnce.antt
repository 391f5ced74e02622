-- The command `simulate` has one first refusal, or is ready.
use Rattle.std.proofs.Common.{◌≡◌, ◌%◌, ◌*◌, ℕ, Bool, List, length, refl, sym, ap, ◌∙◌, arith}
use Rattle.fab_base.specs.declared.fault.Fault.{Fault}
use Rattle.fab_desk.specs.Files.{Map}
use Rattle.fab_files.specs.Files.{refuses}
use Rattle.fab_files.specs.Stages.{AreJudged, IsJudged}
use Rattle.fab_files.proofs.Stages.{file_is_judged, turn_is_judged}
use Rattle.fab_lines.proofs.Wholes.{text_fault_once, whole_not_refused}
use Rattle.fab_syntax.specs.Plain.{PlainModule}
use Rattle.fab_frames.specs.Refusals.{IsCut}
use Rattle.fab_frames.proofs.ByteWords.{all_fit, bytes_tell_words, length_bytes}
use Rattle.fab_state.specs.Plain.{PlainState}
use Rattle.fab_simulate_command.specs.Simulating.{IsReadyToSimulate, MeetsBehindDevice, MeetsBehindWords, MeetsDevice, MeetsSimulation, MeetsState, MeetsStimulus, MeetsWords, ReadsDevice, ReadsState, ReadsStimulus, ReadsWords, RefusesDevice, RefusesState, RefusesStimulus, SimulationFiles, SpellsDevice, SpellsState, SpellsStimulus, SpellsWords}
use Rattle.fab_simulate_command.proofs.SpellingOnce.{device_is_judged}
use Rattle.fab_simulate_command.proofs.StandingOnce.{state_is_judged}

-- ---- words, and a stimulus

-- bytes are those of one list of words
one_list : (bytes first second : List ℕ) → SpellsWords bytes first → SpellsWords bytes second → first ≡ second
one_list bytes first second x y = bytes_tell_words first second (all_fit first x.fit) (all_fit second y.fit) (sym x.bytes_are ∙ y.bytes_are)

-- the bytes of words do not end within one
whole : (bytes words : List ℕ) → SpellsWords bytes words → length bytes % 4 ≡ 0
whole bytes words of =
    let long : length bytes ≡ 4 * length words = ap length of.bytes_are ∙ length_bytes words in
    omega (arith, long)

words_are_judged : (file : List ℕ) → AreJudged (λ a b. a ≡ b) SpellsWords (IsCut file)
words_are_judged file = record {
  once = one_list;
  refused_once = λ bytes a b x y. x.told ∙ sym y.told;
  apart = λ bytes words fault x y. y.rest (whole bytes words x);
}

stimulus_is_judged : (state : PlainState) (file : List ℕ) → AreJudged (λ a b. a ≡ b) (SpellsStimulus state) (RefusesStimulus state file)
stimulus_is_judged state file = record {
  once = λ bytes a b x y. x.says.1 ∙ sym y.says.1;
  refused_once = λ bytes a b x y. text_fault_once x y;
  apart = λ bytes lines fault x y. whole_not_refused x.says.0 y.refusal;
}

-- ---- the files, one behind the other

module _ (files : Map) (names : SimulationFiles) where
  device : IsJudged (λ a b. a ≡ b) (ReadsDevice files names.verilog) (MeetsDevice files names.verilog)
  device = file_is_judged (λ a b. a ≡ b) (λ fault. refl) files SpellsDevice (RefusesDevice names.verilog) (device_is_judged names.verilog) names.verilog

  words : IsJudged (λ a b. a ≡ b) (ReadsWords files names.bit) (MeetsWords files names.bit)
  words = file_is_judged (λ a b. a ≡ b) (λ fault. refl) files SpellsWords (IsCut names.bit) (words_are_judged names.bit) names.bit

  standing : (text : List PlainModule) → IsJudged (λ a b. a ≡ b) (ReadsState files names.state text) (MeetsState files names.state text)
  standing text = file_is_judged (λ a b. a ≡ b) (λ fault. refl) files (SpellsState text) (RefusesState text names.state) (state_is_judged text names.state) names.state

  stimulus : (state : PlainState) → IsJudged (λ a b. a ≡ b) (ReadsStimulus files names.stimulus state) (MeetsStimulus files names.stimulus state)
  stimulus state = file_is_judged (λ a b. a ≡ b) (λ fault. refl) files (SpellsStimulus state) (RefusesStimulus state names.stimulus) (stimulus_is_judged state names.stimulus) names.stimulus

  -- a state with a stimulus, and words with both
  abbrev BehindWords : List PlainModule → PlainState × List (List Bool) → Type 0
  BehindWords text value = ReadsState files names.state text value.0 × ReadsStimulus files names.stimulus value.0 value.1

  abbrev BehindDevice : List PlainModule → List ℕ × (PlainState × List (List Bool)) → Type 0
  BehindDevice text value = ReadsWords files names.bit value.0 × BehindWords text value.1

  behind_words : (text : List PlainModule) → IsJudged (λ a b. a ≡ b) (BehindWords text) (MeetsBehindWords files names.state names.stimulus text)
  behind_words text =
      turn_is_judged (λ a b. a ≡ b) (ReadsState files names.state text) (MeetsState files names.state text) (λ state. MeetsStimulus files names.stimulus state) (standing text)
      (λ state lines. ReadsStimulus files names.stimulus state lines) (λ state reads. stimulus state)

  behind_device : (text : List PlainModule) → IsJudged (λ a b. a ≡ b) (BehindDevice text) (MeetsBehindDevice files names.bit names.state names.stimulus text)
  behind_device text =
      turn_is_judged (λ a b. a ≡ b) (ReadsWords files names.bit) (MeetsWords files names.bit) (λ found. MeetsBehindWords files names.state names.stimulus text) words
      (λ found value. BehindWords text value) (λ found reads. behind_words text)

  all : IsJudged (λ a b. a ≡ b) (λ (value : List PlainModule × (List ℕ × (PlainState × List (List Bool)))). ReadsDevice files names.verilog value.0 × BehindDevice value.0 value.1)
      (MeetsSimulation files names)
  all =
      turn_is_judged (λ a b. a ≡ b) (ReadsDevice files names.verilog) (MeetsDevice files names.verilog)
      (λ text. MeetsBehindDevice files names.bit names.state names.stimulus text) device (λ text value. BehindDevice text value) (λ text reads. behind_device text)

  -- what the command comes upon is one refusal
  pub one_refusal : (a b : Fault) → MeetsSimulation files names (refuses a) → MeetsSimulation files names (refuses b) → a ≡ b
  one_refusal a b = all.refused_once a b

  -- what is ready is not refused
  pub not_both : (fault : Fault) → IsReadyToSimulate files names → MeetsSimulation files names (refuses fault) → ⊥
  not_both fault ready = all.apart (ready.text, (ready.words, (ready.state, ready.lines))) fault (ready.device, (ready.loaded, (ready.stands, ready.given)))
