-- The command `simulate` is ready, or it has a first refusal.
use Rattle.std.proofs.Common.{ℕ, List, refl, inl, inr}
use Rattle.std.proofs.lemmas.Bool.{cases_lt}
use Rattle.fab_base.specs.declared.fault.Fault.{Fault}
use Rattle.fab_base.specs.declared.problem.Problem.TheVariants as problems
use Rattle.fab_base.specs.declared.words.Quantity.TheVariants as quantities
use Rattle.fab_base.specs.Reading.{fault_at}
use Rattle.fab_desk.specs.Files.{Map}
use Rattle.fab_lines.specs.Counts.{last_line}
use Rattle.fab_syntax.specs.Plain.{PlainModule}
use Rattle.fab_syntax.specs.Sound.{IsSound}
use Rattle.fab_meaning.specs.Sound.{PointsOfSoundTextsHaveOneDriver}
use Rattle.fab_equations.specs.Instances.{whole_count, most_points, in_64_bits}
use Rattle.fab_equations.specs.Equations.{IsRefused}
use Rattle.fab_grammar_defs.specs.Grammar.{SpellsText}
use Rattle.fab_frames.specs.Refusals.{IsCut}
use Rattle.fab_texts.specs.Rows.{rows_of, words_of}
use Rattle.fab_state.specs.Plain.{PlainState}
use Rattle.fab_state.specs.Lines.{known}
use Rattle.fab_state.specs.Spelled.{state_of, state_format}
use Rattle.fab_state.proofs.Spelled.{whole_spells}
use Rattle.fab_stimulus.specs.Stimuli.{ports_of, stimulus_format}
use Rattle.fab_stimulus.specs.Stimuli.{known as stimulus_known}
use Rattle.fab_stimulus.proofs.Once.{ins_apart}
use Rattle.fab_stimulus.proofs.Spelling.{whole_spells as stimulus_spells}
use Rattle.fab_simulate_command.specs.Simulating.{SimulationFiles, SpellsDevice, ReadsDevice, RefusesDevice, misspelled, unfit, MeetsDevice, SpellsWords, ReadsWords, MeetsWords, SpellsState, ReadsState, at_line, RefusesState, absent, MeetsState, SpellsStimulus, RefusesStimulus, MeetsStimulus, MeetsBehindWords, MeetsBehindDevice, MeetsSimulation, IsReadyToSimulate}
use Rattle.fab_judged_laws.specs.Judged.{HoldBytes, IsSpelledOrRefused, IsReadyOrRefused}
use Rattle.fab_judged_laws.proofs.Bytes.{bytes_judged}
use Rattle.fab_judged_laws.proofs.Stages.{file_judged, in_turn}
use Rattle.fab_judged_laws.proofs.Texts.{texts_judged}
use Rattle.fab_judged_laws.proofs.Verilogs.{verilog_judged}
use Rattle.fab_ready_laws.proofs.Commands.{handed_bytes}
use Rattle.fab_ready_laws.proofs.Sounds.{sound_judged}
use Rattle.fab_ready_laws.proofs.StatePoints.{points_judged}

-- ---- the text

unfit_device : (file bytes : List ℕ) (text : List PlainModule) → SpellsText 300 128 bytes text → IsSpelledOrRefused (SpellsDevice bytes) (RefusesDevice file bytes)
unfit_device file bytes text spelled = elim (sound_judged text) [
  | inr broken ↦ (
      let refused : IsRefused file text (fault_at file 0 (problems.Malformed broken.0)) = inr (inl (broken.0, broken.1, refl)) in
      inr (fault_at file 0 (problems.Malformed broken.0), unfit text spelled (λ memory. cc) refused))
  | inl sound ↦
      elim (cases_lt most_points (whole_count text)) [
        | inr small ↦ inl (text, record { spelled = spelled; sound = sound; small = small })
        | inl many ↦ (
            let fault : Fault = fault_at file 0 (problems.Limit quantities.Points (in_64_bits (whole_count text)) most_points) in
            let refused : IsRefused file text fault = inr (inr (sound, many, refl)) in
            inr (fault, unfit text spelled (λ memory. cc) refused))
      ]
]

pub device_judged : (file bytes : List ℕ) → IsSpelledOrRefused (SpellsDevice bytes) (RefusesDevice file bytes)
device_judged file bytes = elim (verilog_judged file bytes) [
  | inl text ↦ unfit_device file bytes text.0 text.1
  | inr refusal ↦ inr (refusal.0, misspelled refusal.1)
]

-- ---- the state, and the stimulus

pub state_judged : PointsOfSoundTextsHaveOneDriver → (text : List PlainModule) → IsSound text → (file bytes : List ℕ) → IsSpelledOrRefused (SpellsState text bytes) (RefusesState text file bytes)
state_judged one text sound file bytes = elim (texts_judged state_format file (rows_of bytes) (last_line bytes)) [
  | inr refusal ↦ inr (refusal.0, misspelled refusal.1)
  | inl whole ↦ (
      let state : PlainState = state_of (known (words_of (rows_of bytes))) in
      elim (points_judged one text sound file state) [
        | inl points ↦
            inl (state, record { spelled = whole_spells (rows_of bytes) whole; says = (whole, refl); points = record { stream = points.0; entries = points.1 } })
        | inr refusal ↦ inr (at_line (rows_of bytes) refusal.0, absent state refusal.0 (whole, refl) refusal.1 refusal.2 refl)
      ])
]

pub stimulus_judged : (text : List PlainModule) (state : PlainState) (of : List ℕ) → SpellsState text of state → (file bytes : List ℕ)
    → IsSpelledOrRefused (SpellsStimulus state bytes) (RefusesStimulus state file bytes)
stimulus_judged text state of spelled file bytes = elim (texts_judged (stimulus_format (ports_of state.ins)) file (rows_of bytes) (last_line bytes)) [
  | inr refusal ↦ inr refusal
  | inl whole ↦
      inl (
        (stimulus_known (ports_of state.ins) (words_of (rows_of bytes))).lines,
        record {
          spelled = stimulus_spells (ports_of state.ins) (ins_apart state spelled.spelled.fresh.ports) (rows_of bytes) whole;
          says = (whole, refl);
        },
      )
]

-- ---- the files, one behind the other

module _ (one : PointsOfSoundTextsHaveOneDriver) (files : Map) (hold : HoldBytes files) (names : SimulationFiles) where
  module _ (text : List PlainModule) (device : ReadsDevice files names.verilog text) (words : List ℕ) (loaded : ReadsWords files names.bit words) where
    behind_words : IsReadyOrRefused (IsReadyToSimulate files names) (MeetsBehindWords files names.state names.stimulus text)
    behind_words =
        in_turn (ReadsState files names.state text) (MeetsState files names.state text) (λ state. MeetsStimulus files names.stimulus state)
        (file_judged files names.state (SpellsState text) (RefusesState text names.state) (λ bytes found. state_judged one text device.spelled.sound names.state bytes)) (λ state stands.
        elim (file_judged files names.stimulus (SpellsStimulus state) (RefusesStimulus state names.stimulus)
        (λ bytes found. stimulus_judged text state stands.bytes stands.spelled names.stimulus bytes)) [
          | inl given ↦
              inl (record { text = text; words = words; state = state; lines = given.0; device = device; loaded = loaded; stands = stands; given = given.1 })
          | inr refusal ↦ inr refusal
        ])

  behind_device : (text : List PlainModule) → ReadsDevice files names.verilog text
      → IsReadyOrRefused (IsReadyToSimulate files names) (MeetsBehindDevice files names.bit names.state names.stimulus text)
  behind_device text device =
      in_turn (ReadsWords files names.bit) (MeetsWords files names.bit) (λ words. MeetsBehindWords files names.state names.stimulus text)
      (file_judged files names.bit SpellsWords (IsCut names.bit) (λ bytes found. bytes_judged names.bit bytes (handed_bytes files hold names.bit bytes found)))
      (λ words loaded. behind_words text device words loaded)

  pub simulate_judged : IsReadyOrRefused (IsReadyToSimulate files names) (MeetsSimulation files names)
  simulate_judged =
      in_turn (ReadsDevice files names.verilog) (MeetsDevice files names.verilog) (λ text. MeetsBehindDevice files names.bit names.state names.stimulus text)
      (file_judged files names.verilog SpellsDevice (RefusesDevice names.verilog) (λ bytes found. device_judged names.verilog bytes)) behind_device
