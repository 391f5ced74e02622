-- Files have one trace, without an order and with each.
use Rattle.std.proofs.Common.{◌≡◌, ℕ, Bool, true, List, [], ◌∷◌, ◌++◌, map, codes, All, Option, Some, None, Result, Ok, refl, sym, ap, ◌∙◌, subst, arith, lt-ltb}
use Rattle.std.proofs.lemmas.List.Elements.{All-cons, All-head, All-nil, All-tail}
use Rattle.fab_desk.specs.Files.{Map}
use Rattle.fab_files.specs.Stages.{ReadsFrom}
use Rattle.fab_bits.specs.Bits.{digits}
use Rattle.fab_draws.specs.Draws.{draws_of}
use Rattle.fab_syntax.specs.declared.tree.Shape.TheVariants.{Scalar}
use Rattle.fab_syntax.specs.Declarations.{width, width_in}
use Rattle.fab_syntax.specs.Plain.{PlainModule}
use Rattle.fab_systems_laws.specs.Ternary.{known}
use Rattle.fab_ternary.specs.declared.Tern.{Tern}
use Rattle.fab_ternary.specs.declared.Tern.TheVariants as terns
use Rattle.fab_ternary.specs.Terns.{plain_tern}
use Rattle.fab_meaning.specs.Points.{Path, module_at}
use Rattle.fab_meaning.specs.Reads.{is_declared}
use Rattle.fab_values.specs.Declarations.{declared_at, found_in}
use Rattle.fab_values.specs.declared.names.Role.{Role}
use Rattle.fab_equations.proofs.Points.{found_width}
use Rattle.fab_frames.proofs.ByteWords.{all_fit, bytes_tell_words}
use Rattle.fab_implementation.specs.Plain.{Pad}
use Rattle.fab_state.specs.Plain.{PlainState}
use Rattle.fab_stimulus.specs.Stimuli.{ports_of}
use Rattle.fab_stimulus.specs.Traces.{trace_text}
use Rattle.fab_simulation_laws.specs.Laws.{AreShown, SimulationsAgree}
use Rattle.fab_simulation_laws.specs.fab_use_defs_Sites.{top_point}
use Rattle.fab_outputs.specs.Storing.{PlainOutput, output}
use Rattle.fab_state_points.specs.Entries.{in_entries, out_entries, register_entries, HasEntry}
use Rattle.fab_state_points.specs.Finding.{IsDeclared}
use Rattle.fab_state_points.specs.declared.entry.Entry.{Entry}
use Rattle.fab_state_points.specs.declared.entry.Entry.TheVariants as entries
use Rattle.fab_simulate_command.specs.Simulating.{SimulationFiles, SpellsDevice, ReadsDevice, SpellsWords, SpellsState, SpellsStimulus, ReadsStimulus, Traces, IsTrace, MakesTrace}
use Rattle.fab_simulate_command.proofs.SpellingOnce.{device_is_judged}
use Rattle.fab_simulate_command.proofs.StandingOnce.{state_is_judged}
use Rattle.fab_traces_agree_laws.specs.Laws.{IsSimulable, ShownIsOne, TracesAreOne}
use Rattle.fab_traces_agree_laws.proofs.Cycles.{Known, ordered_simulations_agree}

-- ---- what is shown

pub shown_is_one : Known → SimulationsAgree → ShownIsOne
shown_is_one k agree text state None words lines simulable first second a b =
    agree text state words lines simulable.sound simulable.clock simulable.strobe simulable.shown first second a b
shown_is_one k agree text state (Some seed) words lines simulable first second a b =
    let bits : a.bits ≡ b.bits = ordered_simulations_agree k text state (draws_of seed) words lines simulable a.bits b.bits a.simulates b.simulates in
    a.known_is ∙ ap (map (map known)) bits ∙ sym b.known_is

-- ---- a text with what a state names

module _ (text : List PlainModule) where
  -- a name that is declared with one bit
  one_wide : (path : Path) (name : List ℕ) (role : Role) → IsDeclared text path name Scalar role → width_in (module_at text path) name ≡ 1
  one_wide path name role declared = by_module (module_at text path) refl
    where
      by_module : (m : Option PlainModule) → module_at text path ≡ m → width_in (module_at text path) name ≡ 1
      by_module None none = let is : None ≡ Some declared.local = sym (ap (λ o. found_in (declared_at o) name) none) ∙ declared.is in absurd cc
      by_module (Some m) there =
          let found = sym (ap (λ o. found_in (declared_at o) name) there) ∙ declared.is in
          ap (λ o. width_in o name) there ∙ found_width m name declared.local found ∙ ap width declared.shape_is

  behind : {X : Type 0} (P : X → Type 0) (xs ys : List X) → All P (xs ++ ys) → All P ys
  behind P [] ys all = all
  behind P (x ∷ xs) ys all = behind P xs ys (All-tail P x (xs ++ ys) all)

  outs_shown : (pads : List Pad) (others : List Entry) → All (HasEntry text) (out_entries pads ++ others) → AreShown text pads
  outs_shown [] others all = All-nil (λ (pad : Pad). is_declared text (top_point pad.1 (codes "I_top")) ≡ true)
  outs_shown (pad ∷ pads) others all =
      let IsShown : Pad → Type 0 = λ pad. is_declared text (top_point pad.1 (codes "I_top")) ≡ true in
      let declared = All-head (HasEntry text) (entries.Output pad.1) (out_entries pads ++ others) all in
      let wide = one_wide [] (top_point pad.1 (codes "I_top")).name _ declared in
      All-cons IsShown pad pads (lt-ltb 0 (width_in (module_at text []) (top_point pad.1 (codes "I_top")).name) (omega (arith, wide)))
      (outs_shown pads others (All-tail (HasEntry text) (entries.Output pad.1) (out_entries pads ++ others) all))

  simulable : (state : PlainState) (bytes of : List ℕ) → SpellsDevice of text → SpellsState text bytes state → IsSimulable text state
  simulable state bytes of device stands = record {
    sound = device.sound;
    clock = one_wide [] _ _ stands.points.stream.loader;
    strobe = one_wide [] _ _ stands.points.stream.strobe;
    shown = outs_shown state.outs (register_entries state.ffs)
        (behind (HasEntry text) (in_entries state.ins) (out_entries state.outs ++ register_entries state.ffs) stands.points.entries);
  }

-- ---- files are read once

ok_is : {a b : List ℕ} {E : Type 0} → (let value : List ℕ → Result (List ℕ) E = λ x. Ok x in value a ≡ value b) → a ≡ b
ok_is same = cc

read_once : {A : Type 0} (files : Map) (file : List ℕ) (spells : List ℕ → A → Type 0) → ((bytes : List ℕ) (a b : A) → spells bytes a → spells bytes b → a ≡ b)
    → (first second : A) → ReadsFrom files file spells first → ReadsFrom files file spells second → first ≡ second
read_once files file spells once first second x y =
    once y.bytes first second (subst (λ bytes. spells bytes first) (ok_is (sym x.found ∙ y.found)) x.spelled) y.spelled

words_once : (bytes first second : List ℕ) → SpellsWords bytes first → SpellsWords bytes second → first ≡ second
words_once bytes first second x y = bytes_tell_words first second (all_fit first x.fit) (all_fit second y.fit) (sym x.bytes_are ∙ y.bytes_are)

-- ---- shown bits, and what is printed of them

terns_once : (a b : Tern) → plain_tern a ≡ plain_tern b → a ≡ b
terns_once terns.No terns.No same = refl
terns_once terns.No terns.Yes same = absurd cc
terns_once terns.No terns.Open same = absurd cc
terns_once terns.Yes terns.No same = absurd cc
terns_once terns.Yes terns.Yes same = refl
terns_once terns.Yes terns.Open same = absurd cc
terns_once terns.Open terns.No same = absurd cc
terns_once terns.Open terns.Yes same = absurd cc
terns_once terns.Open terns.Open same = refl

mapped_once : {X Y : Type 0} (f : X → Y) → ((a b : X) → f a ≡ f b → a ≡ b) → (xs ys : List X) → map f xs ≡ map f ys → xs ≡ ys
mapped_once f once [] [] same = refl
mapped_once f once [] (y ∷ ys) same = absurd cc
mapped_once f once (x ∷ xs) [] same = absurd cc
mapped_once f once (x ∷ xs) (y ∷ ys) same =
    let here : x ≡ y = once x y (head_is same) in
    let rest : xs ≡ ys = mapped_once f once xs ys (tail_is same) in
    λ i. here i ∷ rest i
  where
    head_is : f x ∷ map f xs ≡ f y ∷ map f ys → f x ≡ f y
    head_is e = cc

    tail_is : f x ∷ map f xs ≡ f y ∷ map f ys → map f xs ≡ map f ys
    tail_is e = cc

-- ---- a trace

module _ (k : Known) (agree : SimulationsAgree) (files : Map) (names : SimulationFiles) (order : Option ℕ) where
  traced_once : (text : List PlainModule) (state : PlainState) (words : List ℕ) (lines : List (List Bool)) (first second : List ℕ) → IsSimulable text state
      → Traces text state order words lines first → Traces text state order words lines second → first ≡ second
  traced_once text state words lines first second is a b =
      let values = shown_is_one k agree text state order (map (digits 32) words) lines is (map (map plain_tern) a.shown) (map (map plain_tern) b.shown) a.simulates b.simulates in
      let shown : a.shown ≡ b.shown = mapped_once (map plain_tern) (mapped_once plain_tern terns_once) a.shown b.shown values in
      a.bytes_are ∙ ap (trace_text (ports_of state.outs)) shown ∙ sym b.bytes_are

  trace_once : (text : List PlainModule) → ReadsDevice files names.verilog text → (first second : List ℕ) → IsTrace files names.bit names.state names.stimulus text order first
      → IsTrace files names.bit names.state names.stimulus text order second → first ≡ second
  trace_once text device first second a b =
      let words : b.words ≡ a.words = read_once files names.bit SpellsWords words_once b.words a.words b.loaded a.loaded in
      let state : b.state ≡ a.state = read_once files names.state (SpellsState text) (state_is_judged text names.state).once b.state a.state b.stands a.stands in
      let given : ReadsStimulus files names.stimulus a.state b.lines = subst (λ (s : PlainState). ReadsStimulus files names.stimulus s b.lines) state b.given in
      let lines : b.lines ≡ a.lines = read_once files names.stimulus (SpellsStimulus a.state) (λ bytes x y p q. p.says.1 ∙ sym q.says.1) b.lines a.lines given a.given in
      let traces : Traces text a.state order a.words a.lines second =
      subst (λ (w : List ℕ). Traces text a.state order w a.lines second) words
      (subst (λ (l : List (List Bool)). Traces text a.state order b.words l second) lines (subst (λ (s : PlainState). Traces text s order b.words b.lines second) state b.traces)) in
      traced_once text a.state a.words a.lines first second (simulable text a.state a.stands.bytes device.bytes device.spelled a.stands.spelled) a.traces traces

  pub outputs_once : (first second : List PlainOutput) → MakesTrace files names order first → MakesTrace files names order second → first ≡ second
  outputs_once first second a b =
      let text : b.text ≡ a.text = read_once files names.verilog SpellsDevice (device_is_judged names.verilog).once b.text a.text b.device a.device in
      let made : IsTrace files names.bit names.state names.stimulus a.text order b.bytes =
      subst (λ (t : List PlainModule). IsTrace files names.bit names.state names.stimulus t order b.bytes) text b.made in
      let bytes : a.bytes ≡ b.bytes = trace_once a.text a.device a.bytes b.bytes a.made made in
      a.outputs_are ∙ ap (λ (made_bytes : List ℕ). output names.trace made_bytes ∷ []) bytes ∙ sym b.outputs_are

pub traces_are_one : Known → SimulationsAgree → TracesAreOne
traces_are_one k agree files names order first second a b = outputs_once k agree files names order first second a b
