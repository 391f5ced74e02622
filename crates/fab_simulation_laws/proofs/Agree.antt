-- All simulations of a text show the same for what is loaded and given.
use Rattle.std.proofs.Common.{◌≡◌, ◌<◌, ℕ, zero, suc, Bool, true, List, [], ◌∷◌, codes, if◌then◌else◌, refl, sym, ap, ◌∙◌, inl, inr, arith, lt-ltb}
use Rattle.std.proofs.lemmas.Bool.{cases_Bool, false≢true}
use Rattle.std.proofs.lemmas.List.Elements.{All-head, All-tail}
use Rattle.fab_syntax.specs.Plain.{PlainModule}
use Rattle.fab_syntax.specs.Declarations.{width_in}
use Rattle.fab_syntax.specs.Sound.{IsSound}
use Rattle.fab_systems_laws.specs.Ternary.{Tern, known}
use Rattle.fab_meaning.specs.Points.{Path, Point, point, Driver, outside, copy, bit_of, flop, hold, module_at}
use Rattle.fab_meaning.specs.Reads.{is_declared, same_point}
use Rattle.fab_meaning.specs.Runs.{clock_name, user_clock_name, clock_of, is_clock}
use Rattle.fab_meaning.specs.Loading.{IsLoading, LoadsAgree, write_strobe_name}
use Rattle.fab_meaning.specs.Sound.{PointsOfSoundTextsHaveOneDriver}
use Rattle.fab_implementation.specs.Plain.{Pad}
use Rattle.fab_prim.specs.Modules.{flip_flop_name}
use Rattle.fab_use_defs.specs.fab_state_Plain.{Register, PlainState}
use Rattle.fab_ternary_laws.specs.Operators.{tern_at}
use Rattle.fab_ternary_laws.specs.Values.{tern_value}
use Rattle.fab_ternary_laws.specs.Shown.{Terns, first_terns, tern_names, through}
use Rattle.fab_load_runs_laws.specs.Runs.{LoadingIsDecided}
use Rattle.fab_solutions_laws.specs.Solutions.{tern_given, Solves, IsLeastSolution, tern_kept}
use Rattle.fab_solutions_laws.specs.Laws.{LeastSolutionsAgree}
use Rattle.fab_use_defs.specs.Sites.{bel_point, top_point}
use Rattle.fab_simulation_laws.specs.Simulation.{zeros, IsLoaded, with_registers, given, shown_at, IsCycle, AreCycles, none, after}
use Rattle.fab_simulation_laws.specs.Laws.{AreShown, SimulationsAgree, CyclesGoOn}

first_same : (n : ℕ) (f g : ℕ → Tern) → ((i : ℕ) → i < n → f i ≡ g i) → first_terns n f ≡ first_terns n g
first_same zero f g each = refl
first_same (suc n) f g each =
    let here : f 0 ≡ g 0 = each 0 (omega arith) in
    let rest : first_terns n (λ i. f (suc i)) ≡ first_terns n (λ i. g (suc i)) =
    first_same n (λ i. f (suc i)) (λ i. g (suc i)) (λ i few. each (suc i) (omega (arith, few))) in
    λ j. here j ∷ rest j

module _ (text : List PlainModule) where
  -- the same at all declared points
  abbrev pub Same : (t u : Terns) → Type 0
  Same t u = (p : Point) → is_declared text p ≡ true → t p ≡ u p

  pub names_same : (t u : Terns) → Same t u → (path : Path) → tern_names text t path ≡ tern_names text u path
  names_same t u same path =
      λ j name.
      first_same (width_in (module_at text path) name) (λ bit. t (point path name bit)) (λ bit. u (point path name bit))
      (λ bit few. same (point path name bit) (lt-ltb bit (width_in (module_at text path) name) few)) j

  -- ---- what drivers give and keep

  given_same : (inputs held kept t : Terns) (p : Point) (d : Driver) → held p ≡ kept p → tern_given text inputs held t p d ≡ tern_given text inputs kept t p d
  given_same inputs held kept t p outside same = refl
  given_same inputs held kept t p (copy other) same = refl
  given_same inputs held kept t p (bit_of path e bit) same = refl
  given_same inputs held kept t p (flop path clock next bit) same = same
  given_same inputs held kept t p (hold path gate e bit) same =
      ap (through (tern_at (tern_value (tern_names text t path) gate) 0) (tern_at (tern_value (tern_names text t path) e) bit)) same

  kept_same : (held kept t u : Terns) (p : Point) (d : Driver) → held p ≡ kept p → t p ≡ u p → Same t u →
      tern_kept text user_clock_name held t p d ≡ tern_kept text user_clock_name kept u p d
  kept_same held kept t u p outside same here all = same
  kept_same held kept t u p (copy other) same here all = same
  kept_same held kept t u p (bit_of path e bit) same here all = same
  kept_same held kept t u p (flop path clock next bit) same here all =
      let names = names_same t u all path in
      λ j. if is_clock user_clock_name (clock_of text path clock) then tern_at (tern_value (names j) next) bit else same j
  kept_same held kept t u p (hold path gate e bit) same here all = here

  solves_also : (inputs held kept t : Terns) → Same held kept → Solves text inputs held t → Solves text inputs kept t
  solves_also inputs held kept t same solves p d declared drives = solves p d declared drives ∙ given_same inputs held kept t p d (same p declared)

  same_back : (t u : Terns) → Same t u → Same u t
  same_back t u same p declared = sym (same p declared)

  least_also : (inputs held kept t : Terns) → Same held kept → IsLeastSolution text inputs held t → IsLeastSolution text inputs kept t
  least_also inputs held kept t same is = record {
    solves = solves_also inputs held kept t same is.solves;
    least = λ u solves. is.least u (solves_also inputs kept held u (same_back held kept same) solves);
  }

  shown_same : (t u : Terns) → Same t u → (pads : List Pad) → AreShown text pads → shown_at pads t ≡ shown_at pads u
  shown_same t u same [] declared = refl
  shown_same t u same (pad ∷ pads) declared =
      let IsShown : Pad → Type 0 = λ pad. is_declared text (top_point pad.1 (codes "I_top")) ≡ true in
      let here : t (top_point pad.1 (codes "I_top")) ≡ u (top_point pad.1 (codes "I_top")) =
      same (top_point pad.1 (codes "I_top")) (All-head IsShown pad pads declared) in
      let rest : shown_at pads t ≡ shown_at pads u = shown_same t u same pads (All-tail IsShown pad pads declared) in
      λ j. here j ∷ rest j

  registers_same : (registers : List Register) (t u : Terns) → Same t u → Same (with_registers registers t) (with_registers registers u)
  registers_same [] t u same p declared = same p declared
  registers_same (register ∷ registers) t u same p declared =
      ap (λ v. if same_point (bel_point register.0 flip_flop_name) p then known register.1 else v) (registers_same registers t u same p declared)

  -- ---- cycles

  module _ (one : PointsOfSoundTextsHaveOneDriver) (agree : LeastSolutionsAgree) (state : PlainState) (sound : IsSound text)
      (declares : AreShown text state.outs) where
    module _ (held kept next other : Terns) (values : List Bool) (first second : List Tern) (same : Same held kept)
        (a : IsCycle text state held values first next) (b : IsCycle text state kept values second other) where
      now_same : Same a.now b.now
      now_same = agree text (given state.ins values) kept a.now b.now (least_also (given state.ins values) held kept a.now same a.least) b.least

      cycle_shows : first ≡ second
      cycle_shows = a.shows ∙ shown_same a.now b.now now_same state.outs declares ∙ sym b.shows

      cycle_leaves : Same next other
      cycle_leaves p declared =
          let driver = one text sound p declared in
          a.leaves p driver.0 declared driver.1 ∙ kept_same held kept a.now b.now p driver.0 (same p declared) (now_same p declared) now_same
          ∙ sym (b.leaves p driver.0 declared driver.1)

    cycles_agree : (held kept : Terns) (lines : List (List Bool)) (first second : List (List Tern)) (last end : Terns) → Same held kept →
        AreCycles text state held lines first last → AreCycles text state kept lines second end → first ≡ second
    cycles_agree held kept [] first second last end same none none = refl
    cycles_agree held kept (values ∷ lines) first second last end same (after {next = next} {shown = shown} {later = later} a run)
        (after {next = other} {shown = found} {later = rest} b others) =
        let here : shown ≡ found = cycle_shows held kept next other values shown found same a b in
        let left : Same next other = cycle_leaves held kept next other values shown found same a b in
        let behind : later ≡ rest = cycles_agree next other lines later rest last end left run others in
        λ j. here j ∷ behind j

  -- ---- loading

  loaded_same : LoadingIsDecided → LoadsAgree → IsSound text → width_in (module_at text []) clock_name ≡ 1 → width_in (module_at text []) write_strobe_name ≡ 1 →
      (words : List (List Bool)) (held kept : Terns) → IsLoaded text words held → IsLoaded text words kept → Same held kept
  loaded_same decided loads_agree sound clock_wide strobe_wide words held kept a b p declared =
      let has = decided text sound in
      elim (cases_Bool (has.0 p)) [
        | inl holds ↦ (
            let loads = has.1.sound p holds in
            a.loaded p loads ∙ ap known (loads_agree text clock_wide strobe_wide words zeros zeros a.after b.after (λ q is. refl) a.loads b.loads p loads)
            ∙ sym (b.loaded p loads))
        | inr fails ↦ (let no_load : IsLoading text p → ⊥ = λ is. false≢true (sym fails ∙ has.1.whole p is) in a.others p no_load ∙ sym (b.others p no_load))
      ]

pub simulations_agree : PointsOfSoundTextsHaveOneDriver → LeastSolutionsAgree → LoadingIsDecided → LoadsAgree → SimulationsAgree
simulations_agree one agree decided loads_agree text state words lines sound clock_wide strobe_wide declares first second a b =
    cycles_agree text one agree state sound declares (with_registers state.ffs a.loaded) (with_registers state.ffs b.loaded) lines first second a.last b.last
    (registers_same text state.ffs a.loaded b.loaded
    (loaded_same text decided loads_agree sound clock_wide strobe_wide words a.loaded b.loaded a.is_loaded b.is_loaded))
    a.cycles b.cycles

pub cycles_go_on : CyclesGoOn
cycles_go_on text state held between next lines values shown last none cycle = after cycle none
cycles_go_on text state held between next lines values shown last (after first more) cycle =
    after first (cycles_go_on text state _ between next _ values _ last more cycle)
