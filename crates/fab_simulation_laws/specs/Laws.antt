-- That each text has a simulation, that it shows one thing, and what is known while words are loaded.
use Rattle.std.specs.Prelude.{◌≡◌, ℕ, Bool, true, List, [], ◌∷◌, ◌++◌, All, codes}
use Rattle.fab_syntax.specs.Plain.{PlainModule}
use Rattle.fab_syntax.specs.Declarations.{width_in}
use Rattle.fab_syntax.specs.Sound.{IsSound}
use Rattle.fab_systems_laws.specs.Ternary.{Tern, known}
use Rattle.fab_meaning.specs.Points.{Point, Driver, Drives, module_at}
use Rattle.fab_meaning.specs.Settled.{Assignment, IsSettledOn}
use Rattle.fab_meaning.specs.Reads.{is_declared}
use Rattle.fab_meaning.specs.Runs.{clock_name, kept}
use Rattle.fab_meaning.specs.Loading.{IsStream, IsLoading, write_strobe_name}
use Rattle.fab_sound.specs.Narrow.{AreNarrow}
use Rattle.fab_implementation.specs.Plain.{Pad}
use Rattle.fab_use_defs.specs.fab_state_Plain.{PlainState}
use Rattle.fab_ternary_laws.specs.Shown.{Terns}
use Rattle.fab_load_runs_laws.specs.Runs.{HasClocks}
use Rattle.fab_solutions_laws.specs.Solutions.{Solves, tern_kept}
use Rattle.fab_use_defs.specs.Sites.{top_point}
use Rattle.fab_simulation_laws.specs.Simulation.{IsCycle, AreCycles, Simulates}

-- A sound text with the two clocks can be simulated, whatever is loaded and given.
abbrev pub SimulationsExist : Type 0
SimulationsExist =
    (text : List PlainModule) (state : PlainState) (words lines : List (List Bool)) → IsSound text → AreNarrow text → HasClocks text →
    (shown : List (List Tern)) × Simulates text state words lines shown

-- the text declares what the pads of output ports show
abbrev pub AreShown : List PlainModule → List Pad → Type 0
AreShown text pads = All (λ pad. is_declared text (top_point pad.1 (codes "I_top")) ≡ true) pads

-- All simulations of a sound text, whose inputs CLK and WriteStrobe have one bit, show the same for what is loaded and given.
abbrev pub SimulationsAgree : Type 0
SimulationsAgree =
    (text : List PlainModule) (state : PlainState) (words lines : List (List Bool)) → IsSound text →
    width_in (module_at text []) clock_name ≡ 1 → width_in (module_at text []) write_strobe_name ≡ 1 → AreShown text state.outs →
    (first second : List (List Tern)) → Simulates text state words lines first → Simulates text state words lines second → first ≡ second

-- One more cycle goes on behind others.
abbrev pub CyclesGoOn : Type 0
CyclesGoOn =
    (text : List PlainModule) (state : PlainState) (held between next : Terns) (lines : List (List Bool)) (values : List Bool) (shown : List (List Tern))
    (last : List Tern) →
    AreCycles text state held lines shown between → IsCycle text state between values last next →
    AreCycles text state held (lines ++ values ∷ []) (shown ++ last ∷ []) next

-- ---- loading points

-- at the points of a set it is known, and it is this
abbrev pub AreKnown : (Has : Point → Type 0) → Terns → Assignment → Type 0
AreKnown Has t a = (p : Point) → Has p → t p ≡ known (a p)

-- Where the inputs that carry words are known, and what is held at loading points, each solution knows the loading points: it has their settled
-- assignment, whatever is known of all other points.
abbrev pub LoadingIsKnown : Type 0
LoadingIsKnown =
    (text : List PlainModule) (inputs held t : Terns) (bits base now : Assignment) → Solves text inputs held t →
    AreKnown (IsStream text) inputs bits → AreKnown (IsLoading text) held base → IsSettledOn (IsLoading text) text bits base now →
    AreKnown (IsLoading text) t now

-- So what they are left with at a tick of any clock is known, and it is what they are left with there.
abbrev pub LoadingIsKept : Type 0
LoadingIsKept =
    (text : List PlainModule) (clock : List ℕ) (held t : Terns) (base now : Assignment) → IsSound text →
    AreKnown (IsLoading text) held base → AreKnown (IsLoading text) t now →
    (p : Point) (d : Driver) → IsLoading text p → Drives text p d → tern_kept text clock held t p d ≡ known (kept text clock base now p d)
