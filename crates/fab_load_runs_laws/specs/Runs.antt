-- Loading a sound text has a run, from whatever its flip-flops and latches hold.
use Rattle.std.specs.Prelude.{◌≡◌, ℕ, Bool, true, false, List, [], All}
use Rattle.fab_equations.specs.fab_syntax.specs.Declarations.{is_input_of}
use Rattle.fab_equations.specs.fab_syntax.specs.Plain.{PlainModule}
use Rattle.fab_equations.specs.fab_syntax.specs.Sound.{IsSound}
use Rattle.fab_equations.specs.fab_meaning.specs.Points.{Point, point, module_at}
use Rattle.fab_equations.specs.fab_meaning.specs.Settled.{Assignment}
use Rattle.fab_equations.specs.fab_meaning.specs.Runs.{clock_name, user_clock_name, Moment, IsRunOn}
use Rattle.fab_equations.specs.fab_meaning.specs.Loading.{IsOneOf, IsStreamOf, IsLed, IsLoading, Loads}

-- a set of points as a test
pub record Decides (Has : Point → Type 0) (has : Point → Bool) : Type 0 where
  pub sound : (p : Point) → has p ≡ true → Has p
  pub whole : (p : Point) → Has p → has p ≡ true

-- To which points the inputs with some names lead in a sound text can be told.
abbrev pub LedIsDecided : Type 0
LedIsDecided = (text : List PlainModule) (names : List (List ℕ)) → IsSound text → (has : Point → Bool) × Decides (IsLed text (IsStreamOf text names)) has

-- So it can be told which are its loading points.
abbrev pub LoadingIsDecided : Type 0
LoadingIsDecided = (text : List PlainModule) → IsSound text → (has : Point → Bool) × Decides (IsLoading text) has

-- the two clocks are inputs of the top
pub record HasClocks (text : List PlainModule) : Type 0 where
  pub loader_clock : is_input_of (module_at text []) clock_name ≡ true
  pub user_clock : is_input_of (module_at text []) user_clock_name ≡ true

-- the inputs leave CLK at 0
abbrev pub IsClockLow : Moment → Type 0
IsClockLow moment = moment.inputs (point [] clock_name 0) ≡ false

-- Whatever is held, there is a run over the points of such a stream through any moments.
abbrev pub LedRunsExist : Type 0
LedRunsExist =
    (text : List PlainModule) (names : List (List ℕ)) → IsSound text → HasClocks text → (IsOneOf names user_clock_name → ⊥) →
    (moments : List Moment) → All IsClockLow moments → (held : Assignment) →
    (after : Assignment) × IsRunOn (IsLed text (IsStreamOf text names)) text moments held after

-- So there is over the loading points.
abbrev pub RunsExist : Type 0
RunsExist =
    (text : List PlainModule) → IsSound text → HasClocks text → (moments : List Moment) → All IsClockLow moments → (held : Assignment) →
    (after : Assignment) × IsRunOn (IsLoading text) text moments held after

-- So any words can be loaded.
abbrev pub LoadsExist : Type 0
LoadsExist =
    (text : List PlainModule) → IsSound text → HasClocks text → (words : List (List Bool)) (held : Assignment) →
    (after : Assignment) × Loads text words held after
