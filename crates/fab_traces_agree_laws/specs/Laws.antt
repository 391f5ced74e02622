-- What is loaded and given decides what a simulation shows, and with an order its seed besides.
use Rattle.std.specs.Prelude.{◌≡◌, ℕ, Bool, List, [], Option}
use Rattle.fab_desk.specs.Files.{Map}
use Rattle.fab_syntax.specs.Plain.{PlainModule}
use Rattle.fab_syntax.specs.Declarations.{width_in}
use Rattle.fab_syntax.specs.Sound.{IsSound}
use Rattle.fab_systems_laws.specs.Ternary.{Tern}
use Rattle.fab_meaning.specs.Points.{module_at}
use Rattle.fab_meaning.specs.Runs.{clock_name}
use Rattle.fab_meaning.specs.Loading.{write_strobe_name}
use Rattle.fab_state.specs.Plain.{PlainState}
use Rattle.fab_ordering_laws.specs.Ordered.{SimulatesInOrder}
use Rattle.fab_simulation_laws.specs.Laws.{AreShown}
use Rattle.fab_outputs.specs.Storing.{PlainOutput}
use Rattle.fab_simulate_command.specs.Simulating.{SimulationFiles, MakesTrace, Shows}

-- A sound text whose inputs CLK and WriteStrobe have one bit, and which declares what the pads of a state's output ports show.
pub record IsSimulable (text : List PlainModule) (state : PlainState) : Type 0 where
  pub sound : IsSound text
  pub clock : width_in (module_at text []) clock_name ≡ 1
  pub strobe : width_in (module_at text []) write_strobe_name ≡ 1
  pub shown : AreShown text state.outs

-- Of such a text all ordered simulations over the same words show the same. The words may be any, and need not be those of a seed.
abbrev pub OrderedSimulationsAgree : Type 0
OrderedSimulationsAgree =
    (text : List PlainModule) (state : PlainState) (draws : ℕ → ℕ) (words lines : List (List Bool)) → IsSimulable text state →
    (first second : List (List Bool)) → SimulatesInOrder text state draws words lines first → SimulatesInOrder text state draws words lines second → first ≡ second

-- So without an order, and with one of the same seed, a simulation shows one thing.
abbrev pub ShownIsOne : Type 0
ShownIsOne =
    (text : List PlainModule) (state : PlainState) (order : Option ℕ) (words lines : List (List Bool)) → IsSimulable text state →
    (first second : List (List Tern)) → Shows text state order words lines first → Shows text state order words lines second → first ≡ second

-- And what `simulate` makes of files is one trace, without an order and with each.
abbrev pub TracesAreOne : Type 0
TracesAreOne =
    (files : Map) (names : SimulationFiles) (order : Option ℕ) (first second : List PlainOutput) →
    MakesTrace files names order first → MakesTrace files names order second → first ≡ second
