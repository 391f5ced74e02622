-- What a simulation of a fabric's text shows where it is loaded with an implementation of a netlist.
use Rattle.std.specs.Prelude.{◌≡◌, ℕ, Bool, List, map}
use Rattle.fab_bits.specs.Bits.{digits}
use Rattle.fab_syntax.specs.Plain.{PlainModule}
use Rattle.fab_systems_laws.specs.Ternary.{Tern, known}
use Rattle.fab_meaning.specs.Points.{Point}
use Rattle.fab_model.specs.Grid.{PlainFabric}
use Rattle.fab_model.specs.Drive.{PlainBits}
use Rattle.fab_frames.specs.Stream.{stream}
use Rattle.fab_netlist.specs.Plain.{PlainNetlist}
use Rattle.fab_netlist.specs.Meaning.{first_value, IsRun}
use Rattle.fab_netlist.specs.Packing.{packed}
use Rattle.fab_implementation.specs.Plain.{PlainImplementation}
use Rattle.fab_state.specs.Plain.{PlainState}
use Rattle.fab_ternary_laws.specs.Shown.{Terns}
use Rattle.fab_runs_laws.specs.fab_use_defs_Design.{IsSourced}
use Rattle.fab_runs_laws.specs.fab_use_defs_Registers.{design_state}
use Rattle.fab_simulation_laws.specs.Simulation.{AreCycles, none, after, Simulates}

-- ---- netlists

-- What the latches of a netlist begin with in a simulation: 2 and 3, any value, are read as 0.
abbrev pub initial_latches : PlainNetlist → List Bool
initial_latches netlist = map first_value netlist.latches

-- what the output ports show where the nets have these values, in declared order
abbrev pub shown_by : PlainNetlist → (nets : ℕ → Bool) → List Tern
shown_by netlist nets = map (λ net. known (nets net)) netlist.outputs

-- ---- simulations

-- The words of these configuration bits are loaded, and the state file of the implementation tells the ports and the flip-flops.
abbrev pub SimulatesDesign : PlainFabric → List PlainModule → PlainNetlist → PlainImplementation → PlainBits → (lines : List (List Bool)) →
    (shown : List (List Tern)) → Type 0
SimulatesDesign fabric text netlist implementation bits lines shown =
    Simulates text (design_state (packed netlist) implementation) (map (digits 32) (stream fabric bits)) lines shown

abbrev pub IsKnown : Terns → Point → Type 0
IsKnown t p = (b : Bool) × (t p ≡ known b)

-- In each of the cycles the points of a set are known.
abbrev pub EachKnows : (Has : Point → Type 0) → {text : List PlainModule} → {state : PlainState} → {held last : Terns} → {lines : List (List Bool)} →
    {shown : List (List Tern)} →
    AreCycles text state held lines shown last → Type 0
EachKnows Has none = Unit {0}
EachKnows Has (after cycle later) = ((p : Point) → Has p → IsKnown cycle.now p) × EachKnows Has later

-- Cycle by cycle a simulation shows what the nets of output ports have in a run of the netlist over the values given, and nothing unknown. Nothing
-- unknown is on the way either: routes, cells and pads of the implementation are known at all their points.
pub record ShowsNetlist (fabric : PlainFabric) (text : List PlainModule) (netlist : PlainNetlist) (implementation : PlainImplementation) (bits : PlainBits)
    (lines : List (List Bool))
    (shown : List (List Tern)) (simulation : SimulatesDesign fabric text netlist implementation bits lines shown) : Type 0 where
  pub nows : List (ℕ → Bool)
  pub run : IsRun netlist (initial_latches netlist) lines nows
  pub shows : shown ≡ map (shown_by netlist) nows
  pub knows : EachKnows (IsSourced fabric (packed netlist) implementation) simulation.cycles
