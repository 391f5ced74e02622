-- What an ordered simulation of a fabric's text shows where it is loaded with an implementation of a netlist.
use Rattle.std.specs.Prelude.{◌≡◌, ℕ, Bool, List, map}
use Rattle.fab_bits.specs.Bits.{digits}
use Rattle.fab_syntax.specs.Plain.{PlainModule}
use Rattle.fab_systems_laws.specs.Ternary.{known}
use Rattle.fab_meaning.specs.Points.{Point}
use Rattle.fab_meaning.specs.Settled.{Assignment}
use Rattle.fab_model.specs.Grid.{PlainFabric}
use Rattle.fab_model.specs.Drive.{PlainBits}
use Rattle.fab_frames.specs.Stream.{stream}
use Rattle.fab_netlist.specs.Plain.{PlainNetlist}
use Rattle.fab_netlist.specs.Meaning.{IsRun}
use Rattle.fab_netlist.specs.Packing.{packed}
use Rattle.fab_implementation.specs.Plain.{PlainImplementation}
use Rattle.fab_state.specs.Plain.{PlainState}
use Rattle.fab_ternary_laws.specs.Shown.{Terns}
use Rattle.fab_netlist_traces_laws.specs.fab_use_defs_Design.{IsSourced}
use Rattle.fab_netlist_traces_laws.specs.fab_use_defs_Registers.{design_state}
use Rattle.fab_ordering_laws.specs.Ordered.{Moment, AreOrderedCycles, none, after, SimulatesInOrder}
use Rattle.fab_ordering_laws.specs.Laws.{EachSettles}
use Rattle.fab_netlist_traces_laws.specs.SimulatedDesigns.{initial_latches}

-- The words of these configuration bits are loaded, and the state file of the implementation tells the ports and the flip-flops.
abbrev pub SimulatesDesignInOrder : PlainFabric → List PlainModule → PlainNetlist → PlainImplementation → PlainBits → (draws : ℕ → ℕ) →
    (lines shown : List (List Bool)) → Type 0
SimulatesDesignInOrder fabric text netlist implementation bits draws lines shown =
    SimulatesInOrder text (design_state (packed netlist) implementation) draws (map (digits 32) (stream fabric bits)) lines shown

-- what the output ports have where the nets have these values, in declared order
abbrev pub outputs_by : PlainNetlist → (nets : ℕ → Bool) → List Bool
outputs_by netlist nets = map nets netlist.outputs

-- Each point of a set is known, and stands at this value.
abbrev pub AreRight : (Has : Point → Type 0) → (solution : Terns) → Assignment → Type 0
AreRight Has solution now = (p : Point) → Has p → solution p ≡ known (now p)

-- In each of the cycles they do, at its end.
abbrev pub EachRight : (Has : Point → Type 0) → {text : List PlainModule} → {state : PlainState} → {draws : ℕ → ℕ} → {before last : Moment} →
    {lines shown : List (List Bool)} → AreOrderedCycles text state draws before lines shown last → Type 0
EachRight Has none = Unit {0}
EachRight Has (after cycle later) = AreRight Has cycle.begun.solution cycle.at_rest.standing.now × EachRight Has later

-- Cycle by cycle an ordered simulation settles and shows what the nets of output ports have in a run of the netlist over the values given. Routes, cells
-- and pads of the implementation are known at all their points, and right.
pub record ShowsNetlistInOrder (fabric : PlainFabric) (text : List PlainModule) (netlist : PlainNetlist) (implementation : PlainImplementation)
    (bits : PlainBits) (draws : ℕ → ℕ) (lines shown : List (List Bool))
    (simulation : SimulatesDesignInOrder fabric text netlist implementation bits draws lines shown) : Type 0 where
  pub nows : List (ℕ → Bool)
  pub run : IsRun netlist (initial_latches netlist) lines nows
  pub shows : shown ≡ map (outputs_by netlist) nows
  pub settles : EachSettles simulation.cycles
  pub right : EachRight (IsSourced fabric (packed netlist) implementation) simulation.cycles
