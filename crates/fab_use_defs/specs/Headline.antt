-- What is proved of the text of a fabric that is loaded with the bitstream of a legal implementation.
use Rattle.std.specs.Prelude.{◌≡◌, ℕ, Bool, true, List, All, map, Some}
use Rattle.fab_bits.specs.Bits.{digits}
use Rattle.fab_syntax.specs.Plain.{PlainModule}
use Rattle.fab_meaning.specs.Points.{Point}
use Rattle.fab_meaning.specs.Settled.{Assignment, IsSettledOn}
use Rattle.fab_meaning.specs.Reads.{is_declared}
use Rattle.fab_meaning.specs.Runs.{clock_name, Moment, IsRunOn, Ticks}
use Rattle.fab_meaning.specs.Loading.{IsLoading}
use Rattle.fab_model.specs.Grid.{PlainFabric}
use Rattle.fab_model.specs.Drive.{PlainBits}
use Rattle.fab_text_loads_laws.specs.fab_fabric_Fabric.{IsFabric, AreTiles}
use Rattle.fab_text_loads_laws.specs.fab_frames_Stream.{stream}
use Rattle.fab_state.specs.fab_netlist.specs.Plain.{PlainNetlist, bit_at}
use Rattle.fab_state.specs.fab_netlist.specs.WellMade.{IsWellMade}
use Rattle.fab_state.specs.fab_netlist.specs.Meaning.{IsRun}
use Rattle.fab_state.specs.fab_netlist.specs.Cycles.{HasNoCycle}
use Rattle.fab_state.specs.fab_netlist.specs.Packing.{packed}
use Rattle.fab_state.specs.fab_implementation.specs.Plain.{Pad, PlainImplementation}
use Rattle.fab_legal.specs.Legal.{IsLegal}
use Rattle.fab_state.specs.Plain.{PlainState}
use Rattle.fab_text_loads_laws.specs.fab_load_runs_laws_Runs.{IsClockLow}
use Rattle.fab_text_loads_laws.specs.Loads.{Writes, RunsOnce}
use Rattle.fab_text_loads_laws.specs.fab_fabric_text_defs_Texts.{IsFabricText}
use Rattle.fab_use_defs.specs.Design.{IsDesignPoint}
use Rattle.fab_use_defs.specs.Configuring.{Configures}
use Rattle.fab_use_defs.specs.Cycles.{Instant, AreInstants, Feeds, Cycle, IsCycle, AreCycles, EachShows}
use Rattle.fab_use_defs.specs.Registers.{HoldsLatches, design_state, HoldsState, IsInitial}

-- Whatever the other points have, exactly one assignment of a set of points is settled, and any clock can tick behind any assignment.
pub record SettlesOnce (Has : Point → Type 0) (text : List PlainModule) (inputs held : Assignment) : Type 0 where
  pub exists : (old : Assignment) → (now : Assignment) × IsSettledOn Has text inputs held now × ((p : Point) → (Has p → ⊥) → now p ≡ old p)
  pub once : (a b : Assignment) → IsSettledOn Has text inputs held a → IsSettledOn Has text inputs held b → (p : Point) → Has p → a p ≡ b p
  pub ticks : (clock : List ℕ) (now : Assignment) → (next : Assignment) × Ticks Has text clock held now next

-- an instant before the last of a cycle, in which these values are given
abbrev pub IsFed : PlainNetlist → PlainImplementation → (given : List Bool) → Instant → Type 0
IsFed netlist implementation given i = Feeds netlist implementation given i.inputs × (i.clock ≡ clock_name)

-- the netlist has a reset port, and 1 is given for it
abbrev pub IsGivenReset : PlainNetlist → (given : List Bool) → Type 0
IsGivenReset netlist given = (place : ℕ) × (netlist.reset ≡ Some place) × (bit_at given place ≡ true)

-- the design points of a netlist, as a set
abbrev pub DesignPoints : PlainFabric → List PlainModule → PlainNetlist → PlainImplementation → Point → Type 0
DesignPoints fabric text netlist implementation = IsDesignPoint fabric text (packed netlist) implementation

-- From what is held when use starts, the design runs as the netlist that was read, whatever the points beside it carry. `netlist` is the one that was packed
-- for it: the same, or the same ports and latches with each wide cover split.
pub record RunsFrom (fabric : PlainFabric) (text : List PlainModule) (read netlist : PlainNetlist) (implementation : PlainImplementation)
    (start : Assignment) : Type 0 where
  -- the flip-flops hold values of the latches,
  pub latches : (latches : List Bool) × HoldsLatches netlist implementation start latches
  -- and from these each run of cycles shows at the pads, cycle by cycle, what the nets have in a run of the netlist that was read over the given values
  pub shows : (cycles : List Cycle) (after : Assignment) (latches : List Bool) →
      AreCycles (DesignPoints fabric text netlist implementation) text netlist implementation cycles start after →
      HoldsLatches netlist implementation start latches →
      (nows : List (ℕ → Bool)) × IsRun read latches (map (λ c. c.given) cycles) nows × EachShows read implementation cycles nows
  -- A reset starts it anew: behind a cycle in which 1 is given for the reset port, each flip-flop of a latch holds what the state file says of it,
  -- whatever any flip-flop held before.
  pub resets : (cycles : List Cycle) (cycle : Cycle) (between after : Assignment) →
      AreCycles (DesignPoints fabric text netlist implementation) text netlist implementation cycles start between → IsCycle netlist implementation cycle →
      AreInstants (DesignPoints fabric text netlist implementation) text cycle.instants between after → IsGivenReset read cycle.given →
      HoldsState (design_state (packed netlist) implementation) after
  -- There are such runs: behind any cycles, and any ticks of CLK in the next one, exactly one assignment is settled, and it can be ticked.
  pub settles : (cycles : List Cycle) (instants : List Instant) (between held : Assignment) (given : List Bool) (inputs : Assignment) →
      AreCycles (DesignPoints fabric text netlist implementation) text netlist implementation cycles start between →
      AreInstants (DesignPoints fabric text netlist implementation) text instants between held → All (IsFed netlist implementation given) instants →
      Feeds netlist implementation given inputs → SettlesOnce (DesignPoints fabric text netlist implementation) text inputs held

-- What words and a state do to a text. No point of the design is missing; the words can be written, from any state, in exactly one way; and
-- whatever else is held when use starts, what they leave runs the design.
pub record RunsDesign (fabric : PlainFabric) (text : List PlainModule) (read netlist : PlainNetlist) (implementation : PlainImplementation)
    (words : List ℕ) (state : PlainState) : Type 0 where
  pub exist : (p : Point) → DesignPoints fabric text netlist implementation p → is_declared text p ≡ true
  pub once : RunsOnce text
  pub writable : (moments : List Moment) × Writes text (map (digits 32) words) moments × All IsClockLow moments
  pub runs : (moments : List Moment) (held after start : Assignment) → Writes text (map (digits 32) words) moments → IsRunOn (IsLoading text) text moments held after →
      ((p : Point) → IsLoading text p → start p ≡ after p) → RunsFrom fabric text read netlist implementation start
  -- flip-flops that hold the state hold what the latches begin with
  pub begins : (held : Assignment) (latches : List Bool) → HoldsState state held → HoldsLatches netlist implementation held latches → IsInitial read latches

-- The headline. In each text of a fabric, the bitstream of configuration bits that are those of a legal implementation runs its netlist.
abbrev pub LegalDesignsRun : Type 0
LegalDesignsRun =
    (fabric : PlainFabric) (text : List PlainModule) (netlist : PlainNetlist) (fixed : List Pad) (implementation : PlainImplementation) (bits : PlainBits) →
    IsFabric fabric → AreTiles fabric → IsFabricText fabric text → IsWellMade netlist → HasNoCycle netlist → IsLegal fabric (packed netlist) fixed implementation →
    Configures fabric (packed netlist) implementation bits →
    RunsDesign fabric text netlist netlist implementation (stream fabric bits) (design_state (packed netlist) implementation)
