-- A text with a serial port, used as a design: while no bit is sent, its pads show what the netlist says.
use Rattle.std.specs.Prelude.{◌≡◌, ℕ, Bool, List, [], map, All}
use Rattle.fab_bits.specs.Bits.{digits}
use Rattle.fab_syntax.specs.Plain.{PlainModule}
use Rattle.fab_meaning.specs.Points.{Point, point}
use Rattle.fab_meaning.specs.Settled.{Assignment}
use Rattle.fab_meaning.specs.Runs.{user_clock_name, Moment, IsRunOn}
use Rattle.fab_model.specs.declared.mode.Mode.TheVariants as modes
use Rattle.fab_model.specs.Grid.{PlainFabric}
use Rattle.fab_fabric.specs.Fabric.{IsFabric}
use Rattle.fab_netlist.specs.Plain.{PlainNetlist}
use Rattle.fab_netlist.specs.Meaning.{IsRun}
use Rattle.fab_netlist.specs.Packing.{packed}
use Rattle.fab_implementation.specs.Plain.{Pad, PlainImplementation}
use Rattle.fab_points_laws.specs.fab_legal_Legal.{IsLegal}
use Rattle.fab_points_laws.specs.fab_fabric_text_defs_Texts.{IsFabricText}
use Rattle.fab_points_laws.specs.fab_use_defs_Cycles.{AreInstants, Cycle, IsCycleWith, AreCyclesWith, EachShows}
use Rattle.fab_points_laws.specs.fab_use_defs_Design.{IsPadPoint}
use Rattle.fab_points_laws.specs.fab_use_defs_Headline.{DesignPoints, IsGivenReset, RunsDesign}
use Rattle.fab_points_laws.specs.fab_use_defs_Registers.{HoldsLatches, design_state, HoldsState, IsInitial}
use Rattle.fab_serial_laws.specs.fab_fabric_text_defs_Mode.{text_mode}
use Rattle.fab_serial_laws.specs.fab_load_runs_laws_Runs.{IsClockLow}
use Rattle.fab_serial_laws.specs.fab_nested_laws_Nested.{inside, within}
use Rattle.fab_serial_laws.specs.fab_serial_Module.{fabric_instance_name, serial_text}
use Rattle.fab_serial_laws.specs.fab_serial_Delivery.{IsSerialLoading, SendsWords, strobe_point}
use Rattle.fab_serial_laws.specs.Loads.{RunsSeriallyOnce}

-- ---- points

-- Of a text, and of it behind a port: the design points of the fabric where it stands, and the user's clock there; the pads of the new top; and
-- the points that bits lead to.
pub data IsSerialDesignPoint (fabric : PlainFabric) (text serial : List PlainModule) (netlist : PlainNetlist) (implementation : PlainImplementation) : Point → Type 0 where
  in_fabric : {p : Point} → DesignPoints fabric text netlist implementation p → IsSerialDesignPoint fabric text serial netlist implementation (inside fabric_instance_name p)
  user_clock : IsSerialDesignPoint fabric text serial netlist implementation (inside fabric_instance_name (point [] user_clock_name 0))
  at_pad : {p : Point} → IsPadPoint fabric implementation p → p.path ≡ [] → IsSerialDesignPoint fabric text serial netlist implementation p
  of_port : {p : Point} → IsSerialLoading serial p → IsSerialDesignPoint fabric text serial netlist implementation p

-- ---- the law

-- From what is held when use starts, the text runs as the netlist that was read, whatever the points beside the design carry. `netlist` is the one
-- that was packed for it.
pub record RunsSeriallyFrom (fabric : PlainFabric) (text serial : List PlainModule) (read netlist : PlainNetlist) (implementation : PlainImplementation) (start : Assignment) : Type 0 where
  -- the flip-flops behind the port hold values of the latches,
  pub latches : (latches : List Bool) × HoldsLatches netlist implementation (within fabric_instance_name start) latches
  -- and from these each run of cycles shows at the pads, cycle by cycle, what the nets have in a run of the netlist that was read over the given values
  pub shows : (cycles : List Cycle) (after : Assignment) (latches : List Bool) →
      AreCyclesWith strobe_point (IsSerialDesignPoint fabric text serial netlist implementation) serial netlist implementation cycles start after →
      HoldsLatches netlist implementation (within fabric_instance_name start) latches →
      (nows : List (ℕ → Bool)) × IsRun read latches (map (λ c. c.given) cycles) nows × EachShows read implementation cycles nows
  -- A reset starts it anew: behind a cycle in which 1 is given for the reset port, each flip-flop of a latch holds what the state file says of it.
  pub resets : (cycles : List Cycle) (cycle : Cycle) (between after : Assignment) →
      AreCyclesWith strobe_point (IsSerialDesignPoint fabric text serial netlist implementation) serial netlist implementation cycles start between →
      IsCycleWith strobe_point netlist implementation cycle →
      AreInstants (IsSerialDesignPoint fabric text serial netlist implementation) serial cycle.instants between after → IsGivenReset read cycle.given →
      HoldsState (design_state (packed netlist) implementation) (within fabric_instance_name after)

-- What words and a state do to the text. The words can be sent bit by bit, from any state, in exactly one way; and whatever else is held when
-- use starts, what they leave runs the design.
pub record RunsDesignSerially (fabric : PlainFabric) (text serial : List PlainModule) (read netlist : PlainNetlist) (implementation : PlainImplementation) (words : List ℕ) : Type 0 where
  pub once : RunsSeriallyOnce serial
  pub sendable : (moments : List Moment) × SendsWords (map (digits 32) words) moments × All IsClockLow moments
  pub runs : (moments : List Moment) (held after start : Assignment) → SendsWords (map (digits 32) words) moments →
      IsRunOn (IsSerialLoading serial) serial moments held after → ((p : Point) → IsSerialLoading serial p → start p ≡ after p) →
      RunsSeriallyFrom fabric text serial read netlist implementation start
  -- flip-flops that hold the state hold what the latches begin with
  pub begins : (held : Assignment) (latches : List Bool) → HoldsState (design_state (packed netlist) implementation) (within fabric_instance_name held) →
      HoldsLatches netlist implementation (within fabric_instance_name held) latches → IsInitial read latches

-- The headline through the port: where words run a design in the text of a fabric in frames, they run it behind a serial port when they are sent bit by bit.
abbrev pub DesignsRunSerially : Type 0
DesignsRunSerially =
    (fabric : PlainFabric) (text : List PlainModule) (read netlist : PlainNetlist) (fixed : List Pad) (implementation : PlainImplementation) (words : List ℕ) →
    text_mode fabric ≡ modes.Frames → IsFabric fabric → IsFabricText fabric text → IsLegal fabric (packed netlist) fixed implementation →
    RunsDesign fabric text read netlist implementation words (design_state (packed netlist) implementation) →
    RunsDesignSerially fabric text (serial_text text) read netlist implementation words
