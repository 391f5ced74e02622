-- Use goes on: each event of use leads to a next state, and cycles can be made with whatever values are fed, and blocks in whatever order.
use Rattle.std.specs.Prelude.{◌≡◌, Bool, ℕ, List, map, All, Contains}
use Rattle.std.specs.List.{AllZip}
use Rattle.fab_bits.specs.Bits.{digits}
use Rattle.fab_syntax.specs.Plain.{PlainModule}
use Rattle.fab_systems_laws.specs.Steps.{blocks_then}
use Rattle.fab_meaning.specs.Points.{Point}
use Rattle.fab_meaning.specs.Settled.{Assignment}
use Rattle.fab_meaning.specs.Runs.{Moment, IsRunOn}
use Rattle.fab_meaning.specs.Activation.{State, Event, activate, AreSteps}
use Rattle.fab_meaning.specs.Loading.{IsLoading}
use Rattle.fab_nested_laws.specs.Events.{IsEvent}
use Rattle.fab_model.specs.Grid.{PlainFabric}
use Rattle.fab_model.specs.Drive.{PlainBits}
use Rattle.fab_fabric.specs.Fabric.{IsFabric, AreTiles}
use Rattle.fab_frames.specs.Stream.{stream}
use Rattle.fab_netlist.specs.Plain.{PlainNetlist}
use Rattle.fab_netlist.specs.WellMade.{IsWellMade}
use Rattle.fab_netlist.specs.Cycles.{HasNoCycle}
use Rattle.fab_netlist.specs.Packing.{packed}
use Rattle.fab_implementation.specs.Plain.{Pad, PlainImplementation}
use Rattle.fab_runs_laws.specs.fab_legal_Legal.{IsLegal}
use Rattle.fab_runs_laws.specs.fab_text_loads_laws_Loads.{Writes}
use Rattle.fab_runs_laws.specs.fab_fabric_text_defs_Texts.{IsFabricText}
use Rattle.fab_runs_laws.specs.fab_use_defs_Configuring.{Configures}
use Rattle.fab_runs_laws.specs.fab_use_defs_Cycles.{Feeds}
use Rattle.fab_runs_laws.specs.fab_use_defs_Headline.{DesignPoints}
use Rattle.fab_settling_laws.specs.Steps.{IsAtRest, IsUse, IsUseStep, IsFree, IsFeedingStep}
use Rattle.fab_settling_laws.specs.Blocks.{IsBlockOf, AreBlocks, BlockCycle, AreBlockCycles}

-- ---- events

-- an event of use that there is in a text
abbrev pub IsUseEvent : List PlainModule → Event → Type 0
IsUseEvent text event = IsUse text event × IsEvent text event

-- one that may come among the blocks of a cycle
abbrev pub IsFreeEvent : List PlainModule → PlainImplementation → Event → Type 0
IsFreeEvent text implementation event = IsFree text implementation event × IsEvent text event

-- the points of a list are activated in its order
abbrev pub activations : List Point → List Event
activations points = map activate points

-- ---- cycles

-- What a cycle is to be: the values given for the input ports, by place, and values of the pads that have these; its blocks, and what follows them.
pub record Plan : Type 0 where
  pub given : List Bool
  pub pads : Assignment
  pub blocks : List (List Event)
  pub more : List Event

pub record IsPlan (Has : Point → Type 0) (count : ℕ) (text : List PlainModule) (netlist : PlainNetlist) (implementation : PlainImplementation)
    (plan : Plan) : Type 0 where
  pub feeds : Feeds netlist implementation plan.given plan.pads
  pub blocks : AreBlocks Has count plan.blocks
  pub free : All (IsFreeEvent text implementation) (blocks_then plan.blocks plan.more)

-- a cycle that was planned so
pub record IsPlanned (plan : Plan) (cycle : BlockCycle) : Type 0 where
  pub given : cycle.given ≡ plan.given
  pub blocks : cycle.blocks ≡ plan.blocks
  pub more : cycle.more ≡ plan.more

-- From a state the pads of input ports change to what the first cycle is given, and nothing else is held then. From there cycles go as they were planned.
pub record GoesAsPlanned (Has : Point → Type 0) (count : ℕ) (text : List PlainModule) (netlist : PlainNetlist) (implementation : PlainImplementation)
    (plans : List Plan) (start : State) : Type 0 where
  pub changes : List Event
  pub first : State
  pub feeds : AreSteps (IsFeedingStep text implementation) changes start first
  pub rest : IsAtRest text first
  pub holds : (p : Point) → first.held p ≡ start.held p
  pub cycles : List BlockCycle
  pub planned : AllZip IsPlanned plans cycles
  pub after : State
  pub run : AreBlockCycles Has count text netlist implementation cycles first after

-- From a state on, any events of use lead to a state, and whatever cycles are planned can be gone.
pub record GoesOn (Has : Point → Type 0) (count : ℕ) (text : List PlainModule) (netlist : PlainNetlist) (implementation : PlainImplementation)
    (start : State) : Type 0 where
  pub events : (events : List Event) → All (IsUseEvent text) events → (after : State) × AreSteps (IsUseStep text) events start after
  pub cycles : (plans : List Plan) → All (IsPlan Has count text netlist implementation) plans →
      GoesAsPlanned Has count text netlist implementation plans start

-- ---- the law

-- What `SettlesDesign` says of steps and cycles, it says of such as there are.
pub record DesignGoesOn (fabric : PlainFabric) (text : List PlainModule) (netlist : PlainNetlist) (implementation : PlainImplementation)
    (words : List ℕ) : Type 0 where
  -- Each list of points that has all design points makes a block, in its order.
  pub orders : (points : List Point) → ((p : Point) → DesignPoints fabric text netlist implementation p → Contains points p) →
      IsBlockOf (DesignPoints fabric text netlist implementation) (activations points) × All (IsFreeEvent text implementation) (activations points)
  -- Behind loading there is a state at rest that holds what the words left,
  pub starts : (moments : List Moment) (held after : Assignment) → Writes text (map (digits 32) words) moments → IsRunOn (IsLoading text) text moments held after →
      (start : State) × IsAtRest text start × (start.held ≡ after)
  -- and from each such state use goes on.
  pub from : (moments : List Moment) (held after : Assignment) (start : State) (count : ℕ) →
      Writes text (map (digits 32) words) moments → IsRunOn (IsLoading text) text moments held after →
      ((p : Point) → IsLoading text p → start.held p ≡ after p) → IsAtRest text start →
      GoesOn (DesignPoints fabric text netlist implementation) count text netlist implementation start

-- The law, for a legal implementation as in `LegalDesignsSettle`.
abbrev pub LegalDesignsGoOn : Type 0
LegalDesignsGoOn =
    (fabric : PlainFabric) (text : List PlainModule) (netlist : PlainNetlist) (fixed : List Pad) (implementation : PlainImplementation) (bits : PlainBits) →
    IsFabric fabric → AreTiles fabric → IsFabricText fabric text → IsWellMade netlist → HasNoCycle netlist →
    IsLegal fabric (packed netlist) fixed implementation → Configures fabric (packed netlist) implementation bits →
    DesignGoesOn fabric text netlist implementation (stream fabric bits)
