-- What is proved of the text of a fabric that is loaded with the bitstream of a legal implementation, where its points are activated one by one,
-- in any order.
use Rattle.std.specs.Prelude.{◌≡◌, Bool, ℕ, List, map}
use Rattle.fab_bits.specs.Bits.{digits}
use Rattle.fab_syntax.specs.Plain.{PlainModule}
use Rattle.fab_systems_laws.specs.Steps.{blocks_then}
use Rattle.fab_meaning.specs.Points.{Point}
use Rattle.fab_meaning.specs.Settled.{Assignment, IsSettledOn}
use Rattle.fab_meaning.specs.Runs.{Moment, IsRunOn}
use Rattle.fab_meaning.specs.Activation.{State, Event, IsSameAt, AreSteps}
use Rattle.fab_meaning.specs.Loading.{IsLoading}
use Rattle.fab_model.specs.Grid.{PlainFabric}
use Rattle.fab_model.specs.Drive.{PlainBits}
use Rattle.fab_fabric.specs.Fabric.{IsFabric, AreTiles}
use Rattle.fab_frames.specs.Stream.{stream}
use Rattle.fab_netlist.specs.Plain.{PlainNetlist}
use Rattle.fab_netlist.specs.WellMade.{IsWellMade}
use Rattle.fab_netlist.specs.Meaning.{IsRun}
use Rattle.fab_netlist.specs.Cycles.{HasNoCycle}
use Rattle.fab_netlist.specs.Packing.{packed}
use Rattle.fab_implementation.specs.Plain.{Pad, PlainImplementation}
use Rattle.fab_runs_laws.specs.fab_legal_Legal.{IsLegal}
use Rattle.fab_runs_laws.specs.fab_text_loads_laws_Loads.{Writes}
use Rattle.fab_runs_laws.specs.fab_fabric_text_defs_Texts.{IsFabricText}
use Rattle.fab_runs_laws.specs.fab_use_defs_Configuring.{Configures}
use Rattle.fab_runs_laws.specs.fab_use_defs_Cycles.{AreCycles, EachShows}
use Rattle.fab_runs_laws.specs.fab_use_defs_Registers.{HoldsLatches}
use Rattle.fab_runs_laws.specs.fab_use_defs_Headline.{SettlesOnce, DesignPoints}
use Rattle.fab_settling_laws.specs.Steps.{IsAtRest, IsUseStep, IsFreeStep}
use Rattle.fab_settling_laws.specs.Blocks.{HasAtMost, AreBlocks, BlockCycle, as_cycle, AreBlockCycles}

-- From a state on, a set of so many points settles and runs as the netlist that was read, whatever the points beside it do. `netlist` was packed for it.
pub record SettlesFrom (Has : Point → Type 0) (count : ℕ) (text : List PlainModule) (read netlist : PlainNetlist) (implementation : PlainImplementation)
    (start : State) : Type 0 where
  -- Whatever steps of use are taken, the loading points stay, and hold what they hold.
  pub stays : (events : List Event) (after : State) → AreSteps (IsUseStep text) events start after →
      IsAtRest text after × ((p : Point) → IsLoading text p → IsSameAt p start after)
  -- Behind any steps of use, ticks of UserCLK among them, exactly one assignment of the set is settled,
  pub once : (events : List Event) (before : State) → AreSteps (IsUseStep text) events start before → SettlesOnce Has text before.now before.held
  -- and as many blocks as there are points lead to it, whatever else happens among them and after them within the cycle.
  pub settles : (events : List Event) (before after : State) (blocks : List (List Event)) (more : List Event) (settled : Assignment) →
      AreSteps (IsUseStep text) events start before →
      AreBlocks Has count blocks → AreSteps (IsFreeStep text implementation) (blocks_then blocks more) before after →
      IsSettledOn Has text before.now before.held settled → (p : Point) → Has p → after.now p ≡ settled p
  -- So where each tick of UserCLK comes behind as many blocks, the states at these ticks are the instants of a run of cycles of use,
  pub runs : (cycles : List BlockCycle) (after : State) → AreBlockCycles Has count text netlist implementation cycles start after →
      (last : Assignment) × AreCycles Has text netlist implementation (map as_cycle cycles) start.held last
  -- and the pads show there what the nets have in a run of the netlist that was read over the given values.
  pub shows : (cycles : List BlockCycle) (after : State) (latches : List Bool) → AreBlockCycles Has count text netlist implementation cycles start after →
      HoldsLatches netlist implementation start.held latches →
      (nows : List (ℕ → Bool)) × IsRun read latches (map (λ c. c.given) cycles) nows × EachShows read implementation (map as_cycle cycles) nows

-- What words do to a text, step by step. The design points are finitely many. Where the loading points hold what the words leave, whatever they
-- held before, and are settled, the design settles and runs, whatever all other points have and hold.
pub record SettlesDesign (fabric : PlainFabric) (text : List PlainModule) (read netlist : PlainNetlist) (implementation : PlainImplementation)
    (words : List ℕ) : Type 0 where
  pub counted : (count : ℕ) × HasAtMost (DesignPoints fabric text netlist implementation) count
  pub from : (moments : List Moment) (held after : Assignment) (start : State) (count : ℕ) →
      Writes text (map (digits 32) words) moments → IsRunOn (IsLoading text) text moments held after →
      ((p : Point) → IsLoading text p → start.held p ≡ after p) → IsAtRest text start → HasAtMost (DesignPoints fabric text netlist implementation) count →
      SettlesFrom (DesignPoints fabric text netlist implementation) count text read netlist implementation start

-- The law. In each text of a fabric, loaded with the bitstream of configuration bits that are those of a legal implementation, the design settles
-- under every interleaving.
abbrev pub LegalDesignsSettle : Type 0
LegalDesignsSettle =
    (fabric : PlainFabric) (text : List PlainModule) (netlist : PlainNetlist) (fixed : List Pad) (implementation : PlainImplementation) (bits : PlainBits) →
    IsFabric fabric → AreTiles fabric → IsFabricText fabric text → IsWellMade netlist → HasNoCycle netlist →
    IsLegal fabric (packed netlist) fixed implementation → Configures fabric (packed netlist) implementation bits →
    SettlesDesign fabric text netlist netlist implementation (stream fabric bits)
