-- Use of a design where CLK and UserCLK may tick at once.
use Rattle.std.specs.Prelude.{◌≡◌, ◌↔◌, ℕ, Bool, List, [], ◌∷◌, ◌++◌, map, if◌then◌else◌}
use Rattle.fab_bits.specs.Bits.{digits}
use Rattle.fab_syntax.specs.Plain.{PlainModule}
use Rattle.fab_systems_laws.specs.Steps.{blocks_then}
use Rattle.fab_meaning.specs.Points.{Point}
use Rattle.fab_meaning.specs.Settled.{Assignment, IsSettledOn}
use Rattle.fab_meaning.specs.Runs.{clock_name, user_clock_name, AreClocksLow}
use Rattle.fab_meaning.specs.Activation.{State, tick, AreSteps}
use Rattle.fab_meaning.specs.Loading.{IsLoading}
use Rattle.fab_nested_laws.specs.Together.{TickTogether, IsTickTogether, JointMoment, IsJointRunOn, ticks_in, loader_moment}
use Rattle.fab_model.specs.Grid.{PlainFabric}
use Rattle.fab_model.specs.Drive.{PlainBits}
use Rattle.fab_fabric.specs.Fabric.{IsFabric, AreTiles}
use Rattle.fab_frames.specs.Stream.{stream}
use Rattle.fab_netlist.specs.Plain.{PlainNetlist}
use Rattle.fab_netlist.specs.WellMade.{IsWellMade}
use Rattle.fab_netlist.specs.Cycles.{HasNoCycle}
use Rattle.fab_netlist.specs.Packing.{packed}
use Rattle.fab_implementation.specs.Plain.{Pad, PlainImplementation}
use Rattle.fab_runs_laws.specs.fab_legal_Legal.{IsLegal}
use Rattle.fab_runs_laws.specs.fab_text_loads_laws_Loads.{Writes}
use Rattle.fab_runs_laws.specs.fab_fabric_text_defs_Texts.{IsFabricText}
use Rattle.fab_runs_laws.specs.fab_use_defs_Configuring.{Configures}
use Rattle.fab_runs_laws.specs.fab_use_defs_Cycles.{Instant, Feeds, Cycle, IsCycle, AreCycles}
use Rattle.fab_runs_laws.specs.fab_use_defs_Headline.{DesignPoints}
use Rattle.fab_settling_laws.specs.Steps.{IsFreeStep, IsFeedingStep}
use Rattle.fab_settling_laws.specs.Blocks.{AreBlocks, BlockCycle, IsBlockCycle}

-- ---- instants and cycles

-- one instant of use: the top's inputs, the value of each point, and the clocks that tick at its end
pub record JointInstant : Type 0 where
  pub inputs : Assignment
  pub now : Assignment
  pub clocks : List (List ℕ)

-- as instants with one clock (`AreInstants`)
abbrev pub AreJointInstants : (Point → Type 0) → List PlainModule → List JointInstant → (held after : Assignment) → Type 0
AreJointInstants Has text [] held after = (p : Point) → Has p → after p ≡ held p
AreJointInstants Has text (i ∷ more) held after =
    (next : Assignment) × IsSettledOn Has text i.inputs held i.now × AreClocksLow i.now × TickTogether Has text i.clocks held i.now next
    × AreJointInstants Has text more next after

-- the same instant with UserCLK alone, where it ticks, and else with CLK alone
abbrev pub user_instant : JointInstant → Instant
user_instant i = record { inputs = i.inputs; now = i.now; clock = if ticks_in user_clock_name i.clocks then user_clock_name else clock_name }

pub record JointCycle : Type 0 where
  pub given : List Bool
  pub instants : List JointInstant

abbrev pub user_cycle : JointCycle → Cycle
user_cycle c = record { given = c.given; instants = map user_instant c.instants }

-- Cycles one after the other. Each ends with the first tick of UserCLK, with which CLK may tick.
abbrev pub AreJointCycles : (Point → Type 0) → List PlainModule → PlainNetlist → PlainImplementation → List JointCycle → (held after : Assignment) → Type 0
AreJointCycles Has text netlist implementation [] held after = (p : Point) → Has p → after p ≡ held p
AreJointCycles Has text netlist implementation (c ∷ more) held after =
    IsCycle netlist implementation (user_cycle c) × (next : Assignment) × AreJointInstants Has text c.instants held next
    × AreJointCycles Has text netlist implementation more next after

-- ---- cycles of blocks

-- as a cycle of blocks (`IsBlockCycle`), but at its end both clocks tick
pub record IsJointBlockCycle (Has : Point → Type 0) (count : ℕ) (text : List PlainModule) (netlist : PlainNetlist) (implementation : PlainImplementation)
    (cycle : BlockCycle) (before after : State) : Type 0 where
  pub fed : Feeds netlist implementation cycle.given before.now
  pub blocks : AreBlocks Has count cycle.blocks
  pub steps : AreSteps (IsFreeStep text implementation) (blocks_then cycle.blocks cycle.more) before cycle.settled
  pub ticks : IsTickTogether text (clock_name ∷ user_clock_name ∷ []) cycle.settled cycle.ticked
  pub changes : AreSteps (IsFeedingStep text implementation) cycle.changes cycle.ticked after

-- the same cycle with a tick of CLK behind all that is activated, and then one of UserCLK
abbrev pub clock_first : BlockCycle → (between : State) → BlockCycle
clock_first cycle between = record {
  given = cycle.given;
  blocks = cycle.blocks;
  more = cycle.more ++ tick clock_name ∷ [];
  settled = between;
  ticked = cycle.ticked;
  changes = cycle.changes;
}

-- It is a cycle of blocks, in which all points stand where they stood when the clocks ticked.
pub record IsInTurn (Has : Point → Type 0) (count : ℕ) (text : List PlainModule) (netlist : PlainNetlist) (implementation : PlainImplementation)
    (cycle : BlockCycle) (before after : State) : Type 0 where
  pub between : State
  pub same : (p : Point) → between.now p ≡ cycle.settled.now p
  pub cycle_is : IsBlockCycle Has count text netlist implementation (clock_first cycle between) before after

-- ---- the law

-- What is said of moments and cycles with one clock at a time, is said of those with both.
pub record TakesBoth (fabric : PlainFabric) (text : List PlainModule) (netlist : PlainNetlist) (implementation : PlainImplementation)
    (words : List ℕ) : Type 0 where
  -- Let the words be written in moments in which UserCLK may tick with CLK. From what these leave, cycles of use in which CLK may tick with UserCLK are
  -- cycles in which UserCLK ticks alone, with the same inputs and the same values of all points.
  pub runs : (moments : List JointMoment) (held after start : Assignment) → Writes text (map (digits 32) words) (map loader_moment moments) →
      IsJointRunOn (IsLoading text) text moments held after → ((p : Point) → IsLoading text p → start p ≡ after p) → (cycles : List JointCycle) (last : Assignment) →
      AreJointCycles (DesignPoints fabric text netlist implementation) text netlist implementation cycles start last
      ↔ AreCycles (DesignPoints fabric text netlist implementation) text netlist implementation (map user_cycle cycles) start last
  -- A cycle of blocks at whose end both tick is one in which CLK ticks right before UserCLK.
  pub settles : (count : ℕ) (cycle : BlockCycle) (before after : State) →
      IsJointBlockCycle (DesignPoints fabric text netlist implementation) count text netlist implementation cycle before after →
      IsInTurn (DesignPoints fabric text netlist implementation) count text netlist implementation cycle before after

-- The law, for a legal implementation as in the headline.
abbrev pub LegalDesignsTakeBoth : Type 0
LegalDesignsTakeBoth =
    (fabric : PlainFabric) (text : List PlainModule) (netlist : PlainNetlist) (fixed : List Pad) (implementation : PlainImplementation) (bits : PlainBits) →
    IsFabric fabric → AreTiles fabric → IsFabricText fabric text → IsWellMade netlist → HasNoCycle netlist →
    IsLegal fabric (packed netlist) fixed implementation → Configures fabric (packed netlist) implementation bits →
    TakesBoth fabric text netlist implementation (stream fabric bits)
