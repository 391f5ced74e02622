-- Whatever is fed to a text that runs a design, there is a run of cycles.
use Rattle.std.specs.Prelude.{◌≡◌, false, List, [], All}
use Rattle.std.specs.List.{AllZip}
use Rattle.fab_syntax.specs.Plain.{PlainModule}
use Rattle.fab_meaning.specs.Points.{point}
use Rattle.fab_meaning.specs.Settled.{Assignment}
use Rattle.fab_meaning.specs.Runs.{user_clock_name}
use Rattle.fab_model.specs.Grid.{PlainFabric}
use Rattle.fab_fabric.specs.Fabric.{IsFabric}
use Rattle.fab_netlist.specs.Plain.{PlainNetlist}
use Rattle.fab_implementation.specs.Plain.{PlainImplementation}
use Rattle.fab_points_laws.specs.fab_fabric_text_defs_Texts.{IsFabricText}
use Rattle.fab_points_laws.specs.fab_use_defs_Cycles.{Instant, IsCycle, Cycle, AreCycles}
use Rattle.fab_points_laws.specs.fab_use_defs_Headline.{DesignPoints, RunsFrom}

-- two instants with the same inputs, at whose ends the same clock ticks
pub record AreFedAlike (first second : Instant) : Type 0 where
  pub inputs : first.inputs ≡ second.inputs
  pub clock : first.clock ≡ second.clock

-- two cycles of such instants, with the same values given for the input ports
pub record AreGivenAlike (first second : Cycle) : Type 0 where
  pub given : first.given ≡ second.given
  pub instants : AllZip AreFedAlike first.instants second.instants

-- a cycle in which UserCLK is 0 between ticks
abbrev pub IsCycleAtLow : PlainNetlist → PlainImplementation → Cycle → Type 0
IsCycleAtLow netlist implementation c = IsCycle netlist implementation c × All (λ i. i.inputs (point [] user_clock_name 0) ≡ false) c.instants

-- Where a design runs from a start, there is a run with whatever is fed in cycles.
abbrev pub FedDesignsRun : Type 0
FedDesignsRun =
    (fabric : PlainFabric) (text : List PlainModule) (read netlist : PlainNetlist) (implementation : PlainImplementation) (start : Assignment) →
    IsFabric fabric → IsFabricText fabric text → RunsFrom fabric text read netlist implementation start → (cycles : List Cycle) → All (IsCycleAtLow netlist implementation) cycles →
    (run : List Cycle) × AllZip AreGivenAlike run cycles × (last : Assignment) × AreCycles (DesignPoints fabric text netlist implementation) text netlist implementation run start last
