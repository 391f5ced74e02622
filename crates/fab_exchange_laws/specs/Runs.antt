-- Runs of a text that is used as a design, while words may be written to its loader.
use Rattle.std.specs.Prelude.{◌≡◌, Bool, false, List, [], ◌∷◌, ◌++◌, map, All}
use Rattle.std.specs.List.{AllZip, flat_map}
use Rattle.fab_syntax.specs.Plain.{PlainModule}
use Rattle.fab_meaning.specs.Points.{Point, point}
use Rattle.fab_meaning.specs.Settled.{Assignment}
use Rattle.fab_meaning.specs.Runs.{clock_name, user_clock_name, Moment}
use Rattle.fab_netlist.specs.Plain.{PlainNetlist}
use Rattle.fab_implementation.specs.Plain.{PlainImplementation}
use Rattle.fab_gen_loader.specs.Machine.{Word}
use Rattle.fab_runs_laws.specs.Carrying.{PadsAreFed}
use Rattle.fab_runs_laws.specs.Feeding.{AreFedAlike, AreGivenAlike}
use Rattle.fab_runs_laws.specs.fab_text_loads_laws_Loads.{Writes}
use Rattle.fab_runs_laws.specs.fab_use_defs_Cycles.{Instant, AreInstants, EndsCycle, Cycle}

-- CLK is 0, and the pads of input ports have the values that are given. The inputs that carry words are free.
pub record FeedsPads (netlist : PlainNetlist) (implementation : PlainImplementation) (given : List Bool) (inputs : Assignment) : Type 0 where
  pub low : inputs (point [] clock_name 0) ≡ false
  pub pads : PadsAreFed netlist implementation given inputs

-- ---- cycles

-- A cycle of use in which words may be written: ticks of CLK, with a word or without one, and then a tick of UserCLK.
abbrev pub IsOpenCycle : PlainNetlist → PlainImplementation → Cycle → Type 0
IsOpenCycle netlist implementation c = EndsCycle c.instants × All (λ i. FeedsPads netlist implementation c.given i.inputs) c.instants

-- such cycles one after the other, from what is held at first to what is held at last
abbrev pub AreOpenCycles : (Point → Type 0) → List PlainModule → PlainNetlist → PlainImplementation → List Cycle → (held after : Assignment) → Type 0
AreOpenCycles Has text netlist implementation [] held after = (p : Point) → Has p → after p ≡ held p
AreOpenCycles Has text netlist implementation (c ∷ more) held after =
    IsOpenCycle netlist implementation c × (next : Assignment) × AreInstants Has text c.instants held next
    × AreOpenCycles Has text netlist implementation more next after

-- ---- runs

-- Whole cycles, and then the first instants of one more with the values that are given in it. So a run may end anywhere.
pub record UseRun : Type 0 where
  pub cycles : List Cycle
  pub given : List Bool
  pub part : List Instant

-- the inputs of an instant, and the clock that ticks behind it
abbrev pub moment_of : Instant → Moment
moment_of i = record { inputs = i.inputs; clock = i.clock }

abbrev pub moments_of : UseRun → List Moment
moments_of run = map moment_of (flat_map (λ (c : Cycle). c.instants) run.cycles ++ run.part)

-- an instant before the last of a cycle, in which these values are given
abbrev pub IsPartFed : PlainNetlist → PlainImplementation → (given : List Bool) → Instant → Type 0
IsPartFed netlist implementation given i = FeedsPads netlist implementation given i.inputs × (i.clock ≡ clock_name)

-- A run over a set of points in which these words are written, in their order, each at a tick of CLK anywhere in it. All other ticks of CLK write
-- no word.
pub record IsUseRun (Has : Point → Type 0) (text : List PlainModule) (netlist : PlainNetlist) (implementation : PlainImplementation)
    (words : List Word) (run : UseRun) (start after : Assignment) : Type 0 where
  pub between : Assignment
  pub cycles : AreOpenCycles Has text netlist implementation run.cycles start between
  pub part : AreInstants Has text run.part between after
  pub fed : All (IsPartFed netlist implementation run.given) run.part
  pub writes : Writes text words (moments_of run)

-- ---- what is fed to a run

-- an open cycle in which UserCLK is 0 between ticks
abbrev pub IsOpenCycleAtLow : PlainNetlist → PlainImplementation → Cycle → Type 0
IsOpenCycleAtLow netlist implementation c = IsOpenCycle netlist implementation c × All (λ i. i.inputs (point [] user_clock_name 0) ≡ false) c.instants

-- Inputs and clocks, instant by instant, that write these words. UserCLK is 0 between ticks.
pub record FeedsRun (text : List PlainModule) (netlist : PlainNetlist) (implementation : PlainImplementation) (words : List Word) (run : UseRun) : Type 0 where
  pub cycles : All (IsOpenCycleAtLow netlist implementation) run.cycles
  pub part : All (IsPartFed netlist implementation run.given) run.part
  pub low : All (λ (i : Instant). i.inputs (point [] user_clock_name 0) ≡ false) run.part
  pub writes : Writes text words (moments_of run)

-- two runs to which the same is fed
pub record AreRunsAlike (first second : UseRun) : Type 0 where
  pub cycles : AllZip AreGivenAlike first.cycles second.cycles
  pub given : first.given ≡ second.given
  pub part : AllZip AreFedAlike first.part second.part
