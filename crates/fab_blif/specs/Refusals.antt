-- The refusals of a design, and those of the models of a file, in the order in which they are judged.
use Rattle.std.specs.Prelude.{◌≡◌, ◌⊎◌, ℕ, ◌<◌, ◌≤◌, List, [], codes, length, nat_le, Some, None}
use Rattle.std.specs.List.{filter}
use Rattle.fab_base.specs.Reading.{fault_at}
use Rattle.fab_base.specs.declared.fault.Fault.{Fault}
use Rattle.fab_base.specs.declared.problem.Problem.{Problem}
use Rattle.fab_base.specs.declared.problem.Problem.TheVariants as problems
use Rattle.fab_base.specs.declared.words.Quantity.TheVariants as quantities
use Rattle.fab_base.specs.declared.words.Reason.TheVariants as reasons
use Rattle.fab_blif.specs.declared.clocks.ClockFault.{ClockFault}
use Rattle.fab_blif.specs.declared.clocks.WrongClock.{WrongClock}
use Rattle.fab_blif.specs.declared.clocks.WrongClock.TheVariants as wrongs
use Rattle.fab_blif.specs.declared.design.Use.{Use}
use Rattle.fab_blif_models.specs.Plain.{PlainModel}
use Rattle.fab_blif.specs.Flat.{flat_lines}
use Rattle.fab_blif.specs.Design.{PlainDesign, design_of}
use Rattle.fab_blif.specs.Judged.{EachHasOne, drivers, inner_drivers, input_ports, undriven_line}
use Rattle.fab_blif.specs.Clocks.{clock_faults, first_fault}
use Rattle.fab_instances.specs.Order.{NamesDiffer, RefusesNames}
use Rattle.fab_instances.specs.Refusals.{AreFineModels, RefusesModels}
use Rattle.fab_netlist.specs.WellMade.{most_nets}

-- ---- two drivers

-- the uses on lines up to this one
abbrev pub upto : (line : ℕ) → List Use → List Use
upto line uses = filter (λ used. nat_le used.line line) uses

-- How many drivers a net has on lines up to this one. An input port counts once, from the least line that declares it.
abbrev pub drivers_upto : PlainDesign → (line net : ℕ) → ℕ
drivers_upto design line net = drivers (upto line (inner_drivers design)) (upto line (input_ports design)) net

-- the least line up to which some net has two drivers
pub record IsSecondDriver (design : PlainDesign) (line : ℕ) : Type 0 where
  pub net : ℕ
  pub second : 2 ≤ drivers_upto design line net
  pub first : (before other : ℕ) → before < line → drivers_upto design before other ≤ 1

abbrev pub RefusesDrivers : (file : List ℕ) → PlainDesign → Fault → Type 0
RefusesDrivers file design fault = (line : ℕ) × IsSecondDriver design line × (fault ≡ fault_at file line (problems.Malformed reasons.Drivers))

-- ---- nets without a driver

abbrev pub RefusesUndriven : (file : List ℕ) → PlainDesign → Fault → Type 0
RefusesUndriven file design fault = (line : ℕ) × (undriven_line design ≡ Some line) × (fault ≡ fault_at file line (problems.Malformed reasons.Undriven))

-- ---- too many nets

abbrev pub RefusesNets : (file : List ℕ) → (last_line : ℕ) → PlainDesign → Fault → Type 0
RefusesNets file last_line design fault =
    (most_nets < length design.nets) × (fault ≡ fault_at file last_line (problems.Limit quantities.Nets (length design.nets) most_nets))

-- ---- clocks

abbrev pub clock_problem : WrongClock → Problem
clock_problem wrongs.Undriven = problems.Malformed reasons.Undriven
clock_problem wrongs.Data = problems.Unsupported (codes "clock as data")
clock_problem wrongs.Second = problems.Unsupported (codes "second clock")

abbrev pub RefusesClocks : (file : List ℕ) → PlainDesign → Fault → Type 0
RefusesClocks file design fault = (told : ClockFault) × (first_fault (clock_faults design) ≡ Some told) × (fault ≡ fault_at file told.line (clock_problem told.wrong))

-- ---- the whole design

-- What holds of a design that is not refused. The last of these says that nothing is wrong with a clock, so there is at most one.
pub record IsFineDesign (design : PlainDesign) : Type 0 where
  pub once : EachHasOne design
  pub driven : undriven_line design ≡ None
  pub small : length design.nets ≤ most_nets
  pub clocks : clock_faults design ≡ []

-- The first refusal of a design.
abbrev pub RefusesDesign : (file : List ℕ) → (last_line : ℕ) → PlainDesign → Fault → Type 0
RefusesDesign file last_line design fault =
    RefusesDrivers file design fault
    ⊎ (EachHasOne design × RefusesUndriven file design fault)
    ⊎ (EachHasOne design × (undriven_line design ≡ None) × RefusesNets file last_line design fault)
    ⊎ (EachHasOne design × (undriven_line design ≡ None) × (length design.nets ≤ most_nets) × RefusesClocks file design fault)

-- ---- the models of a file

-- The first refusal of a file's models: of their names; of the models before they are flattened; or of the design that they
-- flatten to.
abbrev pub RefusesFile : (file : List ℕ) → (last_line : ℕ) → List PlainModel → Fault → Type 0
RefusesFile file last_line models fault =
    RefusesNames file last_line models fault
    ⊎ ((0 < length models) × NamesDiffer models × RefusesModels file last_line models fault)
    ⊎ ((0 < length models) × NamesDiffer models × AreFineModels models × RefusesDesign file last_line (design_of (flat_lines models)) fault)
