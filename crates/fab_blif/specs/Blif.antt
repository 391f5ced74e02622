-- BLIF files as netlists: when a file is one, and the first refusal of another. A cover has at most so many inputs.
use Rattle.std.specs.Prelude.{◌≡◌, ◌≢◌, ◌⊎◌, ℕ, ◌<◌, List, length}
use Rattle.fab_base.specs.declared.fault.Fault.{Fault}
use Rattle.fab_base.specs.declared.fault.Fault.TheVariants as faults
use Rattle.fab_lines.specs.Joined.{joined_lines}
use Rattle.fab_lines.specs.Order.{IsFine, IsFirstFault}
use Rattle.fab_lines.specs.Counts.{last_line}
use Rattle.fab_blif_models.specs.Judge.{judge}
use Rattle.fab_blif_models.specs.Plain.{PlainModel}
use Rattle.fab_blif_models.specs.Spelled.{spelled}
use Rattle.fab_netlist.specs.Cycles.{HasNoCycle, NamesCycle}
use Rattle.fab_netlist.specs.Plain.{PlainNetlist}
use Rattle.fab_netlist.specs.Wide.{PlainWide, tabled}
use Rattle.fab_blif.specs.Design.{PlainDesign, design_of, flattened}
use Rattle.fab_blif.specs.Flat.{flat_lines}
use Rattle.fab_instances.specs.Order.{NamesDiffer}
use Rattle.fab_instances.specs.Refusals.{AreFineModels}
use Rattle.fab_blif.specs.Refusals.{IsFineDesign, RefusesFile}

-- the models of a file
abbrev pub models_in : (bytes : List ℕ) → List PlainModel
models_in bytes = spelled (joined_lines bytes)

-- what its models flatten to
abbrev pub design_in : (bytes : List ℕ) → PlainDesign
design_in bytes = design_of (flat_lines (models_in bytes))

-- its netlist, covers by their rows
abbrev pub wide_in : (bytes : List ℕ) → PlainWide
wide_in bytes = flattened (models_in bytes)

-- and with tables
abbrev pub netlist_in : (bytes : List ℕ) → PlainNetlist
netlist_in bytes = tabled (wide_in bytes)

-- A file with a netlist: no line is refused; it has models, and no two of one name; nothing is wrong with those that the
-- first one uses, nor with the nets and clocks that they flatten to; and no covers read one another round.
pub record IsBlif (most : ℕ) (bytes : List ℕ) : Type 0 where
  pub fine : IsFine (judge most) (joined_lines bytes)
  pub some : 0 < length (models_in bytes)
  pub named : NamesDiffer (models_in bytes)
  pub models : AreFineModels (models_in bytes)
  pub design : IsFineDesign (design_in bytes)
  pub acyclic : HasNoCycle (netlist_in bytes)

-- The first refusal of a file: that of its first refused line; where no line is refused, that of its models; and where
-- these are not refused, a cycle of covers. Want of memory is no refusal of a file.
abbrev pub RefusesBlif : (most : ℕ) → (file bytes : List ℕ) → Fault → Type 0
RefusesBlif most file bytes fault = (fault ≢ faults.Memory) × (
    IsFirstFault (judge most) file (joined_lines bytes) fault
    ⊎ (IsFine (judge most) (joined_lines bytes) × RefusesFile file (last_line bytes) (models_in bytes) fault)
    ⊎ (IsFine (judge most) (joined_lines bytes) × (0 < length (models_in bytes)) × NamesDiffer (models_in bytes) × AreFineModels (models_in bytes)
    × IsFineDesign (design_in bytes) × NamesCycle file (netlist_in bytes) fault))

-- Two faults tell one refusal of a file: they are equal, but where covers read one another round each may name any cycle.
abbrev pub TellOneRefusal : (file bytes : List ℕ) → (first second : Fault) → Type 0
TellOneRefusal file bytes first second = (first ≡ second) ⊎ (NamesCycle file (netlist_in bytes) first × NamesCycle file (netlist_in bytes) second)

-- a fault that tells what is wrong in a file, at one of its lines
abbrev pub IsContentFault : Fault → Type 0
IsContentFault (faults.Malformed place reason) = Unit {0}
IsContentFault (faults.Unsupported place construct) = Unit {0}
IsContentFault (faults.Limit place quantity value bound) = Unit {0}
IsContentFault _ = ⊥
