-- What the reader's parts say, put together.
use Rattle.std.proofs.Common.{◌≡◌, ◌≢◌, ◌⊎◌, ℕ, ◌<◌, List, length, inl, inr, subst}
use Rattle.fab_base.specs.declared.fault.Fault.{Fault}
use Rattle.fab_base.specs.declared.fault.Fault.TheVariants as faults
use Rattle.fab_lines.specs.Joined.{joined_lines}
use Rattle.fab_lines.specs.Order.{IsFine}
use Rattle.fab_blif_models.specs.Judge.{judge}
use Rattle.fab_blif_models.specs.Plain.{PlainModel}
use Rattle.fab_netlist.specs.Cycles.{HasNoCycle, NamesCycle}
use Rattle.fab_netlist.specs.Wide.{PlainWide, tabled}
use Rattle.fab_lines.specs.Counts.{last_line}
use Rattle.fab_blif.specs.Blif.{IsBlif, RefusesBlif, models_in, wide_in}
use Rattle.fab_blif.specs.Design.{design_of}
use Rattle.fab_blif.specs.Flat.{flat_lines}
use Rattle.fab_instances.specs.Order.{NamesDiffer}
use Rattle.fab_instances.specs.Refusals.{AreFineModels}
use Rattle.fab_blif.specs.Refusals.{IsFineDesign, RefusesFile}

-- the models of a file whose lines are fine
pub record IsRead (most : ℕ) (bytes : List ℕ) (models : List PlainModel) : Type 0 where
  pub fine : IsFine (judge most) (joined_lines bytes)
  pub spelled : models ≡ models_in bytes

-- models that are flattened
pub record IsFlat (models : List PlainModel) : Type 0 where
  pub some : 0 < length models
  pub named : NamesDiffer models
  pub fine : AreFineModels models
  pub design : IsFineDesign (design_of (flat_lines models))

flat_in : (most : ℕ) (bytes : List ℕ) (models : List PlainModel) → IsRead most bytes models → IsFlat models → IsFlat (models_in bytes)
flat_in most bytes models read flat = subst IsFlat read.spelled flat

pub is_blif : (most : ℕ) (bytes : List ℕ) (models : List PlainModel) (netlist : PlainWide) → IsRead most bytes models → IsFlat models → netlist ≡ wide_in bytes → HasNoCycle (tabled netlist) → IsBlif most bytes
is_blif most bytes models netlist read flat is acyclic =
    let own = flat_in most bytes models read flat in
    record { fine = read.fine; some = own.some; named = own.named; models = own.fine; design = own.design; acyclic = subst (λ (n : PlainWide). HasNoCycle (tabled n)) is acyclic }

pub models_refused : (most : ℕ) (file bytes : List ℕ) (models : List PlainModel) (fault : Fault) → IsRead most bytes models
    → (fault ≢ faults.Memory → RefusesFile file (last_line bytes) models fault) → fault ≢ faults.Memory → RefusesBlif most file bytes fault
models_refused most file bytes models fault read refused some =
    (some, inr (inl (read.fine, subst (λ (l : List PlainModel). RefusesFile file (last_line bytes) l fault) read.spelled (refused some))))

pub cycle_refused : (most : ℕ) (file bytes : List ℕ) (models : List PlainModel) (netlist : PlainWide) (fault : Fault) → IsRead most bytes models → IsFlat models
    → netlist ≡ wide_in bytes → (fault ≡ faults.Memory) ⊎ NamesCycle file (tabled netlist) fault → fault ≢ faults.Memory → RefusesBlif most file bytes fault
cycle_refused most file bytes models netlist fault read flat is (inl memory) some = absurd (some memory)
cycle_refused most file bytes models netlist fault read flat is (inr cycle) some =
    let own = flat_in most bytes models read flat in
    (some, inr (inr (read.fine, own.some, own.named, own.fine, own.design, subst (λ (n : PlainWide). NamesCycle file (tabled n) fault) is cycle)))
