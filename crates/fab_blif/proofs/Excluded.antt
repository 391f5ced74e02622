-- A file with a netlist is not refused: each refusal contradicts what holds of such a file.
use Rattle.std.proofs.Common.{◌≡◌, ◌≢◌, ℕ, ◌<◌, List, ◌∷◌, length, Option, Some, None, inl, inr, refl, sym, ap, ◌∙◌, arith}
use Rattle.std.proofs.lemmas.Bool.{false≢true}
use Rattle.fab_base.specs.declared.fault.Fault.{Fault}
use Rattle.fab_base.specs.declared.fault.Fault.TheVariants as faults
use Rattle.fab_lines.specs.Joined.{joined_lines}
use Rattle.fab_lines.specs.Order.{IsFine, IsFirstFault}
use Rattle.fab_blif_models.specs.Judge.{judge}
use Rattle.fab_blif_models.specs.Plain.{PlainModel}
use Rattle.fab_lines.specs.Counts.{last_line}
use Rattle.fab_blif.specs.Blif.{IsBlif, RefusesBlif, design_in, models_in}
use Rattle.fab_blif.specs.Design.{PlainDesign}
use Rattle.fab_blif.specs.Judged.{undriven_line}
use Rattle.fab_instances.specs.Order.{NamesDiffer, RefusesNames}
use Rattle.fab_instances.specs.Refusals.{AreFineModels, RefusesModels}
use Rattle.fab_blif.specs.Refusals.{IsFineDesign, RefusesDesign, RefusesFile}
use Rattle.fab_blif.specs.Clocks.{clock_faults, first_fault}
use Rattle.fab_blif.proofs.Drivers.{once_upto}

pub none_is_not_some : {X : Type 0} (o : Option X) (x : X) → o ≡ None → o ≡ Some x → ⊥
none_is_not_some o x none some = cc

pub line_excluded : (most : ℕ) (file : List ℕ) (bytes : List ℕ) (fault : Fault) → IsFine (judge most) (joined_lines bytes) → IsFirstFault (judge most) file (joined_lines bytes) fault → ⊥
line_excluded most file bytes fault fine told =
    let first = told.first in
    none_is_not_some (judge most first.before first.line) told.problem (fine first.before first.line first.after first.parts) first.refused

pub names_excluded : (file : List ℕ) (last : ℕ) (models : List PlainModel) (fault : Fault) → 0 < length models → NamesDiffer models
    → RefusesNames file last models fault → ⊥
names_excluded file last models fault some differ (inl none) = omega (arith, some, ap length none.0)
names_excluded file last models fault some differ (inr twice) = false≢true (sym (differ twice.0 twice.1.within) ∙ twice.1.again)

pub models_excluded : (file : List ℕ) (last : ℕ) (models : List PlainModel) (fault : Fault) → AreFineModels models → RefusesModels file last models fault → ⊥
models_excluded file last models fault fine (inl unknown) = fine.known unknown.0 unknown.1 unknown.2.0
models_excluded file last models fault fine (inr (inl recursive)) = fine.finite recursive.1.0 recursive.1.1 recursive.1.2.0
models_excluded file last models fault fine (inr (inr (inl formals))) = fine.fits formals.2.0 formals.2.1 formals.2.2.0
models_excluded file last models fault fine (inr (inr (inr many))) = omega (arith, fine.small, many.3.0)

design_excluded : (file : List ℕ) (last : ℕ) (design : PlainDesign) (fault : Fault) → IsFineDesign design → RefusesDesign file last design fault → ⊥
design_excluded file last design fault fine (inl drivers) = once_upto design drivers.0 fine.once drivers.1
design_excluded file last design fault fine (inr (inl undriven)) = none_is_not_some (undriven_line design) undriven.1.0 fine.driven undriven.1.1
design_excluded file last design fault fine (inr (inr (inl many))) = omega (arith, fine.small, many.2.0)
design_excluded file last design fault fine (inr (inr (inr clocks))) = none_is_not_some (first_fault (clock_faults design)) clocks.3.0 (ap first_fault fine.clocks) clocks.3.1

-- a file whose models are flattened, and nothing is wrong with their design
pub flat_excluded : (file bytes : List ℕ) (fault : Fault) → 0 < length (models_in bytes) → NamesDiffer (models_in bytes) → AreFineModels (models_in bytes) → IsFineDesign (design_in bytes)
    → RefusesFile file (last_line bytes) (models_in bytes) fault → ⊥
flat_excluded file bytes fault some differ models design (inl refused) = names_excluded file (last_line bytes) (models_in bytes) fault some differ refused
flat_excluded file bytes fault some differ models design (inr (inl refused)) = models_excluded file (last_line bytes) (models_in bytes) fault models refused.2
flat_excluded file bytes fault some differ models design (inr (inr refused)) = design_excluded file (last_line bytes) (design_in bytes) fault design refused.3

pub not_refused : (most : ℕ) (file bytes : List ℕ) (fault : Fault) → IsBlif most bytes → RefusesBlif most file bytes fault → ⊥
not_refused most file bytes fault is (other, inl line) = line_excluded most file bytes fault is.fine line
not_refused most file bytes fault is (other, inr (inl refused)) = flat_excluded file bytes fault is.some is.named is.models is.design refused.1
not_refused most file bytes fault is (other, inr (inr cycle)) = let named = cycle.5 in is.acyclic (named.0 ∷ named.1) named.2.cycle

-- so what is answered for such a file is no fault but want of memory
only_memory : (fault : Fault) → (fault ≢ faults.Memory → ⊥) → fault ≡ faults.Memory
only_memory faults.Memory never = refl
only_memory fault never = absurd (never (λ same. cc))

pub reads_unless : (most : ℕ) (file bytes : List ℕ) (fault : Fault) → (fault ≢ faults.Memory → RefusesBlif most file bytes fault) → IsBlif most bytes → fault ≡ faults.Memory
reads_unless most file bytes fault refused is = only_memory fault (λ other. not_refused most file bytes fault is (refused other))
