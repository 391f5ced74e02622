-- A file is refused for what stands in it: each refusal is a problem at one of its lines.
use Rattle.std.proofs.Common.{◌≡◌, ◌≢◌, ℕ, List, ◌∷◌, codes, length, inl, inr, refl, sym, subst, ◌∙◌}
use Rattle.fab_base.specs.Reading.{fault_at}
use Rattle.fab_base.specs.declared.fault.Fault.{Fault}
use Rattle.fab_base.specs.declared.fault.Fault.TheVariants as faults
use Rattle.fab_base.specs.declared.problem.Problem.{Problem}
use Rattle.fab_base.specs.declared.problem.Problem.TheVariants as problems
use Rattle.fab_base.specs.declared.words.Quantity.TheVariants as quantities
use Rattle.fab_base.specs.declared.words.Reason.TheVariants as reasons
use Rattle.fab_blif_models.specs.Plain.{PlainModel}
use Rattle.fab_netlist.specs.Cycles.{cycle_words}
use Rattle.fab_netlist.specs.Plain.{cover_at}
use Rattle.fab_instances.specs.Counting.{in_64_bits, instances}
use Rattle.fab_instances.specs.Order.{RefusesNames, construct, model_at}
use Rattle.fab_instances.specs.Refusals.{RefusesModels}
use Rattle.fab_lines.specs.Counts.{last_line}
use Rattle.fab_blif.specs.Blif.{IsContentFault, RefusesBlif, design_in, models_in, netlist_in}
use Rattle.fab_blif.specs.Design.{PlainDesign}
use Rattle.fab_blif.specs.Refusals.{RefusesDesign, RefusesFile, clock_problem}

-- the fault is a problem at a line of the file
abbrev IsAtLine : (file : List ℕ) → Fault → Type 0
IsAtLine file fault = (line : ℕ) × (problem : Problem) × (fault ≡ fault_at file line problem)

content_at : (file : List ℕ) (line : ℕ) (problem : Problem) → fault_at file line problem ≢ faults.Memory → IsContentFault (fault_at file line problem)
content_at file line (problems.Malformed reason) some = tt
content_at file line (problems.Unsupported construct) some = tt
content_at file line (problems.Limit quantity value bound) some = tt
content_at file line problems.Memory some = absurd (some refl)

names_at : (file : List ℕ) (last : ℕ) (models : List PlainModel) (fault : Fault) → RefusesNames file last models fault → IsAtLine file fault
names_at file last models fault (inl none) = (last, problems.Malformed reasons.NoModel, none.1)
names_at file last models fault (inr twice) = ((model_at models twice.0).line, problems.Malformed reasons.NameTwice, twice.2)

models_at : (file : List ℕ) (last : ℕ) (models : List PlainModel) (fault : Fault) → RefusesModels file last models fault → IsAtLine file fault
models_at file last models fault (inl x) = (x.0, problems.Unsupported (construct (codes "model") x.1), x.3)
models_at file last models fault (inr (inl x)) = (x.1.0, problems.Unsupported (construct (codes "recursive model") x.1.1), x.1.3)
models_at file last models fault (inr (inr (inl x))) = (x.2.0, problems.Malformed reasons.Formal, x.2.3)
models_at file last models fault (inr (inr (inr x))) = (last, problems.Limit quantities.Instances (in_64_bits (instances models)) 16384, x.3.1)

design_at : (file : List ℕ) (last : ℕ) (design : PlainDesign) (fault : Fault) → RefusesDesign file last design fault → IsAtLine file fault
design_at file last design fault (inl x) = (x.0, problems.Malformed reasons.Drivers, x.2)
design_at file last design fault (inr (inl x)) = (x.1.0, problems.Malformed reasons.Undriven, x.1.2)
design_at file last design fault (inr (inr (inl x))) = (last, problems.Limit quantities.Nets (length design.nets) 16384, x.2.1)
design_at file last design fault (inr (inr (inr x))) = (x.3.0.line, clock_problem x.3.0.wrong, x.3.2)

file_at : (file bytes : List ℕ) (fault : Fault) → RefusesFile file (last_line bytes) (models_in bytes) fault → IsAtLine file fault
file_at file bytes fault (inl x) = names_at file (last_line bytes) (models_in bytes) fault x
file_at file bytes fault (inr (inl x)) = models_at file (last_line bytes) (models_in bytes) fault x.2
file_at file bytes fault (inr (inr x)) = design_at file (last_line bytes) (design_in bytes) fault x.3

blif_at : (most : ℕ) (file bytes : List ℕ) (fault : Fault) → RefusesBlif most file bytes fault → IsAtLine file fault
blif_at most file bytes fault (some, inl x) = (x.number, x.problem, x.is)
blif_at most file bytes fault (some, inr (inl x)) = file_at file bytes fault x.1
blif_at most file bytes fault (some, inr (inr x)) =
    let named = x.5 in
    ((cover_at (netlist_in bytes) named.0).line, problems.Unsupported (cycle_words (netlist_in bytes) (named.0 ∷ named.1)), named.3)

pub refused_for_content : (most : ℕ) (file bytes : List ℕ) (fault : Fault) → RefusesBlif most file bytes fault → IsContentFault fault
refused_for_content most file bytes fault refused =
    let at = blif_at most file bytes fault refused in
    subst IsContentFault (sym at.2) (content_at file at.0 at.1 (λ memory. refused.0 (at.2 ∙ memory)))
