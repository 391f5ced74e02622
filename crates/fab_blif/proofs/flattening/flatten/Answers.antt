use Rattle.std.proofs.Common.{◌≡◌, ℕ, ◌<◌, ◌≤◌, ◌⊎◌, List, length, inl, inr, sym, subst, arith}
use Rattle.std.proofs.lemmas.List.{length-map}
use Rattle.std.proofs.lemmas.Result.{err_from_is_err_and}
use Rattle.fab_base.specs.declared.fault.Fault.{Fault}
use Rattle.fab_blif_models.specs.declared.model.Model.{Model}
use Rattle.fab_blif_models.specs.Plain.{plain_model, plain_models}
use Rattle.fab_netlist.specs.Wide.{IsWideMade}
use Rattle.fab_blif.proofs.WellMade.{wide_design, wired_design}
use Rattle.fab_blif.specs.Design.{PlainDesign, design_of}
use Rattle.fab_blif.specs.Flat.{flat_lines}
use Rattle.fab_instances.specs.Order.{NamesDiffer, RefusesNames}
use Rattle.fab_instances.specs.Refusals.{AreFineModels, RefusesModels}
use Rattle.fab_blif.specs.Refusals.{RefusesDesign, RefusesFile}
use Rattle.fab_blif.proofs.flattening.flatten.Goals as goal

pub netlist_of-requires : goal.netlist_of-requires
netlist_of-requires c =
    wired_design 16 (plain_models c.args.models.now) c.requires c.in_ok-design.design c.in_ok-design.ensures c.in_ok-refuse_design.ensures.fine

pub returns-clause-made : goal.returns-clause-made
returns-clause-made c =
    subst IsWideMade (sym c.in_ok-netlist_of.ensures)
    (wide_design 16 (omega arith) (plain_models c.args.models.now) c.requires c.in_ok-design.design c.in_ok-design.ensures c.in_ok-refuse_design.ensures.fine)

-- the refusal of models or of their design is one of their file
models_refused : (file : List ℕ) (last_line : ℕ) (models : List Model) (fault : Fault) →
    RefusesNames file last_line (plain_models models) fault ⊎ ((0 < length models) × NamesDiffer (plain_models models) × RefusesModels file last_line (plain_models models) fault) →
    RefusesFile file last_line (plain_models models) fault
models_refused file last_line models fault (inl names) = inl names
models_refused file last_line models fault (inr refused) = inr (inl (omega (arith, refused.0, length-map models plain_model), refused.1, refused.2))

design_refused : (file : List ℕ) (last_line : ℕ) (models : List Model) (design : PlainDesign) (fault : Fault) → design ≡ design_of (flat_lines (plain_models models)) → 0 < length models → NamesDiffer (plain_models models) →
    AreFineModels (plain_models models) → RefusesDesign file last_line design fault → RefusesFile file last_line (plain_models models) fault
design_refused file last_line models design fault is some differ fine refused =
    inr (inr (omega (arith, some, length-map models plain_model), differ, fine, subst (λ (given : PlainDesign). RefusesDesign file last_line given fault) is refused))

pub returns-in_err-places-clause-refused : goal.returns-in_err-places-clause-refused
returns-in_err-places-clause-refused c =
    let told = err_from_is_err_and c.from_residual.result c.from_residual.ensures.1 in
    let fault = c.in_err-places.field-0.0 in
    rw (told.1, told.2) (λ other. models_refused c.args.file.now c.args.last_line c.args.models.now fault (c.in_err-places.ensures.refused other))

pub returns-in_err-refuse_design-clause-refused : goal.returns-in_err-refuse_design-clause-refused
returns-in_err-refuse_design-clause-refused c =
    let told = err_from_is_err_and c.from_residual-in_err-refuse_design.result c.from_residual-in_err-refuse_design.ensures.1 in
    let fault = c.in_err-refuse_design.field-0.0 in
    let named = c.in_ok-places.ensures.named in
    rw (told.1, told.2) (λ other. design_refused c.args.file.now c.args.last_line c.args.models.now c.in_ok-design.design fault c.in_ok-design.ensures named.0 named.1
    c.in_ok-places.ensures.fine (c.in_err-refuse_design.ensures.refused other))
