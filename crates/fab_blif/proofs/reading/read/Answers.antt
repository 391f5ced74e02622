use Rattle.std.proofs.Common.{◌≡◌, ◌∙◌, ap, inl, sym, subst, arith}
use Rattle.std.proofs.lemmas.List.{length-map}
use Rattle.std.proofs.lemmas.Result.{err_from_is_err_and}
use Rattle.fab_blif_models.specs.Plain.{plain_model, plain_models}
use Rattle.fab_blif_models.specs.Rules.{AreModels}
use Rattle.fab_blif.specs.Design.{flattened}
use Rattle.fab_blif.proofs.Files.{IsRead, IsFlat, cycle_refused, is_blif, models_refused}
use Rattle.fab_blif.proofs.Rules.{weaker_models}
use Rattle.fab_blif.proofs.reading.read.Goals as goal

-- ---- what the models keep to

pub flatten-requires : goal.flatten-requires
flatten-requires c =
    let models : plain_models c.deref.result.now ≡ plain_models c.in_ok-models.models.items = ap plain_models c.deref.ensures.value in
    weaker_models c.args.most 16 c.requires.most.1 (plain_models c.deref.result.now) (subst (AreModels c.args.most) (sym models) c.in_ok-models.ensures.rules)

-- ---- a line is refused

pub returns-in_err-models-clause-refused : goal.returns-in_err-models-clause-refused
returns-in_err-models-clause-refused c =
    let told = err_from_is_err_and c.from_residual.result c.from_residual.ensures.1 in
    rw (told.1, told.2) (λ some. (some, inl (c.in_err-models.ensures.first some)))

-- ---- the models are refused

pub returns-in_err-netlist-clause-refused : goal.returns-in_err-netlist-clause-refused
returns-in_err-netlist-clause-refused c =
    let told = err_from_is_err_and c.from_residual-in_err-netlist.result c.from_residual-in_err-netlist.ensures.1 in
    let models = plain_models c.deref.result.now in
    let read : IsRead c.args.most c.args.bytes.now models = record { fine = c.in_ok-models.ensures.fine; spelled = ap plain_models c.deref.ensures.value ∙ c.in_ok-models.ensures.spelled } in
    rw (told.1, told.2) (models_refused c.args.most c.args.file.now c.args.bytes.now models c.in_err-netlist.field-0.0 read (rw (sym c.last_line.ensures) c.in_err-netlist.ensures.refused))

-- ---- a cycle is refused

pub returns-in_err-check_acyclic_wide-clause-refused : goal.returns-in_err-check_acyclic_wide-clause-refused
returns-in_err-check_acyclic_wide-clause-refused c =
    let told = err_from_is_err_and c.from_residual-in_err-check_acyclic_wide.result c.from_residual-in_err-check_acyclic_wide.ensures.1 in
    let models = plain_models c.deref.result.now in
    let read : IsRead c.args.most c.args.bytes.now models = record { fine = c.in_ok-models.ensures.fine; spelled = ap plain_models c.deref.ensures.value ∙ c.in_ok-models.ensures.spelled } in
    let named = c.in_ok-netlist.ensures.named in
    let flat : IsFlat models = record { some = omega (arith, named.0, length-map c.deref.result.now plain_model); named = named.1; fine = c.in_ok-netlist.ensures.models; design = c.in_ok-netlist.ensures.fine } in
    let netlist = c.in_ok-netlist.netlist in
    rw (told.1, told.2) (cycle_refused c.args.most c.args.file.now c.args.bytes.now models netlist c.in_err-check_acyclic_wide.field-0.0 read flat (c.in_ok-netlist.ensures.netlist ∙ ap flattened read.spelled) c.in_err-check_acyclic_wide.ensures.refused)

-- ---- the file is read

pub returns-clause-netlist : goal.returns-clause-netlist
returns-clause-netlist c = c.in_ok-netlist.ensures.netlist ∙ ap flattened (ap plain_models c.deref.ensures.value ∙ c.in_ok-models.ensures.spelled)

pub returns-clause-fine : goal.returns-clause-fine
returns-clause-fine c =
    let models = plain_models c.deref.result.now in
    let read : IsRead c.args.most c.args.bytes.now models = record { fine = c.in_ok-models.ensures.fine; spelled = ap plain_models c.deref.ensures.value ∙ c.in_ok-models.ensures.spelled } in
    let named = c.in_ok-netlist.ensures.named in
    let flat : IsFlat models = record { some = omega (arith, named.0, length-map c.deref.result.now plain_model); named = named.1; fine = c.in_ok-netlist.ensures.models; design = c.in_ok-netlist.ensures.fine } in
    is_blif c.args.most c.args.bytes.now models c.in_ok-netlist.netlist read flat (returns-clause-netlist c) c.in_ok-check_acyclic_wide.ensures.acyclic
