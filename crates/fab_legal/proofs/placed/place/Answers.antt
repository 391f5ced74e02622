use Rattle.std.proofs.Common.{List, ℕ, sym, ◌∙◌, subst}
use Rattle.std.proofs.lemmas.Result.{err_from_is_err_and}
use Rattle.fab_legal.specs.Broken.{IsCellItem, IsSiteItem, IsPortItem, IsFirstBroken, Explains, rule_1, rule_2, rule_3, rule_4}
use Rattle.fab_legal.specs.declared.broken.CheckFault.{CheckFault}
use Rattle.fab_legal.specs.declared.placed.Placed.{Placed}
use Rattle.fab_legal.proofs.Cells.{explained}
use Rattle.fab_legal.proofs.SiteKeys.{low_sites}
use Rattle.fab_legal.proofs.Constraints.{constraints_hold, constraint_broken}
use Rattle.fab_legal.proofs.placed.place.Goals as goal

pub returns-in_err-cells-clause-err : goal.returns-in_err-cells-clause-err
returns-in_err-cells-clause-err c =
    let told = err_from_is_err_and c.from_residual.result c.from_residual.ensures.1 in
    let f = c.args.fabric.now in
    let p = c.args.packed.now in
    let x = c.args.fixed.now in
    let i = c.args.implementation.now in
    rw (told.1, told.2) (explained f p x i 1 (IsCellItem f p i) c.in_err-cells.field-0.0 (λ item breaks. rule_1 breaks) c.in_err-cells.ensures.err)

pub check_sites-requires : goal.check_sites-requires
check_sites-requires c = low_sites c.args.fabric.now c.args.implementation.now c.is_well_made.ensures.is_fabric c.requires.on_fabric

pub returns-in_err-check_sites-clause-err : goal.returns-in_err-check_sites-clause-err
returns-in_err-check_sites-clause-err c =
    let told = err_from_is_err_and c.from_residual-in_err-check_sites.result c.from_residual-in_err-check_sites.ensures.1 in
    let f = c.args.fabric.now in
    let p = c.args.packed.now in
    let x = c.args.fixed.now in
    let i = c.args.implementation.now in
    rw (told.1, told.2) (explained f p x i 2 (IsSiteItem i) c.in_err-check_sites.field-0.0 (λ item breaks. rule_2 c.in_ok-cells.ensures.placed breaks) c.in_err-check_sites.ensures.err)

pub returns-in_err-ins-clause-err : goal.returns-in_err-ins-clause-err
returns-in_err-ins-clause-err c =
    let told = err_from_is_err_and c.from_residual-in_err-ins.result c.from_residual-in_err-ins.ensures.1 in
    let f = c.args.fabric.now in
    let p = c.args.packed.now in
    let x = c.args.fixed.now in
    let i = c.args.implementation.now in
    rw (told.1, told.2) (explained f p x i 3 (IsPortItem f p i) c.in_err-ins.field-0.0 (λ item breaks. rule_3 c.in_ok-cells.ensures.placed c.in_ok-check_sites.ensures.ok breaks) c.in_err-ins.ensures.err)

pub returns-in-None-clause-constraints : goal.returns-in-None-clause-constraints
returns-in-None-clause-constraints c =
    let placed : Placed = record { cells = c.in_ok-cells.cells; ins = c.in_ok-ins.ins; outs = c.in_ok-ins.outs } in
    constraints_hold c.args.fabric.now c.args.packed.now c.args.implementation.now placed c.in_ok-ins.ensures.placed c.in_ok-ins.ensures.ins c.in_ok-ins.ensures.outs
    c.deref.result.now c.args.fixed.now (c.deref.ensures.value ∙ c.fixed.view_is) c.in-None.ensures

pub returns-in_ok-copy-in-Some-clause-err : goal.returns-in_ok-copy-in-Some-clause-err
returns-in_ok-copy-in-Some-clause-err c =
    let placed : Placed = record { cells = c.in_ok-cells.cells; ins = c.in_ok-ins.ins; outs = c.in_ok-ins.outs } in
    let f = c.args.fabric.now in
    let p = c.args.packed.now in
    let x = c.args.fixed.now in
    let i = c.args.implementation.now in
    let item = constraint_broken f p i placed c.in_ok-ins.ensures.placed c.in_ok-ins.ensures.ins c.in_ok-ins.ensures.outs
    c.fixed.inside.pads.items x c.in-Some.place c.index.result.now c.fixed.view_is (rw c.deref.ensures.value at c.in-Some.ensures) c.index.ensures in
    let broken = rule_4 (record { cells = c.in_ok-cells.ensures.placed; sites = c.in_ok-check_sites.ensures.ok; ports = c.in_ok-ins.ensures.placed }) item in
    subst (λ (fault : CheckFault). Explains f p x i fault) (sym c.broken_by.ensures)
    (subst (λ (text : List ℕ). IsFirstBroken f p x i 4 text) (sym (c.in_ok-copy-in-Some).ensures) broken)
