use Rattle.std.proofs.Common.{◌≡◌, ◌∙◌, [], OnOk, sym, ap, subst, option_map, option_to_list}
use Rattle.fab_blif_models.specs.Plain.{plain_body}
use Rattle.fab_blif_models.specs.declared.model.Body.{Body}
use Rattle.fab_blif.specs.Design.{PlainDesign}
use Rattle.fab_blif.specs.Flat.{net_in, lines_by}
use Rattle.fab_blif.specs.inner.Walk.{after_all, with_control}
use Rattle.fab_blif.proofs.design.Design.put.Goals as goal

pub returns-in_ok-latch-in-Latch : goal.returns-in_ok-latch-in-Latch
returns-in_ok-latch-in-Latch c =
    let copy = c.args.copy.now in
    let line = c.args.statement.now.line in
    let controls = option_to_list (option_map (net_in copy) c.in-Latch.control) in
    let noted : with_control c.put_latch.new.self line c.in_ok-latch-in-Latch.latch controls ≡ after_all c.args.self.now (lines_by [] (λ _ _. []) copy line (plain_body c.args.statement.now.body)) =
    (λ j. with_control (c.in_ok-latch-in-Latch.ensures.design j) line (c.in_ok-latch-in-Latch.ensures.latch j) controls)
    ∙ ap (λ (body : Body). after_all c.args.self.now (lines_by [] (λ _ _. []) copy line (plain_body body))) (sym c.in-Latch.is) in
    subst (λ (design : PlainDesign). OnOk c.put_control.result (c.put_control.new.self ≡ design)) noted c.put_control.ensures
