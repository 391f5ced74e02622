use Rattle.std.proofs.Common.{◌≡◌, ◌++◌, append-nil, nat_eq, option_to_list, sym, ap, ◌∙◌}
use Rattle.fab_implementation.specs.Plain.{PlainImplementation}
use Rattle.fab_legal.specs.Sinks.{site_of}
use Rattle.fab_assemble.proofs.Registers.{registers_more}
use Rattle.fab_assemble.proofs.state.registers.Goals as goal
use Rattle.fab_assemble.proofs.state.registers.Goals.{in-Some+in_ok-push, in_default}

pub loop-number-preserved : goal.loop-number-preserved
loop-number-preserved c =
    let i = c.args.implementation.now in
    let number = c.loop-number.number in
    let site = c.index.result.now in
    let lines_are : c.deref.result.now ≡ i.cells = c.deref.ensures.value ∙ ap (λ (p : PlainImplementation). p.cells) c.implementation.view_is in
    let site_is : site ≡ site_of nat_eq i.cells number =
    c.index.ensures ∙ c.in_ok-sites.ensures.each number site c.loop-number-test.true ∙ ap (λ lines. site_of nat_eq lines number) lines_are in
    let more = registers_more i c.args.cells.now number c.index-cells-number.result c.loop-number.registers.items site c.register_of.result c.loop-number-test.true c.index-cells-number.is
    c.loop-number.invariant site_is c.register_of.ensures in
    elim c.match-register_of.branch [
      | in-Some+in_ok-push w ↦ ap (λ v. v.items) w.registers-is ∙ w.in_ok-push.ensures.items ∙ ap (λ found. c.loop-number.registers.items ++ option_to_list found) (sym w.in-Some.is) ∙ more
      | in_default w ↦ ap (λ v. v.items) w.registers-is ∙ sym (append-nil c.loop-number.registers.items) ∙ ap (λ found. c.loop-number.registers.items ++ option_to_list found) (sym w.in_default.is) ∙ more
    ]
