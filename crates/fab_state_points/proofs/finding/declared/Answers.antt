use Rattle.std.proofs.Common.{sym, ◌∙◌, subst}
use Rattle.fab_syntax.specs.Plain.{plain_text}
use Rattle.fab_values.specs.contracts.names.Role.{the_type}
use Rattle.fab_state_points.specs.Finding.{IsInstanceAt}
use Rattle.fab_state_points.proofs.Found.{name_found}
use denote.Enum.Bare.{same_true}
use Rattle.std.proofs.Common.{rules}
use Rattle.fab_state_points.proofs.finding.declared.Goals as goal

pub returns-then-eq-2 : goal.returns-then-eq-2
returns-then-eq-2 c path at =
    let text = plain_text c.args.equations.now in
    let i = subst (IsInstanceAt text path) c.in_ok-instance.was at in
    name_found c.instances_are_numbered.ensures.stand c.names_have_points.ensures text c.text_is_sound.ensures.sound c.in_ok-instance.field-0 i.0 path c.args.name.now
    c.in_ok-found.found c.args.shape c.args.role i.1 i.2 (sym (c.local.ensures i.0 i.1) ∙ c.in_ok-found.was) (search rules) (same_true the_type (search rules) _ _ (sym c.if-eq-2.ensures))
