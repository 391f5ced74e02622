use Rattle.std.proofs.Common.{Bool, ap, ◌∙◌, subst}
use Rattle.fab_ternary.specs.Terns.{plain_tern}
use Rattle.fab_demand.specs.declared.gates.Gate.{Gate}
use Rattle.fab_demand.specs.declared.gates.Gate.TheVariants.{Known}
use Rattle.fab_demand.specs.Gates.{IsGate}
use Rattle.fab_demand.proofs.Finding.{closed_finds}
use Rattle.fab_demand.proofs.look.latch_lead.Goals as goal

pub returns-in-Ok-Known-false-clause-finds : goal.returns-in-Ok-Known-false-clause-finds
returns-in-Ok-Known-false-clause-finds c clock =
    closed_finds c.args.trees.now clock (plain_tern c.args.given) c.args.view.now.terns.now c.args.view.now.leads.now c.args.marks.now c.args.gate
    c.args.latched
    (subst (λ (gate : Gate). IsGate c.args.trees.now c.args.view.now.terns.now c.args.view.now.leads.now c.args.marks.now c.args.gate gate)
    (c.in-Ok-Known-false.field-0-is ∙ ap (λ (b : Bool). Known b) c.in-Ok-Known-false.field-0-0-test) c.in-Ok-Known-false.ensures.gate)
    c.given_lead.result c.given_lead.ensures
