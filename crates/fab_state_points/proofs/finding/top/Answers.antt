use Rattle.std.proofs.Common.{sym, ◌∙◌}
use Rattle.fab_syntax.specs.Plain.{plain_text}
use Rattle.fab_state_points.proofs.Found.{top_none, top_some}
use Rattle.fab_state_points.proofs.finding.top.Goals as goal

pub returns-then-instances-eq0 : goal.returns-then-instances-eq0
returns-then-instances-eq0 c =
    top_none c.instances_are_numbered.ensures.all (plain_text c.args.equations.now) c.text_is_sound.ensures.sound (sym c.instances.ensures ∙ c.if-instances-eq0.true)

pub returns : goal.returns
returns c = top_some (plain_text c.args.equations.now) (λ none. c.if-instances-eq0.false (c.instances.ensures ∙ none))
