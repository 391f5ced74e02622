use Rattle.std.proofs.Common.{ap, ◌∙◌}
use Rattle.fab_sound.specs.inner.Checks.{waiting_parts}
use Rattle.fab_sound.proofs.Waiting.{waiting_push}
use Rattle.fab_sound.proofs.expressions.put_one.Goals as goal

pub returns : goal.returns
returns c = ap waiting_parts c.in_ok-push.ensures.items ∙ waiting_push c.args.waiting.now.items c.args.one
