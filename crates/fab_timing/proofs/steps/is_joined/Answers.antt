use Rattle.fab_legal.proofs.StepLaws.{join_some, join_none}
use Rattle.fab_timing.proofs.steps.is_joined.Goals as goal

pub returns-in-Some : goal.returns-in-Some
returns-in-Some c = join_some c.args.fabric.now c.args.from c.args.to c.in-Some.wire c.join_to.result c.requires c.join_to.ensures.join c.in-Some.is

pub returns-in-None : goal.returns-in-None
returns-in-None c = join_none c.args.fabric.now c.args.from c.args.to c.join_to.result c.requires c.join_to.ensures.join c.in-None.is
