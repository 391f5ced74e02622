use Rattle.fab_compiled.proofs.Joining.{alone}
use Rattle.fab_compiled.proofs.compiler.Joined.close.Goals as goal

pub returns-then-self-eq0 : goal.returns-then-self-eq0
returns-then-self-eq0 c ds es joined =
    alone ds es c.args.self.low.tree.value c.args.self.low.width c.args.self.group.tree.value c.args.self.group.width joined c.if-self-eq0.true
