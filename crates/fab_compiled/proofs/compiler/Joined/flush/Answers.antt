use Rattle.fab_compiled.proofs.Joining.{flushed}
use Rattle.fab_compiled.proofs.compiler.Joined.flush.Goals as goal

pub returns : goal.returns
returns c ds es joined =
    flushed ds es c.args.self.low.tree.value c.args.self.low.width c.args.self.group.tree.value c.args.self.group.width joined
    c.in_ok-low.low.tree.value c.in_ok-group.group.tree.value c.in_ok-low.low.width c.in_ok-group.group.width
    c.in_ok-low.ensures c.in_ok-group.ensures.tree c.in_ok-group.ensures.width
