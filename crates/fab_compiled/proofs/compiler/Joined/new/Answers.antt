use Rattle.fab_compiled.proofs.Joining.{none_joined}
use Rattle.fab_compiled.proofs.compiler.Joined.new.Goals as goal

pub returns : goal.returns
returns c ds =
    none_joined ds _ _ _ _ c.in_ok-low.ensures.tree c.in_ok-low.ensures.width c.in_ok-group.ensures.tree c.in_ok-group.ensures.width
