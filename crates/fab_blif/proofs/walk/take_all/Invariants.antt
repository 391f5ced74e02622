use Rattle.std.proofs.Common.{◌≡◌}
use Rattle.fab_blif_models.specs.Plain.{plain_models}
use Rattle.fab_blif.specs.Flat.{flat_lines}
use Rattle.fab_blif.specs.inner.Walk.{after_all}
use Rattle.fab_blif.specs.inner.Frames.{stack_lines}
use Rattle.fab_blif.proofs.Stack.{stack_work}
use Rattle.fab_blif.proofs.walk.take_all.Given as goal

-- the lines that are left lead to the same design
abbrev pub invariant-loop-frame : goal.invariant-loop-frame
invariant-loop-frame l =
    after_all l.design (stack_lines (plain_models l.models) l.stack.frames) ≡ after_all l.fn.design (flat_lines (plain_models l.models))

abbrev pub decreases-loop-frame : goal.decreases-loop-frame
decreases-loop-frame l = stack_work (plain_models l.models) l.stack.frames
