use Rattle.fab_syntax.specs.Plain.{plain_text}
use Rattle.fab_wiring.specs.inner.Trees.{AreTrees}
use Rattle.fab_wiring.proofs.Driving.{AreDriven}
use Rattle.fab_wiring.proofs.wiring.drives_of.Given as goal

abbrev pub invariant-loop-point : goal.invariant-loop-point
invariant-loop-point l = AreTrees (plain_text l.equations) l.trees × AreDriven (plain_text l.equations) l.trees.trees.items l.point l.drives.items
