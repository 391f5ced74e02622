use Rattle.std.proofs.Common.{◌≡◌, ◌++◌, map}
use Rattle.fab_model.specs.Tiles.{counted}
use Rattle.fab_syntax.specs.Plain.{plain_item}
use Rattle.fab_syntax.specs.declared.tree.Shape.TheVariants.{Vector}
use Rattle.fab_syntax.specs.Plain.{wire}
use Rattle.fab_gen_loader.specs.Loader.{row_port}
use Rattle.fab_gen_top.proofs.wires.push_row_wires.Given as goal

-- those so far
abbrev pub invariant-loop-y : goal.invariant-loop-y
invariant-loop-y l = map plain_item l.items.items ≡ map plain_item l.initial.items.items ++ counted l.y (λ y. wire (Vector 32) (row_port y))
