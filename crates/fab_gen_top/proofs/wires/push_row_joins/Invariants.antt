use Rattle.std.proofs.Common.{◌≡◌, ◌++◌, map}
use Rattle.fab_model.specs.Tiles.{counted}
use Rattle.fab_syntax.specs.Plain.{plain_join}
use Rattle.fab_gen_tile.specs.Names.{same_join}
use Rattle.fab_gen_loader.specs.Loader.{row_port}
use Rattle.fab_gen_top.proofs.wires.push_row_joins.Given as goal

-- those so far
abbrev pub invariant-loop-y : goal.invariant-loop-y
invariant-loop-y l = map plain_join l.joins.items ≡ map plain_join l.initial.joins.items ++ counted l.y (λ y. same_join (row_port y))
