use Rattle.std.proofs.Common.{◌≡◌, ◌++◌, map}
use Rattle.fab_syntax.specs.Plain.{plain_item}
use Rattle.fab_model.specs.Tiles.{counted}
use Rattle.fab_gen_tile.specs.Borders.{beginning_assign}
use Rattle.fab_gen_tile.proofs.borders.push_beginning.Given as goal

-- the assigns so far
abbrev pub invariant-loop-output : goal.invariant-loop-output
invariant-loop-output l = map plain_item l.items.items ≡ map plain_item l.initial.items.items ++ counted l.output (beginning_assign l.row l.first)
