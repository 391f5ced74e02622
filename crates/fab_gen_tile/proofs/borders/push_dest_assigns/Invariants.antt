use Rattle.std.proofs.Common.{◌≡◌, ◌++◌, map}
use Rattle.fab_syntax.specs.Plain.{plain_item}
use Rattle.fab_model.specs.Tiles.{counted}
use Rattle.fab_gen_tile.specs.Borders.{dest_assign}
use Rattle.fab_gen_tile.proofs.borders.push_dest_assigns.Given as goal

-- the assigns so far
abbrev pub invariant-loop-bit : goal.invariant-loop-bit
invariant-loop-bit l = map plain_item l.items.items ≡ map plain_item l.initial.items.items ++ counted l.bit (dest_assign l.row)
