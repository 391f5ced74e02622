use Rattle.std.proofs.Common.{◌≡◌, ◌++◌, false, is_some, map, replicate, take}
use Rattle.fab_place.proofs.board.locks.Given as goal

abbrev pub invariant-loop-pad : goal.invariant-loop-pad
invariant-loop-pad l = l.locked.items ≡ replicate l.cells false ++ map is_some (take l.pad-index l.constrained)
