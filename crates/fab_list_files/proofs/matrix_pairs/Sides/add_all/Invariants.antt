use Rattle.std.proofs.Common.{◌++◌, List, take}
use Rattle.fab_tables.specs.Lists.{Pair}
use Rattle.fab_list_files.specs.Keys.{HasSides}
use Rattle.fab_list_files.proofs.matrix_pairs.Sides.add_all.Given as goal

abbrev pub invariant-loop-pair : goal.invariant-loop-pair
invariant-loop-pair l = (pairs : List Pair) → HasSides l.fn.self pairs → HasSides l.self (pairs ++ take l.pair-index l.new)
