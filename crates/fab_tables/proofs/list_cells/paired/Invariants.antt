use Rattle.std.proofs.Common.{◌≡◌, take}
use Rattle.std.specs.List.{zip}
use Rattle.fab_tables.proofs.list_cells.paired.Given as goal

abbrev pub invariant-loop-place : goal.invariant-loop-place
invariant-loop-place l = l.pairs.items ≡ take l.place (zip l.outputs l.inputs)
