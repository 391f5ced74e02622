use Rattle.std.proofs.Common.{◌≡◌, ◌++◌}
use Rattle.fab_model.specs.Tiles.{counted}
use Rattle.fab_place.proofs.start.put_cells.Given as goal

abbrev pub invariant-loop-cell : goal.invariant-loop-cell
invariant-loop-cell l = l.sites.items ≡ l.fn.sites.items ++ counted l.cell (λ cell. cell)
