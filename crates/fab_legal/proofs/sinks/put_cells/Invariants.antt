use Rattle.std.proofs.Common.{◌≡◌, ◌++◌, take}
use Rattle.fab_legal.specs.Sinks.{cells_sinks}
use Rattle.fab_legal.specs.inner.Kept.{site_at}
use Rattle.fab_legal.proofs.sinks.put_cells.Given as goal

abbrev pub invariant-loop-number : goal.invariant-loop-number
invariant-loop-number l = l.sinks.items ≡ l.fn.sinks.items ++ cells_sinks l.fabric (site_at l.sites) l.reset 0 (take l.number l.cells)
