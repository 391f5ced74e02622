use Rattle.std.proofs.Common.{◌≡◌, length}
use Rattle.fab_route.proofs.Stepped.{HaveLines}
use Rattle.fab_route.proofs.sources.cell_sites.Given as goal

abbrev pub invariant-loop-line : goal.invariant-loop-line
invariant-loop-line l = record {
  long : length l.sites.items ≡ length l.packed.cells;
  each : HaveLines l.line-items (length l.packed.cells) l.line-index l.sites.items;
}
