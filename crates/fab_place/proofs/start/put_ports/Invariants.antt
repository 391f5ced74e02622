use Rattle.std.proofs.Common.{◌≡◌, ◌+◌, ◌≤◌, ◌<◌, ◌++◌, length, map, drop}
use Rattle.std.specs.List.{All}
use Rattle.fab_place.specs.inner.Starts.{loose, numbers_in_order}
use Rattle.fab_place.proofs.start.put_ports.Given as goal

abbrev pub invariant-loop-pad : goal.invariant-loop-pad
invariant-loop-pad l = record {
  told : l.sites.items ++ map (λ pad. l.luts + pad) (numbers_in_order l.left (drop l.pad-index l.constrained)) ≡ l.fn.sites.items ++ map (λ pad. l.luts + pad) (numbers_in_order l.fn.free l.constrained);
  enough : loose (drop l.pad-index l.constrained) ≤ length l.left;
  low : All (λ number. number < 65536) l.left;
}
