use Rattle.std.proofs.Common.{◌≡◌, map, take}
use Rattle.fab_netlist.specs.inner.Skeleton.{bare_cover}
use Rattle.fab_netlist.proofs.wide.bare_covers.Given as goal

abbrev pub invariant-loop-cover : goal.invariant-loop-cover
invariant-loop-cover l = l.bare.items ≡ map bare_cover (take l.cover-index l.covers)
