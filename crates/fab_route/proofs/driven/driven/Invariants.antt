use Rattle.std.proofs.Common.{take}
use Rattle.fab_route.specs.inner.Numbers.{HaveDriven}
use Rattle.fab_route.proofs.driven.driven.Given as goal

abbrev pub invariant-loop-tile : goal.invariant-loop-tile
invariant-loop-tile l = HaveDriven (take l.tile-index l.fabric.types) l.tables.items
