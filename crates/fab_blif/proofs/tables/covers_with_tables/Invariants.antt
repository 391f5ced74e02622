use Rattle.std.proofs.Common.{◌≡◌, map, take}
use Rattle.fab_netlist.specs.Wide.{tabled_cover}
use Rattle.fab_blif.proofs.tables.covers_with_tables.Given as goal

abbrev pub invariant-loop-cover : goal.invariant-loop-cover
invariant-loop-cover l = l.made.items ≡ map tabled_cover (take l.cover-index l.covers)
