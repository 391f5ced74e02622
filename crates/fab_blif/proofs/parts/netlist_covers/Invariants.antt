use Rattle.std.proofs.Common.{◌≡◌, take}
use Rattle.fab_blif.proofs.parts.netlist_covers.Given as goal

abbrev pub invariant-loop-cover : goal.invariant-loop-cover
invariant-loop-cover l = l.made.items ≡ take l.cover-index l.covers
