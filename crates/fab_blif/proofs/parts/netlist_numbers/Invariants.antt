use Rattle.std.proofs.Common.{◌≡◌, take}
use Rattle.fab_blif.proofs.parts.netlist_numbers.Given as goal

abbrev pub invariant-loop-net : goal.invariant-loop-net
invariant-loop-net l = l.numbers.items ≡ take l.net-index l.nets
