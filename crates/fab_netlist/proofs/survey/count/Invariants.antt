use Rattle.std.proofs.Common.{◌≡◌, drop}
use Rattle.fab_netlist.specs.inner.Survey.{counted}
use Rattle.fab_netlist.proofs.survey.count.Given as goal

abbrev pub invariant-loop-net : goal.invariant-loop-net
invariant-loop-net l = counted (drop l.net-index l.nets) l.table ≡ counted l.nets l.fn.table
