use Rattle.fab_netlist.specs.inner.Search.{HasDrivers}
use Rattle.fab_netlist.proofs.walk.driver_table.Given as goal

abbrev pub invariant-loop-place : goal.invariant-loop-place
invariant-loop-place l = HasDrivers l.netlist l.place l.drivers.items
