-- A netlist that is well made is wired.
use Rattle.fab_netlist.specs.Plain.{PlainNetlist}
use Rattle.fab_netlist.specs.WellMade.{IsWired, IsWellMade}

pub wired : {netlist : PlainNetlist} → IsWellMade netlist → IsWired netlist
wired made = record {
  small = made.small;
  driven_below = made.driven_below;
  read_below = made.read_below;
  initials = made.initials;
  driven_once = made.driven_once;
  read_driven = made.read_driven;
  reset_below = made.reset_below;
  ports_differ = made.ports_differ;
}
