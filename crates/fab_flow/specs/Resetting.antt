-- The reset port that a command is given, by its name: it has to be a data input of the netlist.
use Rattle.std.specs.Prelude.{◌≡◌, ℕ, List, Option, Some, None}
use Rattle.fab_base.specs.declared.fault.Fault.{Fault}
use Rattle.fab_base.specs.declared.fault.Fault.TheVariants as faults
use Rattle.fab_netlist.specs.Plain.{PlainNetlist}
use Rattle.fab_netlist.specs.Resets.{reset_place}

-- where a port is named, it is a data input of the netlist
abbrev pub HasReset : (port : Option (List ℕ)) → PlainNetlist → Type 0
HasReset None netlist = Unit {0}
HasReset (Some port) netlist = (place : ℕ) × (reset_place netlist port ≡ Some place)

-- The port that is named is no data input. This breaks rule 12, and the port is told as it was written.
abbrev pub LacksReset : (port : Option (List ℕ)) → PlainNetlist → Fault → Type 0
LacksReset None netlist fault = ⊥
LacksReset (Some port) netlist fault = (reset_place netlist port ≡ None) × (fault ≡ faults.Illegal 12 port)
