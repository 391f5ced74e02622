-- The reset port of a netlist: one of its data inputs.
use Rattle.std.specs.Prelude.{◌≡◌, ℕ, Bool, true, false, List, map, Option, Some, None, position}
use Rattle.std.specs.Str.{bytes_eq}
use Rattle.fab_netlist.specs.Plain.{PlainNetlist, name_of}

-- the place of the data input of a name
abbrev pub reset_place : PlainNetlist → (port : List ℕ) → Option ℕ
reset_place netlist port = position (bytes_eq port) (map (name_of netlist) netlist.inputs)

abbrev pub with_reset : (place : ℕ) → PlainNetlist → PlainNetlist
with_reset place netlist =
    record { nets = netlist.nets; inputs = netlist.inputs; outputs = netlist.outputs; covers = netlist.covers; latches = netlist.latches; reset = Some place }

abbrev pub set_at : Option ℕ → PlainNetlist → PlainNetlist
set_at None netlist = netlist
set_at (Some place) netlist = with_reset place netlist

-- the netlist with the reset port of this name, where one is named
abbrev pub netlist_with : (port : Option (List ℕ)) → PlainNetlist → PlainNetlist
netlist_with None netlist = netlist
netlist_with (Some port) netlist = set_at (reset_place netlist port) netlist

-- it has this data input, and then it is set; else nothing changes
abbrev pub IsSetBy : Option ℕ → (old : PlainNetlist) → (done : Bool) → (new : PlainNetlist) → Type 0
IsSetBy None old done new = (done ≡ false) × (new ≡ old)
IsSetBy (Some place) old done new = (done ≡ true) × (new ≡ with_reset place old)

abbrev pub IsSetTo : (old : PlainNetlist) → (port : List ℕ) → (done : Bool) → (new : PlainNetlist) → Type 0
IsSetTo old port done new = IsSetBy (reset_place old port) old done new
