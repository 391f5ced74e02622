-- Implementations without where they lie in memory.
use Rattle.std.specs.Prelude.{ℕ, List, [], map, Option, get_or}
use Rattle.std.specs.Option.{option_map}
use Rattle.fab_fabric.specs.declared.wire.Site.{Site}
use Rattle.fab_fabric.specs.declared.wire.Wire.{Wire}
use Rattle.fab_netlist.specs.declared.net_id.NetId.{NetId}
use Rattle.fab_netlist.specs.Packed.{PlainPacked}

-- a wire and one that it drives
abbrev pub Edge : Type 0
Edge = Wire × Wire

-- a port by its name, and its site
abbrev pub Pad : Type 0
Pad = List ℕ × Site

-- the names of ports
abbrev pub ports_of : List Pad → List (List ℕ)
ports_of pads = map (λ pad. pad.0) pads

pub record PlainTree : Type 0 where
  pub net : NetId
  pub edges : List Edge

-- cells are named by their numbers
pub record PlainImplementation : Type 0 where
  pub cells : List (ℕ × Site)
  pub ins : List Pad
  pub outs : List Pad
  pub trees : List PlainTree
  -- the name of the reset port
  pub reset : Option (List ℕ)

-- the name of the reset port of a packed design
abbrev pub reset_name : PlainPacked → Option (List ℕ)
reset_name packed = option_map (λ place. get_or packed.inputs place []) packed.reset
