-- The nets of trees by numbers, and where they begin.
use Rattle.std.specs.Prelude.{◌≡◌, ◌⊎◌, ℕ, ◌+◌, ◌<◌, true, false, List, [], map, length, get_or, Contains, nat_eq}
use Rattle.indexmap.specs.IndexSet.{insert_all}
use Rattle.fab_legal.specs.Turns.{AreRight}
use Rattle.fab_legal.specs.inner.Tables.{entered_number}
use Rattle.fab_kinds.specs.Pins.{lut_o, pad_o}
use Rattle.fab_implementation.specs.fab_model.specs.Grid.{PlainFabric}
use Rattle.fab_implementation.specs.fab_fabric.specs.declared.wire.Site.{Site}
use Rattle.fab_implementation.specs.fab_fabric.specs.declared.wire.Wire.{Wire}
use Rattle.fab_implementation.specs.fab_netlist.specs.declared.net_id.NetId.{NetId}
use Rattle.fab_implementation.specs.fab_netlist.specs.declared.net_id.NetId.TheVariants as ids
use Rattle.fab_implementation.specs.Plain.{Edge, PlainTree}
use Rattle.fab_legal.specs.Steps.{IsConstant, pin_wire, bit_drive}
use Rattle.fab_legal.specs.inner.Kept.{site_at}
use Rattle.fab_legal.specs.declared.placed.Placed.{Placed}
use Rattle.fab_legal.specs.declared.nets.Root.{Root}
use Rattle.fab_legal.specs.declared.nets.Root.TheVariants as roots

-- a net of the design
abbrev pub IsSmall : Placed → NetId → Type 0
IsSmall placed ids.Zero = Unit {0}
IsSmall placed ids.One = Unit {0}
IsSmall placed (ids.In number) = number < length placed.ins.sites.items
IsSmall placed (ids.Cell number) = number < length placed.cells.items

-- the net of a tree by the numbers of the inputs of the design, where these are the lines of inputs
abbrev pub packed_id : List (ℕ × Site) → NetId → NetId
packed_id lines ids.Zero = ids.Zero
packed_id lines ids.One = ids.One
packed_id lines (ids.In line) = ids.In (get_or (map (λ (l : ℕ × Site). l.0) lines) line 0)
packed_id lines (ids.Cell number) = ids.Cell number

-- the place of a net in the order of nets
abbrev pub net_number : Placed → NetId → ℕ
net_number placed ids.Zero = 0
net_number placed ids.One = 1
net_number placed (ids.In number) = 2 + number
net_number placed (ids.Cell number) = 2 + length placed.ins.sites.items + number

abbrev pub tree_number : Placed → PlainTree → ℕ
tree_number placed tree = net_number placed (packed_id placed.ins.lines.items tree.net)

-- a net that is kept as a root may begin at a wire
abbrev pub StartsAt : PlainFabric → Root → Wire → Type 0
StartsAt fabric (roots.Constant value) wire = IsConstant fabric (bit_drive value) wire
StartsAt fabric (roots.Source source) wire = wire ≡ source

abbrev pub root_by : PlainFabric → Placed → NetId → Root
root_by fabric placed ids.Zero = roots.Constant false
root_by fabric placed ids.One = roots.Constant true
root_by fabric placed (ids.In number) = roots.Source (pin_wire fabric (site_at placed.ins.sites.items number) pad_o)
root_by fabric placed (ids.Cell number) = roots.Source (pin_wire fabric (site_at placed.cells.items number) lut_o)

abbrev pub IsStart : PlainFabric → Root → (entered : List ℕ) → List Edge → Edge → Type 0
IsStart fabric root entered before edge = Contains entered edge.0.0 ⊎ StartsAt fabric root edge.0

-- the wires that edges enter, as a set
abbrev pub entered_set : List Edge → List ℕ
entered_set edges = insert_all nat_eq [] (map entered_number edges)

abbrev pub AreStarts : PlainFabric → Placed → NetId → List Edge → Type 0
AreStarts fabric placed net edges = AreRight (IsStart fabric (root_by fabric placed net) (entered_set edges)) edges

-- a net of the design whose number is none of these
abbrev pub IsNewNet : Placed → (numbers : List ℕ) → NetId → Type 0
IsNewNet placed numbers net = IsSmall placed net × (Contains numbers (net_number placed net) → ⊥)
