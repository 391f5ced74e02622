-- The pins of a packed design: which items its nets have. Items are the cells, then the input ports, then the output ports; nets
-- are those of the input ports, then those of the cells.
use Rattle.std.specs.Prelude.{◌≡◌, ℕ, ◌+◌, ◌<◌, List, [], ◌∷◌, ◌++◌, Contains, length, is_some, if◌then◌else◌}
use Rattle.std.specs.List.{flat_map, enumerate_from}
use Rattle.fab_model.specs.Tiles.{counted}
use Rattle.fab_netlist.specs.declared.net_id.NetId.{NetId}
use Rattle.fab_netlist.specs.declared.net_id.NetId.TheVariants as ids
use Rattle.fab_netlist.specs.Packed.{PlainCell, PlainPacked}
use Rattle.fab_netlist.specs.WellMade.{most_nets}
use Rattle.fab_ways_laws.specs.fab_legal_Sinks.{reset_id}
use Rattle.fab_annealing.specs.declared.nets.Nets.{Nets}
use Rattle.fab_annealing.specs.Measured.{items_of}
use Rattle.fab_place.specs.declared.nets.Pin.{Pin}

-- ---- numbers of nets and items

abbrev pub net_total : PlainPacked → ℕ
net_total packed = length packed.inputs + length packed.cells

abbrev pub item_total : PlainPacked → ℕ
item_total packed = length packed.cells + (length packed.inputs + length packed.outputs)

-- ---- pins

abbrev pub pin : (net item : ℕ) → Pin
pin net item = record { net = net; item = item }

-- a net whose number is far from the end of the machine's numbers
abbrev pub IsNear : NetId → Type 0
IsNear ids.Zero = Unit {0}
IsNear ids.One = Unit {0}
IsNear (ids.In number) = number < most_nets
IsNear (ids.Cell number) = number < most_nets

-- the pin of an item on a net; the nets of constants have none
abbrev pub pin_on : (inputs item : ℕ) → NetId → List Pin
pin_on inputs item ids.Zero = []
pin_on inputs item ids.One = []
pin_on inputs item (ids.In number) = pin number item ∷ []
pin_on inputs item (ids.Cell number) = pin (inputs + number) item ∷ []

-- the pins by which input ports and cells drive their nets
abbrev pub input_pins : (inputs cells : ℕ) → List Pin
input_pins inputs cells = counted inputs (λ number. pin number (cells + number))

abbrev pub cell_pins : (inputs cells : ℕ) → List Pin
cell_pins inputs cells = counted cells (λ number. pin (inputs + number) number)

-- the pins by which cells and output ports read nets, and latches the net that resets them
abbrev pub reading_pins : (inputs : ℕ) → List PlainCell → List Pin
reading_pins inputs cells = flat_map (λ (cell : ℕ × PlainCell). flat_map (pin_on inputs cell.0) cell.1.inputs) (enumerate_from 0 cells)

abbrev pub reset_pins : (inputs : ℕ) → (reset : NetId) → List PlainCell → List Pin
reset_pins inputs reset cells = flat_map (λ (cell : ℕ × PlainCell). if is_some cell.1.latch then pin_on inputs cell.0 reset else []) (enumerate_from 0 cells)

abbrev pub output_pins : (inputs ports : ℕ) → List (List ℕ × NetId) → List Pin
output_pins inputs ports outputs = flat_map (λ (output : ℕ × (List ℕ × NetId)). pin_on inputs (ports + output.0) output.1.1) (enumerate_from 0 outputs)

abbrev pub pins : PlainPacked → List Pin
pins packed =
    input_pins (length packed.inputs) (length packed.cells)
    ++ (cell_pins (length packed.inputs) (length packed.cells)
    ++ (reading_pins (length packed.inputs) packed.cells
    ++ (reset_pins (length packed.inputs) (reset_id packed.reset) packed.cells
    ++ output_pins (length packed.inputs) (length packed.cells + length packed.inputs) packed.outputs)))

-- ---- nets of pins

-- nets have the items that pins name, and no others
pub record HavePins (nets : Nets) (pins : List Pin) : Type 0 where
  pub whole : (pin : Pin) → Contains pins pin → Contains (items_of nets pin.net) pin.item
  pub sound : (net item : ℕ) → Contains (items_of nets net) item → (pin : Pin) × Contains pins pin × (pin.net ≡ net) × (pin.item ≡ item)
