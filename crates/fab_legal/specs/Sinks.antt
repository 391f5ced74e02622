-- The sinks that the nets of a design have to reach.
use Rattle.std.specs.Prelude.{◌≡◌, ◌↔◌, ℕ, ◌+◌, Bool, List, [], ◌∷◌, ◌++◌, map, Contains, Option, Some, None, nat_eq, bytes_eq, if◌then◌else◌}
use Rattle.std.specs.List.{flat_map}
use Rattle.fab_kinds.specs.Pins.{lut_i0, lut_sr, lut_en, pad_i, pad_t}
use Rattle.fab_implementation.specs.fab_model.specs.Grid.{PlainFabric}
use Rattle.fab_implementation.specs.fab_fabric.specs.declared.wire.Site.{Site}
use Rattle.fab_implementation.specs.fab_fabric.specs.declared.wire.Wire.{Wire}
use Rattle.fab_implementation.specs.fab_netlist.specs.declared.net_id.NetId.{NetId}
use Rattle.fab_implementation.specs.fab_netlist.specs.declared.net_id.NetId.TheVariants as ids
use Rattle.fab_implementation.specs.fab_netlist.specs.Plain.{IsAt}
use Rattle.fab_implementation.specs.fab_netlist.specs.Packed.{PlainCell, PlainPacked}
use Rattle.fab_implementation.specs.Plain.{PlainImplementation}
use Rattle.fab_legal.specs.WellMade.{IsWellMadePacked}
use Rattle.fab_legal.specs.Lines.{CellsHaveSites, PortsHavePads}
use Rattle.fab_legal.specs.Steps.{pin_wire}
use Rattle.fab_legal.specs.Nets.{Net, zero_net, one_net, net_among}

-- ---- which wires have to stand in which nets

abbrev pub packed_net : PlainPacked → NetId → Net
packed_net packed net = net_among packed.inputs net

-- the net that resets latches: that of the reset port, and that of zeros without one
abbrev pub reset_id : Option ℕ → NetId
reset_id None = ids.Zero
reset_id (Some place) = ids.In place

pub data Required (fabric : PlainFabric) (packed : PlainPacked) (implementation : PlainImplementation) : Net → Wire → Type 0 where
  cell_input : {number pin : ℕ} {site : Site} {cell : PlainCell} {net : NetId} → Contains implementation.cells (number, site) → IsAt packed.cells number cell
      → IsAt cell.inputs pin net → Required fabric packed implementation (packed_net packed net) (pin_wire fabric site pin)
  latch_enable : {number init : ℕ} {site : Site} {cell : PlainCell} → Contains implementation.cells (number, site) → IsAt packed.cells number cell
      → cell.latch ≡ Some init → Required fabric packed implementation one_net (pin_wire fabric site lut_en)
  latch_reset : {number init : ℕ} {site : Site} {cell : PlainCell} → Contains implementation.cells (number, site) → IsAt packed.cells number cell
      → cell.latch ≡ Some init → Required fabric packed implementation (packed_net packed (reset_id packed.reset)) (pin_wire fabric site lut_sr)
  input_released : {port : List ℕ} {site : Site} → Contains implementation.ins (port, site) → Required fabric packed implementation zero_net (pin_wire fabric site pad_t)
  output_shown : {port : List ℕ} {site : Site} {net : NetId} → Contains implementation.outs (port, site) → Contains packed.outputs (port, net)
      → Required fabric packed implementation (packed_net packed net) (pin_wire fabric site pad_i)
  output_driven : {port : List ℕ} {site : Site} → Contains implementation.outs (port, site) → Required fabric packed implementation one_net (pin_wire fabric site pad_t)

-- ---- the same as a list, in order

abbrev pub Sinks : Type 0
Sinks = List (NetId × Wire)

-- the site that the first line of a thing gives it
abbrev pub site_of : {X : Type 0} → (same : X → X → Bool) → List (X × Site) → X → Site
site_of same [] thing = record { x = 0; y = 0; bel = 0 }
site_of same (line ∷ lines) thing = if same line.0 thing then line.1 else site_of same lines thing

-- input pins from this one on
abbrev pub input_sinks : PlainFabric → Site → (pin : ℕ) → List NetId → Sinks
input_sinks fabric site pin [] = []
input_sinks fabric site pin (net ∷ nets) = (net, pin_wire fabric site pin) ∷ input_sinks fabric site (pin + 1) nets

abbrev pub latch_sinks : PlainFabric → Site → (reset : NetId) → Option ℕ → Sinks
latch_sinks fabric site reset None = []
latch_sinks fabric site reset (Some init) = (ids.One, pin_wire fabric site lut_en) ∷ (reset, pin_wire fabric site lut_sr) ∷ []

abbrev pub cell_sinks : PlainFabric → Site → (reset : NetId) → PlainCell → Sinks
cell_sinks fabric site reset cell = input_sinks fabric site lut_i0 cell.inputs ++ latch_sinks fabric site reset cell.latch

-- cells from this number on, each at its site
abbrev pub cells_sinks : PlainFabric → (site_at : ℕ → Site) → (reset : NetId) → (number : ℕ) → List PlainCell → Sinks
cells_sinks fabric site_at reset number [] = []
cells_sinks fabric site_at reset number (cell ∷ cells) = cell_sinks fabric (site_at number) reset cell ++ cells_sinks fabric site_at reset (number + 1) cells

abbrev pub input_port_sinks : PlainFabric → (site_at : List ℕ → Site) → List ℕ → Sinks
input_port_sinks fabric site_at port = (ids.Zero, pin_wire fabric (site_at port) pad_t) ∷ []

abbrev pub output_port_sinks : PlainFabric → (site_at : List ℕ → Site) → List ℕ × NetId → Sinks
output_port_sinks fabric site_at output = (output.1, pin_wire fabric (site_at output.0) pad_i) ∷ (ids.One, pin_wire fabric (site_at output.0) pad_t) ∷ []

-- for each cell its input pins, and with a latch EN and SR; for each input port T of its pad; for each output port I and T
abbrev pub sinks : PlainFabric → PlainPacked → PlainImplementation → Sinks
sinks fabric packed implementation =
    cells_sinks fabric (site_of nat_eq implementation.cells) (reset_id packed.reset) 0 packed.cells
    ++ (flat_map (input_port_sinks fabric (site_of bytes_eq implementation.ins)) packed.inputs
    ++ flat_map (output_port_sinks fabric (site_of bytes_eq implementation.outs)) packed.outputs)

abbrev pub named_sink : PlainPacked → NetId × Wire → Net × Wire
named_sink packed sink = (packed_net packed sink.0, sink.1)

-- the list has what is required, and nothing else
abbrev pub SinksAreRequired : Type 0
SinksAreRequired =
    (fabric : PlainFabric) (packed : PlainPacked) (implementation : PlainImplementation) →
    IsWellMadePacked packed → CellsHaveSites fabric packed implementation → PortsHavePads fabric packed implementation →
    (net : Net) (wire : Wire) → Contains (map (named_sink packed) (sinks fabric packed implementation)) (net, wire) ↔ Required fabric packed implementation net wire
