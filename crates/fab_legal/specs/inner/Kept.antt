-- What is kept of a placement.
use Rattle.std.specs.Prelude.{◌≡◌, ◌⊎◌, ◌+◌, ◌<◌, ◌≤◌, ℕ, List, [], ◌∷◌, ◌++◌, All, length, get_or, Option, Some, None}
use Rattle.std.specs.List.{flat_map}
use Rattle.fab_kinds.specs.declared.kind.Kind.TheVariants as kinds
use Rattle.fab_kinds.specs.Pins.{pad_i, pad_t}
use Rattle.fab_implementation.specs.fab_model.specs.Grid.{PlainFabric}
use Rattle.fab_implementation.specs.fab_netlist.specs.declared.net_id.NetId.{NetId}
use Rattle.fab_implementation.specs.fab_netlist.specs.declared.net_id.NetId.TheVariants as ids
use Rattle.fab_implementation.specs.OnFabric.{kind_at}
use Rattle.fab_legal.specs.Steps.{pin_wire}
use Rattle.fab_legal.specs.Sinks.{Sinks, reset_id, cells_sinks}
use Rattle.fab_bits.specs.Keys.{key_names}
use Rattle.fab_implementation.specs.fab_fabric.specs.declared.wire.Site.{Site}
use Rattle.fab_implementation.specs.fab_netlist.specs.WellMade.{most_nets}
use Rattle.fab_implementation.specs.fab_netlist.specs.Packed.{PlainPacked}
use Rattle.fab_implementation.specs.Plain.{Pad, PlainImplementation}
use Rattle.fab_legal.specs.Lines.{named}
use Rattle.fab_legal.specs.WellMade.{output_ports}
use Rattle.fab_legal.specs.inner.Keeping.{AreSites, ArePads, HasPad}
use Rattle.fab_legal.specs.declared.ports.Pads.{Pads}
use Rattle.fab_legal.specs.declared.ports.PadBinding.{PadBinding}
use Rattle.fab_legal.specs.declared.ports.PadBinding.TheVariants as found
use Rattle.fab_legal.specs.declared.placed.Placed.{Placed}

pub record AreKept (packed : PlainPacked) (implementation : PlainImplementation) (placed : Placed) : Type 0 where
  pub cells : AreSites implementation.cells (length packed.cells) placed.cells.items
  pub ins : ArePads packed.inputs implementation.ins placed.ins
  pub outs : ArePads (output_ports packed) implementation.outs placed.outs

-- there is a site for each name, and their number is small
pub record IsCounted (pads : Pads) : Type 0 where
  pub few : length (key_names pads.names.keys) ≤ most_nets
  pub as_many : length pads.sites.items ≡ length (key_names pads.names.keys)

-- a port stands on a pad, by number
abbrev pub HasOne : Placed → List Pad → Pad → Type 0
HasOne placed before pad =
    HasPad (key_names placed.ins.names.keys) placed.ins.sites.items pad ⊎ HasPad (key_names placed.outs.names.keys) placed.outs.sites.items pad

-- ---- what lines bind

abbrev pub IsWithin : (ports lines : ℕ) → PadBinding → Type 0
IsWithin ports lines (found.Bound pads) = Unit {0}
IsWithin ports lines (found.WrongLine place) = place < lines
IsWithin ports lines (found.Unnamed place) = place < ports

abbrev pub IsBound : PadBinding → Type 0
IsBound (found.Bound pads) = Unit {0}
IsBound (found.WrongLine place) = ⊥
IsBound (found.Unnamed place) = ⊥

-- the port of the first wrong line, inputs before outputs, or the first that no line names
abbrev pub wrong_port : PlainPacked → PlainImplementation → (ins outs : PadBinding) → Option (List ℕ)
wrong_port packed implementation (found.WrongLine place) outs = Some (get_or (named implementation.ins) place [])
wrong_port packed implementation (found.Unnamed place) (found.WrongLine other) = Some (get_or (named implementation.outs) other [])
wrong_port packed implementation (found.Bound pads) (found.WrongLine other) = Some (get_or (named implementation.outs) other [])
wrong_port packed implementation (found.Unnamed place) (found.Bound pads) = Some (get_or packed.inputs place [])
wrong_port packed implementation (found.Unnamed place) (found.Unnamed other) = Some (get_or packed.inputs place [])
wrong_port packed implementation (found.Bound pads) (found.Unnamed other) = Some (get_or (output_ports packed) other [])
wrong_port packed implementation (found.Bound pads) (found.Bound others) = None

-- a site by its numbers
abbrev pub site_key : Site → ℕ × ℕ × ℕ
site_key site = (site.x, site.y, site.bel)

-- ---- sinks by numbers

abbrev pub site_at : List Site → (number : ℕ) → Site
site_at sites number = get_or sites number (record { x = 0; y = 0; bel = 0 })

abbrev pub in_sinks : PlainFabric → Site → Sinks
in_sinks fabric site = (ids.Zero, pin_wire fabric site pad_t) ∷ []

abbrev pub out_sinks : PlainFabric → Site → List ℕ × NetId → Sinks
out_sinks fabric site output = (output.1, pin_wire fabric site pad_i) ∷ (ids.One, pin_wire fabric site pad_t) ∷ []

-- outputs from this number on, each at its site
abbrev pub outs_sinks : PlainFabric → (site_of_number : ℕ → Site) → (number : ℕ) → List (List ℕ × NetId) → Sinks
outs_sinks fabric site_of_number number [] = []
outs_sinks fabric site_of_number number (output ∷ outputs) = out_sinks fabric (site_of_number number) output ++ outs_sinks fabric site_of_number (number + 1) outputs

abbrev pub sinks_by : PlainFabric → PlainPacked → Placed → Sinks
sinks_by fabric packed placed =
    cells_sinks fabric (site_at placed.cells.items) (reset_id packed.reset) 0 packed.cells
    ++ (flat_map (in_sinks fabric) placed.ins.sites.items ++ outs_sinks fabric (site_at placed.outs.sites.items) 0 packed.outputs)

-- the sites are of the kinds that cells and ports need, and as many
pub record HasKinds (fabric : PlainFabric) (packed : PlainPacked) (placed : Placed) : Type 0 where
  pub luts : All (λ site. kind_at fabric site ≡ Some kinds.Lut4c) placed.cells.items
  pub in_pads : All (λ site. kind_at fabric site ≡ Some kinds.Io) placed.ins.sites.items
  pub out_pads : All (λ site. kind_at fabric site ≡ Some kinds.Io) placed.outs.sites.items
  pub all_cells : length placed.cells.items ≡ length packed.cells
  pub all_outs : length placed.outs.sites.items ≡ length packed.outputs
