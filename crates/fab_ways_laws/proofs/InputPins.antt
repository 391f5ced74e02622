-- No required sink is a wire at which a net may begin: sinks are input pins.
use Rattle.std.proofs.Common.{◌≡◌, ℕ, ◌<◌, List, length, Contains, Option, Some, refl, sym, ap, ◌∙◌, subst, arith}
use Rattle.std.specs.Option.{option_map_or}
use Rattle.fab_kinds.specs.declared.kind.Kind.{Kind}
use Rattle.fab_kinds.specs.declared.kind.Kind.TheVariants as kinds
use Rattle.fab_kinds.specs.Pins.{input_count, pin_names}
use Rattle.fab_legal.specs.fab_model.specs.declared.tiles.Bel.{Bel}
use Rattle.fab_legal.specs.fab_model.specs.Drive.{PlainDrive, zero_bit, one_bit}
use Rattle.fab_legal.specs.fab_model.specs.Wires.{dest_of, pin_of, pin_count}
use Rattle.fab_legal.specs.fab_model.specs.Grid.{PlainFabric}
use Rattle.fab_legal.specs.fab_fabric.specs.Wires.{IsIndexOf}
use Rattle.fab_legal.specs.fab_fabric.specs.declared.wire.Site.{Site}
use Rattle.fab_legal.specs.fab_fabric.specs.declared.wire.Wire.{Wire}
use Rattle.fab_legal.specs.fab_fabric.proofs.Numbered.{one_wire}
use Rattle.fab_legal.specs.fab_netlist.specs.Packed.{PlainCell, PlainPacked}
use Rattle.fab_legal.specs.fab_netlist.specs.Plain.{IsAt}
use Rattle.fab_legal.specs.fab_implementation.specs.Plain.{PlainImplementation}
use Rattle.fab_legal.specs.fab_implementation.specs.OnFabric.{kind_at}
use Rattle.fab_legal.specs.Turns.{AreRight}
use Rattle.fab_legal.specs.WellMade.{IsWellMadePacked, IsWellMadeCell}
use Rattle.fab_legal.specs.Lines.{IsRightLine}
use Rattle.fab_legal.specs.Legal.{ArePlaced}
use Rattle.fab_legal.specs.Steps.{IsConstant, pin_wire, HasPin}
use Rattle.fab_legal.specs.Nets.{Net, zero_net, one_net, port_net, cell_net, IsRoot}
use Rattle.fab_legal.specs.Sinks.{Required, cell_input, latch_enable, latch_reset, input_released, output_shown, output_driven}
use Rattle.fab_legal.proofs.Pins.{pin_parts}

-- the number of the wire of a pin
pub pin_index : (fabric : PlainFabric) (site : Site) (pin : ℕ) → HasPin fabric site pin → IsIndexOf fabric (pin_wire fabric site pin).0 site.x site.y (pin_of site.bel pin)
pin_index fabric site pin has =
    let parts = pin_parts fabric site pin has in
    record {
      is_wire = record {
        tile = parts.tile;
        tile_is = parts.tile_is;
        is_wire = subst (λ (found : Option Bel). pin < option_map_or pin_count found 0) (sym parts.bel_is) parts.few;
      };
      is_index = refl;
    }

module _ (fabric : PlainFabric) where
  -- an input pin of a site
  pub record IsInputPin (wire : Wire) : Type 0 where
    pub site : Site
    pub kind : Kind
    pub pin : ℕ
    pub kind_is : kind_at fabric site ≡ Some kind
    pub low : pin < input_count kind
    pub wire_is : wire ≡ pin_wire fabric site pin

  -- the first output pin of a site
  record IsOutputPin (wire : Wire) : Type 0 where
    pub site : Site
    pub kind : Kind
    pub kind_is : kind_at fabric site ≡ Some kind
    pub few : input_count kind < length (pin_names kind)
    pub wire_is : wire ≡ pin_wire fabric site (input_count kind)

  more_pins : (kind : Kind) (pin : ℕ) → pin < input_count kind → pin < length (pin_names kind)
  more_pins kinds.Lut4c pin low = omega (arith, low)
  more_pins kinds.Io pin low = omega (arith, low)
  more_pins kinds.Mux8 pin low = omega (arith, low)

  same_kind : (a b : Kind) → Some a ≡ Some b → a ≡ b
  same_kind a b e = cc

  same_bel : (a b p q : ℕ) → pin_of a p ≡ pin_of b q → a ≡ b
  same_bel a b p q e = cc

  same_pin : (a b p q : ℕ) → pin_of a p ≡ pin_of b q → p ≡ q
  same_pin a b p q e = cc

  no_row : (a p row bit : ℕ) → pin_of a p ≡ dest_of row bit → ⊥
  no_row a p row bit e = cc

  pub input_index : (wire : Wire) (s : IsInputPin wire) → IsIndexOf fabric wire.0 s.site.x s.site.y (pin_of s.site.bel s.pin)
  input_index wire s =
      subst (λ (w : Wire). IsIndexOf fabric w.0 s.site.x s.site.y (pin_of s.site.bel s.pin)) (sym s.wire_is)
      (pin_index fabric s.site s.pin (s.kind, s.kind_is, more_pins s.kind s.pin s.low))

  never_constant : (wire : Wire) (value : PlainDrive) → IsInputPin wire → IsConstant fabric value wire → ⊥
  never_constant wire value s c =
      no_row s.site.bel s.pin c.row c.bit (one_wire fabric wire.0 s.site.x s.site.y c.x c.y (pin_of s.site.bel s.pin) (dest_of c.row c.bit) (input_index wire s) c.wire_is).2

  never_output : (wire : Wire) → IsInputPin wire → IsOutputPin wire → ⊥
  never_output wire s o =
      let other : IsIndexOf fabric wire.0 o.site.x o.site.y (pin_of o.site.bel (input_count o.kind)) =
      subst (λ (w : Wire). IsIndexOf fabric w.0 o.site.x o.site.y (pin_of o.site.bel (input_count o.kind))) (sym o.wire_is)
      (pin_index fabric o.site (input_count o.kind) (o.kind, o.kind_is, o.few)) in
      let same = one_wire fabric wire.0 s.site.x s.site.y o.site.x o.site.y (pin_of s.site.bel s.pin) (pin_of o.site.bel (input_count o.kind)) (input_index wire s) other in
      let bel : s.site.bel ≡ o.site.bel = same_bel s.site.bel o.site.bel s.pin (input_count o.kind) same.2 in
      let pin : s.pin ≡ input_count o.kind = same_pin s.site.bel o.site.bel s.pin (input_count o.kind) same.2 in
      let site : s.site ≡ o.site =
      ap (λ (a : ℕ). record { x = a; y = s.site.y; bel = s.site.bel }) same.0 ∙ ap (λ (b : ℕ). record { x = o.site.x; y = b; bel = s.site.bel }) same.1
      ∙ ap (λ (c : ℕ). record { x = o.site.x; y = o.site.y; bel = c }) bel in
      let kind : s.kind ≡ o.kind = same_kind s.kind o.kind (sym s.kind_is ∙ ap (kind_at fabric) site ∙ o.kind_is) in
      omega (arith, pin, ap input_count kind, s.low)

  pub kind_of_line : {X : Type 0} (kind : Kind) (IsKnown : X → Type 0) (lines : List (X × Site)) (thing : X) (site : Site) → AreRight (IsRightLine fabric kind IsKnown) lines → Contains lines (thing, site) →
      kind_at fabric site ≡ Some kind
  kind_of_line kind IsKnown lines thing site right here = (right here.0 (thing, site) here.1 (here.1, here.2)).of_kind

  module _ (packed : PlainPacked) (i : PlainImplementation) (made : IsWellMadePacked packed) (placed : ArePlaced fabric packed i) where
    abbrev IsCellLine : (number : ℕ) → Site → Type 0
    IsCellLine number site = Contains i.cells (number, site)

    cell_pin : (number : ℕ) (site : Site) (pin : ℕ) → IsCellLine number site → pin < 7 → IsInputPin (pin_wire fabric site pin)
    cell_pin number site pin here low = record {
      site = site;
      kind = kinds.Lut4c;
      pin = pin;
      kind_is = kind_of_line kinds.Lut4c (λ n. n < length packed.cells) i.cells number site placed.cells.lines_right here;
      low = low;
      wire_is = refl;
    }

    in_pin : (port : List ℕ) (site : Site) (pin : ℕ) → Contains i.ins (port, site) → pin < 2 → IsInputPin (pin_wire fabric site pin)
    in_pin port site pin here low = record {
      site = site;
      kind = kinds.Io;
      pin = pin;
      kind_is = kind_of_line kinds.Io (λ p. Contains packed.inputs p) i.ins port site placed.ports.ins.lines_right here;
      low = low;
      wire_is = refl;
    }

    out_pin : (port : List ℕ) (site : Site) (pin : ℕ) → Contains i.outs (port, site) → pin < 2 → IsInputPin (pin_wire fabric site pin)
    out_pin port site pin here low = record {
      site = site;
      kind = kinds.Io;
      pin = pin;
      kind_is = (placed.ports.outs.lines_right here.0 (port, site) here.1 (here.1, here.2)).of_kind;
      low = low;
      wire_is = refl;
    }

    few_inputs : (number pin : ℕ) (cell : PlainCell) (count : ℕ) → IsAt packed.cells number cell → pin < count → count ≡ length cell.inputs → pin < 7
    few_inputs number pin cell count at inside is =
        let well = subst (λ (c : PlainCell). IsWellMadeCell packed c) at.1 (made.cells number cell at.0) in
        omega (arith, well.few_inputs, inside, is)

    pub sink_pin : (net : Net) (wire : Wire) → Required fabric packed i net wire → IsInputPin wire
    sink_pin net wire (cell_input {number = number} {pin = pin} {site = site} {cell = cell} here at input) = cell_pin number site pin here (few_inputs number pin cell (length cell.inputs) at input.0 refl)
    sink_pin net wire (latch_enable {number = number} {site = site} here at is) = cell_pin number site 6 here (omega arith)
    sink_pin net wire (latch_reset {number = number} {site = site} here at is) = cell_pin number site 5 here (omega arith)
    sink_pin net wire (input_released {port = port} {site = site} here) = in_pin port site 1 here (omega arith)
    sink_pin net wire (output_shown {port = port} {site = site} here is) = out_pin port site 0 here (omega arith)
    sink_pin net wire (output_driven {port = port} {site = site} here) = out_pin port site 1 here (omega arith)

    pub never_root : (wire : Wire) → IsInputPin wire → (net : Net) → IsRoot fabric i net wire → ⊥
    never_root wire s zero_net is = never_constant wire zero_bit s is
    never_root wire s one_net is = never_constant wire one_bit s is
    never_root wire s (port_net port) is = never_output wire s (record {
      site = is.site;
      kind = kinds.Io;
      kind_is = kind_of_line kinds.Io (λ p. Contains packed.inputs p) i.ins port is.site placed.ports.ins.lines_right is.listed;
      few = omega arith;
      wire_is = is.wire_is;
    })
    never_root wire s (cell_net number) is = never_output wire s (record {
      site = is.site;
      kind = kinds.Lut4c;
      kind_is = kind_of_line kinds.Lut4c (λ n. n < length packed.cells) i.cells number is.site placed.cells.lines_right is.listed;
      few = omega arith;
      wire_is = is.wire_is;
    })
