-- Pins of sites: the wires of two pins are one wire only where the pins are the same, of one site.
use Rattle.std.proofs.Common.{◌≡◌, ℕ, sym, ap, subst}
use Rattle.fab_model.specs.Wires.{PlainWire, source_of, dest_of, pin_of}
use Rattle.fab_model.specs.Grid.{PlainFabric}
use Rattle.fab_fabric.specs.Wires.{IsIndexOf}
use Rattle.fab_fabric.specs.declared.wire.Site.{Site}
use Rattle.fab_fabric.specs.declared.wire.Wire.{Wire}
use Rattle.fab_fabric.proofs.Numbered.{one_wire}
use Rattle.fab_legal.specs.Steps.{HasPin, pin_wire}
use Rattle.fab_ways_laws.proofs.InputPins.{pin_index}

abbrev bel_in : PlainWire → ℕ
bel_in (source_of row bit) = 0
bel_in (dest_of row bit) = 0
bel_in (pin_of bel pin) = bel

abbrev pin_in : PlainWire → ℕ
pin_in (source_of row bit) = 0
pin_in (dest_of row bit) = 0
pin_in (pin_of bel pin) = pin

module _ (fabric : PlainFabric) where
  pub same_pin : (a b : Site) (pin other : ℕ) → HasPin fabric a pin → HasPin fabric b other → pin_wire fabric a pin ≡ pin_wire fabric b other → (a ≡ b) × (pin ≡ other)
  same_pin a b pin other has_a has_b same =
      let moved : IsIndexOf fabric (pin_wire fabric a pin).0 b.x b.y (pin_of b.bel other) =
      subst (λ (w : Wire). IsIndexOf fabric w.0 b.x b.y (pin_of b.bel other)) (sym same) (pin_index fabric b other has_b) in
      let g = one_wire fabric (pin_wire fabric a pin).0 a.x a.y b.x b.y (pin_of a.bel pin) (pin_of b.bel other) (pin_index fabric a pin has_a) moved in
      let bels : a.bel ≡ b.bel = ap bel_in g.2 in
      ((λ j. record { x = g.0 j; y = g.1 j; bel = bels j }), ap pin_in g.2)
