-- Where no edge enters T of a pad, no feature chooses its input, and its select bits are 0.
use Rattle.std.proofs.Common.{◌≡◌, ℕ, zero, suc, List, Contains, Some, refl, sym, ap, ◌∙◌, arith, eqb-true, nat_eq}
use Rattle.std.specs.List.{All, flat_map}
use Rattle.std.specs.Option.{option_map_or}
use Rattle.fab_bits.specs.Bits.{number, digits}
use Rattle.fab_kinds.specs.Pins.{pad_t}
use Rattle.fab_model.specs.Tiles.{PlainTile, output_field}
use Rattle.fab_model.specs.Wires.{pin_of, wire_number}
use Rattle.fab_model.specs.Grid.{PlainFabric, tile_at}
use Rattle.fab_model.specs.Drive.{PlainBits, select_value}
use Rattle.fab_fabric.specs.Fabric.{IsFabric, AreTiles}
use Rattle.fab_fabric.specs.Wires.{wire_index, numbered_wire}
use Rattle.fab_netlist.specs.Packed.{PlainPacked}
use Rattle.fab_netlist.specs.Packing.{packed}
use Rattle.fab_implementation.specs.Plain.{Pad, Edge, PlainTree, PlainImplementation}
use Rattle.fab_legal.specs.Legal.{IsLegal}
use Rattle.fab_legal.specs.Steps.{pin_wire}
use Rattle.fab_legal.proofs.SinkLaw.{in_flat}
use Rattle.fab_fasm.specs.declared.feature.Feature.{Feature}
use Rattle.fab_gen_tile.specs.Words.{IsNamed}
use Rattle.fab_features.specs.Naming.{HasPrefixes}
use Rattle.fab_features.specs.Features.{IsBitMapOf, Chooses}
use Rattle.fab_features.specs.Design.{design_features}
use Rattle.fab_features.proofs.DesignLines.{found_in}
use Rattle.fab_features.proofs.DesignMap.{design_line, entered_by}
use Rattle.fab_settling_laws.specs.Released.{FirstZeroReleases}
use Rattle.fab_assemble.specs.Releasing.{BitMapsReleasePads}

no_bits : (width : ℕ) → number (digits width 0) ≡ 0
no_bits zero = refl
no_bits (suc width) = (let rest = no_bits width in omega (arith, rest))

module _ (fabric : PlainFabric) (packed : PlainPacked) (fixed : List Pad) (i : PlainImplementation) (legal : IsLegal fabric packed fixed i) (is_fabric : IsFabric fabric)
    (tiles : AreTiles fabric) (named : All IsNamed fabric.types) (prefixed : All HasPrefixes fabric.types) where
  -- a feature that chooses an input is of an edge
  chosen_entered : (x y output input : ℕ) (f : Feature) → Contains (design_features fabric packed i) f → Chooses fabric f x y output input →
      (tree : PlainTree) × (edge : Edge) × Contains i.trees tree × Contains tree.edges edge × (edge.1.0 ≡ wire_index fabric x y output)
  chosen_entered x y output input f there chooses =
      let entered = entered_by fabric packed fixed i legal is_fabric tiles named prefixed x y output input
      (design_line fabric packed fixed i legal is_fabric tiles named prefixed f there) chooses in
      let index = wire_index fabric x y output in
      let edges : List Edge = flat_map (λ (t : PlainTree). t.edges) i.trees in
      let found = found_in (λ (e : Edge). nat_eq e.1.0 index) edges entered.edge entered.entered in
      let tree = in_flat (λ (t : PlainTree). t.edges) i.trees entered.edge found.0 in
      (tree.0, entered.edge, tree.1, tree.2, eqb-true entered.edge.1.0 index found.1)

  -- so an output that no edge enters has select bits 0
  unentered_first : (bits : PlainBits) → IsBitMapOf fabric (design_features fabric packed i) bits → (x y output : ℕ) (tile : PlainTile) → tile_at fabric x y ≡ Some tile →
      ((tree : PlainTree) (edge : Edge) → Contains i.trees tree → Contains tree.edges edge → edge.1.0 ≡ wire_index fabric x y output → ⊥) →
      select_value tile (bits x y) output ≡ 0
  unentered_first bits is x y output tile tile_is none =
      ap number (is.unchosen x y output tile tile_is (λ f input there chooses.
      let edge = chosen_entered x y output input f there chooses in none edge.0 edge.1 edge.2 edge.3 edge.4))
      ∙ no_bits (output_field tile output).1

pub bit_maps_release_pads : FirstZeroReleases → BitMapsReleasePads
bit_maps_release_pads law fabric text netlist fixed i bits is_fabric tiles is_text made acyclic legal configures named prefixed bit_map site lists alone =
    let pin = wire_number lists.tile (pin_of site.bel pad_t) in
    let index_is : pin_wire fabric site pad_t ≡ numbered_wire (wire_index fabric site.x site.y pin) =
    ap (λ o. numbered_wire (wire_index fabric site.x site.y (option_map_or (λ (tile : PlainTile). wire_number tile (pin_of site.bel pad_t)) o 0))) lists.tile_is in
    law fabric text netlist fixed i bits is_fabric tiles is_text made acyclic legal configures site lists
    (unentered_first fabric (packed netlist) fixed i legal is_fabric tiles named prefixed bits bit_map site.x site.y pin lists.tile lists.tile_is
    (λ tree edge listed among is. alone tree edge listed among (ap numbered_wire is ∙ sym index_is)))
