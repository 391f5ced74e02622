-- What holds where a net begins, and goes from each point to those that copy it, holds of all wires of the net.
use Rattle.std.proofs.Common.{◌≡◌, ◌⊎◌, ◌<◌, ℕ, List, ◌++◌, length, refl, subst, inl, inr, Some, Contains}
use Rattle.std.proofs.lemmas.List.Elements.{Contains-append_left, Contains-append_cases}
use Rattle.fab_kinds.specs.declared.kind.Kind.{Kind}
use Rattle.fab_kinds.specs.Pins.{pin_names}
use Rattle.fab_meaning.specs.Points.{Point}
use Rattle.fab_model.specs.Tiles.{PlainTile}
use Rattle.fab_model.specs.Wires.{pin_of}
use Rattle.fab_model.specs.Grid.{PlainFabric, tile_at}
use Rattle.fab_fabric.specs.Fabric.{AreTiles}
use Rattle.fab_fabric.specs.declared.wire.Site.{Site}
use Rattle.fab_fabric.specs.declared.wire.Wire.{Wire}
use Rattle.fab_netlist.specs.Packed.{PlainPacked}
use Rattle.fab_implementation.specs.Plain.{Edge, Pad, PlainTree, PlainImplementation}
use Rattle.fab_implementation.specs.OnFabric.{kind_at}
use Rattle.fab_points_laws.specs.fab_legal_Nets.{Net, net_of, IsRoot, StandsIn, left_wires, entered_wires, Reached, root, step}
use Rattle.fab_points_laws.specs.fab_legal_Sinks.{Required}
use Rattle.fab_points_laws.specs.fab_legal_Steps.{pin_wire}
use Rattle.fab_points_laws.specs.fab_legal_Legal.{IsLegal}
use Rattle.fab_points_laws.proofs.fab_legal_Members.{from_mapped}
use Rattle.fab_points_laws.proofs.fab_tile_drives_laws_Members.{contains_map}
use Rattle.fab_points_laws.specs.fab_use_defs_Sites.{pin_point}
use Rattle.fab_points_laws.specs.fab_use_defs_Sources.{shows, HasSource}
use Rattle.fab_points_laws.proofs.Origins.{pin_index}
use Rattle.fab_runs_laws.proofs.Edges.{HasIt, along_edge}

module _ (fabric : PlainFabric) (packed : PlainPacked) (fixed : List Pad) (implementation : PlainImplementation) (are : AreTiles fabric) (legal : IsLegal fabric packed fixed implementation)
    (Q : Point → Type 0) (along : (p q : Point) → HasSource fabric packed implementation p (shows q) → Q q → Q p) where
  module _ (net : Net) (begins : (wire : Wire) → StandsIn implementation net wire → IsRoot fabric implementation net wire → HasIt fabric Q wire) where
    module _ (tree : PlainTree) (listed : Contains implementation.trees tree) (net_is : net_of implementation tree.net ≡ net) where
      -- a wire from which an edge leads is entered, or the net begins there
      begins_or_entered : (wire : Wire) → Contains (left_wires tree.edges) wire → Contains (entered_wires tree.edges) wire ⊎ IsRoot fabric implementation net wire
      begins_or_entered wire left =
          let e = from_mapped (λ (edge : Edge). edge.0) tree.edges wire left in
          let start = (legal.nets listed.0 tree listed.1 (listed.1, listed.2)).starts e.1.0 e.0 e.1.1 (e.1.1, e.1.2) in
          elim start [
            | inl entered ↦ inl (subst (λ (w : Wire). Contains (entered_wires tree.edges) w) e.2 entered)
            | inr begin ↦ inr (subst (λ (w : Wire). IsRoot fabric implementation net w) e.2 (subst (λ (n : Net). IsRoot fabric implementation n e.0.0) net_is begin))
          ]

      stands : (wire : Wire) → Contains (left_wires tree.edges ++ entered_wires tree.edges) wire → StandsIn implementation net wire
      stands wire has = record { tree = tree; listed = listed; net_is = net_is; has_wire = has }

      left_stands : (edge : Edge) → Contains tree.edges edge → Contains (left_wires tree.edges ++ entered_wires tree.edges) edge.0
      left_stands edge among =
          Contains-append_left (left_wires tree.edges) (entered_wires tree.edges) edge.0
          (contains_map (λ (edge : Edge). edge.0) tree.edges edge among)

      reached_has : (wire : Wire) → Reached tree.edges wire → Contains (left_wires tree.edges ++ entered_wires tree.edges) wire → HasIt fabric Q wire
      reached_has wire (root none) has =
          elim (Contains-append_cases (left_wires tree.edges) (entered_wires tree.edges) wire has) [
            | inl left ↦ elim (begins_or_entered wire left) [ inl entered ↦ absurd (none entered) | inr begin ↦ begins wire (stands wire has) begin ]
            | inr entered ↦ absurd (none entered)
          ]
      reached_has wire (step from among reached) has =
          along_edge fabric packed fixed implementation are legal Q along tree (from, wire) listed among (reached_has from reached (left_stands (from, wire) among))

      entered_has : (wire : Wire) → Contains (entered_wires tree.edges) wire → Contains (left_wires tree.edges ++ entered_wires tree.edges) wire → HasIt fabric Q wire
      entered_has wire entered has =
          let e = from_mapped (λ (edge : Edge). edge.1) tree.edges wire entered in
          let right = legal.reached listed.0 tree listed.1 (listed.1, listed.2) e.1.0 e.0 e.1.1 (e.1.1, e.1.2) in
          reached_has wire (subst (λ (w : Wire). Reached tree.edges w) e.2 right.reached) has

      wire_has : (wire : Wire) → Contains (left_wires tree.edges ++ entered_wires tree.edges) wire → HasIt fabric Q wire
      wire_has wire has =
          elim (Contains-append_cases (left_wires tree.edges) (entered_wires tree.edges) wire has) [
            | inl left ↦ elim (begins_or_entered wire left) [ inl entered ↦ entered_has wire entered has | inr begin ↦ begins wire (stands wire has) begin ]
            | inr entered ↦ entered_has wire entered has
          ]

    pub all_have : (wire : Wire) → StandsIn implementation net wire → HasIt fabric Q wire
    all_have wire s = wire_has s.tree s.listed s.net_is wire s.has_wire

    -- a required pin has it
    pub pin_has : (site : Site) (kind : Kind) (pin : ℕ) (tile : PlainTile) → Required fabric packed implementation net (pin_wire fabric site pin) → kind_at fabric site ≡ Some kind →
        pin < length (pin_names kind) → tile_at fabric site.x site.y ≡ Some tile → Q (pin_point tile site pin)
    pin_has site kind pin tile required kind_is few there =
        all_have (pin_wire fabric site pin) (legal.sinks net (pin_wire fabric site pin) required) site.x site.y tile (pin_of site.bel pin)
        (pin_index fabric packed fixed implementation are legal site.x site.y tile (pin_of site.bel pin) there (pin_wire fabric site pin) site kind pin refl kind_is few) there
