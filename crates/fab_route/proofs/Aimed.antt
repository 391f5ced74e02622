-- The nodes before a sink are those of the wires from which its edges come.
use Rattle.std.proofs.Common.{◌≡◌, ◌↔◌, ℕ, ◌+◌, ◌<◌, List, [], ◌∷◌, ◌++◌, map, take, length, Contains, Some, slice_get, sym, ap, subst, ◌∙◌, inl, inr, arith}
use Rattle.std.proofs.lemmas.List.{map-append}
use Rattle.std.proofs.lemmas.Option.{slice_get_within, get_or_from_slice_get}
use Rattle.fab_model.specs.Grid.{PlainFabric}
use Rattle.fab_fabric.specs.Fabric.{AreTiles, wire_count}
use Rattle.fab_fabric.specs.Wires.{numbered_wire}
use Rattle.fab_fabric.specs.declared.wire.Wire.{Wire}
use Rattle.fab_fabric.proofs.Numbered.{wire_within}
use Rattle.fab_netlist.specs.Plain.{IsAt}
use Rattle.fab_netlist.proofs.Members.{mapped_in}
use Rattle.fab_legal.specs.Steps.{IsPaired, IsJoined}
use Rattle.fab_legal.proofs.Members.{from_mapped, taken_more}
use Rattle.fab_ways_laws.specs.Edges.{origins}
use Rattle.fab_ways_laws.proofs.Origins.{origins_are_steps}
use Rattle.fab_nodes_laws.proofs.MatrixInputs.{pair_input}
use Rattle.fab_route.specs.Plain.{PlainNodes, graph_of, numbering_of, node_of}
use Rattle.fab_route.specs.Over.{IsOver, IsBefore}

module _ (fabric : PlainFabric) (tiles : AreTiles fabric) (nodes : PlainNodes) (over : IsOver fabric nodes) (sink : Wire) (low : sink.0 < wire_count fabric) (unjoined : (from : Wire) → IsJoined fabric from sink → ⊥) where
  origin_paired : (from : Wire) → Contains (origins fabric sink.0) from → IsPaired fabric from sink
  origin_paired from here = elim ((origins_are_steps fabric sink.0 from tiles low).0 here) [
    | inl pair ↦ pair
    | inr joined ↦ absurd (unjoined from joined)
  ]

  -- what is read of the table of nodes
  pub origin_inside : (list : List Wire) (i : ℕ) (from : Wire) → list ≡ origins fabric sink.0 → slice_get list i ≡ Some from → from.0 < length nodes.nodes
  origin_inside list i from same read =
      let here : Contains list from = (i, slice_get_within list i from read, get_or_from_slice_get list i from from read) in
      let input = pair_input fabric tiles from sink (origin_paired from (subst (λ (ws : List Wire). Contains ws from) same here)) in
      omega (arith, wire_within fabric from.0 input.x input.y input.plain input.is_wire, over.all)

  pub goals_are : (goals : List ℕ) → goals ≡ map (node_of nodes) (origins fabric sink.0) → (node : ℕ) → Contains goals node ↔ IsBefore fabric nodes sink node
  goals_are goals same node = (forth, back)
    where
      forth : Contains goals node → IsBefore fabric nodes sink node
      forth here =
          let found = from_mapped (node_of nodes) (origins fabric sink.0) node (subst (λ (ns : List ℕ). Contains ns node) same here) in
          let from = found.0 in
          let pair = origin_paired from found.1 in
          let input = pair_input fabric tiles from sink pair in
          let wire_is : (numbering_of nodes).wire node ≡ from.0 = ap (λ k. (numbering_of nodes).wire k) (sym found.2) ∙ over.there from input in
          record {
            inside = subst (λ (k : ℕ). k < (graph_of nodes).nodes) found.2 (over.inside from input);
            pair = subst (λ (w : ℕ). IsPaired fabric (numbered_wire w) sink) (sym wire_is) pair;
          }

      back : IsBefore fabric nodes sink node → Contains goals node
      back is =
          let from = numbered_wire ((numbering_of nodes).wire node) in
          let input = pair_input fabric tiles from sink is.pair in
          let here = mapped_in (node_of nodes) (origins fabric sink.0) from ((origins_are_steps fabric sink.0 from tiles low).1 (inl is.pair)) in
          let own : node_of nodes from ≡ node = over.are_nodes.apart (node_of nodes from) node (over.inside from input) is.inside (over.there from input) in
          subst (λ (ns : List ℕ). Contains ns node) (sym same) (subst (λ (k : ℕ). Contains (map (node_of nodes) (origins fabric sink.0)) k) own here)

-- one origin more
pub one_goal : (nodes : PlainNodes) (origins : List Wire) (i : ℕ) (from : Wire) (goals new : List ℕ) (node : ℕ) → slice_get origins i ≡ Some from → goals ≡ map (node_of nodes) (take i origins) → new ≡ goals ++ node ∷ [] →
    node ≡ node_of nodes from → new ≡ map (node_of nodes) (take (i + 1) origins)
one_goal nodes origins i from goals new node read so_far is node_is =
    let at : IsAt origins i from = (slice_get_within origins i from read, get_or_from_slice_get origins i from from read) in
    is ∙ ap (λ l. l ++ node ∷ []) so_far ∙ ap (λ k. map (node_of nodes) (take i origins) ++ k ∷ []) node_is
    ∙ sym (ap (map (node_of nodes)) (taken_more origins i from at) ∙ map-append (node_of nodes) (take i origins) (from ∷ []))
