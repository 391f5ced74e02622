-- The tables give nodes.
use Rattle.std.proofs.Common.{◌≡◌, ℕ, ◌+◌, ◌<◌, List, length, get_or, Contains, Option, Some, ◌∷◌, ◌++◌, [], sym, ap, subst, ◌∙◌, inl, inr, arith}
use Rattle.fab_model.specs.Grid.{PlainFabric}
use Rattle.fab_fabric.specs.Fabric.{AreTiles, IsFabric, wire_count}
use Rattle.std.proofs.lemmas.Bool.{cases_lt}
use Rattle.fab_model.specs.Wires.{PlainWire}
use Rattle.fab_fabric.specs.Wires.{numbered_wire, IsIndexOf, wire_join_from}
use Rattle.fab_fabric.specs.declared.wire.Wire.{Wire}
use Rattle.fab_fabric.proofs.Numbered.{wire_within, some_wire}
use Rattle.fab_netlist.proofs.Stepping.{all_of}
use Rattle.fab_legal.specs.Steps.{IsPaired, IsJoined}
use Rattle.fab_astar.specs.Scene.{IsGraph}
use Rattle.fab_ways_laws.specs.Edges.{ends}
use Rattle.fab_ways_laws.proofs.Ends.{ends_are_steps}
use Rattle.fab_ways_laws.proofs.Origins.{to_join}
use Rattle.fab_nodes_laws.specs.Nodes.{IsMatrixInput, IsHop, AreNodes}
use Rattle.fab_nodes_laws.proofs.MatrixInputs.{driven_or_input, join_driven, join_input}
use Rattle.fab_route.specs.inner.Numbers.{AreNumbered, AreBefore, AreFlat}
use Rattle.fab_route.proofs.Numbered.{last_of, before_last}
use Rattle.fab_route.specs.Over.{IsOver}
use Rattle.fab_route.specs.Plain.{PlainNodes, graph_of, numbering_of, AreReadable}

-- the output that is joined to a wire
pub joined_output : (fabric : PlainFabric) (wire : Wire) (found : Option Wire) → AreTiles fabric → wire.0 < wire_count fabric →
    ((x y : ℕ) (plain : PlainWire) → IsIndexOf fabric wire.0 x y plain → found ≡ wire_join_from fabric x y plain) → (output : Wire) → IsJoined fabric output wire → found ≡ Some output
joined_output fabric wire found tiles low join output j =
    let w = some_wire fabric wire.0 low in join w.0 w.1 w.2 w.3 ∙ to_join fabric tiles wire output w.0 w.1 w.2 w.3 j

-- the outputs of one wire more
pub more_before : (fabric : PlainFabric) (n : ℕ) (wires outputs new : List ℕ) (output : ℕ) → length outputs ≡ n → AreBefore fabric n wires outputs → new ≡ outputs ++ output ∷ [] →
    ((other : Wire) → IsJoined fabric other (numbered_wire (get_or wires n 0)) → output ≡ other.0) → AreBefore fabric (n + 1) wires new
more_before fabric n wires outputs new output long before is own node other low joined =
    ap (λ l. get_or l node 0) is
    ∙ elim (cases_lt node n) [
      | inl less ↦ before_last outputs output node (omega (arith, less, long)) ∙ before node other less joined
      | inr past ↦ (
          let same : node ≡ n = omega (arith, low, past) in
          last_of outputs output node (omega (arith, same, long)) ∙ own other (subst (λ (k : ℕ). IsJoined fabric other (numbered_wire (get_or wires k 0))) same joined))
    ]

module _ (fabric : PlainFabric) (is_fabric : IsFabric fabric) (tiles : AreTiles fabric) (wires outputs nodes starts targets : List ℕ) (numbers : AreNumbered fabric (wire_count fabric) wires nodes)
    (before : AreBefore fabric (length wires) wires outputs) (flat : AreFlat fabric wires nodes (length wires) starts targets) where
  abbrev pub plain : PlainNodes
  plain = record { wires = wires; outputs = outputs; nodes = nodes; starts = starts; targets = targets }

  wire_in : (wire : Wire) → IsMatrixInput fabric wire → wire.0 < wire_count fabric
  wire_in wire is = wire_within fabric wire.0 is.x is.y is.plain is.is_wire

  pub node_in : (wire : Wire) → IsMatrixInput fabric wire → get_or nodes wire.0 0 < length wires
  node_in wire is = numbers.inside wire.0 (wire_in wire is) is

  pub node_there : (wire : Wire) → IsMatrixInput fabric wire → get_or wires (get_or nodes wire.0 0) 0 ≡ wire.0
  node_there wire is = numbers.there wire.0 (wire_in wire is) is

  -- the end of an edge is of a pair
  end_paired : (node : ℕ) (end : Wire) → node < length wires → Contains (ends fabric (get_or wires node 0)) end → IsPaired fabric (numbered_wire (get_or wires node 0)) end
  end_paired node end low here = elim ((ends_are_steps fabric (get_or wires node 0) end tiles (numbers.low node low)).0 here) [
    | inl pair ↦ pair
    | inr joined ↦ absurd (driven_or_input fabric (numbered_wire (get_or wires node 0)) (join_driven fabric tiles (numbered_wire (get_or wires node 0)) end joined) (numbers.inputs node low))
  ]

  leads : (from to : ℕ) → from < length wires → Contains ((graph_of plain).ends from) to → (to < length wires) × IsHop fabric (numbering_of plain) from to
  leads from to low here =
      let found = (flat.each from low).sound to here in
      let end = found.0 in
      let wire = found.1 in
      let input = join_input fabric tiles end wire found.3 in
      let inside : to < length wires = subst (λ (k : ℕ). k < length wires) (sym found.4) (node_in wire input) in
      let wire_is : get_or wires to 0 ≡ wire.0 = ap (λ k. get_or wires k 0) found.4 ∙ node_there wire input in
      let joined : IsJoined fabric end (numbered_wire (get_or wires to 0)) = subst (λ (w : ℕ). IsJoined fabric end (numbered_wire w)) (sym wire_is) found.3 in
      let output_is : get_or outputs to 0 ≡ end.0 = before to end inside joined in (
        inside,
        record {
          pair = subst (λ (w : ℕ). IsPaired fabric (numbered_wire (get_or wires from 0)) (numbered_wire w)) (sym output_is) (end_paired from end low found.2);
          join = subst (λ (w : ℕ). IsJoined fabric (numbered_wire w) (numbered_wire (get_or wires to 0))) (sym output_is) joined;
        },
      )

  led_to : (from to : ℕ) → from < length wires → to < length wires → IsHop fabric (numbering_of plain) from to → Contains ((graph_of plain).ends from) to
  led_to from to low inside hop =
      let end = numbered_wire (get_or outputs to 0) in
      let here = (ends_are_steps fabric (get_or wires from 0) end tiles (numbers.low from low)).1 (inl hop.pair) in
      subst (λ (k : ℕ). Contains ((graph_of plain).ends from) k) (numbers.back to inside) ((flat.each from low).whole end (numbered_wire (get_or wires to 0)) here hop.join)

  pub are_nodes : AreNodes fabric (graph_of plain) (numbering_of plain)
  are_nodes = record {
    inputs = numbers.inputs;
    numbered = λ wire is. (get_or nodes wire.0 0, node_in wire is, node_there wire is);
    apart = λ first second low low2 same. sym (numbers.back first low) ∙ ap (λ w. get_or nodes w 0) same ∙ numbers.back second low2;
    outputs = λ node output low joined. before node output low joined;
    ends = λ from to low. (leads from to low, λ hop. led_to from to low hop.0 hop.1);
  }

  pub is_graph : IsGraph (graph_of plain)
  is_graph = record {
    inside = λ v low. all_of (λ w. w < length wires) ((graph_of plain).ends v) (λ w here. (leads v w low here).0);
    few = omega (arith, numbers.few, is_fabric.few_wires);
  }

  pub is_over : IsOver fabric plain
  is_over = record { are_nodes = are_nodes; is_graph = is_graph; inside = node_in; there = node_there; all = numbers.long }

  pub are_readable : length outputs ≡ length wires → AreReadable plain
  are_readable long = record {
    few = omega (arith, numbers.few, is_fabric.few_wires);
    as_many = long;
    begins = flat.long;
    order = flat.order;
    within = flat.within;
  }

-- ---- tables that are borrowed

pub before_of : (fabric : PlainFabric) (lent wires outputs : List ℕ) → lent ≡ wires → AreBefore fabric (length lent) lent outputs → AreBefore fabric (length wires) wires outputs
before_of fabric lent wires outputs same before = subst (λ (ws : List ℕ). AreBefore fabric (length ws) ws outputs) same before

pub flat_of : (fabric : PlainFabric) (lent wires lent2 nodes starts targets : List ℕ) → lent ≡ wires → lent2 ≡ nodes → AreFlat fabric lent lent2 (length lent) starts targets → AreFlat fabric wires nodes (length wires) starts targets
flat_of fabric lent wires lent2 nodes starts targets same same2 flat =
    subst (λ (ns : List ℕ). AreFlat fabric wires ns (length wires) starts targets) same2 (subst (λ (ws : List ℕ). AreFlat fabric ws lent2 (length ws) starts targets) same flat)
