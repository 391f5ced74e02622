-- The wires of a tree are the inputs of its nodes, the outputs before them, and its sinks.
use Rattle.std.proofs.Common.{◌≡◌, ◌⊎◌, ℕ, ◌<◌, List, [], ◌∷◌, ◌++◌, Contains, refl, sym, ap, subst, inl, inr, append-nil, append_assoc}
use Rattle.fab_model.specs.Grid.{PlainFabric}
use Rattle.fab_fabric.specs.Fabric.{AreTiles}
use Rattle.fab_fabric.specs.Wires.{numbered_wire}
use Rattle.fab_fabric.specs.declared.wire.Wire.{Wire}
use Rattle.fab_netlist.specs.Packed.{PlainPacked}
use Rattle.fab_netlist.proofs.Members.{in_none, first_or_later, first_in, later_in, in_left, in_right}
use Rattle.fab_implementation.specs.Plain.{PlainImplementation}
use Rattle.fab_legal.specs.Legal.{ArePlaced}
use Rattle.fab_legal.specs.Steps.{IsJoined}
use Rattle.fab_legal.specs.Nets.{Net, IsRoot}
use Rattle.fab_legal.proofs.Members.{in_either}
use Rattle.fab_astar.specs.Walks.{Graph, Walk}
use Rattle.fab_astar.specs.Walks.Walk.{begins, goes}
use Rattle.fab_pathfinder.specs.Rounds.{Paths, nodes_of, AreGrown}
use Rattle.fab_ways_laws.proofs.InputPins.{IsInputPin, input_index}
use Rattle.fab_ways_laws.specs.Routing.{wires_of}
use Rattle.fab_nodes_laws.specs.Nodes.{IsMatrixInput, Numbering, IsHop, AreNodes}
use Rattle.fab_nodes_laws.specs.Nets.{AreGoals, wires_along, wire_paths}
use Rattle.fab_nodes_laws.proofs.MatrixInputs.{IsDriven, driven_or_input, join_driven, one_join, pin_unjoined, input_pin_driven, root_unjoined}

module _ (fabric : PlainFabric) (graph : Graph) (numbering : Numbering) (tiles : AreTiles fabric) (nodes : AreNodes fabric graph numbering) where
  abbrev pub input_of : ℕ → Wire
  input_of node = numbered_wire (numbering.wire node)

  abbrev pub output_of : ℕ → Wire
  output_of node = numbered_wire (numbering.output node)

  -- the output of a node is joined to its input
  abbrev pub HasOutput : ℕ → Type 0
  HasOutput node = IsJoined fabric (output_of node) (input_of node)

  pub data IsWireOf (tree sinks : List ℕ) (wire : ℕ) : Type 0 where
    a_sink : Contains sinks wire → IsWireOf tree sinks wire
    a_node : (node : ℕ) → Contains tree node → numbering.wire node ≡ wire → IsWireOf tree sinks wire
    an_output : (node : ℕ) → Contains tree node → HasOutput node → numbering.output node ≡ wire → IsWireOf tree sinks wire

  -- these are the wires of the tree
  pub record IsWireTree (tree wires sinks : List ℕ) : Type 0 where
    pub low : (node : ℕ) → Contains tree node → node < graph.nodes
    pub held : (node : ℕ) → Contains tree node → Contains wires (numbering.wire node)
    pub before : (node : ℕ) → Contains tree node → HasOutput node → Contains wires (numbering.output node)
    pub kinds : (wire : ℕ) → Contains wires wire → IsWireOf tree sinks wire

  pub no_wires : IsWireTree [] [] []
  no_wires = record {
    low = λ node here. absurd (in_none node here);
    held = λ node here. absurd (in_none node here);
    before = λ node here joined. absurd (in_none node here);
    kinds = λ wire here. absurd (in_none wire here);
  }

  abbrev pub ArePins : List ℕ → Type 0
  ArePins sinks = (sink : ℕ) → Contains sinks sink → IsInputPin fabric (numbered_wire sink)

  pub no_join : (sink : ℕ) (to : Wire) → IsInputPin fabric (numbered_wire sink) → IsJoined fabric (numbered_wire sink) to → ⊥
  no_join sink to pin joined = pin_unjoined fabric tiles (numbered_wire sink) to pin.site.x pin.site.y pin.site.bel pin.pin (input_index fabric (numbered_wire sink) pin) joined

  pub no_input : (sink : ℕ) → IsInputPin fabric (numbered_wire sink) → IsMatrixInput fabric (numbered_wire sink) → ⊥
  no_input sink pin is = driven_or_input fabric (numbered_wire sink) (input_pin_driven fabric tiles (numbered_wire sink) pin) is

  same_output : (first second : ℕ) → HasOutput first → HasOutput second → first < graph.nodes → second < graph.nodes → numbering.output first ≡ numbering.output second → first ≡ second
  same_output first second one other low few same =
      nodes.apart first second low few (ap (λ (w : Wire). w.0)
      (one_join fabric tiles (output_of second) (input_of first) (input_of second) (subst (λ (n : ℕ). IsJoined fabric (numbered_wire n) (input_of first)) same one) other))

  module _ (tree wires sinks : List ℕ) (is : IsWireTree tree wires sinks) (pins : ArePins sinks) where
    pub node_held : (node : ℕ) → node < graph.nodes → Contains wires (numbering.wire node) → Contains tree node
    node_held node low here = by_kind (is.kinds (numbering.wire node) here)
      where
        by_kind : IsWireOf tree sinks (numbering.wire node) → Contains tree node
        by_kind (a_sink inside) = absurd (no_input (numbering.wire node) (pins (numbering.wire node) inside) (nodes.inputs node low))
        by_kind (a_node other inside same) = subst (λ (n : ℕ). Contains tree n) (nodes.apart other node (is.low other inside) low same) inside
        by_kind (an_output other inside joined same) =
            absurd (driven_or_input fabric (input_of node) (subst (λ (n : ℕ). IsDriven fabric (numbered_wire n)) same (join_driven fabric tiles (output_of other) (input_of other) joined)) (nodes.inputs node low))

    pub output_held : (node : ℕ) → node < graph.nodes → HasOutput node → Contains wires (numbering.output node) → Contains tree node
    output_held node low joined here = by_kind (is.kinds (numbering.output node) here)
      where
        by_kind : IsWireOf tree sinks (numbering.output node) → Contains tree node
        by_kind (a_sink inside) = absurd (no_join (numbering.output node) (input_of node) (pins (numbering.output node) inside) joined)
        by_kind (a_node other inside same) =
            absurd (driven_or_input fabric (output_of node) (join_driven fabric tiles (output_of node) (input_of node) joined)
            (subst (λ (n : ℕ). IsMatrixInput fabric (numbered_wire n)) same (nodes.inputs other (is.low other inside))))
        by_kind (an_output other inside own same) = subst (λ (n : ℕ). Contains tree n) (same_output other node own joined (is.low other inside) low same) inside

    pub sink_new : (sink : ℕ) → IsInputPin fabric (numbered_wire sink) → (Contains sinks sink → ⊥) → Contains wires sink → ⊥
    sink_new sink pin other here = by_kind (is.kinds sink here)
      where
        by_kind : IsWireOf tree sinks sink → ⊥
        by_kind (a_sink inside) = other inside
        by_kind (a_node node inside same) = no_input sink pin (subst (λ (n : ℕ). IsMatrixInput fabric (numbered_wire n)) same (nodes.inputs node (is.low node inside)))
        by_kind (an_output node inside joined same) = no_join sink (input_of node) pin (subst (λ (n : ℕ). IsJoined fabric (numbered_wire n) (input_of node)) same joined)

  -- ---- the wires of a walk

  module _ (tree starts : List ℕ) (low : (node : ℕ) → Contains starts node → node < graph.nodes) where
    pub along : {node : ℕ} {path : List ℕ} → Walk graph tree starts node path → (next : ℕ) → wires_along numbering (next ∷ path) ≡ numbering.wire next ∷ (numbering.output next ∷ wires_along numbering path)
    along {node} {path} (begins start) next = refl
    along {node} {path} (goes earlier edge free) next = refl

    pub ends_low : {node : ℕ} {path : List ℕ} → Walk graph tree starts node path → node < graph.nodes
    ends_low {node} {path} (begins start) = low node start
    ends_low {node} {path} (goes {node = from} earlier edge free) = ((nodes.ends from node (ends_low earlier)).0 edge).0

    pub hop_of : {from : ℕ} {path : List ℕ} → Walk graph tree starts from path → (next : ℕ) → Contains (graph.ends from) next → IsHop fabric numbering from next
    hop_of {from} {path} walk next edge = ((nodes.ends from next (ends_low walk)).0 edge).1

    pub path_low : {node : ℕ} {path : List ℕ} → Walk graph tree starts node path → (v : ℕ) → Contains path v → v < graph.nodes
    path_low {node} {path} (begins start) v here = elim (first_or_later node [] v here) [
      | inl same ↦ subst (λ (n : ℕ). n < graph.nodes) same (low node start)
      | inr none ↦ absurd (in_none v none)
    ]
    path_low {node} {path} (goes {path = front} earlier edge free) v here = elim (first_or_later node front v here) [
      | inl same ↦ subst (λ (n : ℕ). n < graph.nodes) same (ends_low (goes earlier edge free))
      | inr later ↦ path_low earlier v later
    ]

    pub path_held : {node : ℕ} {path : List ℕ} → Walk graph tree starts node path → (v : ℕ) → Contains path v → Contains (wires_along numbering path) (numbering.wire v)
    path_held {node} {path} (begins start) v here = elim (first_or_later node [] v here) [
      | inl same ↦ first_in (numbering.wire node) [] (numbering.wire v) (ap numbering.wire same)
      | inr none ↦ absurd (in_none v none)
    ]
    path_held {node} {path} (goes {path = front} earlier edge free) v here =
        subst (λ (ws : List ℕ). Contains ws (numbering.wire v)) (sym (along earlier node)) (elim (first_or_later node front v here) [
          | inl same ↦ first_in (numbering.wire node) (numbering.output node ∷ wires_along numbering front) (numbering.wire v) (ap numbering.wire same)
          | inr later ↦ later_in (numbering.wire node) (numbering.output node ∷ wires_along numbering front) (numbering.wire v)
              (later_in (numbering.output node) (wires_along numbering front) (numbering.wire v) (path_held earlier v later))
        ])

    -- the output before a node, unless the walk begins there
    pub path_before : {node : ℕ} {path : List ℕ} → Walk graph tree starts node path → (v : ℕ) → Contains path v → Contains starts v ⊎ Contains (wires_along numbering path) (numbering.output v)
    path_before {node} {path} (begins start) v here = elim (first_or_later node [] v here) [
      | inl same ↦ inl (subst (λ (n : ℕ). Contains starts n) same start)
      | inr none ↦ absurd (in_none v none)
    ]
    path_before {node} {path} (goes {path = front} earlier edge free) v here = elim (first_or_later node front v here) [
      | inl same ↦ inr (subst (λ (ws : List ℕ). Contains ws (numbering.output v)) (sym (along earlier node))
          (later_in (numbering.wire node) (numbering.output node ∷ wires_along numbering front) (numbering.output v)
          (first_in (numbering.output node) (wires_along numbering front) (numbering.output v) (ap numbering.output same))))
      | inr later ↦ elim (path_before earlier v later) [
        | inl start ↦ inl start
        | inr inside ↦ inr (subst (λ (ws : List ℕ). Contains ws (numbering.output v)) (sym (along earlier node))
            (later_in (numbering.wire node) (numbering.output node ∷ wires_along numbering front) (numbering.output v)
            (later_in (numbering.output node) (wires_along numbering front) (numbering.output v) inside)))
      ]
    ]

    pub path_kinds : {node : ℕ} {path : List ℕ} → Walk graph tree starts node path → (wire : ℕ) → Contains (wires_along numbering path) wire → IsWireOf path [] wire
    path_kinds {node} {path} (begins start) wire here = elim (first_or_later (numbering.wire node) [] wire here) [
      | inl same ↦ a_node node (first_in node [] node refl) same
      | inr none ↦ absurd (in_none wire none)
    ]
    path_kinds {node} {path} (goes {path = front} earlier edge free) wire here =
        elim (first_or_later (numbering.wire node) (numbering.output node ∷ wires_along numbering front) wire (subst (λ (ws : List ℕ). Contains ws wire) (along earlier node) here)) [
          | inl same ↦ a_node node (first_in node front node refl) same
          | inr more ↦ elim (first_or_later (numbering.output node) (wires_along numbering front) wire more) [
            | inl same ↦ an_output node (first_in node front node refl) (hop_of earlier node edge).join same
            | inr later ↦ longer (path_kinds earlier wire later)
          ]
        ]
      where
        longer : IsWireOf front [] wire → IsWireOf (node ∷ front) [] wire
        longer (a_sink inside) = absurd (in_none wire inside)
        longer (a_node v inside same) = a_node v (later_in node front v inside) same
        longer (an_output v inside joined same) = an_output v (later_in node front v inside) joined same

  -- ---- growth

  module _ (packed : PlainPacked) (placement : PlainImplementation) (placed : ArePlaced fabric packed placement) (net : Net) (roots : List ℕ)
      (are_roots : (node : ℕ) → Contains roots node → (node < graph.nodes) × IsRoot fabric placement net (input_of node)) where
    pub starts_low : (tree wires sinks : List ℕ) → IsWireTree tree wires sinks → (node : ℕ) → Contains (tree ++ roots) node → node < graph.nodes
    starts_low tree wires sinks is node here = elim (in_either tree roots node here) [ inl before ↦ is.low node before | inr root ↦ (are_roots node root).0 ]

    module _ (tree wires done : List ℕ) (is : IsWireTree tree wires done) (sink goal : ℕ) (path : List ℕ) (walk : Walk graph tree (tree ++ roots) goal path) where
      abbrev starts : List ℕ
      starts = tree ++ roots

      abbrev new : List ℕ
      new = sink ∷ wires_along numbering path

      starts_in : (node : ℕ) → Contains starts node → node < graph.nodes
      starts_in = starts_low tree wires done is

      older : (wire : ℕ) → IsWireOf tree done wire → IsWireOf (tree ++ path) (done ++ sink ∷ []) wire
      older wire (a_sink inside) = a_sink (in_left done (sink ∷ []) wire inside)
      older wire (a_node v inside same) = a_node v (in_left tree path v inside) same
      older wire (an_output v inside joined same) = an_output v (in_left tree path v inside) joined same

      newer : (wire : ℕ) → IsWireOf path [] wire → IsWireOf (tree ++ path) (done ++ sink ∷ []) wire
      newer wire (a_sink inside) = absurd (in_none wire inside)
      newer wire (a_node v inside same) = a_node v (in_right tree path v inside) same
      newer wire (an_output v inside joined same) = an_output v (in_right tree path v inside) joined same

      pub grown_by : IsWireTree (tree ++ path) (wires ++ new) (done ++ sink ∷ [])
      grown_by = record {
        low = λ node here. elim (in_either tree path node here) [ inl before ↦ is.low node before | inr now ↦ path_low tree starts starts_in walk node now ];
        held = λ node here. elim (in_either tree path node here) [
          | inl before ↦ in_left wires new (numbering.wire node) (is.held node before)
          | inr now ↦ in_right wires new (numbering.wire node) (later_in sink (wires_along numbering path) (numbering.wire node) (path_held tree starts starts_in walk node now))
        ];
        before = λ node here joined. elim (in_either tree path node here) [
          | inl before ↦ in_left wires new (numbering.output node) (is.before node before joined)
          | inr now ↦ elim (path_before tree starts starts_in walk node now) [
            | inl start ↦ elim (in_either tree roots node start) [
              | inl before ↦ in_left wires new (numbering.output node) (is.before node before joined)
              | inr root ↦ absurd (root_unjoined fabric tiles packed placement placed net (output_of node) (input_of node) (are_roots node root).1 joined)
            ]
            | inr inside ↦ in_right wires new (numbering.output node) (later_in sink (wires_along numbering path) (numbering.output node) inside)
          ]
        ];
        kinds = λ wire here. elim (in_either wires new wire here) [
          | inl before ↦ older wire (is.kinds wire before)
          | inr now ↦ elim (first_or_later sink (wires_along numbering path) wire now) [
            | inl same ↦ a_sink (in_right done (sink ∷ []) wire (first_in sink [] wire same))
            | inr later ↦ newer wire (path_kinds tree starts starts_in walk wire later)
          ]
        ];
      }

    -- sink by sink
    pub grown_tree : (price : ℕ → ℕ) (tree wires done sinks : List ℕ) (goals : List (List ℕ)) (paths : Paths) → IsWireTree tree wires done → AreGoals fabric graph numbering sinks goals →
        AreGrown graph roots price tree goals paths → IsWireTree (tree ++ nodes_of paths) (wires ++ wires_of (wire_paths numbering sinks paths)) (done ++ sinks)
    grown_tree price tree wires done [] [] [] is are grown =
        subst (λ (t : List ℕ). IsWireTree t (wires ++ []) (done ++ [])) (sym (append-nil tree))
        (subst (λ (ws : List ℕ). IsWireTree tree ws (done ++ [])) (sym (append-nil wires)) (subst (λ (ss : List ℕ). IsWireTree tree wires ss) (sym (append-nil done)) is))
    grown_tree price tree wires done [] [] (path ∷ paths) is are grown = absurd grown
    grown_tree price tree wires done [] (goal ∷ goals) paths is are grown = absurd are
    grown_tree price tree wires done (sink ∷ sinks) [] paths is are grown = absurd are
    grown_tree price tree wires done (sink ∷ sinks) (goal ∷ goals) [] is are grown = absurd grown
    grown_tree price tree wires done (sink ∷ sinks) (goal ∷ goals) (path ∷ paths) is are grown =
        let new = sink ∷ wires_along numbering path in
        let now = grown_by tree wires done is sink grown.0.goal path grown.0.walk in
        let all = grown_tree price (tree ++ path) (wires ++ new) (done ++ sink ∷ []) sinks goals paths now are.1 grown.1 in
        subst (λ (t : List ℕ). IsWireTree t (wires ++ wires_of (wire_paths numbering (sink ∷ sinks) (path ∷ paths))) (done ++ (sink ∷ sinks))) (append_assoc tree path (nodes_of paths))
        (subst (λ (ws : List ℕ). IsWireTree ((tree ++ path) ++ nodes_of paths) ws (done ++ (sink ∷ sinks))) (append_assoc wires new (wires_of (wire_paths numbering sinks paths)))
        (subst (λ (ss : List ℕ). IsWireTree ((tree ++ path) ++ nodes_of paths) ((wires ++ new) ++ wires_of (wire_paths numbering sinks paths)) ss) (append_assoc done (sink ∷ []) sinks) all))
