-- A node, its wire and the output before it have equally many users.
use Rattle.std.proofs.Common.{◌≡◌, ◌⊎◌, ℕ, zero, suc, ◌-◌, ◌<◌, ◌≤◌, Bool, if◌then◌else◌, List, [], ◌∷◌, map, length, take, drop, get_or, AllPairs, Contains, refl, ap, subst, inl, inr, arith}
use Rattle.std.proofs.lemmas.Bool.{cases_Bool}
use Rattle.std.proofs.lemmas.List.Sums.{sum_by-cons}
use Rattle.fab_model.specs.Grid.{PlainFabric}
use Rattle.fab_fabric.specs.Fabric.{AreTiles}
use Rattle.fab_netlist.proofs.Members.{in_none, first_in, later_in}
use Rattle.fab_astar.specs.Walks.{Graph}
use Rattle.fab_pathfinder.specs.Rounds.{Paths, nodes_of, users, past_of}
use Rattle.fab_ways_laws.specs.Routing as ways
use Rattle.fab_ways_laws.specs.Routing.{has, wires_of}
use Rattle.fab_ways_laws.proofs.Lists.{pairs_head, pairs_tail}
use Rattle.fab_ways_laws.proofs.Walks.{has_in, in_has}
use Rattle.fab_nodes_laws.specs.Nodes.{Numbering, AreNodes}
use Rattle.fab_nodes_laws.specs.Nets.{wire_paths, wire_trees}
use Rattle.fab_nodes_laws.proofs.Trees.{HasOutput, IsWireOf, a_sink, a_node, an_output, IsWireTree, ArePins, node_held, output_held}
use Rattle.fab_nodes_laws.proofs.WalkLaw.{same_test}

abbrev one_if : Bool → ℕ
one_if b = if b then 1 else 0

-- ---- parts of the lists of trees

pub take_trees : (numbering : Numbering) (k : ℕ) (sinks : List (List ℕ)) (trees : List Paths) → take k (wire_trees numbering sinks trees) ≡ wire_trees numbering (take k sinks) (take k trees)
take_trees numbering zero sinks trees = refl
take_trees numbering (suc k) [] trees = refl
take_trees numbering (suc k) (of_net ∷ sinks) [] = refl
take_trees numbering (suc k) (of_net ∷ sinks) (tree ∷ trees) = ap (λ (ts : List Paths). wire_paths numbering of_net tree ∷ ts) (take_trees numbering k sinks trees)

pub drop_trees : (numbering : Numbering) (k : ℕ) (sinks : List (List ℕ)) (trees : List Paths) → drop k (wire_trees numbering sinks trees) ≡ wire_trees numbering (drop k sinks) (drop k trees)
drop_trees numbering zero sinks trees = refl
drop_trees numbering (suc k) [] trees = refl
drop_trees numbering (suc k) (of_net ∷ sinks) [] = none (drop k sinks)
  where
    none : (ss : List (List ℕ)) → [] ≡ wire_trees numbering ss []
    none [] = refl
    none (s ∷ ss) = refl
drop_trees numbering (suc k) (of_net ∷ sinks) (tree ∷ trees) = drop_trees numbering k sinks trees

pub no_paths : (numbering : Numbering) (sinks : List ℕ) → wire_paths numbering sinks [] ≡ []
no_paths numbering [] = refl
no_paths numbering (sink ∷ sinks) = refl

module _ (fabric : PlainFabric) (graph : Graph) (numbering : Numbering) (tiles : AreTiles fabric) (nodes : AreNodes fabric graph numbering) where
  -- each tree has its wires
  abbrev pub AreWireTrees : (sinks : List (List ℕ)) → (trees : List Paths) → Type 0
  AreWireTrees [] [] = Unit {0}
  AreWireTrees [] (tree ∷ trees) = ⊥
  AreWireTrees (of_net ∷ sinks) [] = ⊥
  AreWireTrees (of_net ∷ sinks) (tree ∷ trees) =
      (IsWireTree fabric graph numbering tiles nodes (nodes_of tree) (wires_of (wire_paths numbering of_net tree)) of_net × ArePins fabric graph numbering tiles nodes of_net) × AreWireTrees sinks trees

  pub take_are : (k : ℕ) (sinks : List (List ℕ)) (trees : List Paths) → AreWireTrees sinks trees → AreWireTrees (take k sinks) (take k trees)
  take_are zero sinks trees are = tt
  take_are (suc k) [] [] are = tt
  take_are (suc k) [] (tree ∷ trees) are = absurd are
  take_are (suc k) (of_net ∷ sinks) [] are = absurd are
  take_are (suc k) (of_net ∷ sinks) (tree ∷ trees) are = (are.0, take_are k sinks trees are.1)

  pub drop_are : (k : ℕ) (sinks : List (List ℕ)) (trees : List Paths) → AreWireTrees sinks trees → AreWireTrees (drop k sinks) (drop k trees)
  drop_are zero sinks trees are = are
  drop_are (suc k) [] [] are = tt
  drop_are (suc k) [] (tree ∷ trees) are = absurd are
  drop_are (suc k) (of_net ∷ sinks) [] are = absurd are
  drop_are (suc k) (of_net ∷ sinks) (tree ∷ trees) are = drop_are k sinks trees are.1

  -- tree by tree, by the places of nets
  pub all_are : (sinks : List (List ℕ)) (trees : List Paths) → length trees ≡ length sinks →
      ((k : ℕ) → k < length sinks → IsWireTree fabric graph numbering tiles nodes (nodes_of (get_or trees k [])) (wires_of (wire_paths numbering (get_or sinks k []) (get_or trees k []))) (get_or sinks k [])
      × ArePins fabric graph numbering tiles nodes (get_or sinks k [])) →
      AreWireTrees sinks trees
  all_are [] [] many each = tt
  all_are [] (tree ∷ trees) many each = absurd (omega (arith, many))
  all_are (of_net ∷ sinks) [] many each = absurd (omega (arith, many))
  all_are (of_net ∷ sinks) (tree ∷ trees) many each = (each 0 (omega arith), all_are sinks trees (omega (arith, many)) (λ k low. each (suc k) (omega (arith, low))))

  pub none_are : (sinks : List (List ℕ)) (trees : List Paths) → length trees ≡ length sinks → ((k : ℕ) → k < length sinks → get_or trees k [] ≡ []) →
      ((k : ℕ) → k < length sinks → ArePins fabric graph numbering tiles nodes (get_or sinks k [])) → AreWireTrees sinks trees
  none_are [] [] many none pins = tt
  none_are [] (tree ∷ trees) many none pins = absurd (omega (arith, many))
  none_are (of_net ∷ sinks) [] many none pins = absurd (omega (arith, many))
  none_are (of_net ∷ sinks) (tree ∷ trees) many none pins = (
    (
      record {
        low = λ node here. absurd (in_none node (empty node here));
        held = λ node here. absurd (in_none node (empty node here));
        before = λ node here joined. absurd (in_none node (empty node here));
        kinds = λ wire here. absurd (in_none wire (unwired wire here));
      },
      pins 0 (omega arith),
    ),
    none_are sinks trees (omega (arith, many)) (λ k low. none (suc k) (omega (arith, low))) (λ k low. pins (suc k) (omega (arith, low))),
  )
    where
      is_empty : tree ≡ []
      is_empty = none 0 (omega arith)

      empty : (node : ℕ) → Contains (nodes_of tree) node → Contains [] node
      empty node here = subst (λ (t : Paths). Contains (nodes_of t) node) is_empty here

      unwired : (wire : ℕ) → Contains (wires_of (wire_paths numbering of_net tree)) wire → Contains [] wire
      unwired wire here =
          subst (λ (ps : Paths). Contains (wires_of ps) wire) (no_paths numbering of_net) (subst (λ (t : Paths). Contains (wires_of (wire_paths numbering of_net t)) wire) is_empty here)

  -- ---- users

  module _ (node : ℕ) (low : node < graph.nodes) where
    pub node_users : (sinks : List (List ℕ)) (trees : List Paths) → AreWireTrees sinks trees → ways.users (wire_trees numbering sinks trees) (numbering.wire node) ≡ users trees node
    node_users [] [] are = refl
    node_users [] (tree ∷ trees) are = absurd are
    node_users (of_net ∷ sinks) [] are = absurd are
    node_users (of_net ∷ sinks) (tree ∷ trees) are =
        let wires = wires_of (wire_paths numbering of_net tree) in
        let same : has wires (numbering.wire node) ≡ has (nodes_of tree) node =
        same_test (has wires (numbering.wire node)) (has (nodes_of tree) node)
        (λ yes. has_in (nodes_of tree) node (node_held fabric graph numbering tiles nodes (nodes_of tree) wires of_net are.0.0 are.0.1 node low (in_has wires (numbering.wire node) yes)))
        (λ yes. has_in wires (numbering.wire node) (are.0.0.held node (in_has (nodes_of tree) node yes))) in
        let fee : one_if (has wires (numbering.wire node)) ≡ one_if (has (nodes_of tree) node) = ap one_if same in
        omega (
          arith,
          fee,
          node_users sinks trees are.1,
          sum_by-cons (λ (paths : Paths). one_if (has (wires_of paths) (numbering.wire node))) (wire_paths numbering of_net tree) (wire_trees numbering sinks trees),
          sum_by-cons (λ (paths : Paths). one_if (has (nodes_of paths) node)) tree trees,
        )

    pub output_users : HasOutput fabric graph numbering tiles nodes node → (sinks : List (List ℕ)) (trees : List Paths) → AreWireTrees sinks trees →
        ways.users (wire_trees numbering sinks trees) (numbering.output node) ≡ users trees node
    output_users joined [] [] are = refl
    output_users joined [] (tree ∷ trees) are = absurd are
    output_users joined (of_net ∷ sinks) [] are = absurd are
    output_users joined (of_net ∷ sinks) (tree ∷ trees) are =
        let wires = wires_of (wire_paths numbering of_net tree) in
        let same : has wires (numbering.output node) ≡ has (nodes_of tree) node =
        same_test (has wires (numbering.output node)) (has (nodes_of tree) node)
        (λ yes. has_in (nodes_of tree) node (output_held fabric graph numbering tiles nodes (nodes_of tree) wires of_net are.0.0 are.0.1 node low joined (in_has wires (numbering.output node) yes)))
        (λ yes. has_in wires (numbering.output node) (are.0.0.before node (in_has (nodes_of tree) node yes) joined)) in
        let fee : one_if (has wires (numbering.output node)) ≡ one_if (has (nodes_of tree) node) = ap one_if same in
        omega (
          arith,
          fee,
          output_users joined sinks trees are.1,
          sum_by-cons (λ (paths : Paths). one_if (has (wires_of paths) (numbering.output node))) (wire_paths numbering of_net tree) (wire_trees numbering sinks trees),
          sum_by-cons (λ (paths : Paths). one_if (has (nodes_of paths) node)) tree trees,
        )

  -- the wires of two sums of one kind
  module _ (sinks : List (List ℕ)) where
    abbrev pub HaveWires : List (List Paths) → Type 0
    HaveWires all = (trees : List Paths) → Contains all trees → AreWireTrees sinks trees

    pub node_past : (node : ℕ) → node < graph.nodes → (all : List (List Paths)) → HaveWires all → ways.past_of (map (wire_trees numbering sinks) all) (numbering.wire node) ≡ past_of all node
    node_past node low [] have = refl
    node_past node low (trees ∷ all) have =
        omega (
          arith,
          node_users node low sinks trees (have trees (first_in trees all trees refl)),
          node_past node low all (λ ts here. have ts (later_in trees all ts here)),
          sum_by-cons (λ (ts : List Paths). ways.users ts (numbering.wire node) - 1) (wire_trees numbering sinks trees) (map (wire_trees numbering sinks) all),
          sum_by-cons (λ (ts : List Paths). users ts node - 1) trees all,
        )

    pub output_past : (node : ℕ) → node < graph.nodes → HasOutput fabric graph numbering tiles nodes node → (all : List (List Paths)) → HaveWires all →
        ways.past_of (map (wire_trees numbering sinks) all) (numbering.output node) ≡ past_of all node
    output_past node low joined [] have = refl
    output_past node low joined (trees ∷ all) have =
        omega (
          arith,
          output_users node low joined sinks trees (have trees (first_in trees all trees refl)),
          output_past node low joined all (λ ts here. have ts (later_in trees all ts here)),
          sum_by-cons (λ (ts : List Paths). ways.users ts (numbering.output node) - 1) (wire_trees numbering sinks trees) (map (wire_trees numbering sinks) all),
          sum_by-cons (λ (ts : List Paths). users ts node - 1) trees all,
        )

  -- ---- shared wires

  -- what has a user is a node of the graph
  pub used_low : (node : ℕ) (sinks : List (List ℕ)) (trees : List Paths) → AreWireTrees sinks trees → 1 ≤ users trees node → node < graph.nodes
  used_low node [] [] are used = absurd (omega (arith, used))
  used_low node [] (tree ∷ trees) are used = absurd are
  used_low node (of_net ∷ sinks) [] are used = absurd are
  used_low node (of_net ∷ sinks) (tree ∷ trees) are used = elim (cases_Bool (has (nodes_of tree) node)) [
    | inl here ↦ are.0.0.low node (in_has (nodes_of tree) node here)
    | inr other ↦ (
        let none : one_if (has (nodes_of tree) node) ≡ 0 = ap one_if other in
        used_low node sinks trees are.1 (omega (arith, used, none, sum_by-cons (λ (paths : Paths). one_if (has (nodes_of paths) node)) tree trees)))
  ]

  -- the wire of a node, or the output before it
  pub data IsNodeWire (wire : ℕ) : Type 0 where
    as_input : (node : ℕ) → node < graph.nodes → numbering.wire node ≡ wire → IsNodeWire wire
    as_output : (node : ℕ) → node < graph.nodes → HasOutput fabric graph numbering tiles nodes node → numbering.output node ≡ wire → IsNodeWire wire

  kind_of : (tree wires of_net : List ℕ) → IsWireTree fabric graph numbering tiles nodes tree wires of_net → (wire : ℕ) → Contains wires wire → IsNodeWire wire ⊎ Contains of_net wire
  kind_of tree wires of_net is wire here = by_kind (is.kinds wire here)
    where
      by_kind : IsWireOf fabric graph numbering tiles nodes tree of_net wire → IsNodeWire wire ⊎ Contains of_net wire
      by_kind (a_sink inside) = inr inside
      by_kind (a_node node inside same) = inl (as_input node (is.low node inside) same)
      by_kind (an_output node inside joined same) = inl (as_output node (is.low node inside) joined same)

  used_kind : (wire : ℕ) (sinks : List (List ℕ)) (trees : List Paths) → AreWireTrees sinks trees → 1 ≤ ways.users (wire_trees numbering sinks trees) wire →
      IsNodeWire wire ⊎ ((of_net : List ℕ) × Contains sinks of_net × Contains of_net wire)
  used_kind wire [] [] are used = absurd (omega (arith, used))
  used_kind wire [] (tree ∷ trees) are used = absurd are
  used_kind wire (of_net ∷ sinks) [] are used = absurd are
  used_kind wire (of_net ∷ sinks) (tree ∷ trees) are used =
      let wires = wires_of (wire_paths numbering of_net tree) in
      elim (cases_Bool (has wires wire)) [
        | inl here ↦ elim (kind_of (nodes_of tree) wires of_net are.0.0 wire (in_has wires wire here)) [
          | inl kind ↦ inl kind
          | inr sink ↦ inr (of_net, first_in of_net sinks of_net refl, sink)
        ]
        | inr other ↦ (
            let none : one_if (has wires wire) ≡ 0 = ap one_if other in
            let rest = used_kind wire sinks trees are.1
            (omega (arith, used, none, sum_by-cons (λ (paths : Paths). one_if (has (wires_of paths) wire)) (wire_paths numbering of_net tree) (wire_trees numbering sinks trees))) in
            elim rest [ inl kind ↦ inl kind | inr sink ↦ inr (sink.0, later_in of_net sinks sink.0 sink.1, sink.2) ])
      ]

  -- no wire is a sink of two nets
  abbrev pub AreAcross : List ℕ → List ℕ → Type 0
  AreAcross first second = (wire : ℕ) → Contains first wire → Contains second wire → ⊥

  pub shared_kind : (wire : ℕ) (sinks : List (List ℕ)) (trees : List Paths) → AreWireTrees sinks trees → AllPairs AreAcross sinks → 2 ≤ ways.users (wire_trees numbering sinks trees) wire → IsNodeWire wire
  shared_kind wire [] [] are across used = absurd (omega (arith, used))
  shared_kind wire [] (tree ∷ trees) are across used = absurd are
  shared_kind wire (of_net ∷ sinks) [] are across used = absurd are
  shared_kind wire (of_net ∷ sinks) (tree ∷ trees) are across used =
      let wires = wires_of (wire_paths numbering of_net tree) in
      let sum = sum_by-cons (λ (paths : Paths). one_if (has (wires_of paths) wire)) (wire_paths numbering of_net tree) (wire_trees numbering sinks trees) in
      elim (cases_Bool (has wires wire)) [
        | inl here ↦ elim (kind_of (nodes_of tree) wires of_net are.0.0 wire (in_has wires wire here)) [
          | inl kind ↦ kind
          | inr sink ↦ (
              let one : one_if (has wires wire) ≡ 1 = ap one_if here in
              elim (used_kind wire sinks trees are.1 (omega (arith, used, one, sum))) [
                | inl kind ↦ kind
                | inr other ↦ absurd (pairs_head AreAcross of_net sinks across other.0 other.1 wire sink other.2)
              ])
        ]
        | inr other ↦ (
            let none : one_if (has wires wire) ≡ 0 = ap one_if other in
            shared_kind wire sinks trees are.1 (pairs_tail AreAcross of_net sinks across) (omega (arith, used, none, sum)))
      ]
