-- What a run over nodes tells of a run over wires.
use Rattle.std.proofs.Common.{◌≡◌, ℕ, zero, suc, ◌+◌, ◌<◌, ◌≤◌, Bool, true, false, if◌then◌else◌, List, [], ◌∷◌, map, length, get_or, Contains, Option, Some, None, IfSome, IfNone, is_some, refl, sym, ap, ap₂, ◌∙◌, subst, inl, inr, arith}
use Rattle.std.specs.List.{All}
use Rattle.std.proofs.lemmas.Bool.{cases_Bool, false≢true}
use Rattle.std.proofs.lemmas.List.{length-map, get_or_default}
use Rattle.std.proofs.lemmas.Simd.{map-map}
use Rattle.std.proofs.lemmas.List.Elements.{All-nil, All-cons}
use Rattle.std.proofs.lemmas.List.Sums.{sum_by-cons}
use Rattle.fab_model.specs.Grid.{PlainFabric}
use Rattle.fab_fabric.specs.Fabric.{AreTiles}
use Rattle.fab_fabric.specs.Wires.{numbered_wire}
use Rattle.fab_fabric.specs.declared.wire.Wire.{Wire}
use Rattle.fab_netlist.specs.declared.net_id.NetId.{NetId}
use Rattle.fab_netlist.specs.Plain.{IsAt}
use Rattle.fab_netlist.specs.Packed.{PlainPacked}
use Rattle.fab_netlist.proofs.Members.{in_none, mapped_in}
use Rattle.fab_netlist.proofs.Stepping.{all_of}
use Rattle.fab_implementation.specs.Plain.{PlainTree, PlainImplementation}
use Rattle.fab_legal.specs.Legal.{ArePlaced}
use Rattle.fab_legal.specs.Sinks.{packed_net}
use Rattle.fab_legal.specs.Steps.{IsJoined, IsPaired}
use Rattle.fab_legal.specs.WellMade.{IsWellMadePacked}
use Rattle.fab_astar.specs.Walks.{Graph}
use Rattle.fab_pathfinder.specs.declared.tree.Tree.{Tree}
use Rattle.fab_pathfinder.specs.declared.tree.Round.{Round}
use Rattle.fab_pathfinder.specs.declared.rounds.Routed.{Routed}
use Rattle.fab_pathfinder.specs.Plain as plain
use Rattle.fab_pathfinder.specs.Plain.{paths_of, rounds_of}
use Rattle.fab_pathfinder.specs.Rounds as rounds
use Rattle.fab_pathfinder.specs.Rounds.{Paths, nodes_of, tree_at, net_at, HasWalk, no_trees, last_trees}
use Rattle.fab_pathfinder.proofs.Parts.{nodes_of-parts}
use Rattle.fab_pathfinder.proofs.Running.{last_trees-at}
use Rattle.fab_ways_laws.specs.Routing.{has, wires_of, users, nets, sinks_of}
use Rattle.fab_ways_laws.specs.Routing.Walk.{goes}
use Rattle.fab_ways_laws.specs.Mapping.{AreRouted}
use Rattle.fab_ways_laws.specs.Trees.{trees_of, by_line}
use Rattle.fab_ways_laws.proofs.Walks.{has_in, in_has}
use Rattle.fab_nodes_laws.specs.Nodes.{Numbering, AreNodes}
use Rattle.fab_nodes_laws.specs.Nets.{AreGoals, AreNets, wire_trees, net_sinks}
use Rattle.fab_nodes_laws.proofs.Trees.{HasOutput, IsWireTree, no_wires, ArePins, node_held, output_held}
use Rattle.fab_nodes_laws.proofs.WalkLaw.{walk_of}
use Rattle.fab_nodes_laws.proofs.Users.{AreWireTrees, used_low, node_users, output_users, IsNodeWire, as_input, as_output, shared_kind}
use Rattle.fab_nodes_laws.proofs.NetSinks.{nets_across}
use Rattle.fab_nodes_laws.proofs.Runs.{IsWiredRun, run_wired, node_runs_are_runs, cut_off_has_no_walk}
use Rattle.fab_route.specs.Answers.{IsLeftShared, IsReached, IsCutOff, HasWire, AreFirstTwo, IsOverused}
use Rattle.fab_route.specs.inner.Owners.{AreFirst, HasNode, owners_at, AreOwners, IsTwice, IsWireOf, IsSharedBy, IsLeastShared}
use Rattle.fab_route.specs.Over.{IsOver}
use Rattle.fab_route.specs.Plain.{PlainNodes, graph_of, numbering_of}
use Rattle.fab_route.specs.inner.Told.{net_names, told_trees, AreLow, AreLowRounds, IsNodeRun}
use Rattle.fab_route.specs.declared.shared.Owners.{Owners}
use Rattle.fab_route.specs.declared.shared.Shared.{Shared}
use Rattle.fab_route.proofs.Growing.{named_before}

-- ---- users by places

abbrev one_if : Bool → ℕ
one_if b = if b then 1 else 0

-- a place of one user
one_user : (node : ℕ) (trees : List Paths) → 1 ≤ rounds.users trees node → (k : ℕ) × HasNode trees (length trees) node k
one_user node [] many = absurd (omega (arith, many))
one_user node (t ∷ ts) many =
    let sum = sum_by-cons (λ (paths : Paths). one_if (has (nodes_of paths) node)) t ts in
    elim (cases_Bool (has (nodes_of t) node)) [
      | inl holds ↦ (0, (omega arith, in_has (nodes_of t) node holds))
      | inr fails ↦ (
          let none : one_if (has (nodes_of t) node) ≡ 0 = ap one_if fails in
          let rest = one_user node ts (omega (arith, many, sum, none)) in
          (suc rest.0, (omega (arith, rest.1.0), rest.1.1)))
    ]

-- the places of two users
two_users : (node : ℕ) (trees : List Paths) → 2 ≤ rounds.users trees node → (j : ℕ) × (k : ℕ) × (j < k) × HasNode trees (length trees) node j × HasNode trees (length trees) node k
two_users node [] many = absurd (omega (arith, many))
two_users node (t ∷ ts) many =
    let sum = sum_by-cons (λ (paths : Paths). one_if (has (nodes_of paths) node)) t ts in
    elim (cases_Bool (has (nodes_of t) node)) [
      | inl holds ↦ (
          let one : one_if (has (nodes_of t) node) ≡ 1 = ap one_if holds in
          let rest = one_user node ts (omega (arith, many, sum, one)) in
          (0, suc rest.0, omega arith, (omega arith, in_has (nodes_of t) node holds), (omega (arith, rest.1.0), rest.1.1)))
      | inr fails ↦ (
          let none : one_if (has (nodes_of t) node) ≡ 0 = ap one_if fails in
          let rest = two_users node ts (omega (arith, many, sum, none)) in
          (suc rest.0, suc rest.1, omega (arith, rest.2), (omega (arith, rest.3.0), rest.3.1), (omega (arith, rest.4.0), rest.4.1)))
    ]

first_two : (Has : ℕ → Type 0) (first second : Option ℕ) (j k : ℕ) → j < k → Has j → Has k → AreFirst Has first second → (a : ℕ) × (b : ℕ) × (first ≡ Some a) × (second ≡ Some b)
first_two Has None None j k less one other are = absurd (are j one)
first_two Has None (Some b) j k less one other are = absurd are
first_two Has (Some a) None j k less one other are = absurd (omega (arith, less, are.1 j one, are.1 k other))
first_two Has (Some a) (Some b) j k less one other are = (a, b, refl, refl)

-- what two trees have is noted
pub noted_twice : (trees : List Paths) (owners : List Owners) (node : ℕ) → AreOwners trees (length trees) owners → node < length owners → 2 ≤ rounds.users trees node → (a : ℕ) × (b : ℕ) × IsTwice owners node a b
noted_twice trees owners node are low many =
    let two = two_users node trees many in
    let here = owners_at owners node in
    let found = first_two (HasNode trees (length trees) node) here.first here.second two.0 two.1 two.2 two.3 two.4 (are node low) in
    (found.0, found.1, ap₂ (λ (f s : Option ℕ). record { first = f; second = s }) found.2 found.3)

-- ---- trees over nodes

pub tree_nodes : (tree : Tree) → nodes_of (paths_of tree) ≡ tree.nodes.items
tree_nodes tree = nodes_of-parts tree.nodes.items tree.lengths.items tree.whole

module _ (fabric : PlainFabric) (graph : Graph) (numbering : Numbering) (tiles : AreTiles fabric) (nodes : AreNodes fabric graph numbering) where
  low_trees : (sinks : List (List ℕ)) (trees : List Tree) → AreWireTrees fabric graph numbering tiles nodes sinks (plain.trees_of trees) → AreLow graph.nodes trees
  low_trees [] [] are = All-nil (λ (tree : Tree). All (λ node. node < graph.nodes) tree.nodes.items)
  low_trees [] (t ∷ ts) are = absurd are
  low_trees (s ∷ ss) [] are = absurd are
  low_trees (s ∷ ss) (t ∷ ts) are =
      All-cons (λ (tree : Tree). All (λ node. node < graph.nodes) tree.nodes.items) t ts
      (all_of (λ node. node < graph.nodes) t.nodes.items (λ node here. are.0.0.low node (subst (λ (ns : List ℕ). Contains ns node) (sym (tree_nodes t)) here)))
      (low_trees ss ts are.1)

  -- the tree at a place
  tree_is : (sinks : List (List ℕ)) (trees : List Paths) → AreWireTrees fabric graph numbering tiles nodes sinks trees → (k : ℕ) → k < length trees →
      IsWireTree fabric graph numbering tiles nodes (nodes_of (tree_at trees k)) (wires_of (get_or (wire_trees numbering sinks trees) k [])) (get_or sinks k []) × ArePins fabric graph numbering tiles nodes (get_or sinks k [])
  tree_is [] [] are k low = absurd (omega (arith, low))
  tree_is [] (t ∷ ts) are k low = absurd are
  tree_is (s ∷ ss) [] are k low = absurd are
  tree_is (s ∷ ss) (t ∷ ts) are zero low = are.0
  tree_is (s ∷ ss) (t ∷ ts) are (suc k) low = tree_is ss ts are.1 k (omega (arith, low))

  trees_many : (sinks : List (List ℕ)) (trees : List Paths) → AreWireTrees fabric graph numbering tiles nodes sinks trees → length trees ≡ length sinks
  trees_many [] [] are = refl
  trees_many [] (t ∷ ts) are = absurd are
  trees_many (s ∷ ss) [] are = absurd are
  trees_many (s ∷ ss) (t ∷ ts) are = ap suc (trees_many ss ts are.1)

  wired_past : (sinks : List (List ℕ)) (trees : List Paths) → AreWireTrees fabric graph numbering tiles nodes sinks trees → (k : ℕ) → length trees ≤ k → get_or (wire_trees numbering sinks trees) k [] ≡ []
  wired_past [] [] are k past = refl
  wired_past [] (t ∷ ts) are k past = absurd are
  wired_past (s ∷ ss) [] are k past = absurd are
  wired_past (s ∷ ss) (t ∷ ts) are zero past = absurd (omega (arith, past))
  wired_past (s ∷ ss) (t ∷ ts) are (suc k) past = wired_past ss ts are.1 k (omega (arith, past))

  -- ---- sinks by goals

  pub goals_many : (sinks : List ℕ) (goals : List (List ℕ)) → AreGoals fabric graph numbering sinks goals → length goals ≡ length sinks
  goals_many [] [] are = refl
  goals_many [] (g ∷ gs) are = absurd are
  goals_many (s ∷ ss) [] are = absurd are
  goals_many (s ∷ ss) (g ∷ gs) are = ap suc (goals_many ss gs are.1)

  goal_pair : (sinks : List ℕ) (goals : List (List ℕ)) → AreGoals fabric graph numbering sinks goals → (place wire node : ℕ) → IsAt sinks place wire → Contains (get_or goals place []) node →
      IsPaired fabric (numbered_wire (numbering.wire node)) (numbered_wire wire)
  goal_pair [] goals are place wire node at here = absurd (omega (arith, at.0))
  goal_pair (s ∷ ss) [] are place wire node at here = absurd are
  goal_pair (s ∷ ss) (g ∷ gs) are zero wire node at here = subst (λ (w : ℕ). IsPaired fabric (numbered_wire (numbering.wire node)) (numbered_wire w)) at.1 ((are.0 node).0 here).1
  goal_pair (s ∷ ss) (g ∷ gs) are (suc place) wire node at here = goal_pair ss gs are.1 place wire node (omega (arith, at.0), at.1) here

module _ (fabric : PlainFabric) (packed : PlainPacked) (placement : PlainImplementation) (tiles : AreTiles fabric) (made : IsWellMadePacked packed) (placed : ArePlaced fabric packed placement)
    (nodes : PlainNodes) (over : IsOver fabric nodes) (node_nets : List rounds.Net) (are : AreNets fabric packed placement (graph_of nodes) (numbering_of nodes) node_nets) where
  abbrev graph : Graph
  graph = graph_of nodes

  abbrev numbering : Numbering
  numbering = numbering_of nodes

  abbrev all_sinks : List (List ℕ)
  all_sinks = net_sinks fabric packed placement

  abbrev wired : List Paths → List Paths
  wired trees = wire_trees numbering all_sinks trees

  -- ---- no path

  -- what is reached over the nodes is reached over the wires
  reached : (k place wire : ℕ) (net : NetId) → IsAt (nets packed) k net → IsAt (sinks_of fabric packed placement net) place wire →
      HasWalk graph (net_at node_nets k).roots (get_or (net_at node_nets k).goals place []) → IsReached fabric packed placement net wire
  reached k place wire net at sink_at has_walk =
      let front = walk_of fabric graph numbering tiles over.are_nodes packed placement placed (packed_net packed net) (net_at node_nets k).roots
      (λ node root. (are.roots k net at node).0 root) (λ node low root. (are.roots k net at node).1 (low, root)) [] [] []
      (no_wires fabric graph numbering tiles over.are_nodes) (λ s none. absurd (in_none s none)) has_walk.walk in
      let pair = goal_pair fabric graph numbering tiles over.are_nodes (sinks_of fabric packed placement net) (net_at node_nets k).goals (are.goals k net at) place wire has_walk.goal sink_at has_walk.among in
      record { path = _; walk = goes front (inl pair) refl }

  pub is_cut_off : (net : NetId) (sink : Wire) (k place : ℕ) → IsAt (nets packed) k net → IsAt (sinks_of fabric packed placement net) place sink.0 → rounds.IsCutOff graph node_nets k place →
      IsCutOff fabric packed placement net sink
  is_cut_off net sink k place at sink_at cut = record {
    place = k;
    number = place;
    net_is = at;
    sink_is = sink_at;
    apart = λ is. cut_off_has_no_walk fabric packed placement graph numbering node_nets k place net sink.0 is.path tiles made placed over.are_nodes are cut at sink_at is.walk;
    nets_before = λ j other wire less there here.
        let sinks = sinks_of fabric packed placement other in
        let goals = goals_many fabric graph numbering tiles over.are_nodes sinks (net_at node_nets j).goals (are.goals j other there) in
        reached j here.0 wire other there (here.1, get_or_default sinks here.0 _ wire here.1 ∙ here.2) (cut.nets_before j here.0 less (omega (arith, goals, here.1)));
    sinks_before = λ j wire less there. reached k j wire net at there (cut.sinks_before j less);
  }

  -- ---- runs

  module _ (allowed : ℕ) (routed : Routed) (is : IsNodeRun graph node_nets allowed routed) where
    abbrev all : List (List Paths)
    all = rounds_of routed.rounds.items

    abbrev last : List Paths
    last = last_trees (no_trees node_nets) all

    wired_run : IsWiredRun fabric packed placement graph numbering node_nets tiles made placed over.are_nodes are all last
    wired_run = run_wired fabric packed placement graph numbering node_nets tiles made placed over.are_nodes are is.run

    last_are : AreWireTrees fabric graph numbering tiles over.are_nodes all_sinks last
    last_are = wired_run.last_is

    -- the trees of the last round
    pub last_is : (n : ℕ) (round : Round) → n + 1 ≡ length routed.rounds.items → round ≡ get_or routed.rounds.items n round → plain.trees_of round.trees.items ≡ last
    last_is n round here read = ap (λ (r : Round). plain.trees_of r.trees.items) read ∙ sym (last_trees-at (no_trees node_nets) routed.rounds.items n round (sym here))

    pub low_last : (trees : List Tree) → plain.trees_of trees ≡ last → AreLow graph.nodes trees
    low_last trees same = low_trees fabric graph numbering tiles over.are_nodes all_sinks trees (subst (λ (ts : List Paths). AreWireTrees fabric graph numbering tiles over.are_nodes all_sinks ts) (sym same) last_are)

    pub low_rounds : AreLowRounds graph.nodes routed.rounds.items
    low_rounds = all_of (λ (round : Round). AreLow graph.nodes round.trees.items) routed.rounds.items (λ round here.
        low_trees fabric graph numbering tiles over.are_nodes all_sinks round.trees.items
        (wired_run.have (plain.trees_of round.trees.items) (mapped_in (λ (r : Round). plain.trees_of r.trees.items) routed.rounds.items round here)))

    rounds_many : length (map wired all) ≡ length routed.rounds.items
    rounds_many = length-map all wired ∙ length-map routed.rounds.items (λ (r : Round). plain.trees_of r.trees.items)

    -- no node is shared, or one is
    pub none_shared : is_some routed.shared ≡ false → (node : ℕ) → rounds.users last node ≤ 1
    none_shared none = without routed.shared none is.unshared
      where
        without : (o : Option ℕ) → is_some o ≡ false → IfNone o ((node : ℕ) → rounds.users last node ≤ 1) → (node : ℕ) → rounds.users last node ≤ 1
        without None e few = few
        without (Some node) e few = absurd (false≢true (sym e))

    pub one_shared : is_some routed.shared ≡ true → ((node : ℕ) × (2 ≤ rounds.users last node)) × (length routed.rounds.items ≡ allowed)
    one_shared some = with_one routed.shared some is.shared is.all_rounds
      where
        with_one : (o : Option ℕ) → is_some o ≡ true → IfSome o (λ node. 2 ≤ rounds.users last node) → IfSome o (λ node. length routed.rounds.items ≡ allowed) →
            ((node : ℕ) × (2 ≤ rounds.users last node)) × (length routed.rounds.items ≡ allowed)
        with_one None e twice full = absurd (false≢true e)
        with_one (Some node) e twice full = ((node, twice), full)

    pub owners_last : (trees : List Tree) (owners : List Owners) → plain.trees_of trees ≡ last → AreOwners (plain.trees_of trees) (length trees) owners → AreOwners last (length last) owners
    owners_last trees owners same owned =
        let many : length trees ≡ length last = sym (length-map trees paths_of) ∙ ap (λ (ts : List Paths). length ts) same in
        subst (λ (n : ℕ). AreOwners last n owners) many (subst (λ (ts : List Paths). AreOwners ts (length trees) owners) same owned)

    -- trees of nodes as they are told
    pub told_is : (names : List NetId) (sinks : List (List ℕ)) (trees : List Paths) → names ≡ net_names packed placement → sinks ≡ all_sinks → told_trees numbering names sinks trees ≡ trees_of packed placement (wired trees)
    told_is names sinks trees names_are sinks_are =
        ap₂ (λ (ns : List NetId) (ss : List (List ℕ)). told_trees numbering ns ss trees) names_are sinks_are ∙ named_before (by_line packed placement) (nets packed) (wired trees)

    pub rounds_told : (names : List NetId) (sinks : List (List ℕ)) (some : List (List Paths)) → names ≡ net_names packed placement → sinks ≡ all_sinks →
        map (told_trees numbering names sinks) some ≡ map (λ trees. trees_of packed placement (wired trees)) some
    rounds_told names sinks [] names_are sinks_are = refl
    rounds_told names sinks (trees ∷ some) names_are sinks_are =
        ap₂ (λ (t : List PlainTree) (ts : List (List PlainTree)). t ∷ ts) (told_is names sinks trees names_are sinks_are) (rounds_told names sinks some names_are sinks_are)

    pub are_routed : (told : List PlainTree) → told ≡ trees_of packed placement (wired last) → ((node : ℕ) → rounds.users last node ≤ 1) → AreRouted fabric packed placement allowed told
    are_routed told same few = record {
      rounds = map wired all;
      last = wired last;
      run = wired_run.run;
      some_rounds = omega (arith, is.some_rounds, rounds_many);
      few_rounds = omega (arith, is.few_rounds, rounds_many);
      unshared = λ shared.
          let node = (node_runs_are_runs fabric packed placement graph numbering node_nets all last tiles made placed over.are_nodes are is.run).1.0 shared in omega (arith, node.1, few node.0);
      trees_are = same;
    }

    pub is_left : (most : ℕ) → allowed ≤ most → (node : ℕ) × (2 ≤ rounds.users last node) → IsLeftShared fabric packed placement most
    is_left most low node = record {
      rounds = map wired all;
      last = wired last;
      run = wired_run.run;
      some_rounds = omega (arith, is.some_rounds, rounds_many);
      few_rounds = omega (arith, is.few_rounds, rounds_many, low);
      shared = (node_runs_are_runs fabric packed placement graph numbering node_nets all last tiles made placed over.are_nodes are is.run).1.1 node;
    }

    -- ---- shared wires

    module _ (owners : List Owners) (owners_are : AreOwners last (length last) owners) (long : length owners ≡ graph.nodes) where
      used_inside : (node : ℕ) → 1 ≤ rounds.users last node → node < graph.nodes
      used_inside node some = used_low fabric graph numbering tiles over.are_nodes node all_sinks last last_are some

      twice : (node : ℕ) → 2 ≤ rounds.users last node → (a : ℕ) × (b : ℕ) × IsTwice owners node a b
      twice node many = noted_twice last owners node owners_are (omega (arith, used_inside node (omega (arith, many)), long)) many

      -- there is one
      pub some_shared : (node : ℕ) → 2 ≤ rounds.users last node → IsLeastShared fabric nodes owners graph.nodes None → ⊥
      some_shared node many none = let two = twice node many in none node two.0 two.1 (used_inside node (omega (arith, many))) two.2

      wire_as : (node wire : ℕ) → node < graph.nodes → IsWireOf fabric nodes node wire → IsNodeWire fabric graph numbering tiles over.are_nodes wire
      wire_as node wire low (inl same) = as_input node low (sym same)
      wire_as node wire low (inr joined) =
          let output : numbering.output node ≡ wire = over.are_nodes.outputs node (numbered_wire wire) low joined in
          as_output node low (subst (λ (w : ℕ). IsJoined fabric (numbered_wire w) (numbered_wire (numbering.wire node))) (sym output) joined) output

      -- the tree of a net has the wire where it has the node
      module _ (node wire k : ℕ) (low : node < graph.nodes) (inside : k < length last) (wire_is : IsWireOf fabric nodes node wire) where
        own : IsWireTree fabric graph numbering tiles over.are_nodes (nodes_of (tree_at last k)) (wires_of (get_or (wired last) k [])) (get_or all_sinks k [])
            × ArePins fabric graph numbering tiles over.are_nodes (get_or all_sinks k [])
        own = tree_is fabric graph numbering tiles over.are_nodes all_sinks last last_are k inside

        abbrev wires : List ℕ
        wires = wires_of (get_or (wired last) k [])

        output_is : IsJoined fabric (numbered_wire wire) (numbered_wire (numbering.wire node)) → numbering.output node ≡ wire
        output_is joined = over.are_nodes.outputs node (numbered_wire wire) low joined

        has_output : IsJoined fabric (numbered_wire wire) (numbered_wire (numbering.wire node)) → HasOutput fabric graph numbering tiles over.are_nodes node
        has_output joined = subst (λ (w : ℕ). IsJoined fabric (numbered_wire w) (numbered_wire (numbering.wire node))) (sym (output_is joined)) joined

        has_wire : Contains (nodes_of (tree_at last k)) node → HasWire (wired last) k wire
        has_wire here = has_in wires wire (by wire_is)
          where
            by : IsWireOf fabric nodes node wire → Contains wires wire
            by (inl same) = subst (λ (w : ℕ). Contains wires w) (sym same) (own.0.held node here)
            by (inr joined) = subst (λ (w : ℕ). Contains wires w) (output_is joined) (own.0.before node here (has_output joined))

        wire_has : HasWire (wired last) k wire → Contains (nodes_of (tree_at last k)) node
        wire_has has_it = by wire_is
          where
            here : Contains wires wire
            here = in_has wires wire has_it

            by : IsWireOf fabric nodes node wire → Contains (nodes_of (tree_at last k)) node
            by (inl same) = node_held fabric graph numbering tiles over.are_nodes (nodes_of (tree_at last k)) wires (get_or all_sinks k []) own.0 own.1 node low (subst (λ (w : ℕ). Contains wires w) same here)
            by (inr joined) =
                output_held fabric graph numbering tiles over.are_nodes (nodes_of (tree_at last k)) wires (get_or all_sinks k []) own.0 own.1 node low (has_output joined)
                (subst (λ (w : ℕ). Contains wires w) (sym (output_is joined)) here)

      trees_are_nets : length last ≡ length (nets packed)
      trees_are_nets = trees_many fabric graph numbering tiles over.are_nodes all_sinks last last_are ∙ length-map (nets packed) (sinks_of fabric packed placement)

      module _ (shared : Shared) (found : IsLeastShared fabric nodes owners graph.nodes (Some shared)) where
        by_node : IsSharedBy fabric nodes owners graph.nodes shared
        by_node = found.0

        first_are : AreFirst (HasNode last (length last) by_node.node) (Some shared.first) (Some shared.second)
        first_are = subst (λ (o : Owners). AreFirst (HasNode last (length last) by_node.node) o.first o.second) by_node.twice (owners_are by_node.node (omega (arith, by_node.low, long)))

        pub second_in : shared.second < length (nets packed)
        second_in = omega (arith, first_are.2.0, trees_are_nets)

        pub first_in_nets : shared.first < length (nets packed)
        first_in_nets = omega (arith, first_are.0, second_in)

        are_first_two : (first second : NetId) → IsAt (nets packed) shared.first first → IsAt (nets packed) shared.second second → AreFirstTwo packed (wired last) shared.wire.0 first second
        are_first_two first second first_at second_at = record {
          place = shared.first;
          next = shared.second;
          order = first_are.0;
          first_is = first_at;
          second_is = second_at;
          first_has = has_wire by_node.node shared.wire.0 shared.first by_node.low first_are.1.0 by_node.wire_is first_are.1.1;
          second_has = has_wire by_node.node shared.wire.0 shared.second by_node.low first_are.2.0 by_node.wire_is first_are.2.1;
          no_others = λ k less has_it.
              let inside : k < length last = omega (arith, less, first_are.2.0) in
              first_are.3 k less (inside, wire_has by_node.node shared.wire.0 k by_node.low inside by_node.wire_is has_it);
        }

        least : (other : ℕ) → 2 ≤ users (wired last) other → shared.wire.0 ≤ other
        least other many = by (shared_kind fabric graph numbering tiles over.are_nodes other all_sinks last last_are (nets_across fabric packed placement made placed) many)
          where
            by : IsNodeWire fabric graph numbering tiles over.are_nodes other → shared.wire.0 ≤ other
            by (as_input node low same) =
                let two = twice node (omega (arith, many, node_users fabric graph numbering tiles over.are_nodes node low all_sinks last last_are, ap (λ (w : ℕ). users (wired last) w) same)) in
                found.1 node two.0 two.1 other low two.2 (inl (sym same))
            by (as_output node low joined same) =
                let two = twice node (omega (arith, many, output_users fabric graph numbering tiles over.are_nodes node low joined all_sinks last last_are, ap (λ (w : ℕ). users (wired last) w) same)) in
                found.1 node two.0 two.1 other low two.2 (inr (subst (λ (w : ℕ). IsJoined fabric (numbered_wire w) (numbered_wire (numbering.wire node))) same joined))

        pub is_overused : (first second : NetId) (told : List (List PlainTree)) → IsAt (nets packed) shared.first first → IsAt (nets packed) shared.second second → length routed.rounds.items ≡ allowed →
            told ≡ map (λ trees. trees_of packed placement (wired trees)) all → IsOverused fabric packed placement allowed shared.wire first second told
        is_overused first second told first_at second_at full told_are = record {
          rounds = map wired all;
          last = wired last;
          run = wired_run.run;
          all_rounds = rounds_many ∙ full;
          nets_are = are_first_two first second first_at second_at;
          least = least;
          told_are = told_are ∙ sym (map-map (trees_of packed placement) wired all);
        }
