-- A run over nodes is a run over wires.
use Rattle.std.proofs.Common.{◌≡◌, ℕ, zero, suc, ◌+◌, ◌*◌, ◌<◌, List, [], ◌∷◌, map, length, get_or, take, drop, Contains, refl, sym, ap, ap₂, ◌∙◌, subst, inl, inr, arith}
use Rattle.std.proofs.lemmas.List.{map-append, length-map}
use Rattle.fab_model.specs.Grid.{PlainFabric}
use Rattle.fab_fabric.specs.Fabric.{AreTiles}
use Rattle.fab_fabric.specs.Wires.{numbered_wire}
use Rattle.fab_netlist.specs.declared.net_id.NetId.{NetId}
use Rattle.fab_netlist.specs.declared.net_id.NetId.TheVariants as ids
use Rattle.fab_netlist.specs.Plain.{IsAt}
use Rattle.fab_netlist.specs.Packed.{PlainPacked}
use Rattle.fab_netlist.proofs.Members.{in_none}
use Rattle.fab_implementation.specs.Plain.{PlainImplementation}
use Rattle.fab_legal.specs.WellMade.{IsWellMadePacked}
use Rattle.fab_legal.specs.Legal.{ArePlaced}
use Rattle.fab_legal.specs.Nets.{IsRoot}
use Rattle.fab_legal.specs.Sinks.{packed_net}
use Rattle.fab_legal.proofs.Lists.{at_default, same_at}
use Rattle.fab_legal.proofs.Members.{in_pushed}
use Rattle.fab_astar.specs.Walks.{Graph}
use Rattle.fab_pathfinder.specs.Rounds as rounds
use Rattle.fab_pathfinder.specs.Rounds.{Paths, net_at, tree_at, nodes_of, users, others, negotiated, past_of, no_trees}
use Rattle.fab_pathfinder.specs.Rounds.Run.{begins as node_begins, goes as node_goes}
use Rattle.fab_ways_laws.specs.Routing as ways
use Rattle.fab_ways_laws.specs.Routing.{Path, MayBegin, Walk, IsRound, Run, LeavesShared, nets, sinks_of, wires_of}
use Rattle.fab_ways_laws.specs.Routing.Run.{begins, goes}
use Rattle.fab_nodes_laws.specs.Nodes.{Numbering, AreNodes}
use Rattle.fab_nodes_laws.specs.Nets.{AreGoals, AreNets, wire_paths, wire_trees, net_sinks}
use Rattle.fab_ways_laws.proofs.Legal.{unshared_is_legal}
use Rattle.fab_nodes_laws.specs.Laws.{NodeRunsAreRuns, UnsharedNodesAreLegal, CutOffHasNoWalk}
use Rattle.fab_nodes_laws.proofs.Trees.{IsWireTree, no_wires, ArePins, grown_tree}
use Rattle.fab_nodes_laws.proofs.WalkLaw.{ArePrices, are_grown, comes_over}
use Rattle.fab_nodes_laws.proofs.Users.{take_trees, drop_trees, AreWireTrees, take_are, drop_are, all_are, none_are, node_users, output_users, HaveWires, node_past, output_past, used_low, IsNodeWire, as_input, as_output, shared_kind}
use Rattle.fab_nodes_laws.proofs.NetSinks.{mapped_at, sink_is_pin, net_sinks_differ, nets_across}

module _ (fabric : PlainFabric) (packed : PlainPacked) (placement : PlainImplementation) (graph : Graph) (numbering : Numbering) (node_nets : List rounds.Net)
    (tiles : AreTiles fabric) (made : IsWellMadePacked packed) (placed : ArePlaced fabric packed placement)
    (nodes : AreNodes fabric graph numbering) (are : AreNets fabric packed placement graph numbering node_nets) where
  abbrev all_sinks : List (List ℕ)
  all_sinks = net_sinks fabric packed placement

  abbrev wired : List Paths → List Paths
  wired trees = wire_trees numbering all_sinks trees

  abbrev Wired : List Paths → Type 0
  Wired trees = AreWireTrees fabric graph numbering tiles nodes all_sinks trees

  sinks_many : length all_sinks ≡ length (nets packed)
  sinks_many = length-map (nets packed) (sinks_of fabric packed placement)

  -- ---- one net

  module _ (k : ℕ) (net : NetId) (at : IsAt (nets packed) k net) where
    sinks_at : get_or all_sinks k [] ≡ sinks_of fabric packed placement net
    sinks_at = mapped_at (sinks_of fabric packed placement) (nets packed) k net [] at

    pub pins : ArePins fabric graph numbering tiles nodes (sinks_of fabric packed placement net)
    pins sink here = sink_is_pin fabric packed placement made placed net sink here

    roots_are : (node : ℕ) → Contains (net_at node_nets k).roots node → (node < graph.nodes) × IsRoot fabric placement (packed_net packed net) (numbered_wire (numbering.wire node))
    roots_are node here = (are.roots k net at node).0 here

    all_roots : (node : ℕ) → node < graph.nodes → IsRoot fabric placement (packed_net packed net) (numbered_wire (numbering.wire node)) → Contains (net_at node_nets k).roots node
    all_roots node low root = (are.roots k net at node).1 (low, root)

    net_wired : (price : ℕ → ℕ) (tree : Paths) → rounds.AreGrown graph (net_at node_nets k).roots price [] (net_at node_nets k).goals tree →
        IsWireTree fabric graph numbering tiles nodes (nodes_of tree) (wires_of (wire_paths numbering (sinks_of fabric packed placement net) tree)) (sinks_of fabric packed placement net)
    net_wired price tree grown =
        grown_tree fabric graph numbering tiles nodes packed placement placed (packed_net packed net) (net_at node_nets k).roots roots_are price [] [] [] (sinks_of fabric packed placement net) (net_at node_nets k).goals tree
        (no_wires fabric graph numbering tiles nodes) (are.goals k net at) grown

  net_there : (k : ℕ) → k < length all_sinks → IsAt (nets packed) k (get_or (nets packed) k ids.Zero)
  net_there k low = at_default (nets packed) k ids.Zero (omega (arith, low, sinks_many))

  pins_at : (k : ℕ) → k < length all_sinks → ArePins fabric graph numbering tiles nodes (get_or all_sinks k [])
  pins_at k low =
      let net = get_or (nets packed) k ids.Zero in
      subst (λ (ss : List ℕ). ArePins fabric graph numbering tiles nodes ss) (sym (sinks_at k net (net_there k low))) (pins k net (net_there k low))

  -- ---- one round

  round_wired : (past : ℕ → ℕ) (round : ℕ) (old new : List Paths) → rounds.IsRound graph node_nets past round old new → Wired new
  round_wired past round old new is =
      all_are fabric graph numbering tiles nodes all_sinks new (is.all ∙ are.many ∙ sym sinks_many) (λ k low.
      let net = get_or (nets packed) k ids.Zero in
      let at = net_there k low in
      let own = net_wired k net at (negotiated past round (others old new k)) (tree_at new k) (is.each k (omega (arith, low, sinks_many, are.many))) in
      (subst (λ (ss : List ℕ). IsWireTree fabric graph numbering tiles nodes (nodes_of (tree_at new k)) (wires_of (wire_paths numbering ss (tree_at new k))) ss) (sym (sinks_at k net at)) own, pins_at k low))

  module _ (all : List (List Paths)) (have : HaveWires fabric graph numbering tiles nodes all_sinks all) (old new : List Paths) (old_is : Wired old) (new_is : Wired new) where
    abbrev wire_price : ℕ → ℕ → ℕ
    wire_price k = ways.negotiated (ways.past_of (map wired all)) (length (map wired all)) (ways.others (wired old) (wired new) k)

    abbrev node_price : ℕ → ℕ → ℕ
    node_price k = negotiated (past_of all) (length all) (others old new k)

    price_of : (past other past2 other2 round round2 : ℕ) → past ≡ past2 → other ≡ other2 → round ≡ round2 → (1 + past) * (1 + round * other) ≡ (1 + past2) * (1 + round2 * other2)
    price_of past other past2 other2 round round2 a b c =
        ap (λ (p : ℕ). (1 + p) * (1 + round * other)) a ∙ ap (λ (o : ℕ). (1 + past2) * (1 + round * o)) b ∙ ap (λ (r : ℕ). (1 + past2) * (1 + r * other2)) c

    -- the users of other nets, by what is known of the users of all
    others_of : (k wire node : ℕ) → ((sinks : List (List ℕ)) (trees : List Paths) → AreWireTrees fabric graph numbering tiles nodes sinks trees → ways.users (wire_trees numbering sinks trees) wire ≡ users trees node) →
        ways.others (wired old) (wired new) k wire ≡ others old new k node
    others_of k wire node same =
        let first = ap (λ (ts : List Paths). ways.users ts wire) (take_trees numbering k all_sinks new) ∙ same (take k all_sinks) (take k new) (take_are fabric graph numbering tiles nodes k all_sinks new new_is) in
        let second = ap (λ (ts : List Paths). ways.users ts wire) (drop_trees numbering (k + 1) all_sinks old)
        ∙ same (drop (k + 1) all_sinks) (drop (k + 1) old) (drop_are fabric graph numbering tiles nodes (k + 1) all_sinks old old_is) in
        ap₂ (λ (a b : ℕ). a + b) first second

    rounds_many : length (map wired all) ≡ length all
    rounds_many = length-map all wired

    prices : (k : ℕ) (net : NetId) (at : IsAt (nets packed) k net) →
        ArePrices fabric graph numbering tiles nodes packed placement placed (packed_net packed net) (net_at node_nets k).roots (roots_are k net at) (all_roots k net at) (wire_price k) (node_price k)
    prices k net at = record {
      inputs = λ node low.
          price_of (ways.past_of (map wired all) (numbering.wire node)) (ways.others (wired old) (wired new) k (numbering.wire node)) (past_of all node) (others old new k node) (length (map wired all)) (length all)
          (node_past fabric graph numbering tiles nodes all_sinks node low all have) (others_of k (numbering.wire node) node (node_users fabric graph numbering tiles nodes node low)) rounds_many;
      outputs = λ node low joined.
          price_of (ways.past_of (map wired all) (numbering.output node)) (ways.others (wired old) (wired new) k (numbering.output node)) (past_of all node) (others old new k node) (length (map wired all)) (length all)
          (output_past fabric graph numbering tiles nodes all_sinks node low joined all have) (others_of k (numbering.output node) node (output_users fabric graph numbering tiles nodes node low joined)) rounds_many;
    }

    wired_at : (sinks : List (List ℕ)) (trees : List Paths) → length trees ≡ length sinks → (k : ℕ) → k < length sinks → get_or (wire_trees numbering sinks trees) k [] ≡ wire_paths numbering (get_or sinks k []) (get_or trees k [])
    wired_at [] trees many k low = absurd (omega (arith, low))
    wired_at (of_net ∷ sinks) [] many k low = absurd (omega (arith, many))
    wired_at (of_net ∷ sinks) (tree ∷ trees) many zero low = refl
    wired_at (of_net ∷ sinks) (tree ∷ trees) many (suc k) low = wired_at sinks trees (omega (arith, many)) k (omega (arith, low))

    wired_many : (sinks : List (List ℕ)) (trees : List Paths) → length trees ≡ length sinks → length (wire_trees numbering sinks trees) ≡ length sinks
    wired_many [] trees many = refl
    wired_many (of_net ∷ sinks) [] many = absurd (omega (arith, many))
    wired_many (of_net ∷ sinks) (tree ∷ trees) many = omega (arith, wired_many sinks trees (omega (arith, many)))

    round_is : rounds.IsRound graph node_nets (past_of all) (length all) old new → IsRound fabric packed placement (ways.past_of (map wired all)) (length (map wired all)) (wired old) (wired new)
    round_is is =
        let many : length new ≡ length all_sinks = is.all ∙ are.many ∙ sym sinks_many in
        record {
          all = wired_many all_sinks new many ∙ sinks_many;
          each = λ k net paths at paths_at.
              let low : k < length all_sinks = omega (arith, at.0, sinks_many) in
              let own = sinks_of fabric packed placement net in
              let paths_are : wire_paths numbering own (tree_at new k) ≡ paths =
              ap (λ (ss : List ℕ). wire_paths numbering ss (tree_at new k)) (sym (sinks_at k net at)) ∙ sym (wired_at all_sinks new many k low)
              ∙ same_at (wired new) k (get_or (wired new) k []) paths (at_default (wired new) k [] paths_at.0) paths_at in
              subst (λ (ps : Paths). ways.AreGrown fabric placement (packed_net packed net) (wire_price k) [] own ps) paths_are
              (are_grown fabric graph numbering tiles nodes packed placement placed (packed_net packed net) (net_at node_nets k).roots (roots_are k net at) (all_roots k net at) (wire_price k) (node_price k) (prices k net at)
              [] [] [] own (net_at node_nets k).goals (tree_at new k) (no_wires fabric graph numbering tiles nodes) (λ s here. absurd (in_none s here)) (pins k net at) (net_sinks_differ fabric packed placement made placed net)
              (λ s here before. in_none s before) (are.goals k net at) (is.each k (omega (arith, low, sinks_many, are.many))));
        }

  -- ---- shared wires

  shared_wire : (trees : List Paths) → Wired trees → rounds.LeavesShared trees → LeavesShared (wired trees)
  shared_wire trees is shared =
      let low = used_low fabric graph numbering tiles nodes shared.0 all_sinks trees is (omega (arith, shared.1)) in
      (numbering.wire shared.0, omega (arith, shared.1, node_users fabric graph numbering tiles nodes shared.0 low all_sinks trees is))

  shared_node : (trees : List Paths) → Wired trees → LeavesShared (wired trees) → rounds.LeavesShared trees
  shared_node trees is shared = by_kind (shared_kind fabric graph numbering tiles nodes shared.0 all_sinks trees is (nets_across fabric packed placement made placed) shared.1)
    where
      by_kind : IsNodeWire fabric graph numbering tiles nodes shared.0 → rounds.LeavesShared trees
      by_kind (as_input node low same) =
          (node, omega (arith, shared.1, node_users fabric graph numbering tiles nodes node low all_sinks trees is, ap (λ (w : ℕ). ways.users (wired trees) w) same))
      by_kind (as_output node low joined same) =
          (node, omega (arith, shared.1, output_users fabric graph numbering tiles nodes node low joined all_sinks trees is, ap (λ (w : ℕ). ways.users (wired trees) w) same))

  -- ---- runs

  abbrev no_tree : rounds.Net → Paths
  no_tree net = []

  no_tree_at : (ns : List rounds.Net) (k : ℕ) → get_or (no_trees ns) k [] ≡ []
  no_tree_at [] k = refl
  no_tree_at (n ∷ ns) zero = refl
  no_tree_at (n ∷ ns) (suc k) = no_tree_at ns k

  none_wired : Wired (no_trees node_nets)
  none_wired =
      none_are fabric graph numbering tiles nodes all_sinks (no_trees node_nets) (length-map node_nets no_tree ∙ are.many ∙ sym sinks_many) (λ k low. no_tree_at node_nets k) pins_at

  no_wire_trees : (sinks : List NetId) (ns : List rounds.Net) → length ns ≡ length sinks → wire_trees numbering (map (sinks_of fabric packed placement) sinks) (no_trees ns) ≡ map (λ (net : NetId). []) sinks
  no_wire_trees [] ns many = refl
  no_wire_trees (net ∷ sinks) [] many = absurd (omega (arith, many))
  no_wire_trees (net ∷ sinks) (n ∷ ns) many = ap₂ (λ (t : Paths) (ts : List Paths). t ∷ ts) (none (sinks_of fabric packed placement net)) (no_wire_trees sinks ns (omega (arith, many)))
    where
      none : (ss : List ℕ) → wire_paths numbering ss [] ≡ []
      none [] = refl
      none (s ∷ ss) = refl

  pub record IsWiredRun (all : List (List Paths)) (last : List Paths) : Type 0 where
    pub run : Run fabric packed placement (map wired all) (wired last)
    pub have : HaveWires fabric graph numbering tiles nodes all_sinks all
    pub last_is : Wired last

  pub run_wired : {all : List (List Paths)} {last : List Paths} → rounds.Run graph node_nets all last → IsWiredRun all last
  run_wired {all} {last} node_begins = record {
    run = subst (λ (ts : List Paths). Run fabric packed placement [] ts) (sym (no_wire_trees (nets packed) node_nets are.many)) begins;
    have = λ trees here. absurd (in_none trees here);
    last_is = none_wired;
  }
  run_wired {all} {last} (node_goes {rounds = before} {old = old} new run shares is) =
      let earlier = run_wired run in
      let new_is = round_wired (past_of before) (length before) old new is in
      let many : length (map wired before) ≡ length before = length-map before wired in
      record {
        run = subst (λ (rs : List (List Paths)). Run fabric packed placement rs (wired new)) (sym (map-append wired before (new ∷ [])))
            (goes (wired new) earlier.run (λ some. shared_wire old earlier.last_is (shares (omega (arith, some, many)))) (round_is before earlier.have old new earlier.last_is new_is is));
        have = λ trees here. elim (in_pushed before new trees here) [
          | inl older ↦ earlier.have trees older
          | inr same ↦ subst (λ (ts : List Paths). Wired ts) same new_is
        ];
        last_is = new_is;
      }

pub node_runs_are_runs : NodeRunsAreRuns
node_runs_are_runs fabric packed placement graph numbering node_nets all last tiles made placed nodes are run =
    let wired_run = run_wired fabric packed placement graph numbering node_nets tiles made placed nodes are run in (
      wired_run.run,
      (
        shared_node fabric packed placement graph numbering node_nets tiles made placed nodes are last wired_run.last_is,
        shared_wire fabric packed placement graph numbering node_nets tiles made placed nodes are last wired_run.last_is,
      ),
    )

pub unshared_nodes_are_legal : UnsharedNodesAreLegal
unshared_nodes_are_legal fabric packed fixed placement graph numbering node_nets all last tiles made placed constraints nodes are run some unshared =
    let both = node_runs_are_runs fabric packed placement graph numbering node_nets all last tiles made placed nodes are run in
    let sinks = net_sinks fabric packed placement in
    unshared_is_legal fabric packed fixed placement (map (wire_trees numbering sinks) all) (wire_trees numbering sinks last) made placed constraints both.0
    (omega (arith, some, length-map all (wire_trees numbering sinks))) (λ shared. unshared (both.1.0 shared))

-- the goals of a sink at a place
goals_at : (fabric : PlainFabric) (graph : Graph) (numbering : Numbering) (sinks : List ℕ) (goals : List (List ℕ)) → AreGoals fabric graph numbering sinks goals → (place sink : ℕ) → IsAt sinks place sink →
    AreGoals fabric graph numbering (sink ∷ []) (get_or goals place [] ∷ [])
goals_at fabric graph numbering [] goals are place sink at = absurd (omega (arith, at.0))
goals_at fabric graph numbering (other ∷ sinks) [] are place sink at = absurd are
goals_at fabric graph numbering (other ∷ sinks) (goal ∷ goals) are zero sink at = subst (λ (s : ℕ). AreGoals fabric graph numbering (s ∷ []) (goal ∷ [])) at.1 (are.0, tt)
goals_at fabric graph numbering (other ∷ sinks) (goal ∷ goals) are (suc place) sink at = goals_at fabric graph numbering sinks goals are.1 place sink (omega (arith, at.0), at.1)

pub cut_off_has_no_walk : CutOffHasNoWalk
cut_off_has_no_walk fabric packed placement graph numbering node_nets k place net sink path tiles made placed nodes are cut at sink_at walk =
    let here : Contains (sinks_of fabric packed placement net) sink = (place, sink_at.0, sink_at.1) in
    let goals = goals_at fabric graph numbering (sinks_of fabric packed placement net) (net_at node_nets k).goals (are.goals k net at) place sink sink_at in
    let over = comes_over fabric graph numbering tiles nodes packed placement placed (packed_net packed net) (net_at node_nets k).roots
    (λ node root. (are.roots k net at node).0 root) (λ node low root. (are.roots k net at node).1 (low, root)) [] [] []
    (no_wires fabric graph numbering tiles nodes) (λ s none. absurd (in_none s none)) (λ w. 1) (λ v. 1) (record { inputs = λ v low. refl; outputs = λ v low joined. refl })
    sink (sink_is_pin fabric packed placement made placed net sink here) (λ none. in_none sink none) (get_or (net_at node_nets k).goals place []) goals.0 walk in
    cut.apart over.1.goal over.1.found.path over.1.among over.1.found.walk
