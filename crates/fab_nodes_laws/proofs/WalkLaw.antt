-- A least walk over nodes is a least walk over wires.
use Rattle.std.proofs.Common.{◌≡◌, ◌⊎◌, ℕ, ◌+◌, ◌*◌, ◌<◌, ◌≤◌, Bool, true, false, if◌then◌else◌, List, [], ◌∷◌, ◌++◌, AllPairs, ◌≢◌, Contains, refl, sym, ap, ◌∙◌, subst, inl, inr, arith}
use Rattle.std.proofs.lemmas.List.Sums.{sum_by-cons}
use Rattle.fab_model.specs.Grid.{PlainFabric}
use Rattle.fab_fabric.specs.Fabric.{AreTiles}
use Rattle.fab_fabric.specs.Wires.{numbered_wire}
use Rattle.fab_fabric.specs.declared.wire.Wire.{Wire}
use Rattle.fab_netlist.specs.Packed.{PlainPacked}
use Rattle.fab_netlist.proofs.Members.{in_none, first_or_later, first_in, later_in, in_left, in_right}
use Rattle.fab_implementation.specs.Plain.{PlainImplementation}
use Rattle.fab_legal.specs.Legal.{ArePlaced}
use Rattle.fab_legal.specs.Steps.{IsPaired, IsJoined}
use Rattle.fab_legal.specs.Nets.{Net, IsRoot}
use Rattle.fab_legal.proofs.Members.{in_either}
use Rattle.fab_astar.specs.Walks as nodewise
use Rattle.fab_astar.specs.Walks.{Graph, paid, IsLeastTo}
use Rattle.fab_astar.specs.Walks.Walk.{begins as node_begins, goes as node_goes}
use Rattle.fab_pathfinder.specs.Rounds.{Paths}
use Rattle.fab_pathfinder.specs.Rounds as rounds
use Rattle.fab_ways_laws.specs.Routing.{Path, has, Walk, toll, total, IsLeastWalk, MayBegin, AreGrown}
use Rattle.fab_ways_laws.specs.Routing.Walk.{begins, goes}
use Rattle.fab_ways_laws.proofs.Lists.{pairs_head, pairs_tail}
use Rattle.fab_ways_laws.proofs.Walks.{has_in, in_has, lacks, lacking}
use Rattle.fab_ways_laws.proofs.InputPins.{IsInputPin}
use Rattle.fab_nodes_laws.specs.Nodes.{IsMatrixInput, Numbering, IsHop, AreNodes}
use Rattle.fab_nodes_laws.specs.Nets.{AreGoals, wires_along, wire_paths}
use Rattle.fab_nodes_laws.proofs.MatrixInputs.{driven_or_input, pair_input, pair_driven, join_driven, join_input, root_input}
use Rattle.fab_nodes_laws.proofs.Trees.{HasOutput, IsWireTree, ArePins, no_input, node_held, output_held, sink_new, along, ends_low, hop_of, starts_low, grown_by}

-- two tests with one answer
pub same_test : (a b : Bool) → (a ≡ true → b ≡ true) → (b ≡ true → a ≡ true) → a ≡ b
same_test true true forth back = refl
same_test false false forth back = refl
same_test true false forth back = sym (forth refl)
same_test false true forth back = back refl

module _ (fabric : PlainFabric) (graph : Graph) (numbering : Numbering) (tiles : AreTiles fabric) (nodes : AreNodes fabric graph numbering)
    (packed : PlainPacked) (placement : PlainImplementation) (placed : ArePlaced fabric packed placement) (net : Net) (roots : List ℕ)
    (are_roots : (node : ℕ) → Contains roots node → (node < graph.nodes) × IsRoot fabric placement net (numbered_wire (numbering.wire node)))
    (all_roots : (node : ℕ) → node < graph.nodes → IsRoot fabric placement net (numbered_wire (numbering.wire node)) → Contains roots node) where
  -- what prices of wires have to be for those of nodes
  pub record ArePrices (wire_price node_price : ℕ → ℕ) : Type 0 where
    pub inputs : (node : ℕ) → node < graph.nodes → wire_price (numbering.wire node) ≡ node_price node
    pub outputs : (node : ℕ) → node < graph.nodes → HasOutput fabric graph numbering tiles nodes node → wire_price (numbering.output node) ≡ node_price node

  module _ (tree wires done : List ℕ) (is : IsWireTree fabric graph numbering tiles nodes tree wires done) (pins : ArePins fabric graph numbering tiles nodes done) where
    abbrev Start : ℕ → Type 0
    Start wire = MayBegin fabric placement net wires wire

    abbrev starts : List ℕ
    starts = tree ++ roots

    low : (node : ℕ) → Contains starts node → node < graph.nodes
    low = starts_low fabric graph numbering tiles nodes packed placement placed net roots are_roots tree wires done is

    same_held : (node : ℕ) → node < graph.nodes → has wires (numbering.wire node) ≡ has tree node
    same_held node few =
        same_test (has wires (numbering.wire node)) (has tree node)
        (λ yes. has_in tree node (node_held fabric graph numbering tiles nodes tree wires done is pins node few (in_has wires (numbering.wire node) yes)))
        (λ yes. has_in wires (numbering.wire node) (is.held node (in_has tree node yes)))

    input_free : (node : ℕ) → node < graph.nodes → has tree node ≡ false → has wires (numbering.wire node) ≡ false
    input_free node few free = same_held node few ∙ free

    output_free : (node : ℕ) → node < graph.nodes → HasOutput fabric graph numbering tiles nodes node → has tree node ≡ false → has wires (numbering.output node) ≡ false
    output_free node few joined free =
        lacks wires (numbering.output node) (λ here. lacking tree node free (output_held fabric graph numbering tiles nodes tree wires done is pins node few joined here))

    -- ---- from nodes to wires

    pub walk_of : {node : ℕ} {path : List ℕ} → nodewise.Walk graph tree starts node path → Walk fabric wires Start (numbering.wire node) (wires_along numbering path)
    walk_of {node} {path} (node_begins start) = elim (in_either tree roots node start) [
      | inl before ↦ begins (inl (is.held node before))
      | inr root ↦ begins (inr (are_roots node root).1)
    ]
    walk_of {node} {path} (node_goes {node = from} {path = front} earlier edge free) =
        let hop = hop_of fabric graph numbering tiles nodes tree starts low earlier node edge in
        let few = ends_low fabric graph numbering tiles nodes tree starts low (node_goes earlier edge free) in
        subst (λ (ws : List ℕ). Walk fabric wires Start (numbering.wire node) ws) (sym (along fabric graph numbering tiles nodes tree starts low earlier node))
        (goes (goes (walk_of earlier) (inl hop.pair) (output_free node few hop.join free)) (inr hop.join) (input_free node few free))

    module _ (wire_price node_price : ℕ → ℕ) (prices : ArePrices wire_price node_price) where
      paid_more : {node : ℕ} {path : List ℕ} → nodewise.Walk graph tree starts node path → (next : ℕ) → paid tree node_price (next ∷ path) ≡ 2 * node_price next + paid tree node_price path
      paid_more {node} {path} (node_begins start) next = refl
      paid_more {node} {path} (node_goes earlier edge free) next = refl

      first_paid : (node : ℕ) → node < graph.nodes → toll wires wire_price (numbering.wire node) ≡ paid tree node_price (node ∷ [])
      first_paid node few =
          ap (λ (b : Bool). if b then 0 else wire_price (numbering.wire node)) (same_held node few) ∙ ap (λ (n : ℕ). if has tree node then 0 else n) (prices.inputs node few)

      free_toll : (wire : ℕ) → has wires wire ≡ false → toll wires wire_price wire ≡ wire_price wire
      free_toll wire free = rw free refl

      pub same_paid : {node : ℕ} {path : List ℕ} → nodewise.Walk graph tree starts node path → total wires wire_price (wires_along numbering path) ≡ paid tree node_price path
      same_paid {node} {path} (node_begins start) =
          let sum = sum_by-cons (toll wires wire_price) (numbering.wire node) [] in
          omega (arith, sum, first_paid node (low node start))
      same_paid {node} {path} (node_goes {node = from} {path = front} earlier edge free) =
          let walk = node_goes earlier edge free in
          let few = ends_low fabric graph numbering tiles nodes tree starts low walk in
          let hop = hop_of fabric graph numbering tiles nodes tree starts low earlier node edge in
          let rest = wires_along numbering front in
          let split : total wires wire_price (wires_along numbering (node ∷ front)) ≡ total wires wire_price (numbering.wire node ∷ (numbering.output node ∷ rest)) =
          ap (total wires wire_price) (along fabric graph numbering tiles nodes tree starts low earlier node) in
          let first = sum_by-cons (toll wires wire_price) (numbering.wire node) (numbering.output node ∷ rest) in
          let second = sum_by-cons (toll wires wire_price) (numbering.output node) rest in
          let input = free_toll (numbering.wire node) (input_free node few free) ∙ prices.inputs node few in
          let output = free_toll (numbering.output node) (output_free node few hop.join free) ∙ prices.outputs node few hop.join in
          omega (arith, split, first, second, input, output, same_paid earlier, paid_more earlier node)

      -- ---- from wires to nodes

      -- a walk to a node that pays no more
      pub record IsFound (node bound : ℕ) : Type 0 where
        pub path : List ℕ
        pub walk : nodewise.Walk graph tree starts node path
        pub cheap : paid tree node_price path ≤ bound

      -- a walk to a node before a wire
      record IsFoundBefore (wire bound : ℕ) : Type 0 where
        pub node : ℕ
        pub few : node < graph.nodes
        pub pair : IsPaired fabric (numbered_wire (numbering.wire node)) (numbered_wire wire)
        pub path : List ℕ
        pub walk : nodewise.Walk graph tree starts node path
        pub cheap : paid tree node_price path + toll wires wire_price wire ≤ bound

      record HasBoth (wire bound : ℕ) : Type 0 where
        pub to_node : (node : ℕ) → node < graph.nodes → numbering.wire node ≡ wire → IsFound node bound
        pub to_output : (to : Wire) → IsJoined fabric (numbered_wire wire) to → Contains wires wire ⊎ IsFoundBefore wire bound

      input_again : (wire node : ℕ) → node < graph.nodes → numbering.wire node ≡ wire → IsMatrixInput fabric (numbered_wire wire)
      input_again wire node few same = subst (λ (n : ℕ). IsMatrixInput fabric (numbered_wire n)) same (nodes.inputs node few)

      start_found : (wire : ℕ) → Start wire → HasBoth wire (total wires wire_price (wire ∷ []))
      start_found wire (inl before) = record {
        to_node = λ node few same.
            let here = node_held fabric graph numbering tiles nodes tree wires done is pins node few (subst (λ (n : ℕ). Contains wires n) (sym same) before) in
            record {
              path = node ∷ [];
              walk = node_begins (in_left tree roots node here);
              cheap = omega (arith, sum_by-cons (toll wires wire_price) wire [], first_paid node few, ap (toll wires wire_price) same);
            };
        to_output = λ to joined. inl before;
      }
      start_found wire (inr root) = record {
        to_node = λ node few same.
            let here = all_roots node few (subst (λ (n : ℕ). IsRoot fabric placement net (numbered_wire n)) (sym same) root) in
            record {
              path = node ∷ [];
              walk = node_begins (in_right tree roots node here);
              cheap = omega (arith, sum_by-cons (toll wires wire_price) wire [], first_paid node few, ap (toll wires wire_price) same);
            };
        to_output = λ to joined.
            absurd (driven_or_input fabric (numbered_wire wire) (join_driven fabric tiles (numbered_wire wire) to joined) (root_input fabric tiles packed placement placed net (numbered_wire wire) root));
      }

      -- over a join
      join_found : (wire next : ℕ) (front : Path) → IsJoined fabric (numbered_wire wire) (numbered_wire next) → has wires next ≡ false → (node : ℕ) → node < graph.nodes → numbering.wire node ≡ next →
          Contains wires wire ⊎ IsFoundBefore wire (total wires wire_price front) → IsFound node (total wires wire_price (next ∷ front))
      join_found wire next front joined free node few same before =
          let own : IsJoined fabric (numbered_wire wire) (numbered_wire (numbering.wire node)) = subst (λ (n : ℕ). IsJoined fabric (numbered_wire wire) (numbered_wire n)) (sym same) joined in
          let output : numbering.output node ≡ wire = nodes.outputs node (numbered_wire wire) few own in
          let has_output : HasOutput fabric graph numbering tiles nodes node = subst (λ (n : ℕ). IsJoined fabric (numbered_wire n) (numbered_wire (numbering.wire node))) (sym output) own in
          let own_free : has wires (numbering.wire node) ≡ false = ap (has wires) same ∙ free in
          let node_free : has tree node ≡ false = sym (same_held node few) ∙ own_free in
          elim before [
            | inl inside ↦ absurd (lacking tree node node_free
                (output_held fabric graph numbering tiles nodes tree wires done is pins node few has_output (subst (λ (n : ℕ). Contains wires n) (sym output) inside)))
            | inr found ↦ (
                let pair : IsPaired fabric (numbered_wire (numbering.wire found.node)) (numbered_wire (numbering.output node)) =
                subst (λ (n : ℕ). IsPaired fabric (numbered_wire (numbering.wire found.node)) (numbered_wire n)) (sym output) found.pair in
                let hop : IsHop fabric numbering found.node node = record { pair = pair; join = has_output } in
                let edge = (nodes.ends found.node node found.few).1 (few, hop) in
                let input_paid = free_toll next free ∙ ap wire_price (sym same) ∙ prices.inputs node few in
                let output_paid = free_toll (numbering.output node) (output_free node few has_output node_free) ∙ prices.outputs node few has_output in
                record {
                  path = node ∷ found.path;
                  walk = node_goes found.walk edge node_free;
                  cheap = omega (arith, paid_more found.walk node, found.cheap, input_paid, output_paid, ap (toll wires wire_price) output, sum_by-cons (toll wires wire_price) next front);
                })
          ]

      both_found : {wire : ℕ} {path : Path} → Walk fabric wires Start wire path → HasBoth wire (total wires wire_price path)
      both_found {wire} {path} (begins start) = start_found wire start
      both_found {wire} {path} (goes {wire = from} {path = front} earlier (inl pair) free) = record {
        to_node = λ node few same. absurd (driven_or_input fabric (numbered_wire wire) (pair_driven fabric tiles (numbered_wire from) (numbered_wire wire) pair) (input_again wire node few same));
        to_output = λ to joined.
            let node = nodes.numbered (numbered_wire from) (pair_input fabric tiles (numbered_wire from) (numbered_wire wire) pair) in
            let found = (both_found earlier).to_node node.0 node.1 node.2 in
            inr (record {
              node = node.0;
              few = node.1;
              pair = subst (λ (n : ℕ). IsPaired fabric (numbered_wire n) (numbered_wire wire)) (sym node.2) pair;
              path = found.path;
              walk = found.walk;
              cheap = omega (arith, found.cheap, sum_by-cons (toll wires wire_price) wire front);
            });
      }
      both_found {wire} {path} (goes {wire = from} {path = front} earlier (inr join) free) = record {
        to_node = λ node few same. join_found from wire front join free node few same ((both_found earlier).to_output (numbered_wire wire) join);
        to_output = λ to joined.
            absurd (driven_or_input fabric (numbered_wire wire) (join_driven fabric tiles (numbered_wire wire) to joined) (join_input fabric tiles (numbered_wire from) (numbered_wire wire) join));
      }

      -- ---- sinks

      module _ (sink : ℕ) (pin : IsInputPin fabric (numbered_wire sink)) (new : Contains done sink → ⊥) (goals : List ℕ)
          (are_goals : (node : ℕ) → (Contains goals node → (node < graph.nodes) × IsPaired fabric (numbered_wire (numbering.wire node)) (numbered_wire sink))
          × ((node < graph.nodes) × IsPaired fabric (numbered_wire (numbering.wire node)) (numbered_wire sink) → Contains goals node)) where
        free_sink : has wires sink ≡ false
        free_sink = lacks wires sink (sink_new fabric graph numbering tiles nodes tree wires done is pins sink pin new)

        -- each walk to the sink comes over a goal
        pub record ComesOver (bound : ℕ) : Type 0 where
          pub goal : ℕ
          pub among : Contains goals goal
          pub found : IsFound goal bound

        pub comes_over : {path : Path} → Walk fabric wires Start sink path → (bound : ℕ) × ComesOver bound × (total wires wire_price path ≡ toll wires wire_price sink + bound)
        comes_over {path} (begins (inl before)) = absurd (lacking wires sink free_sink before)
        comes_over {path} (begins (inr root)) = absurd (no_input fabric graph numbering tiles nodes sink pin (root_input fabric tiles packed placement placed net (numbered_wire sink) root))
        comes_over {path} (goes {wire = from} {path = front} earlier (inr join) free) =
            absurd (no_input fabric graph numbering tiles nodes sink pin (join_input fabric tiles (numbered_wire from) (numbered_wire sink) join))
        comes_over {path} (goes {wire = from} {path = front} earlier (inl pair) free) =
            let node = nodes.numbered (numbered_wire from) (pair_input fabric tiles (numbered_wire from) (numbered_wire sink) pair) in
            let own = subst (λ (n : ℕ). IsPaired fabric (numbered_wire n) (numbered_wire sink)) (sym node.2) pair in (
              total wires wire_price front,
              record { goal = node.0; among = (are_goals node.0).1 (node.1, own); found = (both_found earlier).to_node node.0 node.1 node.2 },
              sum_by-cons (toll wires wire_price) sink front,
            )

        pub least_walk : (path : List ℕ) → IsLeastTo graph tree starts node_price goals path → IsLeastWalk fabric wires Start wire_price sink (sink ∷ wires_along numbering path)
        least_walk path least = (
          goes (walk_of least.walk) (inl ((are_goals least.goal).0 least.among).1) free_sink,
          λ other walk.
              let over = comes_over walk in
              let one = least.least over.1.goal over.1.found.path over.1.among over.1.found.walk in
              omega (arith, sum_by-cons (toll wires wire_price) sink (wires_along numbering path), same_paid least.walk, one, over.1.found.cheap, over.2),
        )

  -- ---- trees

  module _ (wire_price node_price : ℕ → ℕ) (prices : ArePrices wire_price node_price) where
    pub are_grown : (tree wires done sinks : List ℕ) (goals : List (List ℕ)) (paths : Paths) → IsWireTree fabric graph numbering tiles nodes tree wires done → ArePins fabric graph numbering tiles nodes done →
        ArePins fabric graph numbering tiles nodes sinks → AllPairs (λ a b. a ≢ b) sinks → ((sink : ℕ) → Contains sinks sink → Contains done sink → ⊥) →
        AreGoals fabric graph numbering sinks goals → rounds.AreGrown graph roots node_price tree goals paths →
        AreGrown fabric placement net wire_price wires sinks (wire_paths numbering sinks paths)
    are_grown tree wires done [] [] [] is old pins apart new are grown = tt
    are_grown tree wires done [] [] (path ∷ paths) is old pins apart new are grown = absurd grown
    are_grown tree wires done [] (goal ∷ goals) paths is old pins apart new are grown = absurd are
    are_grown tree wires done (sink ∷ sinks) [] paths is old pins apart new are grown = absurd are
    are_grown tree wires done (sink ∷ sinks) (goal ∷ goals) [] is old pins apart new are grown = absurd grown
    are_grown tree wires done (sink ∷ sinks) (goal ∷ goals) (path ∷ paths) is old pins apart new are grown =
        let pin = pins sink (first_in sink sinks sink refl) in
        let here = new sink (first_in sink sinks sink refl) in
        let now = grown_by fabric graph numbering tiles nodes packed placement placed net roots are_roots tree wires done is sink grown.0.goal path grown.0.walk in (
          least_walk tree wires done is old wire_price node_price prices sink pin here goal are.0 path grown.0,
          are_grown (tree ++ path) (wires ++ (sink ∷ wires_along numbering path)) (done ++ sink ∷ []) sinks goals paths now
              (λ s inside. elim (in_either done (sink ∷ []) s inside) [
                | inl before ↦ old s before
                | inr last ↦ elim (first_or_later sink [] s last) [ inl same ↦ subst (λ (n : ℕ). IsInputPin fabric (numbered_wire n)) same pin | inr none ↦ absurd (in_none s none) ]
              ])
              (λ s inside. pins s (later_in sink sinks s inside)) (pairs_tail (λ a b. a ≢ b) sink sinks apart)
              (λ s inside before. elim (in_either done (sink ∷ []) s before) [
                | inl older ↦ new s (later_in sink sinks s inside) older
                | inr last ↦ elim (first_or_later sink [] s last) [ inl same ↦ pairs_head (λ a b. a ≢ b) sink sinks apart s inside same | inr none ↦ in_none s none ]
              ]) are.1 grown.1,
        )
