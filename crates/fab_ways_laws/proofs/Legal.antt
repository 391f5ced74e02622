-- The last trees of a run that leaves no shared wire are legal.
use Rattle.std.proofs.Common.{◌≡◌, ◌⊎◌, ℕ, ◌+◌, ◌*◌, ◌<◌, ◌≤◌, true, List, [], ◌∷◌, ◌++◌, map, filter, length, get_or, take, drop, AllPairs, Contains, refl, sym, ap, ◌∙◌, subst, inl, inr, arith, append-nil, mul-le-mul_right, take-append-drop, eqb-true, eq-eqb}
use Rattle.std.proofs.lemmas.Bool.{cases_lt, false≢true}
use Rattle.std.proofs.lemmas.List.{map-append, drop_more, get_or_default, length-take-le, get_or-take}
use Rattle.fab_legal.specs.fab_model.specs.Grid.{PlainFabric}
use Rattle.fab_legal.specs.fab_fabric.specs.Wires.{numbered_wire}
use Rattle.fab_legal.specs.fab_fabric.specs.declared.wire.Wire.{Wire}
use Rattle.fab_legal.specs.fab_netlist.specs.declared.net_id.NetId.{NetId}
use Rattle.fab_legal.specs.fab_netlist.specs.declared.net_id.NetId.TheVariants as ids
use Rattle.fab_legal.specs.fab_netlist.specs.WellMade.{times}
use Rattle.fab_legal.specs.fab_netlist.specs.Packed.{PlainPacked}
use Rattle.fab_legal.specs.fab_netlist.specs.Plain.{IsAt}
use Rattle.fab_legal.specs.fab_netlist.proofs.Members.{in_none, first_in, in_left, in_right, mapped_in}
use Rattle.fab_legal.specs.fab_netlist.proofs.Counts.{times_joined, member_counts}
use Rattle.fab_legal.specs.fab_implementation.specs.Plain.{Edge, Pad, PlainTree, PlainImplementation}
use Rattle.fab_legal.specs.Turns.{AreRight}
use Rattle.fab_legal.specs.WellMade.{IsWellMadePacked, IsNetId}
use Rattle.fab_legal.specs.Lines.{named, ConstraintsHold}
use Rattle.fab_legal.specs.Legal.{ArePlaced, IsLegal, HasRightEntries}
use Rattle.fab_legal.specs.Nets.{Net, port_net, net_of, IsNet, IsRoot, StandsIn, IsRightStep, IsRightEntry, IsRightStart, IsRightNet, entered_wires, left_wires, Reached}
use Rattle.fab_legal.specs.Sinks.{Required, sinks, packed_net, named_sink}
use Rattle.fab_legal.specs.inner.Tables.{entered_number, left_number}
use Rattle.fab_legal.proofs.PortNumbers.{name_at, known_number}
use Rattle.fab_legal.proofs.Lists.{at_default, same_at}
use Rattle.fab_legal.proofs.Members.{in_either, from_mapped}
use Rattle.fab_legal.proofs.ReachSearch.{entered_as, entered_wire}
use Rattle.fab_legal.proofs.SinkLaw.{sinks_are_required, sink_known}
use Rattle.fab_ways_laws.specs.Placing.{same_net}
use Rattle.fab_ways_laws.specs.Routing.{Paths, has, AreGrown, wires_of, nets, sinks_of, others, negotiated, IsRound, LeavesShared, past_of, Run}
use Rattle.fab_ways_laws.specs.Trees.{edges_of, by_line, trees_of, with_trees}
use Rattle.fab_ways_laws.specs.Routing.Run.{begins, goes}
use Rattle.fab_ways_laws.specs.Laws.{UnsharedIsLegal, MappingIsLegal}
use Rattle.fab_ways_laws.proofs.Walks.{has_in}
use Rattle.fab_ways_laws.proofs.Grown.{IsTree, no_tree, grown_tree, sink_in}
use Rattle.fab_ways_laws.proofs.InputPins.{IsInputPin, sink_pin, never_root}
use Rattle.fab_ways_laws.proofs.Lists.{into_filter, from_filter, two_users}
use Rattle.fab_ways_laws.proofs.NetTrees.{AreOther, nets_apart, net_known, known_net, tree_of, from_trees, into_trees, trees_apart}

-- a price is at least 1
pub price_paid : (past : ℕ → ℕ) (round : ℕ) (beside : ℕ → ℕ) (w : ℕ) → 1 ≤ negotiated past round beside w
price_paid past round beside w =
    let one : 1 ≤ 1 + past w = omega arith in
    let more : 1 * (1 + round * beside w) ≤ (1 + past w) * (1 + round * beside w) = mul-le-mul_right (1 + round * beside w) one in
    omega (arith, more)

-- the last round of a run
pub record HasLast (fabric : PlainFabric) (packed : PlainPacked) (i : PlainImplementation) (last : List Paths) : Type 0 where
  pub past : ℕ → ℕ
  pub round : ℕ
  pub old : List Paths
  pub is_round : IsRound fabric packed i past round old last

pub last_round : (fabric : PlainFabric) (packed : PlainPacked) (i : PlainImplementation) {rounds : List (List Paths)} {last : List Paths} → Run fabric packed i rounds last → 0 < length rounds → HasLast fabric packed i last
last_round fabric packed i {rounds} {last} begins some = absurd (omega (arith, some))
last_round fabric packed i {rounds} {last} (goes {rounds = before} {old = old} new run shares is) some = record { past = past_of before; round = length before; old = old; is_round = is }

-- ---- tests of nets

pub same_net_is : (a b : NetId) → same_net a b ≡ true → a ≡ b
same_net_is ids.Zero ids.Zero e = refl
same_net_is ids.Zero ids.One e = absurd (false≢true e)
same_net_is ids.Zero (ids.In k) e = absurd (false≢true e)
same_net_is ids.Zero (ids.Cell k) e = absurd (false≢true e)
same_net_is ids.One ids.Zero e = absurd (false≢true e)
same_net_is ids.One ids.One e = refl
same_net_is ids.One (ids.In k) e = absurd (false≢true e)
same_net_is ids.One (ids.Cell k) e = absurd (false≢true e)
same_net_is (ids.In j) ids.Zero e = absurd (false≢true e)
same_net_is (ids.In j) ids.One e = absurd (false≢true e)
same_net_is (ids.In j) (ids.In k) e = ap ids.In (eqb-true j k e)
same_net_is (ids.In j) (ids.Cell k) e = absurd (false≢true e)
same_net_is (ids.Cell j) ids.Zero e = absurd (false≢true e)
same_net_is (ids.Cell j) ids.One e = absurd (false≢true e)
same_net_is (ids.Cell j) (ids.In k) e = absurd (false≢true e)
same_net_is (ids.Cell j) (ids.Cell k) e = ap ids.Cell (eqb-true j k e)

same_itself : (a : NetId) → same_net a a ≡ true
same_itself ids.Zero = refl
same_itself ids.One = refl
same_itself (ids.In k) = eq-eqb k k refl
same_itself (ids.Cell k) = eq-eqb k k refl

-- ---- a legal implementation

module _ (fabric : PlainFabric) (packed : PlainPacked) (fixed : List Pad) (i : PlainImplementation) (last : List Paths) (made : IsWellMadePacked packed) (placed : ArePlaced fabric packed i)
    (constraints : ConstraintsHold fixed i) (has_last : HasLast fabric packed i last) (unshared : LeavesShared last → ⊥) where
  abbrev trees : List PlainTree
  trees = trees_of packed i last

  abbrev done : PlainImplementation
  done = with_trees i trees

  placed_on : ArePlaced fabric packed done
  placed_on = record { cells = placed.cells; sites = placed.sites; ports = record { ins = placed.ports.ins; outs = placed.ports.outs } }

  abbrev id_of : NetId → NetId
  id_of net = by_line packed i net

  net_is : (net : NetId) → IsNetId packed net → net_of done (id_of net) ≡ packed_net packed net
  net_is ids.Zero known = refl
  net_is ids.One known = refl
  net_is (ids.In k) known =
      let name = get_or packed.inputs k [] in
      let there : Contains (named i.ins) name = placed.ports.ins.all_named name (k, known, get_or_default packed.inputs k name [] known) in
      ap port_net (name_at (named i.ins) name [] (known_number (named i.ins) name there))
  net_is (ids.Cell k) known = refl

  known_is : (net : NetId) → Contains (nets packed) net → net_of done (id_of net) ≡ packed_net packed net
  known_is net known = net_is net (net_known packed made net known)

  -- each tree has grown
  module _ (k : ℕ) (net : NetId) (paths : Paths) (net_at : IsAt (nets packed) k net) (paths_at : IsAt last k paths) where
    abbrev beside : ℕ → ℕ
    beside = others has_last.old last k

    abbrev price : ℕ → ℕ
    price = negotiated has_last.past has_last.round beside

    grown : AreGrown fabric done (packed_net packed net) price [] (sinks_of fabric packed done net) paths
    grown = has_last.is_round.each k net paths net_at paths_at

    unrooted : (s : ℕ) → Contains (sinks_of fabric packed done net) s → IsRoot fabric done (packed_net packed net) (numbered_wire s) → ⊥
    unrooted s here =
        let from = from_mapped (λ (sink : NetId × Wire). sink.1.0) (filter (λ sink. same_net sink.0 net) (sinks fabric packed done)) s here in
        let listed = from_filter (λ sink. same_net sink.0 net) (sinks fabric packed done) from.0 from.1 in
        let required : Required fabric packed done (packed_net packed from.0.0) from.0.1 =
        (sinks_are_required fabric packed done made placed_on.cells placed_on.ports (packed_net packed from.0.0) from.0.1).0 (mapped_in (named_sink packed) (sinks fabric packed done) from.0 listed.0) in
        let pin : IsInputPin fabric from.0.1 = sink_pin fabric packed done made placed_on (packed_net packed from.0.0) from.0.1 required in
        never_root fabric packed done made placed_on (numbered_wire s) (subst (λ (w : ℕ). IsInputPin fabric (numbered_wire w)) from.2 pin) (packed_net packed net)

    pub is_tree : IsTree fabric done (packed_net packed net) (wires_of paths) (edges_of paths)
    is_tree = grown_tree fabric done (packed_net packed net) price (price_paid has_last.past has_last.round beside) [] [] (sinks_of fabric packed done net) paths
        (no_tree fabric done (packed_net packed net)) grown unrooted

    pub sink_there : (s : ℕ) → Contains (sinks_of fabric packed done net) s → Contains (wires_of paths) s
    sink_there s here = sink_in fabric done (packed_net packed net) price (price_paid has_last.past has_last.round beside) [] (sinks_of fabric packed done net) paths grown s here

  -- what holds of the tree of each net holds of each tree
  of_tree : (P : PlainTree → Type 0) → ((net : NetId) (paths : Paths) → Contains (nets packed) net → IsTree fabric done (packed_net packed net) (wires_of paths) (edges_of paths) → P (tree_of id_of net paths)) →
      (tree : PlainTree) → Contains trees tree → P tree
  of_tree P each tree here =
      let found = from_trees id_of (nets packed) last tree here in
      subst P (sym found.tree_is) (each found.net found.paths (found.place, found.net_at.0, found.net_at.1) (is_tree found.place found.net found.paths found.net_at found.paths_at))

  -- all items that a list has are right
  each_right : {X : Type 0} (IsRight : List X → X → Type 0) (xs : List X) → ((place : ℕ) (x : X) → IsAt xs place x → IsRight (take place xs) x) → AreRight IsRight xs
  each_right IsRight xs each = λ place x below at. each place x at

  in_at : {X : Type 0} (xs : List X) (place : ℕ) (x : X) → IsAt xs place x → Contains xs x
  in_at xs place x at = (place, at.0, at.1)

  -- ---- rule 6

  entered_before : (edges : List Edge) (place : ℕ) (edge : Edge) → ((w : ℕ) → times w (map entered_number edges) ≤ 1) → IsAt edges place edge → Contains (entered_wires (take place edges)) edge.1 → ⊥
  entered_before edges place edge once at here =
      let w = edge.1.0 in
      let front = map entered_number (take place edges) in
      let behind = drop (place + 1) edges in
      let split : map entered_number edges ≡ front ++ (w ∷ map entered_number behind) =
      ap (map entered_number) (sym (take-append-drop place edges)) ∙ map-append entered_number (take place edges) (drop place edges)
      ∙ ap (λ (es : List Edge). front ++ map entered_number es) (drop_more edges place edge at.0)
      ∙ ap (λ (e : Edge). front ++ (entered_number e ∷ map entered_number behind)) at.1 in
      let sum : times w (map entered_number edges) ≡ times w front + times w (w ∷ map entered_number behind) = ap (times w) split ∙ times_joined w front (w ∷ map entered_number behind) in
      omega (arith, sum, once w, member_counts w front (entered_as (take place edges) edge.1 here), member_counts w (w ∷ map entered_number behind) (first_in w (map entered_number behind) w refl))

  entries : (net : NetId) (paths : Paths) → IsTree fabric done (packed_net packed net) (wires_of paths) (edges_of paths) → AreRight (IsRightEntry (edges_of paths)) (edges_of paths)
  entries net paths is = each_right (IsRightEntry (edges_of paths)) (edges_of paths) (λ place edge at. record {
    once = entered_before (edges_of paths) place edge is.once at;
    reached = subst (λ (es : List Edge). Reached es edge.1) (append-nil (edges_of paths))
        (is.reached [] (λ e here. absurd (in_none e here)) edge.1.0 (is.entered_in edge (in_at (edges_of paths) place edge at)));
  })

  -- ---- rule 7

  exists : (net : NetId) → IsNetId packed net → IsNet packed (packed_net packed net)
  exists ids.Zero known = tt
  exists ids.One known = tt
  exists (ids.In k) known = (k, known, get_or_default packed.inputs k (get_or packed.inputs k []) [] known)
  exists (ids.Cell k) known = known

  all_apart : AllPairs (λ (a b : PlainTree). net_of done a.net ≡ net_of done b.net → ⊥) trees
  all_apart = trees_apart (AreOther packed made) (λ a b. net_of done a ≡ net_of done b → ⊥) id_of (nets packed) last (nets_apart packed made)
      (λ a b first second other same. other (sym (known_is a first) ∙ same ∙ known_is b second))

  named_once : (place : ℕ) (tree : PlainTree) → IsAt trees place tree → Contains (map (λ (other : PlainTree). net_of done other.net) (take place trees)) (net_of done tree.net) → ⊥
  named_once place tree at here =
      let from = from_mapped (λ (other : PlainTree). net_of done other.net) (take place trees) (net_of done tree.net) here in
      let short : length (take place trees) ≡ place = length-take-le place trees (omega (arith, at.0)) in
      let less : from.1.0 < place = omega (arith, from.1.1, short) in
      let there : get_or trees from.1.0 tree ≡ from.0 =
      get_or_default trees from.1.0 tree from.0 (omega (arith, less, at.0)) ∙ sym (get_or-take place trees from.1.0 from.0 less) ∙ from.1.2 in
      all_apart from.1.0 place tree less at.0
      (subst (λ (t : PlainTree). net_of done t.net ≡ net_of done (get_or trees place tree).net) (sym there)
      (subst (λ (t : PlainTree). net_of done from.0.net ≡ net_of done t.net) (sym at.1) from.2))

  begins_right : (net : NetId) (paths : Paths) → Contains (nets packed) net → IsTree fabric done (packed_net packed net) (wires_of paths) (edges_of paths) → AreRight (IsRightStart fabric done (tree_of id_of net paths)) (edges_of paths)
  begins_right net paths known is = each_right (IsRightStart fabric done (tree_of id_of net paths)) (edges_of paths) (λ place edge at.
      elim (is.begun edge.0.0 (is.left_in edge (in_at (edges_of paths) place edge at))) [
        | inl entered ↦ inl (entered_wire (edges_of paths) edge.0.0 entered)
        | inr is_root ↦ inr (subst (λ (n : Net). IsRoot fabric done n edge.0) (sym (known_is net known)) is_root)
      ])

  right_net : (place : ℕ) (tree : PlainTree) → IsAt trees place tree → IsRightNet fabric packed done (take place trees) tree
  right_net place tree at = record {
    name = record {
      exists = of_tree (λ (t : PlainTree). IsNet packed (net_of done t.net))
          (λ net paths known is. subst (IsNet packed) (sym (known_is net known)) (exists net (net_known packed made net known))) tree (in_at trees place tree at);
      first = named_once place tree at;
    };
    starts = of_tree (λ (t : PlainTree). AreRight (IsRightStart fabric done t) t.edges) (λ net paths known is. begins_right net paths known is) tree (in_at trees place tree at);
  }

  -- ---- rule 8

  edge_wire : (edges : List Edge) (w : ℕ) → Contains (map left_number edges) w ⊎ Contains (map entered_number edges) w → Contains (left_wires edges ++ entered_wires edges) (numbered_wire w)
  edge_wire edges w (inl left) =
      let from = from_mapped left_number edges w left in
      in_left (left_wires edges) (entered_wires edges) (numbered_wire w)
      (subst (λ (v : Wire). Contains (left_wires edges) v) (ap numbered_wire from.2) (mapped_in (λ (e : Edge). e.0) edges from.0 from.1))
  edge_wire edges w (inr entered) = in_right (left_wires edges) (entered_wires edges) (numbered_wire w) (entered_wire edges w entered)

  some_edge : (edges : List Edge) (w : ℕ) → Contains (map left_number edges) w ⊎ Contains (map entered_number edges) w → (e : Edge) × Contains edges e
  some_edge edges w (inl left) = let from = from_mapped left_number edges w left in (from.0, from.1)
  some_edge edges w (inr entered) = let from = from_mapped entered_number edges w entered in (from.0, from.1)

  sink_stands : (net : Net) (wire : Wire) → Required fabric packed done net wire → StandsIn done net wire
  sink_stands net wire required =
      let listed = (sinks_are_required fabric packed done made placed_on.cells placed_on.ports net wire).1 required in
      let from = from_mapped (named_sink packed) (sinks fabric packed done) (net, wire) listed in
      let id = from.0.0 in
      let known = known_net packed made id (sink_known fabric packed done placed_on.cells placed_on.ports made from.0 from.1) in
      let many : length last ≡ length (nets packed) = has_last.is_round.all in
      let paths = get_or last known.0 [] in
      let paths_at : IsAt last known.0 paths = at_default last known.0 [] (omega (arith, known.1, many)) in
      let here : Contains (sinks_of fabric packed done id) from.0.1.0 =
      mapped_in (λ (sink : NetId × Wire). sink.1.0) (filter (λ sink. same_net sink.0 id) (sinks fabric packed done)) from.0
      (into_filter (λ sink. same_net sink.0 id) (sinks fabric packed done) from.0 from.1 (same_itself id)) in
      let net_at : IsAt (nets packed) known.0 id = (known.1, known.2) in
      let is = is_tree known.0 id paths net_at paths_at in
      let stands = is.stands from.0.1.0 (sink_there known.0 id paths net_at paths_at from.0.1.0 here) in
      let edge = some_edge (edges_of paths) from.0.1.0 stands in
      record {
        tree = tree_of id_of id paths;
        listed = into_trees id_of (nets packed) last known.0 id paths edge.0 net_at paths_at edge.1;
        net_is = known_is id (known.0, known.1, known.2) ∙ ap (λ (s : Net × Wire). s.0) from.2;
        has_wire = subst (λ (w : Wire). Contains (left_wires (edges_of paths) ++ entered_wires (edges_of paths)) w) (ap (λ (s : Net × Wire). s.1) from.2) (edge_wire (edges_of paths) from.0.1.0 stands);
      }

  -- ---- rule 9

  wire_of_tree : (edges : List Edge) (tree : List ℕ) (wire : Wire) → ((e : Edge) → Contains edges e → Contains tree e.0.0) → ((e : Edge) → Contains edges e → Contains tree e.1.0) →
      Contains (left_wires edges ++ entered_wires edges) wire → Contains tree wire.0
  wire_of_tree edges tree wire left_in entered_in here = elim (in_either (left_wires edges) (entered_wires edges) wire here) [
    | inl left ↦ (let from = from_mapped (λ (e : Edge). e.0) edges wire left in subst (λ (w : Wire). Contains tree w.0) from.2 (left_in from.0 from.1))
    | inr entered ↦ (let from = from_mapped (λ (e : Edge). e.1) edges wire entered in subst (λ (w : Wire). Contains tree w.0) from.2 (entered_in from.0 from.1))
  ]

  -- a wire that stands in a net is one of the tree at a place
  has_wire_at : (net : Net) (wire : Wire) → StandsIn done net wire →
      (k : ℕ) × (id : NetId) × (paths : Paths) × IsAt (nets packed) k id × IsAt last k paths × (packed_net packed id ≡ net) × (has (wires_of paths) wire.0 ≡ true)
  has_wire_at net wire stands =
      let found = from_trees id_of (nets packed) last stands.tree stands.listed in
      let is = is_tree found.place found.net found.paths found.net_at found.paths_at in
      let id_is : stands.tree.net ≡ id_of found.net = ap (λ (t : PlainTree). t.net) found.tree_is in
      let edges_are : stands.tree.edges ≡ edges_of found.paths = ap (λ (t : PlainTree). t.edges) found.tree_is in (
        found.place,
        found.net,
        found.paths,
        found.net_at,
        found.paths_at,
        sym (known_is found.net (found.place, found.net_at.0, found.net_at.1)) ∙ sym (ap (net_of done) id_is) ∙ stands.net_is,
        has_in (wires_of found.paths) wire.0 (wire_of_tree (edges_of found.paths) (wires_of found.paths) wire is.left_in is.entered_in
            (subst (λ (es : List Edge). Contains (left_wires es ++ entered_wires es) wire) edges_are stands.has_wire)),
      )

  nets_differ : (wire : Wire) (first second : Net) → StandsIn done first wire → StandsIn done second wire → first ≡ second
  nets_differ wire first second one other =
      let a = has_wire_at first wire one in
      let b = has_wire_at second wire other in
      elim (cases_lt a.0 b.0) [
        | inl less ↦ absurd (unshared (wire.0, two_users (λ (paths : Paths). has (wires_of paths) wire.0) last a.0 b.0 a.2 b.2 less a.4 b.4 a.6 b.6))
        | inr more ↦ elim (cases_lt b.0 a.0) [
          | inl less ↦ absurd (unshared (wire.0, two_users (λ (paths : Paths). has (wires_of paths) wire.0) last b.0 a.0 b.2 a.2 less b.4 a.4 b.6 a.6))
          | inr least ↦ (
              let place : a.0 ≡ b.0 = omega (arith, more, least) in
              let id : a.1 ≡ b.1 = same_at (nets packed) b.0 a.1 b.1 (subst (λ (k : ℕ). IsAt (nets packed) k a.1) place a.3) b.3 in
              sym a.5 ∙ ap (packed_net packed) id ∙ b.5)
        ]
      ]

  pub is_legal : IsLegal fabric packed fixed done
  is_legal = record {
    placed = placed_on;
    constraints = constraints;
    steps = each_right (λ before (tree : PlainTree). AreRight (IsRightStep fabric) tree.edges) trees (λ place tree at.
        of_tree (λ (t : PlainTree). AreRight (IsRightStep fabric) t.edges)
        (λ net paths known is. each_right (IsRightStep fabric) (edges_of paths) (λ k edge on. is.steps edge (in_at (edges_of paths) k edge on))) tree (in_at trees place tree at));
    reached = each_right HasRightEntries trees (λ place tree at.
        of_tree (λ (t : PlainTree). AreRight (IsRightEntry t.edges) t.edges) (λ net paths known is. entries net paths is) tree (in_at trees place tree at));
    nets = each_right (IsRightNet fabric packed done) trees right_net;
    sinks = sink_stands;
    apart = λ wire first second one other. nets_differ wire first second one other;
  }

pub unshared_is_legal : UnsharedIsLegal
unshared_is_legal fabric packed fixed i rounds last made placed constraints run some unshared =
    is_legal fabric packed fixed i last made placed constraints (last_round fabric packed i run some) unshared

pub mapping_is_legal : MappingIsLegal
mapping_is_legal fabric packed fixed allowed implementation made mapping =
    let routed = mapping.routed in
    subst (λ (i : PlainImplementation). IsLegal fabric packed fixed i) (sym (mapping.is ∙ ap (with_trees mapping.placement) routed.trees_are))
    (unshared_is_legal fabric packed fixed mapping.placement routed.rounds routed.last made mapping.good.placed mapping.good.constraints routed.run routed.some_rounds routed.unshared)
