-- What a run on a placement speaks of is there: its wires are wires of the fabric, and its nets are nets of the design.
use Rattle.std.proofs.Common.{◌≡◌, ℕ, ◌+◌, ◌<◌, List, [], ◌∷◌, ◌++◌, map, filter, length, get_or, All, Contains, sym, ap, ◌∙◌, subst, inl, inr, arith}
use Rattle.std.proofs.lemmas.List.{length-append, length-map, map-append}
use Rattle.std.proofs.Math.Seq.{get_or-append_seam}
use Rattle.fab_kinds.specs.declared.kind.Kind.TheVariants as kinds
use Rattle.fab_model.specs.Wires.{dest_of}
use Rattle.fab_model.specs.Grid.{PlainFabric}
use Rattle.fab_fabric.specs.Fabric.{AreTiles, wire_count}
use Rattle.fab_fabric.specs.Wires.{numbered_wire}
use Rattle.fab_fabric.specs.declared.wire.Wire.{Wire}
use Rattle.fab_fabric.proofs.Numbered.{wire_within}
use Rattle.fab_netlist.specs.declared.net_id.NetId.{NetId}
use Rattle.fab_netlist.specs.declared.net_id.NetId.TheVariants as ids
use Rattle.fab_netlist.specs.Plain.{IsAt}
use Rattle.fab_netlist.specs.Packed.{PlainPacked}
use Rattle.fab_netlist.proofs.Members.{in_none, first_or_later}
use Rattle.fab_netlist.proofs.Stepping.{all_of}
use Rattle.fab_implementation.specs.Plain.{Edge, PlainTree, PlainImplementation}
use Rattle.fab_implementation.specs.OnFabric.{HasWires}
use Rattle.fab_legal.specs.WellMade.{IsWellMadePacked, IsNetId}
use Rattle.fab_legal.specs.Lines.{named}
use Rattle.fab_legal.specs.Legal.{ArePlaced}
use Rattle.fab_legal.specs.Nets.{Net, zero_net, one_net, port_net, cell_net, IsRoot}
use Rattle.fab_legal.specs.Sinks.{sinks, packed_net}
use Rattle.fab_legal.proofs.Lists.{at_default}
use Rattle.fab_legal.proofs.Members.{in_either, from_mapped}
use Rattle.fab_legal.proofs.Pins.{pin_within}
use Rattle.fab_legal.proofs.PortNumbers.{known_number}
use Rattle.fab_legal.proofs.SinkLaw.{sinks_within}
use Rattle.fab_ways_laws.specs.Placing.{same_net}
use Rattle.fab_ways_laws.specs.Routing.{Path, Paths, Walk, MayBegin, AreGrown, Run, wires_of, nets, sinks_of, others, negotiated}
use Rattle.fab_ways_laws.specs.Routing.Walk.{begins, goes}
use Rattle.fab_ways_laws.specs.Routing.Run.{begins as no_rounds, goes as one_more}
use Rattle.fab_ways_laws.specs.Trees.{edges_along, edges_of, by_line, trees_of}
use Rattle.fab_ways_laws.proofs.Bounded.{step_within, step_from_within}
use Rattle.fab_ways_laws.proofs.Grown.{each}
use Rattle.fab_ways_laws.proofs.InputPins.{kind_of_line}
use Rattle.fab_ways_laws.proofs.Legal.{HasLast}
use Rattle.fab_ways_laws.proofs.Lists.{from_filter}
use Rattle.fab_ways_laws.proofs.NetTrees.{net_known, from_trees}
use Rattle.fab_ways_laws.proofs.Walks.{in_has}
use Rattle.fab_implementation.specs.Inputs.{NamesInput}
use Rattle.fab_route.specs.Answers.{HasWire}

module _ (fabric : PlainFabric) (tiles : AreTiles fabric) (packed : PlainPacked) (i : PlainImplementation) (made : IsWellMadePacked packed) (placed : ArePlaced fabric packed i) where
  abbrev IsThere : ℕ → Type 0
  IsThere wire = wire < wire_count fabric

  pub net_there : (net : NetId) (place : ℕ) → IsAt (nets packed) place net → IsNetId packed net
  net_there net place at = net_known packed made net (place, at.0, at.1)

  -- ---- sinks and roots

  pub sink_there : (net : NetId) (number wire : ℕ) → IsAt (sinks_of fabric packed i net) number wire → IsThere wire
  sink_there net number wire at =
      let from = from_mapped (λ (sink : NetId × Wire). sink.1.0) (filter (λ sink. same_net sink.0 net) (sinks fabric packed i)) wire (number, at.0, at.1) in
      let listed = (from_filter (λ sink. same_net sink.0 net) (sinks fabric packed i) from.0 from.1).0 in
      let all = sinks_within fabric packed i made placed.cells placed.ports in
      let one = subst (λ (sink : NetId × Wire). IsThere sink.1.0) listed.2 (all listed.0 from.0 listed.1) in
      subst IsThere from.2 one

  root_there : (net : Net) (wire : Wire) → IsRoot fabric i net wire → IsThere wire.0
  root_there zero_net wire is = wire_within fabric wire.0 is.x is.y (dest_of is.row is.bit) is.wire_is
  root_there one_net wire is = wire_within fabric wire.0 is.x is.y (dest_of is.row is.bit) is.wire_is
  root_there (port_net port) wire is =
      subst (λ (w : Wire). IsThere w.0) (sym is.wire_is)
      (pin_within fabric is.site 2 (kinds.Io, kind_of_line fabric kinds.Io (λ p. Contains packed.inputs p) i.ins port is.site placed.ports.ins.lines_right is.listed, omega arith))
  root_there (cell_net number) wire is =
      subst (λ (w : Wire). IsThere w.0) (sym is.wire_is)
      (pin_within fabric is.site 7 (kinds.Lut4c, kind_of_line fabric kinds.Lut4c (λ n. n < length packed.cells) i.cells number is.site placed.cells.lines_right is.listed, omega arith))

  -- ---- walks

  abbrev AreThere : List ℕ → Type 0
  AreThere wires = (wire : ℕ) → Contains wires wire → IsThere wire

  start_there : (net : Net) (tree : List ℕ) (wire : ℕ) → AreThere tree → MayBegin fabric i net tree wire → IsThere wire
  start_there net tree wire known (inl here) = known wire here
  start_there net tree wire known (inr is_root) = root_there net (numbered_wire wire) is_root

  walk_there : (net : Net) (tree : List ℕ) → AreThere tree → {wire : ℕ} {path : Path} → Walk fabric tree (MayBegin fabric i net tree) wire path → AreThere path
  walk_there net tree known {wire} {path} (begins start) w here = elim (first_or_later wire [] w here) [
    | inl same ↦ subst IsThere same (start_there net tree wire known start)
    | inr none ↦ absurd (in_none w none)
  ]
  walk_there net tree known {wire} {path} (goes {wire = from} {path = front} earlier taken free) w here = elim (first_or_later wire front w here) [
    | inl same ↦ subst IsThere same (step_within fabric tiles (numbered_wire from) (numbered_wire wire) taken)
    | inr later ↦ walk_there net tree known earlier w later
  ]

  -- ---- trees

  both_there : (xs ys : List ℕ) → AreThere xs → AreThere ys → AreThere (xs ++ ys)
  both_there xs ys left right w here = elim (in_either xs ys w here) [
    | inl l ↦ left w l
    | inr r ↦ right w r
  ]

  grown_there : (net : Net) (price : ℕ → ℕ) (tree sinks_left : List ℕ) (paths : Paths) → AreThere tree → AreGrown fabric i net price tree sinks_left paths → AreThere (wires_of paths)
  grown_there net price tree [] [] known grown w here = absurd (in_none w here)
  grown_there net price tree [] (p ∷ ps) known grown w here = absurd grown
  grown_there net price tree (s ∷ ss) [] known grown w here = absurd grown
  grown_there net price tree (s ∷ ss) (p ∷ ps) known grown w here =
      let now : AreThere p = walk_there net tree known grown.0.0 in
      elim (in_either p (wires_of ps) w here) [
        | inl first ↦ now w first
        | inr later ↦ grown_there net price (tree ++ p) ss ps (both_there tree p known now) grown.1 w later
      ]

  edges_there : (net : Net) (price : ℕ → ℕ) (tree sinks_left : List ℕ) (paths : Paths) → AreGrown fabric i net price tree sinks_left paths → (edge : Edge) → Contains (edges_of paths) edge → HasWires fabric edge
  edges_there net price tree [] [] grown edge here = absurd (in_none edge here)
  edges_there net price tree [] (p ∷ ps) grown edge here = absurd grown
  edges_there net price tree (s ∷ ss) [] grown edge here = absurd grown
  edges_there net price tree (s ∷ ss) (p ∷ ps) grown edge here = elim (in_either (edges_along p) (edges_of ps) edge here) [
    | inl first ↦ (
        let is = each fabric tree (MayBegin fabric i net tree) grown.0.0 edge first in
        (step_from_within fabric tiles edge.0 edge.1 is.is_step, step_within fabric tiles edge.0 edge.1 is.is_step))
    | inr later ↦ edges_there net price (tree ++ p) ss ps grown.1 edge later
  ]

  -- the line of an input
  input_there : (net : NetId) → IsNetId packed net → NamesInput (length i.ins) (by_line packed i net)
  input_there ids.Zero known = tt
  input_there ids.One known = tt
  input_there (ids.In k) known =
      let name = get_or packed.inputs k [] in
      let at = at_default packed.inputs k [] known in
      let there : Contains (named i.ins) name = placed.ports.ins.all_named name (k, at.0, at.1) in
      omega (arith, known_number (named i.ins) name there, length-map i.ins (λ line. line.0))
  input_there (ids.Cell k) known = tt

  module _ (last : List Paths) (has_last : HasLast fabric packed i last) where
    -- the trees of an implementation are on the fabric
    pub trees_on_fabric : All (λ (tree : PlainTree). All (HasWires fabric) tree.edges) (trees_of packed i last)
    trees_on_fabric = all_of (λ (tree : PlainTree). All (HasWires fabric) tree.edges) (trees_of packed i last) (λ tree here.
        let found = from_trees (by_line packed i) (nets packed) last tree here in
        subst (λ (t : PlainTree). All (HasWires fabric) t.edges) (sym found.tree_is) (all_of (HasWires fabric) (edges_of found.paths) (λ edge at.
        edges_there (packed_net packed found.net) (negotiated has_last.past has_last.round (others has_last.old last found.place)) [] (sinks_of fabric packed i found.net) found.paths
        (has_last.is_round.each found.place found.net found.paths found.net_at found.paths_at) edge at)))

    -- and an input's net is that of one of its lines
    pub trees_of_inputs : All (λ (tree : PlainTree). NamesInput (length i.ins) tree.net) (trees_of packed i last)
    trees_of_inputs = all_of (λ (tree : PlainTree). NamesInput (length i.ins) tree.net) (trees_of packed i last) (λ tree here.
        let found = from_trees (by_line packed i) (nets packed) last tree here in
        subst (λ (t : PlainTree). NamesInput (length i.ins) t.net) (sym found.tree_is) (input_there found.net (net_there found.net found.place found.net_at)))

    -- a wire of a tree
    pub wire_there : (place wire : ℕ) (net : NetId) → IsAt (nets packed) place net → HasWire last place wire → IsThere wire
    wire_there place wire net at has_it =
        let paths = get_or last place [] in
        let paths_at : IsAt last place paths = at_default last place [] (omega (arith, at.0, has_last.is_round.all)) in
        grown_there (packed_net packed net) (negotiated has_last.past has_last.round (others has_last.old last place)) [] (sinks_of fabric packed i net) paths (λ w none. absurd (in_none w none))
        (has_last.is_round.each place net paths at paths_at) wire (in_has (wires_of paths) wire has_it)

-- what is told of the last round of a run
pub told_last : (fabric : PlainFabric) (packed : PlainPacked) (i : PlainImplementation) {rounds : List (List Paths)} {last : List Paths} → Run fabric packed i rounds last → (told : List (List PlainTree)) (n : ℕ) → n + 1 ≡ length rounds →
    told ≡ map (trees_of packed i) rounds → get_or told n [] ≡ trees_of packed i last
told_last fabric packed i {rounds} {last} no_rounds told n count told_are = absurd (omega (arith, count))
told_last fabric packed i {rounds} {last} (one_more {rounds = before} new run shares is) told n count told_are =
    let front = map (trees_of packed i) before in
    let whole : told ≡ front ++ (trees_of packed i new ∷ []) = told_are ∙ map-append (trees_of packed i) before (new ∷ []) in
    let place : n ≡ length front = omega (arith, count, length-append before (new ∷ []), length-map before (trees_of packed i)) in
    ap (λ (ts : List (List PlainTree)). get_or ts n []) whole ∙ ap (λ (k : ℕ). get_or (front ++ (trees_of packed i new ∷ [])) k []) place ∙ get_or-append_seam front (trees_of packed i new) [] []
