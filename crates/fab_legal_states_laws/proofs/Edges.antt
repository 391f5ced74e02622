-- A legal implementation has no more edges than its fabric has wires.
use Rattle.std.proofs.Common.{◌≡◌, suc, ◌<◌, ◌≤◌, List, [], ◌∷◌, length, map, take, get_or, AllPairs, Contains, refl, sym, ◌∙◌, subst, arith, length-append}
use Rattle.std.specs.List.{flat_map, range_with_len}
use Rattle.std.proofs.lemmas.List.{length-map}
use Rattle.std.proofs.lemmas.List.Elements.{Contains-append_right}
use Rattle.std.proofs.lemmas.List.FromFn.{length-range_with_len}
use Rattle.fab_model.specs.Grid.{PlainFabric}
use Rattle.fab_fabric.specs.Fabric.{AreTiles, wire_count}
use Rattle.fab_fabric.specs.Wires.{numbered_wire}
use Rattle.fab_fabric.specs.declared.wire.Wire.{Wire}
use Rattle.fab_netlist.specs.Packed.{PlainPacked}
use Rattle.fab_netlist.proofs.Members.{first_in, later_in, mapped_in}
use Rattle.fab_implementation.specs.Plain.{Edge, Pad, PlainTree, PlainImplementation}
use Rattle.fab_legal.specs.Legal.{IsLegal}
use Rattle.fab_legal.specs.Nets.{Net, StandsIn, entered_wires, left_wires, net_of}
use Rattle.fab_legal.proofs.Lists.{at_default, at_from_mapped}
use Rattle.fab_legal.proofs.Once.{before_in}
use Rattle.fab_legal.proofs.SinkLaw.{in_flat}
use Rattle.fab_ways_laws.proofs.Bounded.{step_within}
use Rattle.fab_legal_states_laws.proofs.Counting.{Differ, both_differ, below_there, no_more, none_differ}

-- the wires that the edges of a tree enter
abbrev pub entered : PlainTree → List Wire
entered tree = entered_wires tree.edges

-- no wire is entered by edges of both
abbrev AreApart : PlainTree → PlainTree → Type 0
AreApart first second = (wire : Wire) → Contains (entered first) wire → Contains (entered second) wire → ⊥

all_entered_differ : (trees : List PlainTree) → ((tree : PlainTree) → Contains trees tree → Differ (entered tree)) → AllPairs AreApart trees → Differ (flat_map entered trees)
all_entered_differ [] each apart = none_differ
all_entered_differ (tree ∷ trees) each apart =
    both_differ (entered tree) (flat_map entered trees) (each tree (first_in tree trees tree refl))
    (all_entered_differ trees (λ other here. each other (later_in tree trees other here))
    (λ i j d less inside. apart (suc i) (suc j) d (omega (arith, less)) (omega (arith, inside))))
    (λ wire here there.
    let found = in_flat entered trees wire there in
    let other : AreApart tree (get_or trees found.1.0 found.0) = apart 0 (suc found.1.0) found.0 (omega arith) (omega (arith, found.1.1)) in
    other wire here (subst (λ (t : PlainTree). Contains (entered t) wire) (sym found.1.2) found.2))

-- the edges enter as many wires as there are edges
pub edges_entered : (trees : List PlainTree) → length (flat_map entered trees) ≡ length (flat_map (λ (tree : PlainTree). tree.edges) trees)
edges_entered [] = refl
edges_entered (tree ∷ trees) =
    omega (
      arith,
      edges_entered trees,
      length-append (entered tree) (flat_map entered trees),
      length-append tree.edges (flat_map (λ (tree : PlainTree). tree.edges) trees),
      length-map tree.edges (λ (edge : Edge). edge.1),
    )

module _ (fabric : PlainFabric) (tiles : AreTiles fabric) (packed : PlainPacked) (fixed : List Pad) (it : PlainImplementation) (legal : IsLegal fabric packed fixed it) where
  -- a wire is entered once by the edges of its net
  tree_differs : (tree : PlainTree) → Contains it.trees tree → Differ (entered tree)
  tree_differs tree here = λ i j d less inside same.
      let first = at_from_mapped (λ (edge : Edge). edge.1) tree.edges i (get_or (entered tree) i d) (at_default (entered tree) i d (omega (arith, less, inside))) in
      let second = at_from_mapped (λ (edge : Edge). edge.1) tree.edges j (get_or (entered tree) j d) (at_default (entered tree) j d inside) in
      (legal.reached here.0 tree here.1 (here.1, here.2) j second.0 second.1.0 second.1).once
      (subst (λ (wire : Wire). Contains (entered_wires (take j tree.edges)) wire) (first.2 ∙ same ∙ sym second.2)
      (mapped_in (λ (edge : Edge). edge.1) (take j tree.edges) first.0 (before_in tree.edges i j first.0 less (omega (arith, second.1.0)) first.1)))

  abbrev net : PlainTree → Net
  net tree = net_of it tree.net

  stands : (tree : PlainTree) (wire : Wire) → Contains it.trees tree → Contains (entered tree) wire → StandsIn it (net tree) wire
  stands tree wire here there =
      record { tree = tree; listed = here; net_is = refl; has_wire = Contains-append_right (left_wires tree.edges) (entered_wires tree.edges) wire there }

  -- and by those of one net alone
  trees_apart : AllPairs AreApart it.trees
  trees_apart = λ i j d less inside wire in_first in_second.
      let first = at_default it.trees i d (omega (arith, less, inside)) in
      let second = at_default it.trees j d inside in
      let a = get_or it.trees i d in
      let b = get_or it.trees j d in
      let same : net a ≡ net b = legal.apart wire (net a) (net b) (stands a wire (i, first.0, first.1) in_first) (stands b wire (j, second.0, second.1) in_second) in
      (legal.nets j b inside second).name.first
      (subst (λ (n : Net). Contains (map net (take j it.trees)) n) same (mapped_in net (take j it.trees) a (before_in it.trees i j a less (omega (arith, inside)) first)))

  wire_there : (wire : Wire) → Contains (flat_map entered it.trees) wire → Contains (map numbered_wire (range_with_len 0 (wire_count fabric))) wire
  wire_there wire here =
      let tree = in_flat entered it.trees wire here in
      let at = at_from_mapped (λ (edge : Edge). edge.1) tree.0.edges tree.2.0 wire (tree.2.1, tree.2.2) in
      let step = legal.steps tree.1.0 tree.0 tree.1.1 (tree.1.1, tree.1.2) tree.2.0 at.0 at.1.0 at.1 in
      let few : wire.0 < wire_count fabric = subst (λ (w : Wire). w.0 < wire_count fabric) at.2 (step_within fabric tiles at.0.0 at.0.1 step) in
      mapped_in numbered_wire (range_with_len 0 (wire_count fabric)) wire.0 (below_there (wire_count fabric) wire.0 few)

  pub few_edges : length (flat_map (λ (tree : PlainTree). tree.edges) it.trees) ≤ wire_count fabric
  few_edges =
      omega (
        arith,
        no_more (flat_map entered it.trees) (map numbered_wire (range_with_len 0 (wire_count fabric)))
            (all_entered_differ it.trees tree_differs trees_apart) wire_there,
        edges_entered it.trees,
        length-map (range_with_len 0 (wire_count fabric)) numbered_wire,
        length-range_with_len 0 (wire_count fabric),
      )
