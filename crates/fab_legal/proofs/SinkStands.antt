-- Sinks that stand in their nets, and nets that are apart, by numbers.
use Rattle.std.proofs.Common.{◌≡◌, ℕ, ◌<◌, List, [], ◌∷◌, ◌++◌, map, length, get_or, take, All, Contains, Some, nat_eq, refl, sym, ap, ◌∙◌, subst, inl, inr, arith}
use Rattle.std.specs.List.{flat_map, position_or_len}
use Rattle.std.proofs.lemmas.Bool.{cases_lt}
use Rattle.std.proofs.lemmas.List.{get_or_default, length-map}
use Rattle.fab_implementation.specs.fab_model.specs.Grid.{PlainFabric}
use Rattle.fab_implementation.specs.fab_fabric.specs.Fabric.{wire_count}
use Rattle.fab_implementation.specs.fab_fabric.specs.Wires.{numbered_wire}
use Rattle.fab_implementation.specs.OnFabric.{HasWires}
use Rattle.fab_implementation.specs.fab_fabric.specs.declared.wire.Wire.{Wire}
use Rattle.fab_implementation.specs.fab_netlist.specs.declared.net_id.NetId.{NetId}
use Rattle.fab_implementation.specs.fab_netlist.specs.declared.net_id.NetId.TheVariants as ids
use Rattle.fab_implementation.specs.fab_netlist.specs.Plain.{IsAt}
use Rattle.fab_implementation.specs.fab_netlist.specs.Packed.{PlainPacked}
use Rattle.fab_implementation.specs.fab_netlist.proofs.Counts.{at_mapped}
use Rattle.fab_implementation.specs.fab_netlist.proofs.Members.{in_none, first_or_later, first_in, later_in, mapped_in, in_left, in_right}
use Rattle.fab_implementation.specs.Plain.{Edge, PlainTree, PlainImplementation}
use Rattle.fab_legal.specs.WellMade.{IsNetId, IsWellMadePacked}
use Rattle.fab_legal.specs.Lines.{CellsHaveSites, PortsHavePads}
use Rattle.fab_implementation.specs.Inputs.{InputsAreLines, NamesInput}
use Rattle.fab_implementation.proofs.Inputs.{NamesLine, names_line}
use Rattle.fab_legal.specs.Nets.{Net, net_of, IsRightName, left_wires, entered_wires, StandsIn}
use Rattle.fab_legal.specs.Turns.{AreRight, IsFirstWrongAt}
use Rattle.fab_legal.specs.Sinks.{Sinks, packed_net, sinks, named_sink}
use Rattle.fab_legal.specs.Legal.{NetsBeginRight, SinksStand, IsApart}
use Rattle.fab_legal.specs.Broken.{IsSharedItem, IsSinkItem, IsWireText}
use Rattle.fab_legal.specs.inner.Kept.{AreKept}
use Rattle.fab_legal.specs.inner.Tables.{edge_numbers, tree_numbers, IsLeast, IsShared}
use Rattle.fab_legal.specs.inner.Roots.{IsSmall, packed_id, net_number, tree_number}
use Rattle.fab_legal.specs.inner.Standing.{Stands, SinkStands}
use Rattle.fab_legal.specs.declared.placed.Placed.{Placed}
use Rattle.fab_legal.proofs.Lists.{same_at}
use Rattle.fab_legal.proofs.Members.{in_either, from_mapped}
use Rattle.fab_legal.proofs.Once.{before_in}
use Rattle.fab_legal.proofs.ReachSearch.{set_in, in_set, number_place, number_at}
use Rattle.fab_legal.proofs.NetLaws.{same_net, exists_small, number_tells, net_tells}
use Rattle.fab_legal.proofs.SinkLaw.{in_flat, into_flat, required_sink, listed_required, required_within, sink_known}

-- ---- the wires of a tree

pub wire_in_tree : (tree : PlainTree) (wire : Wire) → Contains (tree_numbers tree) wire.0 → Contains (left_wires tree.edges ++ entered_wires tree.edges) wire
wire_in_tree tree wire here =
    let edge = in_flat edge_numbers tree.edges wire.0 (set_in (flat_map edge_numbers tree.edges) wire.0 here) in
    elim (first_or_later edge.0.0.0 (edge.0.1.0 ∷ []) wire.0 edge.2) [
      | inl left ↦ in_left (left_wires tree.edges) (entered_wires tree.edges) wire
          (subst (λ (w : Wire). Contains (left_wires tree.edges) w) (ap numbered_wire left) (mapped_in (λ (e : Edge). e.0) tree.edges edge.0 edge.1))
      | inr later ↦ elim (first_or_later edge.0.1.0 [] wire.0 later) [
        | inl entered ↦ in_right (left_wires tree.edges) (entered_wires tree.edges) wire
            (subst (λ (w : Wire). Contains (entered_wires tree.edges) w) (ap numbered_wire entered) (mapped_in (λ (e : Edge). e.1) tree.edges edge.0 edge.1))
        | inr none ↦ absurd (in_none wire.0 none)
      ]
    ]

pub tree_has_wire : (tree : PlainTree) (wire : Wire) → Contains (left_wires tree.edges ++ entered_wires tree.edges) wire → Contains (tree_numbers tree) wire.0
tree_has_wire tree wire here =
    in_set (flat_map edge_numbers tree.edges) wire.0 (elim (in_either (left_wires tree.edges) (entered_wires tree.edges) wire here) [
      | inl left ↦ (
          let edge = from_mapped (λ (e : Edge). e.0) tree.edges wire left in
          into_flat edge_numbers tree.edges edge.0 wire.0 edge.1 (first_in edge.0.0.0 (edge.0.1.0 ∷ []) wire.0 (ap (λ (w : Wire). w.0) edge.2)))
      | inr entered ↦ (
          let edge = from_mapped (λ (e : Edge). e.1) tree.edges wire entered in
          into_flat edge_numbers tree.edges edge.0 wire.0 edge.1
          (later_in edge.0.0.0 (edge.0.1.0 ∷ []) wire.0 (first_in edge.0.1.0 [] wire.0 (ap (λ (w : Wire). w.0) edge.2))))
    ])

module _ (fabric : PlainFabric) (packed : PlainPacked) (i : PlainImplementation) (nets : NetsBeginRight fabric packed i) where
  name_at : (n : ℕ) (tree : PlainTree) → IsAt i.trees n tree → IsRightName packed i (take n i.trees) tree
  name_at n tree at = (nets n tree at.0 at).name

  earlier_differs : (j k : ℕ) (a b : PlainTree) → IsAt i.trees j a → IsAt i.trees k b → j < k → net_of i a.net ≡ net_of i b.net → ⊥
  earlier_differs j k a b first second less same =
      (name_at k b second).first (subst (λ (n : Net). Contains (map (λ (t : PlainTree). net_of i t.net) (take k i.trees)) n) same
      (mapped_in (λ (t : PlainTree). net_of i t.net) (take k i.trees) a (before_in i.trees j k a less (omega (arith, second.0)) first)))

  -- trees of one net are one tree
  pub one_tree : (j k : ℕ) (a b : PlainTree) → IsAt i.trees j a → IsAt i.trees k b → net_of i a.net ≡ net_of i b.net → j ≡ k
  one_tree j k a b first second same =
      elim (cases_lt j k) [
        | inl less ↦ absurd (earlier_differs j k a b first second less same)
        | inr other ↦ elim (cases_lt k j) [
          | inl more ↦ absurd (earlier_differs k j b a second first more (sym same))
          | inr least ↦ omega (arith, other, least)
        ]
      ]

  -- ---- a wire in two nets

  pub list_at : (n : ℕ) (tree : PlainTree) → IsAt i.trees n tree → get_or (map tree_numbers i.trees) n [] ≡ tree_numbers tree
  list_at n tree at =
      let there = at_mapped tree_numbers i.trees n tree at in get_or_default (map tree_numbers i.trees) n [] (tree_numbers tree) there.0 ∙ there.1

  tree_there : (n : ℕ) → n < length (map tree_numbers i.trees) → (tree : PlainTree) × IsAt i.trees n tree
  tree_there n inside =
      let few : n < length i.trees = omega (arith, inside, length-map i.trees tree_numbers) in
      let d : PlainTree = record { net = ids.Zero; edges = [] } in
      (get_or i.trees n d, (few, get_or_default i.trees n (get_or i.trees n d) d few))

  pub stands_at : (n : ℕ) (tree : PlainTree) (wire : Wire) → IsAt i.trees n tree → Contains (get_or (map tree_numbers i.trees) n []) wire.0 → StandsIn i (net_of i tree.net) wire
  stands_at n tree wire at here = record {
    tree = tree;
    listed = (n, at.0, at.1);
    net_is = refl;
    has_wire = wire_in_tree tree wire (subst (λ (l : List ℕ). Contains l wire.0) (list_at n tree at) here);
  }

  -- where no wire is shared, nets are apart
  pub not_shared_apart : (wire : Wire) → (IsShared (map tree_numbers i.trees) wire.0 → ⊥) → IsApart i wire
  not_shared_apart wire never = λ first second in_first in_second.
      let a : IsAt i.trees in_first.listed.0 in_first.tree = (in_first.listed.1, in_first.listed.2) in
      let b : IsAt i.trees in_second.listed.0 in_second.tree = (in_second.listed.1, in_second.listed.2) in
      let here = subst (λ (l : List ℕ). Contains l wire.0) (sym (list_at in_first.listed.0 in_first.tree a)) (tree_has_wire in_first.tree wire in_first.has_wire) in
      let there = subst (λ (l : List ℕ). Contains l wire.0) (sym (list_at in_second.listed.0 in_second.tree b)) (tree_has_wire in_second.tree wire in_second.has_wire) in
      elim (cases_lt in_first.listed.0 in_second.listed.0) [
        | inl less ↦ absurd (never (record { first = in_first.listed.0; second = in_second.listed.0; apart = less; inside = omega (arith, b.0, length-map i.trees tree_numbers); in_first = here; in_second = there }))
        | inr other ↦ elim (cases_lt in_second.listed.0 in_first.listed.0) [
          | inl more ↦ absurd (never (record { first = in_second.listed.0; second = in_first.listed.0; apart = more; inside = omega (arith, a.0, length-map i.trees tree_numbers); in_first = there; in_second = here }))
          | inr least ↦ (
              let same : in_first.listed.0 ≡ in_second.listed.0 = omega (arith, other, least) in
              let trees = same_at i.trees in_second.listed.0 in_first.tree in_second.tree (subst (λ (n : ℕ). IsAt i.trees n in_first.tree) same a) b in
              sym in_first.net_is ∙ ap (λ (t : PlainTree). net_of i t.net) trees ∙ in_second.net_is)
        ]
      ]

  -- the least shared wire is the item
  pub shared_item : (n : ℕ) (text : List ℕ) → IsLeast (IsShared (map tree_numbers i.trees)) (Some n) → IsWireText fabric (numbered_wire n) text → IsSharedItem fabric i text
  shared_item n text least named =
      let s = least.0 in
      let a = tree_there s.first (omega (arith, s.apart, s.inside)) in
      let b = tree_there s.second s.inside in
      record {
        wire = numbered_wire n;
        one_net = net_of i a.0.net;
        other_net = net_of i b.0.net;
        in_one = stands_at s.first a.0 (numbered_wire n) a.1 s.in_first;
        in_other = stands_at s.second b.0 (numbered_wire n) b.1 s.in_second;
        two = λ same. (let equal = one_tree s.first s.second a.0 b.0 a.1 b.1 same in omega (arith, equal, s.apart));
        least = λ other less. not_shared_apart other (λ shared. omega (arith, less, least.1 other.0 shared));
        text = named;
      }

-- ---- sinks

module _ (fabric : PlainFabric) (packed : PlainPacked) (i : PlainImplementation) (placed : Placed) (made : IsWellMadePacked packed) (kept : AreKept packed i placed)
    (cells : CellsHaveSites fabric packed i) (ports : PortsHavePads fabric packed i) (lines : InputsAreLines i) (nets : NetsBeginRight fabric packed i)
    (numbers : List ℕ) (lists : List (List ℕ)) (numbers_are : numbers ≡ map (tree_number placed) i.trees) (lists_are : lists ≡ map tree_numbers i.trees) where
  abbrev id_of : NetId → NetId
  id_of net = packed_id placed.ins.lines.items net

  own : (n : ℕ) (tree : PlainTree) → IsAt i.trees n tree → NamesLine i tree
  own n tree at = names_line i tree (subst (λ (t : PlainTree). NamesInput (length i.ins) t.net) at.1 (lines n tree at.0))

  small_at : (n : ℕ) (tree : PlainTree) → IsAt i.trees n tree → IsSmall placed (id_of tree.net)
  small_at n tree at = exists_small fabric packed i placed made kept cells ports tree.net (own n tree at) (nets n tree at.0 at).name.exists

  known_small : (net : NetId) → IsNetId packed net → IsSmall placed net
  known_small ids.Zero known = tt
  known_small ids.One known = tt
  known_small (ids.In k) known = omega (arith, known, kept.ins.sites_are.as_many)
  known_small (ids.Cell k) known = omega (arith, known, kept.cells.as_many)

  -- the tree whose net has a number
  tree_numbered : (net : NetId) → IsSmall placed net → Contains numbers (net_number placed net) →
      (tree : PlainTree) × IsAt i.trees (position_or_len (nat_eq (net_number placed net)) numbers) tree × (net_of i tree.net ≡ packed_net packed net)
  tree_numbered net small listed =
      let n = net_number placed net in
      let k = position_or_len (nat_eq n) numbers in
      let inside = number_place numbers n listed in
      let few : k < length i.trees = omega (arith, inside, ap (λ (l : List ℕ). length l) numbers_are, length-map i.trees (tree_number placed)) in
      let d : PlainTree = record { net = ids.Zero; edges = [] } in
      let tree : PlainTree = get_or i.trees k d in
      let at : IsAt i.trees k tree = (few, get_or_default i.trees k tree d few) in
      let there = at_mapped (tree_number placed) i.trees k tree at in
      let number : tree_number placed tree ≡ n =
      sym there.1 ∙ get_or_default (map (tree_number placed) i.trees) k (tree_number placed tree) 0 there.0 ∙ ap (λ (l : List ℕ). get_or l k 0) (sym numbers_are) ∙ number_at numbers n 0 inside in
      let id = number_tells fabric packed i placed made kept cells ports (id_of tree.net) net (small_at k tree at) small number in
      (tree, at, same_net fabric packed i placed made kept cells ports tree.net (own k tree at) ∙ ap (packed_net packed) id)

  pub stands_in : (net : NetId) (wire : Wire) → Stands placed numbers lists net wire → StandsIn i (packed_net packed net) wire
  stands_in net wire s =
      let k = position_or_len (nat_eq (net_number placed net)) numbers in
      let found = tree_numbered net s.small s.listed in
      subst (λ (m : Net). StandsIn i m wire) found.2
      (stands_at fabric packed i nets k found.0 wire found.1 (subst (λ (ls : List (List ℕ)). Contains (get_or ls k []) wire.0) lists_are s.here))

  pub in_stands : (net : NetId) (wire : Wire) → IsNetId packed net → StandsIn i (packed_net packed net) wire → Stands placed numbers lists net wire
  in_stands net wire known s =
      let small = known_small net known in
      let j = s.listed.0 in
      let at : IsAt i.trees j s.tree = (s.listed.1, s.listed.2) in
      let id : id_of s.tree.net ≡ net =
      net_tells fabric packed i placed made kept cells ports (id_of s.tree.net) net (small_at j s.tree at) small
      (sym (same_net fabric packed i placed made kept cells ports s.tree.net (own j s.tree at)) ∙ s.net_is) in
      let listed : Contains numbers (net_number placed net) =
      subst (λ (l : List ℕ). Contains l (net_number placed net)) (sym numbers_are)
      (subst (λ (m : ℕ). Contains (map (tree_number placed) i.trees) m) (ap (net_number placed) id) (mapped_in (tree_number placed) i.trees s.tree s.listed)) in
      let k = position_or_len (nat_eq (net_number placed net)) numbers in
      let found = tree_numbered net small listed in
      let places : k ≡ j = one_tree fabric packed i nets k j found.0 s.tree found.1 at (found.2 ∙ sym s.net_is) in
      record {
        small = small;
        listed = listed;
        here = subst (λ (ls : List (List ℕ)). Contains (get_or ls k []) wire.0) (sym lists_are)
            (subst (λ (m : ℕ). Contains (get_or (map tree_numbers i.trees) m []) wire.0) (sym places)
            (subst (λ (l : List ℕ). Contains l wire.0) (sym (list_at fabric packed i nets j s.tree at)) (tree_has_wire s.tree wire s.has_wire)));
      }

  pub sinks_stand : (found : Sinks) → found ≡ sinks fabric packed i → AreRight (SinkStands placed numbers lists) found → SinksStand fabric packed i
  sinks_stand found is right = λ net wire required.
      let named = from_mapped (named_sink packed) (sinks fabric packed i) (net, wire) (required_sink fabric packed i cells ports net wire required) in
      let here = subst (λ (l : Sinks). Contains l named.0) (sym is) named.1 in
      subst (λ (t : Net × Wire). StandsIn i t.0 t.1) named.2 (stands_in named.0.0 named.0.1 (right here.0 named.0 here.1 (here.1, here.2)))

  pub sink_item : (found : Sinks) (place : ℕ) (sink : NetId × Wire) (text : List ℕ) → found ≡ sinks fabric packed i → IsFirstWrongAt (SinkStands placed numbers lists) found place → sink ≡ get_or found place sink →
      IsWireText fabric sink.1 text → IsSinkItem fabric packed i text
  sink_item found place sink text is wrong read named =
      let first = subst (λ (l : Sinks). IsFirstWrongAt (SinkStands placed numbers lists) l place) is wrong in
      let at : IsAt (sinks fabric packed i) place sink = (first.inside, ap (λ (l : Sinks). get_or l place sink) (sym is) ∙ sym read) in
      record {
        sink = sink;
        text = named;
        first = record {
          place = place;
          is_at = at;
          wrong = λ stands. first.wrong sink at (in_stands sink.0 sink.1 (sink_known fabric packed i cells ports made sink (place, at.0, at.1)) stands);
          before = λ earlier other below there. stands_in other.0 other.1 (first.before earlier other below there);
        };
      }

  pub sink_within : (found : Sinks) (place : ℕ) (sink : NetId × Wire) → found ≡ sinks fabric packed i → place < length found → sink ≡ get_or found place sink → sink.1.0 < wire_count fabric
  sink_within found place sink is inside read =
      let here = subst (λ (l : Sinks). Contains l sink) is (place, inside, sym read) in
      required_within fabric packed i cells ports made (packed_net packed sink.0) sink.1
      (listed_required fabric packed i cells ports (packed_net packed sink.0) sink.1 (mapped_in (named_sink packed) (sinks fabric packed i) sink here))

-- ---- the wires of nets are wires

pub shared_within : (fabric : PlainFabric) (trees : List PlainTree) (n : ℕ) → All (λ tree. All (HasWires fabric) tree.edges) trees → IsShared (map tree_numbers trees) n → n < wire_count fabric
shared_within fabric trees n wires shared =
    let d : PlainTree = record { net = ids.Zero; edges = [] } in
    let few : shared.second < length trees = omega (arith, shared.inside, length-map trees tree_numbers) in
    let tree : PlainTree = get_or trees shared.second d in
    let there = at_mapped tree_numbers trees shared.second tree (few, get_or_default trees shared.second tree d few) in
    let here = subst (λ (l : List ℕ). Contains l n) (get_or_default (map tree_numbers trees) shared.second [] (tree_numbers tree) there.0 ∙ there.1) shared.in_second in
    let edge = in_flat edge_numbers tree.edges n (set_in (flat_map edge_numbers tree.edges) n here) in
    let both : HasWires fabric edge.0 = subst (λ (e : Edge). HasWires fabric e) edge.1.2 (wires shared.second d few edge.1.0 edge.0 edge.1.1) in
    elim (first_or_later edge.0.0.0 (edge.0.1.0 ∷ []) n edge.2) [
      | inl left ↦ omega (arith, left, both.0)
      | inr later ↦ elim (first_or_later edge.0.1.0 [] n later) [
        | inl entered ↦ omega (arith, entered, both.1)
        | inr none ↦ absurd (in_none n none)
      ]
    ]
