-- The nets of the router.
use Rattle.std.proofs.Common.{◌≡◌, ◌↔◌, ℕ, ◌+◌, ◌<◌, List, [], ◌∷◌, ◌++◌, map, take, length, get_or, Contains, refl, sym, ap, ◌∙◌, subst, inl, inr, arith}
use Rattle.std.specs.List.{All}
use Rattle.std.proofs.lemmas.List.{length-map, length-append, map-append, get_or_default, get_or_append_left}
use Rattle.std.proofs.lemmas.List.Elements.{All-nil, All-cons, All-push}
use Rattle.std.proofs.Math.Seq.{get_or-append_seam}
use Rattle.fab_model.specs.Grid.{PlainFabric}
use Rattle.fab_fabric.specs.Fabric.{AreTiles}
use Rattle.fab_fabric.specs.declared.wire.Wire.{Wire}
use Rattle.fab_fabric.proofs.Numbered.{wire_within}
use Rattle.fab_netlist.specs.declared.net_id.NetId.{NetId}
use Rattle.fab_netlist.specs.Plain.{IsAt}
use Rattle.fab_netlist.specs.Packed.{PlainPacked}
use Rattle.fab_netlist.proofs.Members.{mapped_in}
use Rattle.fab_netlist.proofs.Stepping.{all_of}
use Rattle.fab_implementation.specs.Plain.{PlainImplementation}
use Rattle.fab_legal.specs.Legal.{ArePlaced}
use Rattle.fab_legal.specs.WellMade.{IsWellMadePacked}
use Rattle.fab_legal.proofs.Lists.{cases_below}
use Rattle.fab_legal.proofs.Members.{taken_more}
use Rattle.fab_astar.specs.Walks.{Graph}
use Rattle.fab_pathfinder.specs.declared.net.Net as demand
use Rattle.fab_pathfinder.specs.declared.net.Sink.{Sink}
use Rattle.fab_pathfinder.specs.Plain.{goals_of, net_of, nets_of, IsInside}
use Rattle.fab_pathfinder.specs.Rounds.{net_at}
use Rattle.fab_ways_laws.specs.Routing.{nets, sinks_of}
use Rattle.fab_ways_laws.proofs.InputPins.{input_index}
use Rattle.fab_nodes_laws.specs.Nodes.{Numbering}
use Rattle.fab_nodes_laws.specs.Nets.{AreGoals, AreNets}
use Rattle.fab_nodes_laws.proofs.MatrixInputs.{unjoined_pin}
use Rattle.fab_nodes_laws.proofs.NetSinks.{sink_is_pin}
use Rattle.fab_route.specs.Plain.{PlainNodes, graph_of, numbering_of}
use Rattle.fab_route.specs.Over.{IsBefore}
use Rattle.fab_route.specs.inner.Wanted.{IsUnjoined, IsNetFor}

abbrev pub number : Wire → ℕ
number wire = wire.0

-- nothing is joined to a sink
pub unjoined_sinks : (fabric : PlainFabric) (tiles : AreTiles fabric) (packed : PlainPacked) (placement : PlainImplementation) (made : IsWellMadePacked packed) (placed : ArePlaced fabric packed placement) (net : NetId) (wires : List Wire) →
    map number wires ≡ sinks_of fabric packed placement net → All (IsUnjoined fabric) wires
unjoined_sinks fabric tiles packed placement made placed net wires are = all_of (IsUnjoined fabric) wires (λ wire here.
    let sink = subst (λ (ws : List ℕ). Contains ws wire.0) are (mapped_in number wires wire here) in
    let pin = sink_is_pin fabric packed placement made placed net wire.0 sink in
    let index = input_index fabric wire pin in
    record {
      low = wire_within fabric wire.0 pin.site.x pin.site.y _ index;
      unjoined = λ from joined. unjoined_pin fabric tiles from wire pin.site.x pin.site.y pin.site.bel pin.pin index joined;
    })

module _ (fabric : PlainFabric) (nodes : PlainNodes) where
  abbrev graph : Graph
  graph = graph_of nodes

  abbrev numbering : Numbering
  numbering = numbering_of nodes

  goals_push : (sinks : List ℕ) (goals : List (List ℕ)) (sink : Wire) (goal : List ℕ) → AreGoals fabric graph numbering sinks goals → ((node : ℕ) → Contains goal node ↔ IsBefore fabric nodes sink node) →
      AreGoals fabric graph numbering (sinks ++ sink.0 ∷ []) (goals ++ goal ∷ [])
  goals_push [] [] sink goal are own = ((λ node. ((λ here. let is = (own node).0 here in (is.inside, is.pair)), λ is. (own node).1 (record { inside = is.0; pair = is.1 }))), tt)
  goals_push [] (g ∷ gs) sink goal are own = absurd are
  goals_push (s ∷ ss) [] sink goal are own = absurd are
  goals_push (s ∷ ss) (g ∷ gs) sink goal are own = (are.0, goals_push ss gs sink goal are.1 own)

  pub sink_more : (wires : List Wire) (i : ℕ) (wire : Wire) (goal : List ℕ) (old new : List Sink) (last : Sink) → IsAt wires i wire → last.goals.items ≡ goal → new ≡ old ++ last ∷ [] →
      ((node : ℕ) → Contains goal node ↔ IsBefore fabric nodes wire node) → AreGoals fabric graph numbering (map number (take i wires)) (goals_of old) → AreGoals fabric graph numbering (map number (take (i + 1) wires)) (goals_of new)
  sink_more wires i wire goal old new last at goal_is is own before =
      let first : map number (take (i + 1) wires) ≡ map number (take i wires) ++ wire.0 ∷ [] = ap (map number) (taken_more wires i wire at) ∙ map-append number (take i wires) (wire ∷ []) in
      let second : goals_of new ≡ goals_of old ++ goal ∷ [] = ap goals_of is ∙ map-append (λ (s : Sink). s.goals.items) old (last ∷ []) ∙ ap (λ g. goals_of old ++ g ∷ []) goal_is in
      subst (λ (ss : List ℕ). AreGoals fabric graph numbering ss (goals_of new)) (sym first)
      (subst (λ (gs : List (List ℕ)). AreGoals fabric graph numbering (map number (take i wires) ++ wire.0 ∷ []) gs) (sym second) (goals_push (map number (take i wires)) (goals_of old) wire goal before own))

  goals_inside : (sinks : List ℕ) (found : List Sink) → AreGoals fabric graph numbering sinks (goals_of found) → All (λ (sink : Sink). All (λ w. w < graph.nodes) sink.goals.items) found
  goals_inside [] [] are = All-nil (λ (sink : Sink). All (λ w. w < graph.nodes) sink.goals.items)
  goals_inside [] (f ∷ fs) are = absurd are
  goals_inside (s ∷ ss) [] are = absurd are
  goals_inside (s ∷ ss) (f ∷ fs) are =
      All-cons (λ (sink : Sink). All (λ w. w < graph.nodes) sink.goals.items) f fs (all_of (λ w. w < graph.nodes) f.goals.items (λ w here. ((are.0 w).0 here).0)) (goals_inside ss fs are.1)

  module _ (packed : PlainPacked) (placement : PlainImplementation) where
    -- the nets for the first ones of the design
    pub record AreFirstNets (count : ℕ) (found : List demand.Net) : Type 0 where
      pub long : length found ≡ count
      pub each : (k : ℕ) (net : NetId) → k < count → IsAt (nets packed) k net → IsNetFor fabric packed placement nodes net (net_at (nets_of found) k)
      pub inside : All (IsInside graph.nodes) found

    pub no_nets : AreFirstNets 0 []
    no_nets = record { long = refl; each = λ k net low at. absurd (omega (arith, low)); inside = All-nil (IsInside graph.nodes) }

    pub net_more : (count : ℕ) (net : NetId) (old new : List demand.Net) (last : demand.Net) → IsAt (nets packed) count net → new ≡ old ++ last ∷ [] → IsNetFor fabric packed placement nodes net (net_of last) → AreFirstNets count old → AreFirstNets (count + 1) new
    net_more count net old new last at is own before = record {
      long = omega (arith, ap (λ (ns : List demand.Net). length ns) is, length-append old (last ∷ []), before.long);
      each = λ k other low there. subst (λ (ns : List demand.Net). IsNetFor fabric packed placement nodes other (net_at (nets_of ns) k)) (sym is) (elim (cases_below k count low) [
        | inl less ↦ subst (λ told. IsNetFor fabric packed placement nodes other told) (sym (front k less)) (before.each k other less there)
        | inr same ↦ (
            let same_net : other ≡ net = sym there.1 ∙ ap (λ j. get_or (nets packed) j other) same ∙ get_or_default (nets packed) count other net at.0 ∙ at.1 in
            subst (λ told. IsNetFor fabric packed placement nodes other told) (sym (back k same)) (subst (λ (n : NetId). IsNetFor fabric packed placement nodes n (net_of last)) (sym same_net) own))
      ]);
      inside = subst (λ (ns : List demand.Net). All (IsInside graph.nodes) ns) (sym is) (push_inside (record {
        roots = all_of (λ w. w < graph.nodes) last.roots.items (λ w here. ((own.roots w).0 here).0);
        goals = goals_inside (sinks_of fabric packed placement net) last.sinks.items own.goals;
      }));
    }
      where
        listed : nets_of (old ++ last ∷ []) ≡ nets_of old ++ net_of last ∷ []
        listed = map-append net_of old (last ∷ [])

        long : length (nets_of old) ≡ count
        long = length-map old net_of ∙ before.long

        front : (k : ℕ) → k < count → net_at (nets_of (old ++ last ∷ [])) k ≡ net_at (nets_of old) k
        front k less = ap (λ ns. net_at ns k) listed ∙ get_or_append_left (nets_of old) (net_of last ∷ []) (record { roots = []; goals = [] }) k (omega (arith, less, long))

        back : (k : ℕ) → k ≡ count → net_at (nets_of (old ++ last ∷ [])) k ≡ net_of last
        back k same =
            ap (λ ns. net_at ns k) listed ∙ ap (λ j. net_at (nets_of old ++ net_of last ∷ []) j) (omega (arith, same, long)) ∙ get_or-append_seam (nets_of old) (net_of last) [] (record { roots = []; goals = [] })

        push_inside : IsInside graph.nodes last → All (IsInside graph.nodes) (old ++ last ∷ [])
        push_inside inside = All-push (IsInside graph.nodes) old last before.inside inside

    pub all_nets : (count : ℕ) (found : List demand.Net) → length (nets packed) ≡ count → AreFirstNets count found → AreNets fabric packed placement graph numbering (nets_of found)
    all_nets count found many are = record {
      many = length-map found net_of ∙ are.long ∙ sym many;
      roots = λ k net at. (are.each k net (omega (arith, at.0, many)) at).roots;
      goals = λ k net at. (are.each k net (omega (arith, at.0, many)) at).goals;
    }
