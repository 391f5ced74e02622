-- The sinks of nets: pins, each of which one net has once.
use Rattle.std.proofs.Common.{◌≡◌, ◌≢◌, ℕ, zero, suc, true, List, [], ◌∷◌, map, filter, get_or, AllPairs, Contains, refl, sym, ap, ◌∙◌, subst, inl, inr, arith}
use Rattle.std.proofs.lemmas.List.Kept.{AllPairs-cons, AllPairs-filter}
use Rattle.fab_model.specs.Grid.{PlainFabric}
use Rattle.fab_fabric.specs.Wires.{numbered_wire}
use Rattle.fab_fabric.specs.declared.wire.Wire.{Wire}
use Rattle.fab_netlist.specs.declared.net_id.NetId.{NetId}
use Rattle.fab_netlist.specs.Plain.{IsAt}
use Rattle.fab_netlist.specs.Packed.{PlainPacked}
use Rattle.fab_netlist.proofs.Members.{in_none, first_or_later, first_in, later_in, mapped_in}
use Rattle.fab_netlist.proofs.Stepping.{all_of}
use Rattle.fab_implementation.specs.Plain.{PlainImplementation}
use Rattle.fab_legal.specs.WellMade.{IsWellMadePacked}
use Rattle.fab_legal.specs.Legal.{ArePlaced}
use Rattle.fab_legal.specs.Sinks.{Required, sinks, packed_net, named_sink}
use Rattle.fab_legal.proofs.Members.{from_mapped}
use Rattle.fab_legal.proofs.SinkLaw.{sinks_are_required}
use Rattle.fab_ways_laws.specs.Placing.{same_net}
use Rattle.fab_ways_laws.specs.Routing.{nets, sinks_of}
use Rattle.fab_ways_laws.proofs.Lists.{from_filter, pairs_head, pairs_tail}
use Rattle.fab_ways_laws.proofs.InputPins.{IsInputPin, sink_pin}
use Rattle.fab_ways_laws.proofs.NetTrees.{nets_apart}
use Rattle.fab_ways_laws.proofs.Legal.{same_net_is}
use Rattle.fab_nodes_laws.specs.Nets.{net_sinks}
use Rattle.fab_nodes_laws.proofs.Distinct.{AreApart, sinks_apart}

-- pairs of mapped items
pub mapped_apart : {X Y : Type 0} (Q : X → X → Type 0) (R : Y → Y → Type 0) (f : X → Y) (xs : List X) → AllPairs Q xs → ((a b : X) → Contains xs a → Contains xs b → Q a b → R (f a) (f b)) → AllPairs R (map f xs)
mapped_apart Q R f [] apart turn = λ i j d less inside. absurd (omega (arith, inside))
mapped_apart {X} {Y} Q R f (x ∷ xs) apart turn =
    AllPairs-cons R (f x) (map f xs)
    (all_of (R (f x)) (map f xs) (λ y here.
    let from = from_mapped f xs y here in
    subst (λ (z : Y). R (f x) z) from.2 (turn x from.0 (first_in x xs x refl) (later_in x xs from.0 from.1) (pairs_head Q x xs apart from.0 from.1))))
    (mapped_apart Q R f xs (pairs_tail Q x xs apart) (λ a b first second q. turn a b (later_in x xs a first) (later_in x xs b second) q))

-- items that are not apart are one
one_item : {X : Type 0} (R : X → X → Type 0) (xs : List X) → AllPairs R xs → (a b : X) → Contains xs a → Contains xs b → (R a b → ⊥) → (R b a → ⊥) → a ≡ b
one_item R [] apart a b first second left right = absurd (in_none a first)
one_item {X} R (x ∷ xs) apart a b first second left right = elim (first_or_later x xs a first) [
  | inl now ↦ elim (first_or_later x xs b second) [
    | inl too ↦ sym now ∙ too
    | inr later ↦ absurd (left (subst (λ (y : X). R y b) now (pairs_head R x xs apart b later)))
  ]
  | inr before ↦ elim (first_or_later x xs b second) [
    | inl too ↦ absurd (right (subst (λ (y : X). R y a) too (pairs_head R x xs apart a before)))
    | inr later ↦ one_item R xs (pairs_tail R x xs apart) a b before later left right
  ]
]

pub mapped_at : {X Y : Type 0} (f : X → Y) (xs : List X) (k : ℕ) (x : X) (d : Y) → IsAt xs k x → get_or (map f xs) k d ≡ f x
mapped_at f [] k x d at = absurd (omega (arith, at.0))
mapped_at f (y ∷ ys) zero x d at = ap f at.1
mapped_at f (y ∷ ys) (suc k) x d at = mapped_at f ys k x d (omega (arith, at.0), at.1)

module _ (fabric : PlainFabric) (packed : PlainPacked) (placement : PlainImplementation) (made : IsWellMadePacked packed) (placed : ArePlaced fabric packed placement) where
  abbrev all : List (NetId × Wire)
  all = sinks fabric packed placement

  -- the sink of the list that a number of a net stands for
  from_sinks : (net : NetId) (sink : ℕ) → Contains (sinks_of fabric packed placement net) sink → (s : NetId × Wire) × Contains all s × (same_net s.0 net ≡ true) × (s.1.0 ≡ sink)
  from_sinks net sink here =
      let from = from_mapped (λ (s : NetId × Wire). s.1.0) (filter (λ s. same_net s.0 net) all) sink here in
      let listed = from_filter (λ (s : NetId × Wire). same_net s.0 net) all from.0 from.1 in
      (from.0, listed.0, listed.1, from.2)

  pub sink_is_pin : (net : NetId) (sink : ℕ) → Contains (sinks_of fabric packed placement net) sink → IsInputPin fabric (numbered_wire sink)
  sink_is_pin net sink here =
      let from = from_sinks net sink here in
      let required : Required fabric packed placement (packed_net packed from.0.0) from.0.1 =
      (sinks_are_required fabric packed placement made placed.cells placed.ports (packed_net packed from.0.0) from.0.1).0 (mapped_in (named_sink packed) all from.0 from.1) in
      subst (λ (w : ℕ). IsInputPin fabric (numbered_wire w)) from.3 (sink_pin fabric packed placement made placed (packed_net packed from.0.0) from.0.1 required)

  wire_of_number : (a b : Wire) → a.0 ≡ b.0 → a ≡ b
  wire_of_number a b same = ap numbered_wire same

  pub net_sinks_differ : (net : NetId) → AllPairs (λ (a b : ℕ). a ≢ b) (sinks_of fabric packed placement net)
  net_sinks_differ net =
      mapped_apart (AreApart fabric) (λ (a b : ℕ). a ≢ b) (λ (s : NetId × Wire). s.1.0) (filter (λ s. same_net s.0 net) all)
      (AllPairs-filter (AreApart fabric) (λ (s : NetId × Wire). same_net s.0 net) all (sinks_apart fabric packed placement made placed))
      (λ a b first second apart same. apart (wire_of_number a.1 b.1 same))

  -- a sink of two nets
  one_net : (first second : NetId) (sink : ℕ) → Contains (sinks_of fabric packed placement first) sink → Contains (sinks_of fabric packed placement second) sink → first ≡ second
  one_net first second sink here too =
      let a = from_sinks first sink here in
      let b = from_sinks second sink too in
      let wires : a.0.1 ≡ b.0.1 = wire_of_number a.0.1 b.0.1 (a.3 ∙ sym b.3) in
      let same : a.0 ≡ b.0 = one_item (AreApart fabric) all (sinks_apart fabric packed placement made placed) a.0 b.0 a.1 b.1 (λ apart. apart wires) (λ apart. apart (sym wires)) in
      sym (same_net_is a.0.0 first a.2) ∙ ap (λ (s : NetId × Wire). s.0) same ∙ same_net_is b.0.0 second b.2

  pub nets_across : AllPairs (λ (first second : List ℕ). (sink : ℕ) → Contains first sink → Contains second sink → ⊥) (net_sinks fabric packed placement)
  nets_across =
      mapped_apart (λ (a b : NetId). packed_net packed a ≡ packed_net packed b → ⊥) (λ (first second : List ℕ). (sink : ℕ) → Contains first sink → Contains second sink → ⊥)
      (sinks_of fabric packed placement) (nets packed) (nets_apart packed made)
      (λ a b first second apart sink here too. apart (ap (packed_net packed) (one_net a b sink here too)))
