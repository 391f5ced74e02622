-- The wires of sinks, net by net.
use Rattle.std.proofs.Common.{◌≡◌, ℕ, ◌+◌, ◌<◌, Bool, true, cond, List, [], ◌∷◌, ◌++◌, Vec, map, take, length, get_or, refl, sym, ap, ◌∙◌, subst, inl, inr, arith}
use Rattle.std.proofs.lemmas.Bool.{cases_Bool, cases_eq, eq-eqb}
use Rattle.std.proofs.Math.ListN.{set}
use Rattle.std.proofs.lemmas.List.{length-map, map-set, map-append, get_or-set_same, get_or-set_other, get_or_default, ext_get_or, append-nil}
use Rattle.fab_fabric.specs.declared.wire.Wire.{Wire}
use Rattle.fab_netlist.specs.declared.net_id.NetId.{NetId}
use Rattle.fab_netlist.specs.declared.net_id.NetId.TheVariants as ids
use Rattle.fab_netlist.specs.Plain.{IsAt}
use Rattle.fab_netlist.specs.Packed.{PlainPacked}
use Rattle.fab_netlist.proofs.Counts.{at_mapped}
use Rattle.fab_legal.specs.WellMade.{IsWellMadePacked}
use Rattle.fab_legal.proofs.Lists.{at_default}
use Rattle.fab_legal.proofs.Members.{taken_more}
use Rattle.fab_ways_laws.specs.Placing.{same_net}
use Rattle.fab_ways_laws.specs.Routing.{nets, sinks_of}
use Rattle.fab_ways_laws.proofs.Legal.{same_net_is}
use Rattle.fab_implementation.specs.Plain.{PlainImplementation}
use Rattle.fab_model.specs.Grid.{PlainFabric}
use Rattle.fab_nodes_laws.specs.Nets.{net_sinks}
use Rattle.fab_nodes_laws.proofs.NetSinks.{mapped_at}
use Rattle.fab_route.specs.inner.Wanted.{wire_groups, sinks_among}
use Rattle.fab_route.proofs.Places.{one_place}

same_itself : (net : NetId) → same_net net net ≡ true
same_itself ids.Zero = refl
same_itself ids.One = refl
same_itself (ids.In n) = eq-eqb n n refl
same_itself (ids.Cell n) = eq-eqb n n refl

-- the wires of one sink
abbrev own : (NetId × Wire) → NetId → List ℕ
own sink net = cond (same_net sink.0 net) (sink.1.0 ∷ []) []

among_push : (sinks : List (NetId × Wire)) (sink : NetId × Wire) (net : NetId) → sinks_among (sinks ++ sink ∷ []) net ≡ sinks_among sinks net ++ own sink net
among_push [] sink net = elim (cases_Bool (same_net sink.0 net)) [ inl t ↦ rw t refl | inr f ↦ rw f refl ]
among_push (s ∷ ss) sink net = elim (cases_Bool (same_net s.0 net)) [
  | inl t ↦ rw t (ap (λ l. s.1.0 ∷ l) (among_push ss sink net))
  | inr f ↦ rw f (among_push ss sink net)
]

abbrev number : Wire → ℕ
number wire = wire.0

abbrev pub numbers : {A : Type 0} → Vec Wire A → List ℕ
numbers group = map number group.items

module _ {A : Type 0} (packed : PlainPacked) where
  -- each group has the wires of the first sinks
  abbrev pub AreGrouped : (groups : List (Vec Wire A)) (sinks : List (NetId × Wire)) → Type 0
  AreGrouped groups sinks = (k : ℕ) (net : NetId) → IsAt (nets packed) k net → get_or (wire_groups groups) k [] ≡ sinks_among sinks net

  module _ (made : IsWellMadePacked packed) (groups : List (Vec Wire A)) (new old : Vec Wire A) (sinks : List (NetId × Wire)) (i at : ℕ) (sink : NetId × Wire) (there : IsAt sinks i sink) (place : IsAt (nets packed) at sink.0)
      (long : length groups ≡ length (nets packed)) (read : old ≡ get_or groups at old) (pushed : new.items ≡ old.items ++ sink.1 ∷ []) where
    inside : at < length groups
    inside = omega (arith, place.0, long)

    long_map : at < length (wire_groups groups)
    long_map = omega (arith, inside, length-map groups (numbers {A = A}))

    old_is : numbers old ≡ get_or (wire_groups groups) at []
    old_is =
        let mapped = at_mapped (numbers {A = A}) groups at old (inside, sym read) in
        sym mapped.1 ∙ get_or_default (wire_groups groups) at (numbers old) [] mapped.0

    new_is : numbers new ≡ numbers old ++ sink.1.0 ∷ []
    new_is = ap (map number) pushed ∙ map-append number old.items (sink.1 ∷ [])

    more : (net : NetId) → sinks_among (take (i + 1) sinks) net ≡ sinks_among (take i sinks) net ++ own sink net
    more net = ap (λ (ss : List (NetId × Wire)). sinks_among ss net) (taken_more sinks i sink there) ∙ among_push (take i sinks) sink net

    set_is : wire_groups (set groups at new) ≡ set (wire_groups groups) at (numbers new)
    set_is = map-set (numbers {A = A}) groups at new

    pub group_more : AreGrouped groups (take i sinks) → AreGrouped (set groups at new) (take (i + 1) sinks)
    group_more so_far k net here = elim (cases_eq k at) [
      | inl same ↦ (
          let net_is : net ≡ sink.0 = sym here.1 ∙ ap (λ n. get_or (nets packed) n net) same ∙ get_or_default (nets packed) at net sink.0 place.0 ∙ place.1 in
          let holds : same_net sink.0 net ≡ true = ap (same_net sink.0) net_is ∙ same_itself sink.0 in
          let one : own sink net ≡ sink.1.0 ∷ [] = ap (λ (b : Bool). cond b (sink.1.0 ∷ []) []) holds in
          let before : numbers old ≡ sinks_among (take i sinks) net = old_is ∙ ap (λ n. get_or (wire_groups groups) n []) (sym same) ∙ so_far k net here in
          ap (λ ls. get_or ls k []) set_is ∙ ap (λ n. get_or (set (wire_groups groups) at (numbers new)) n []) same
          ∙ get_or-set_same (wire_groups groups) at (numbers new) [] long_map ∙ new_is ∙ ap (λ l. l ++ sink.1.0 ∷ []) before ∙ ap (λ l. sinks_among (take i sinks) net ++ l) (sym one) ∙ sym (more net))
      | inr other ↦ elim (cases_Bool (same_net sink.0 net)) [
        | inl holds ↦ (
            let net_is : sink.0 ≡ net = same_net_is sink.0 net holds in
            let too : IsAt (nets packed) k sink.0 = subst (λ (n : NetId). IsAt (nets packed) k n) (sym net_is) here in
            absurd (other (one_place packed made k at sink.0 too place)))
        | inr fails ↦ (
            let none : own sink net ≡ [] = ap (λ (b : Bool). cond b (sink.1.0 ∷ []) []) fails in
            ap (λ ls. get_or ls k []) set_is ∙ get_or-set_other (wire_groups groups) at k (numbers new) [] other ∙ so_far k net here
            ∙ sym (append-nil (sinks_among (take i sinks) net)) ∙ ap (λ l. sinks_among (take i sinks) net ++ l) (sym none) ∙ sym (more net))
      ]
    ]

  -- the groups as a list
  pub all_grouped : (groups : List (Vec Wire A)) (sinks : List (NetId × Wire)) → length groups ≡ length (nets packed) → AreGrouped groups sinks → wire_groups groups ≡ map (sinks_among sinks) (nets packed)
  all_grouped groups sinks long are =
      ext_get_or [] (wire_groups groups) (map (sinks_among sinks) (nets packed)) (length-map groups (numbers {A = A}) ∙ long ∙ sym (length-map (nets packed) (sinks_among sinks)))
      (λ k inside.
      let at = at_default (nets packed) k ids.Zero (omega (arith, inside, length-map groups (numbers {A = A}), long)) in
      are k (get_or (nets packed) k ids.Zero) at ∙ sym (mapped_at (sinks_among sinks) (nets packed) k (get_or (nets packed) k ids.Zero) [] at))

-- the wires of one group
pub group_read : {A : Type 0} (groups : List (Vec Wire A)) (k : ℕ) (group : Vec Wire A) → k < length groups → group ≡ get_or groups k group → numbers group ≡ get_or (wire_groups groups) k []
group_read {A} groups k group inside read =
    let mapped = at_mapped (numbers {A = A}) groups k group (inside, sym read) in sym mapped.1 ∙ get_or_default (wire_groups groups) k (numbers group) [] mapped.0

-- those of a net
pub group_is : {A : Type 0} (fabric : PlainFabric) (packed : PlainPacked) (placement : PlainImplementation) (groups : List (Vec Wire A)) (k : ℕ) (group : Vec Wire A) (net : NetId) → wire_groups groups ≡ net_sinks fabric packed placement →
    IsAt (nets packed) k net → group ≡ get_or groups k group → numbers group ≡ sinks_of fabric packed placement net
group_is {A} fabric packed placement groups k group net are at read =
    let many : length groups ≡ length (nets packed) =
    sym (length-map groups (numbers {A = A})) ∙ ap (λ (ls : List (List ℕ)). length ls) are ∙ length-map (nets packed) (sinks_of fabric packed placement) in
    group_read groups k group (omega (arith, at.0, many)) read ∙ ap (λ (ls : List (List ℕ)). get_or ls k []) are ∙ mapped_at (sinks_of fabric packed placement) (nets packed) k net [] at
