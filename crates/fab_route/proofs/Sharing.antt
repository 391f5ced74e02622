-- The least wire that two trees have, node by node.
use Rattle.std.proofs.Common.{◌≡◌, ◌⊎◌, ℕ, ◌+◌, ◌<◌, ◌≤◌, List, Option, Some, None, IfSome, sym, ap, ◌∙◌, subst, inl, inr, arith}
use Rattle.fab_model.specs.Grid.{PlainFabric}
use Rattle.fab_legal.proofs.Lists.{cases_below}
use Rattle.fab_route.specs.Plain.{PlainNodes}
use Rattle.fab_route.specs.declared.shared.Owners.{Owners}
use Rattle.fab_route.specs.declared.shared.Shared.{Shared}
use Rattle.fab_route.specs.inner.Owners.{owners_at, IsTwice, IsWireOf, IsSharedBy, IsLeastShared}

none_some : {X : Type 0} (x : X) → None ≡ Some x → ⊥
none_some x e = cc

some_same : {X : Type 0} (x y : X) → Some x ≡ Some y → x ≡ y
some_same x y e = cc

module _ (fabric : PlainFabric) (nodes : PlainNodes) (owners : List Owners) where
  pub none_shared : IsLeastShared fabric nodes owners 0 None
  none_shared = λ node first second low twice. omega (arith, low)

  abbrev IsOne : ℕ → Type 0
  IsOne node = (first second : ℕ) → IsTwice owners node first second → ⊥

  -- a node that at most one tree has
  pub not_twice : (node : ℕ) (least : Option Shared) → IsOne node → IsLeastShared fabric nodes owners node least → IsLeastShared fabric nodes owners (node + 1) least
  not_twice node None one is = λ other first second low twice. elim (cases_below other node low) [
    | inl less ↦ is other first second less twice
    | inr same ↦ one first second (subst (λ (n : ℕ). IsTwice owners n first second) same twice)
  ]
  not_twice node (Some shared) one is = (
    record { node = is.0.node; low = omega (arith, is.0.low); twice = is.0.twice; wire_is = is.0.wire_is },
    λ other first second wire low twice wire_is. elim (cases_below other node low) [
      | inl less ↦ is.1 other first second wire less twice wire_is
      | inr same ↦ absurd (one first second (subst (λ (n : ℕ). IsTwice owners n first second) same twice))
    ],
  )

  pub no_first : (node : ℕ) (here : Owners) → here ≡ owners_at owners node → here.first ≡ None → IsOne node
  no_first node here read none first second twice = none_some first (sym none ∙ ap (λ (o : Owners). o.first) (read ∙ twice))

  pub no_second : (node : ℕ) (here : Owners) → here ≡ owners_at owners node → here.second ≡ None → IsOne node
  no_second node here read none first second twice = none_some second (sym none ∙ ap (λ (o : Owners). o.second) (read ∙ twice))

  -- a node that two trees have
  pub with_twice : (node : ℕ) (least : Option Shared) (found result : Shared) → IsTwice owners node found.first found.second → IsWireOf fabric nodes node found.wire.0 →
      ((wire : ℕ) → IsWireOf fabric nodes node wire → found.wire.0 ≤ wire) → (result ≡ found) ⊎ (least ≡ Some result) → result.wire.0 ≤ found.wire.0 → IfSome least (λ l. result.wire.0 ≤ l.wire.0) →
      IsLeastShared fabric nodes owners node least → IsLeastShared fabric nodes owners (node + 1) (Some result)
  with_twice node least found result twice wire_is lowest one low below is = (
    by one,
    λ other first second wire few other_twice other_is. elim (cases_below other node few) [
      | inl less ↦ older least is below other first second wire less other_twice other_is
      | inr same ↦ omega (arith, low, lowest wire (subst (λ (n : ℕ). IsWireOf fabric nodes n wire) same other_is))
    ],
  )
    where
      new : IsSharedBy fabric nodes owners (node + 1) found
      new = record { node = node; low = omega arith; twice = twice; wire_is = wire_is }

      old : (l : Option Shared) → l ≡ Some result → IsLeastShared fabric nodes owners node l → IsSharedBy fabric nodes owners (node + 1) result
      old None e is = absurd (none_some result e)
      old (Some s) e is = subst (λ (r : Shared). IsSharedBy fabric nodes owners (node + 1) r) (some_same s result e)
          (record { node = is.0.node; low = omega (arith, is.0.low); twice = is.0.twice; wire_is = is.0.wire_is })

      by : (result ≡ found) ⊎ (least ≡ Some result) → IsSharedBy fabric nodes owners (node + 1) result
      by (inl same) = subst (λ (r : Shared). IsSharedBy fabric nodes owners (node + 1) r) (sym same) new
      by (inr same) = old least same is

      older : (l : Option Shared) → IsLeastShared fabric nodes owners node l → IfSome l (λ s. result.wire.0 ≤ s.wire.0) → (other first second wire : ℕ) → other < node → IsTwice owners other first second →
          IsWireOf fabric nodes other wire → result.wire.0 ≤ wire
      older None is bounded other first second wire less other_twice other_is = absurd (is other first second less other_twice)
      older (Some s) is bounded other first second wire less other_twice other_is = omega (arith, bounded, is.1 other first second wire less other_twice other_is)
