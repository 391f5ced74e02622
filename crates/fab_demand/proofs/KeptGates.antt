-- What gates are found to be.
use Rattle.std.proofs.Common.{◌≡◌, ◌⊎◌, ℕ, Bool, List, [], ◌∷◌, Some, sym, ap, ◌∙◌, subst, inl, inr, slice_get}
use Rattle.fab_ternary.specs.declared.Tern.{Tern}
use Rattle.fab_compiled.specs.declared.leads.Lead.{Lead}
use Rattle.fab_compiled.specs.declared.leads.Lead.TheVariants.{Known as LeadKnown, Point, Own, Unmarked}
use Rattle.fab_compiled.specs.declared.tree.Tree.{Tree}
use Rattle.fab_compiled.specs.Leading.{PointTerns}
use Rattle.fab_network.specs.declared.network.Clock.{Clock}
use Rattle.fab_network.specs.declared.network.Network.{Network}
use Rattle.fab_network.specs.declared.network.Source.{Source}
use Rattle.fab_network.specs.Leading.{LeadsTo}
use Rattle.fab_network.specs.Network.{source_tern}
use Rattle.fab_demand.specs.declared.gates.Gate.{Gate}
use Rattle.fab_demand.specs.declared.gates.Gate.TheVariants.{Known, Depends}
use Rattle.fab_demand.specs.declared.gates.Gates.{Gates}
use Rattle.fab_demand.specs.declared.gates.KeptGate.{KeptGate}
use Rattle.fab_demand.specs.declared.search.Search.{Search}
use Rattle.fab_demand.specs.Asked.{Asked, AsksMore, IsPossible}
use Rattle.fab_demand.specs.Gates.{AreGates, IsGate}
use Rattle.fab_demand.specs.Search.{HasRoom, IsSearching}
use Rattle.fab_demand.specs.inner.Beside.{KnowsMore}

-- ---- more and more

module _ (trees : List Tree) (old new : Asked) (more : AsksMore old new) (above : KnowsMore old new) where
  -- what is told of a gate stays true where more is known
  gate_stays : (source : Source) (gate : Gate) → IsGate trees old.terns old.leads old.marks source gate → IsGate trees new.terns new.leads new.marks source gate
  gate_stays source (Known b) is = λ t h. is t (above t h)
  gate_stays source Depends is = λ t u at_t follow_t at_u follow_u agree.
      let before : IsPossible old t = more.possible t (record { above = at_t; follows = follow_t }) in
      let after : IsPossible old u = more.possible u (record { above = at_u; follows = follow_u }) in
      is t u before.above before.follows after.above after.follows (λ q n. agree q (more.marks q n))

  pub gates_stay : (gates : List KeptGate) → AreGates trees old.terns old.leads old.marks gates → AreGates trees new.terns new.leads new.marks gates
  gates_stay gates are place kept at = gate_stays kept.source kept.gate (are place kept at)

-- ---- what is kept

-- the same of equal lists
pub gates_same : (gates : List KeptGate) (trees other_trees : List Tree) (terns other_terns : List Tern) (leads other_leads : List ℕ)
    (marks other_marks : List Bool) → trees ≡ other_trees → terns ≡ other_terns → leads ≡ other_leads → marks ≡ other_marks →
    AreGates trees terns leads marks gates → AreGates other_trees other_terns other_leads other_marks gates
gates_same gates trees other_trees terns other_terns leads other_leads marks other_marks d e f g are =
    subst (λ (xs : List Bool). AreGates other_trees other_terns other_leads xs gates) g
    (subst (λ (xs : List ℕ). AreGates other_trees other_terns xs marks gates) f
    (subst (λ (xs : List Tern). AreGates other_trees xs leads marks gates) e
    (subst (λ (xs : List Tree). AreGates xs terns leads marks gates) d are)))

module _ (trees : List Tree) (terns : List Tern) (leads : List ℕ) (marks : List Bool) where
  pub no_gates : (gates : List KeptGate) → gates ≡ [] → AreGates trees terns leads marks gates
  no_gates [] none place kept at = cc
  no_gates (one ∷ gates) none place kept at = cc

  -- one more, in place of another
  pub gates_more : (old new : List KeptGate) (gate : KeptGate) →
      ((place : ℕ) (kept : KeptGate) → slice_get new place ≡ Some kept → (kept ≡ gate) ⊎ ((before : ℕ) × (slice_get old before ≡ Some kept))) →
      IsGate trees terns leads marks gate.source gate.gate → AreGates trees terns leads marks old → AreGates trees terns leads marks new
  gates_more old new gate either is are place kept at =
      elim (either place kept at) [
        | inl e ↦ subst (λ (k : KeptGate). IsGate trees terns leads marks k.source k.gate) (sym e) is
        | inr before ↦ are before.0 kept before.1
      ]

-- ---- where a gate leads

module _ (trees : List Tree) (terns : List Tern) (leads : List ℕ) (marks : List Bool) (source : Source) where
  -- a gate that leads to a point or to itself
  pub gate_depends_by : (lead : Lead) → LeadsTo terns leads marks (λ t. source_tern trees t source) lead → ((point : ℕ) × (lead ≡ Point point)) ⊎ (lead ≡ Own) →
      IsGate trees terns leads marks source Depends
  gate_depends_by (LeadKnown b) h (inl e) = let is : LeadKnown b ≡ Point e.0 = e.1 in cc
  gate_depends_by (LeadKnown b) h (inr e) = cc
  gate_depends_by (Point lead) h is = λ t u at_t follow_t at_u follow_u agree.
      h.0 t at_t follow_t ∙ ap t (sym h.1.2) ∙ sym (follow_t h.1.0 h.1.1) ∙ agree h.1.0 h.1.1 ∙ follow_u h.1.0 h.1.1 ∙ ap u h.1.2 ∙ sym (h.0 u at_u follow_u)
  gate_depends_by Own h is = λ t u at_t follow_t at_u follow_u agree. h t u at_t at_u agree
  gate_depends_by (Unmarked point) h (inl e) = let is : Unmarked point ≡ Point e.0 = e.1 in cc
  gate_depends_by (Unmarked point) h (inr e) = cc

-- ---- a search

-- a search that has found more of gates
module _ (search : Search) (gates : Gates) where
  abbrev pub finding : Search
  finding = record search { gates = gates }

  pub finding_room : HasRoom search → HasRoom finding
  finding_room room = record { done = room.done; own = room.own; own_room = room.own_room; stack = room.stack; stack_room = room.stack_room }

  pub finding_searching : (network : Network) (clock : Clock) (given : PointTerns) (trees : List Tree) (terns : List Tern) (leads : List ℕ)
      (marks : List Bool) → trees ≡ network.trees.items → terns ≡ search.terns.items → leads ≡ search.leads.items → marks ≡ search.marks.items →
      IsSearching network clock given search → AreGates trees terns leads marks gates.kept.items → IsSearching network clock given finding
  finding_searching network clock given trees terns leads marks d e f g searching are = record {
    looked = searching.looked;
    room = finding_room searching.room;
    marked = searching.marked;
    waiting = searching.waiting;
    gates = gates_same gates.kept.items trees network.trees.items terns search.terns.items leads search.leads.items marks search.marks.items d e f g are;
  }
