-- Whether a wire is reached along the edges of a net.
use Rattle.std.proofs.Common.{◌≡◌, ◌<◌, ◌≤◌, ◌⊎◌, ℕ, zero, suc, List, [], ◌∷◌, length, Contains, sym, ap, subst, arith, inl, inr}
use Rattle.std.proofs.lemmas.Bool.{cases_eq}
use Rattle.fab_fabric.specs.Wires.{numbered_wire}
use Rattle.fab_fabric.specs.declared.wire.Wire.{Wire}
use Rattle.fab_implementation.specs.Plain.{Edge}
use Rattle.fab_legal.specs.Nets.{entered_wires, Reached, root, step}
use Rattle.fab_ready_laws.proofs.Decisions.{IsDecided, behind, decided_as, denied, first_or_behind, in_front, listed_decided, one_of}

pub wire_eq : (a b : Wire) → IsDecided (a ≡ b)
wire_eq a b = decided_as (ap numbered_wire) (ap (λ (w : Wire). w.0)) (cases_eq a.0 b.0)

module _ (edges : List Edge) where
  -- a wire that no edge enters, or one of these
  abbrev IsDone : (done : List Wire) → Wire → Type 0
  IsDone done wire = (Contains (entered_wires edges) wire → ⊥) ⊎ Contains done wire

  done_decided : (done : List Wire) (wire : Wire) → IsDecided (IsDone done wire)
  done_decided done wire = one_of (denied (listed_decided wire_eq (entered_wires edges) wire)) (listed_decided wire_eq done wire)

  -- Some wires are reached. Each edge enters one of them, or is left.
  record AreDone (done : List Wire) (left : List Edge) : Type 0 where
    pub reached : (wire : Wire) → Contains done wire → Reached edges wire
    pub known : (edge : Edge) → Contains left edge → Contains edges edge
    pub rest : (edge : Edge) → Contains edges edge → Contains done edge.1 ⊎ Contains left edge

  -- ---- an edge that is left and leads from a wire that is reached

  record HasNext (done : List Wire) (left : List Edge) : Type 0 where
    pub edge : Edge
    pub others : List Edge
    pub from : IsDone done edge.0
    pub there : Contains left edge
    pub known : (other : Edge) → Contains others other → Contains left other
    pub rest : (other : Edge) → Contains left other → (edge ≡ other) ⊎ Contains others other
    pub fewer : length others < length left

  abbrev LeadsNowhere : (done : List Wire) (left : List Edge) → Type 0
  LeadsNowhere done left = (edge : Edge) → Contains left edge → IsDone done edge.0 → ⊥

  one_behind : (done : List Wire) (first : Edge) (left : List Edge) → HasNext done left → HasNext done (first ∷ left)
  one_behind done first left next = record {
    edge = next.edge;
    others = first ∷ next.others;
    from = next.from;
    there = behind first next.edge left next.there;
    known = known;
    rest = rest;
    fewer = omega (arith, next.fewer);
  }
    where
      known : (other : Edge) → Contains (first ∷ next.others) other → Contains (first ∷ left) other
      known other there = elim (first_or_behind first other next.others there) [
        | inl same ↦ subst (Contains (first ∷ left)) same (in_front first left)
        | inr later ↦ behind first other left (next.known other later)
      ]

      rest : (other : Edge) → Contains (first ∷ left) other → (next.edge ≡ other) ⊎ Contains (first ∷ next.others) other
      rest other there = elim (first_or_behind first other left there) [
        | inl same ↦ inr (subst (Contains (first ∷ next.others)) same (in_front first next.others))
        | inr later ↦ elim (next.rest other later) [ inl is ↦ inl is | inr among ↦ inr (behind first other next.others among) ]
      ]

  next_or_none : (done : List Wire) (left : List Edge) → HasNext done left ⊎ LeadsNowhere done left
  next_or_none done [] = inr (λ edge there. absurd (omega (arith, there.1)))
  next_or_none done (first ∷ left) = elim (done_decided done first.0) [
    | inl from ↦ inl (record {
      edge = first;
      others = left;
      from = from;
      there = in_front first left;
      known = λ other there. behind first other left there;
      rest = λ other there. first_or_behind first other left there;
      fewer = omega arith;
    })
    | inr never ↦
        elim (next_or_none done left) [
          | inl next ↦ inl (one_behind done first left next)
          | inr none ↦ inr (nowhere never none)
        ]
  ]
    where
      nowhere : (IsDone done first.0 → ⊥) → LeadsNowhere done left → LeadsNowhere done (first ∷ left)
      nowhere never none edge there from = elim (first_or_behind first edge left there) [
        | inl same ↦ never (subst (λ (e : Edge). IsDone done e.0) (sym same) from)
        | inr later ↦ none edge later from
      ]

  -- ---- all that are reached

  from_reached : (done : List Wire) (left : List Edge) → AreDone done left → (wire : Wire) → IsDone done wire → Reached edges wire
  from_reached done left are wire is = elim is [ inl begins ↦ root begins | inr there ↦ are.reached wire there ]

  taken : (done : List Wire) (left : List Edge) → AreDone done left → (next : HasNext done left) → AreDone (next.edge.1 ∷ done) next.others
  taken done left are next = record { reached = reached; known = λ edge there. are.known edge (next.known edge there); rest = rest }
    where
      enters : Reached edges next.edge.1
      enters = step next.edge.0 (are.known next.edge next.there) (from_reached done left are next.edge.0 next.from)

      reached : (wire : Wire) → Contains (next.edge.1 ∷ done) wire → Reached edges wire
      reached wire there = elim (first_or_behind next.edge.1 wire done there) [
        | inl same ↦ subst (Reached edges) same enters
        | inr later ↦ are.reached wire later
      ]

      rest : (edge : Edge) → Contains edges edge → Contains (next.edge.1 ∷ done) edge.1 ⊎ Contains next.others edge
      rest edge there = elim (are.rest edge there) [
        | inl entered ↦ inl (behind next.edge.1 edge.1 done entered)
        | inr among ↦
            elim (next.rest edge among) [
              | inl same ↦ inl (subst (λ (e : Edge). Contains (next.edge.1 ∷ done) e.1) same (in_front next.edge.1 done))
              | inr later ↦ inr later
            ]
      ]

  -- where no edge that is left leads from a wire that is reached, no more are
  closed : (done : List Wire) (left : List Edge) → AreDone done left → LeadsNowhere done left → (wire : Wire) → Reached edges wire → IsDone done wire
  closed done left are none wire (root begins) = inl begins
  closed done left are none wire (step from there reached) = elim (are.rest (from, wire) there) [
    | inl entered ↦ inr entered
    | inr among ↦ absurd (none (from, wire) among (closed done left are none from reached))
  ]

  search_through : (most : ℕ) (done : List Wire) (left : List Edge) → length left ≤ most → AreDone done left → (wire : Wire) → IsDecided (Reached edges wire)
  search_through zero done left few are wire = elim (next_or_none done left) [
    | inr none ↦ decided_as (from_reached done left are wire) (closed done left are none wire) (done_decided done wire)
    | inl next ↦ absurd (omega (arith, few, next.fewer))
  ]
  search_through (suc most) done left few are wire = elim (next_or_none done left) [
    | inr none ↦ decided_as (from_reached done left are wire) (closed done left are none wire) (done_decided done wire)
    | inl next ↦ search_through most (next.edge.1 ∷ done) next.others (omega (arith, few, next.fewer)) (taken done left are next) wire
  ]

  pub reached_decided : (wire : Wire) → IsDecided (Reached edges wire)
  reached_decided = search_through (length edges) [] edges (omega arith) (record {
    reached = λ wire there. absurd (omega (arith, there.1));
    known = λ edge there. there;
    rest = λ edge there. inr there;
  })
