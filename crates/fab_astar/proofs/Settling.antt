-- A search goes on being one when a node is settled, or an entry of the queue is dropped; and the offers of a settled node.
use Rattle.std.proofs.Common.{◌≡◌, ◌≢◌, ◌⊎◌, ℕ, ◌+◌, ◌*◌, ◌<◌, ◌≤◌, true, false, cond, eqb, not, List, length, get_or, refl, sym, ◌∙◌, inl, inr, arith, length-set, get_or-set_same, get_or-set_other}
use Rattle.std.proofs.lemmas.Bool.{cases_eq, eq-eqb, ne_eqb}
use Rattle.std.proofs.lemmas.List.Sums.{sum_by-set}
use Rattle.std.proofs.lemmas.List.Elements.{Contains-get_or}
use Rattle.std.specs.List.{Contains}
use Rattle.fab_astar.specs.declared.queue.Queue.{Queue}
use Rattle.fab_astar.specs.Queue.{Waits, IsPopped}
use Rattle.fab_astar.specs.Walks.{has}
use Rattle.fab_astar.specs.Scene.{Scene, IsScene}
use Rattle.fab_astar.specs.State.{State, stamp, cost, before, IsOpen, IsDone, IsSeen, settled, unsettled, IsTraced, IsSearch, IsRelaxed, IsClosed, IsClosing}
use Rattle.fab_astar.proofs.Taking.{seen_inside}
use Rattle.fab_astar.proofs.Offering.{IsOffer, Leaves}

-- a limit that falls cuts off more
relaxed_below : (scene : Scene) (s : State) (limit lower v upto : ℕ) → lower ≤ limit → IsRelaxed scene s limit v upto → IsRelaxed scene s lower v upto
relaxed_below scene s limit lower v upto l h = λ i more free. elim (h i more free) [ inl a ↦ inl a | inr b ↦ inr (omega arith) ]

pub closed_below : (scene : Scene) (starts : List ℕ) (s : State) (limit lower : ℕ) → lower ≤ limit → IsClosed scene starts s limit → IsClosed scene starts s lower
closed_below scene starts s limit lower l h = record {
  begun = h.begun;
  relaxed = λ v d. relaxed_below scene s limit lower v (length (scene.graph.ends v)) l (h.relaxed v d);
}

module _ (scene : Scene) (starts : List ℕ) (s : State) (q : Queue) (search : IsSearch scene starts s q) (r : Queue) (key u : ℕ) (pop : IsPopped q r key u) where
  pub seen_u : IsSeen s u
  seen_u = (search.entered key u pop.first).0

  pub inside_u : u < scene.graph.nodes
  inside_u = seen_inside scene.graph.nodes s search.shape u seen_u

  left_over : (k v : ℕ) → v ≢ u → Waits q k v → Waits r k v
  left_over k v n h = elim (pop.kept k v h) [ inl a ↦ absurd (n a.1) | inr b ↦ b ]

  -- an entry of a node that no longer waits may go
  pub dropped : (IsOpen s u → ⊥) → IsSearch scene starts s r
  dropped closed = record {
    shape = search.shape;
    traced = search.traced;
    ordered = search.ordered;
    queued = λ v o. left_over (cost s v + scene.rest v) v (λ e. closed (rw e at o)) (search.queued v o);
    entered = λ k v h. search.entered k v (pop.among k v h);
    bounded = search.bounded;
  }

  -- no node that waits is cheaper
  pub key_least : (v : ℕ) → IsOpen s v → key ≤ cost s v + scene.rest v
  key_least v o = pop.least (cost s v + scene.rest v) v (search.queued v o)

  module _ (waits : IsOpen s u) where
    -- the node that is taken out has the least price
    pub key_is : key ≡ cost s u + scene.rest u
    key_is = omega (arith, key_least u waits, (search.entered key u pop.first).1)

    stamp_u : stamp (settled s u) u ≡ s.mark + 1
    stamp_u = get_or-set_same s.stamps u (s.mark + 1) 0 (omega (arith, search.shape.stamps, inside_u))

    stamp_v : (v : ℕ) → v ≢ u → stamp (settled s u) v ≡ stamp s v
    stamp_v v n = get_or-set_other s.stamps u v (s.mark + 1) 0 n

    no_cheaper : (v : ℕ) → IsOpen s v → cost s u + scene.rest u ≤ cost s v + scene.rest v
    no_cheaper v o = omega (arith, key_least v o, key_is)

    open_back : (v : ℕ) → IsOpen (settled s u) v → (v ≢ u) × IsOpen s v
    open_back v o = elim (cases_eq v u) [
      | inl e ↦ absurd (let q : stamp (settled s u) u ≡ s.mark = rw e at o in omega (arith, stamp_u))
      | inr n ↦ (n, sym (stamp_v v n) ∙ o)
    ]

    pub settled_done : (v : ℕ) → IsDone (settled s u) v → (v ≡ u) ⊎ IsDone s v
    settled_done v d = elim (cases_eq v u) [ inl e ↦ inl e | inr n ↦ inr (sym (stamp_v v n) ∙ d) ]

    pub done_on : (v : ℕ) → IsDone s v → IsDone (settled s u) v
    done_on v d = elim (cases_eq v u) [ inl e ↦ rw e stamp_u | inr n ↦ stamp_v v n ∙ d ]

    pub u_done : IsDone (settled s u) u
    u_done = stamp_u

    seen_on : (v : ℕ) → IsSeen s v → IsSeen (settled s u) v
    seen_on v seen = elim (cases_eq v u) [ inl e ↦ rw e (omega (arith, stamp_u)) | inr n ↦ omega (arith, stamp_v v n) ]

    seen_back : (v : ℕ) → IsSeen (settled s u) v → IsSeen s v
    seen_back v seen = elim (cases_eq v u) [ inl e ↦ rw e (omega (arith, waits)) | inr n ↦ omega (arith, stamp_v v n) ]

    -- one node less is not settled
    pub one_less : unsettled (settled s u) + 1 ≡ unsettled s
    one_less =
        let n = sum_by-set (λ t. cond (not (eqb t (s.mark + 1))) 1 0) s.stamps u (s.mark + 1) 0 (omega (arith, search.shape.stamps, inside_u)) in
        let a = ne_eqb (get_or s.stamps u 0) (s.mark + 1) (λ e. omega (arith, waits)) in
        let b = eq-eqb (s.mark + 1) (s.mark + 1) refl in
        let m = rw (a, b) at n in
        omega arith

    traced_on : (v p f : ℕ) → IsTraced scene starts s v p f → IsTraced scene starts (settled s u) v p f
    traced_on v p f (inl h) = inl h
    traced_on v p f (inr h) = inr (done_on f h.0, h.1, h.2, h.3)

    pub settled_search : IsSearch scene starts (settled s u) r
    settled_search = record {
      shape = record {
        stamps = length-set s.stamps u (s.mark + 1) ∙ search.shape.stamps;
        costs = search.shape.costs;
        befores = search.shape.befores;
        marked = search.shape.marked;
        small = search.shape.small;
        latest = λ v. elim (cases_eq v u) [
          | inl e ↦ rw e (omega (arith, stamp_u))
          | inr n ↦ omega (arith, stamp_v v n, search.shape.latest v)
        ];
      };
      traced = λ v seen. traced_on v (cost s v) (before s v) (search.traced v (seen_back v seen));
      ordered = λ v w d o.
          let b = open_back w o in
          elim (settled_done v d) [
            | inl e ↦ rw e (no_cheaper w b.1)
            | inr d ↦ search.ordered v w d b.1
          ];
      queued = λ v o. let b = open_back v o in left_over (cost s v + scene.rest v) v b.0 (search.queued v b.1);
      entered = λ k v h. let b = search.entered k v (pop.among k v h) in (seen_on v b.0, b.1);
      bounded = λ v seen. let m = rw (sym one_less) at (search.bounded v (seen_back v seen)) in omega arith;
    }

    pub settled_closing : (limit : ℕ) → IsClosed scene starts s limit → IsClosing scene starts (settled s u) limit u 0
    settled_closing limit h = record {
      begun = λ i l. let b = h.begun i l in (seen_on (get_or starts i 0) b.0, b.1);
      relaxed = λ v d n i l free.
          elim (h.relaxed v (elim (settled_done v d) [ inl e ↦ absurd (n e) | inr d ↦ d ]) i l free) [
            | inl b ↦ inl (seen_on (get_or (scene.graph.ends v) i 0) b.0, b.1)
            | inr c ↦ inr c
          ];
      latest = stamp_u;
      here = λ i l free. absurd (omega arith);
      greatest = λ v d. elim (settled_done v d) [ inl e ↦ rw e (omega arith) | inr d ↦ search.ordered v u d waits ];
      spare = rw one_less (search.bounded u (omega (arith, waits)));
    }

-- what is left of a closing search after an offer
module _ (scene : Scene) (starts : List ℕ) (s : State) (q : Queue) (limit now i w : ℕ) (good : IsScene scene) (search : IsSearch scene starts s q) (closing : IsClosing scene starts s limit now i) (at : w ≡ get_or (scene.graph.ends now) i 0) (more : i < length (scene.graph.ends now)) where
  pub now_inside : now < scene.graph.nodes
  now_inside = seen_inside scene.graph.nodes s search.shape now (omega (arith, closing.latest))

  pub leads : Contains (scene.graph.ends now) w
  leads = rw at (Contains-get_or (scene.graph.ends now) i 0 more)

  -- a node that the tree has is passed over
  pub passed : has scene.tree w ≡ true → IsClosing scene starts s limit now (i + 1)
  passed h = record {
    begun = closing.begun;
    relaxed = closing.relaxed;
    latest = closing.latest;
    here = λ k l free. elim (cases_eq k i) [
      | inl e ↦ absurd (let a : has scene.tree (get_or (scene.graph.ends now) i 0) ≡ false = rw e at free in let b : has scene.tree (get_or (scene.graph.ends now) i 0) ≡ true = rw at at h in cc)
      | inr n ↦ closing.here k (omega arith) free
    ];
    greatest = closing.greatest;
    spare = closing.spare;
  }

  -- a node that the limit cuts off is passed over
  pub cut_off : limit ≤ cost s now + 2 * scene.price w + scene.rest w → IsClosing scene starts s limit now (i + 1)
  cut_off h = record {
    begun = closing.begun;
    relaxed = closing.relaxed;
    latest = closing.latest;
    here = λ k l free. elim (cases_eq k i) [
      | inl e ↦ rw (e, ← at) (inr h)
      | inr n ↦ closing.here k (omega arith) free
    ];
    greatest = closing.greatest;
    spare = closing.spare;
  }

  module _ (inside : w < scene.graph.nodes) (free : has scene.tree w ≡ false) where
    pub offer : IsOffer scene starts s w (cost s now + 2 * scene.price w) now
    offer = record {
      inside = inside;
      traced = inr (closing.latest, leads, free, refl);
      ordered = λ v d. omega (arith, closing.greatest v d, good.consistent now w now_inside leads, good.prices.some w inside);
      bounded = omega (arith, closing.spare, good.prices.cheap w inside);
    }

    pub offered_closing : (t : State) (r : Queue) → Leaves scene starts s w (cost s now + 2 * scene.price w) t r → IsClosing scene starts t limit now (i + 1)
    offered_closing t r leaves =
        let grows = leaves.grows in
        let same = (grows.done now closing.latest).1 in
        record {
          begun = λ k l. let b = closing.begun k l in let g = grows.seen (get_or starts k 0) b.0 in (g.0, omega (arith, g.1, b.1));
          relaxed = λ v d n k l free.
              let o = grows.only v d in
              let kept = (grows.done v o).1 in
              elim (closing.relaxed v o n k l free) [
                | inl b ↦ let g = grows.seen (get_or (scene.graph.ends v) k 0) b.0 in inl (g.0, omega (arith, g.1, b.1, kept))
                | inr c ↦ inr (omega (arith, c, kept))
              ];
          latest = (grows.done now closing.latest).0;
          here = λ k l free. elim (cases_eq k i) [
            | inl e ↦ rw (e, ← at) (inl (leaves.seen, omega (arith, leaves.cheap, same)))
            | inr n ↦ elim (closing.here k (omega arith) free) [
              | inl b ↦ let g = grows.seen (get_or (scene.graph.ends now) k 0) b.0 in inl (g.0, omega (arith, g.1, b.1, same))
              | inr c ↦ inr (omega (arith, c, same))
            ]
          ];
          greatest = λ v d.
              let o = grows.only v d in
              omega (arith, closing.greatest v o, (grows.done v o).1, same);
          spare = rw (same, grows.left) closing.spare;
        }

-- all edges of the node settled last are done
pub closed_at_end : (scene : Scene) (starts : List ℕ) (s : State) (limit now upto : ℕ) → IsClosing scene starts s limit now upto → length (scene.graph.ends now) ≤ upto → IsClosed scene starts s limit
closed_at_end scene starts s limit now upto closing all = record {
  begun = closing.begun;
  relaxed = λ v d. elim (cases_eq v now) [
    | inl e ↦ rw e (λ i l free. closing.here i (omega arith) free)
    | inr n ↦ closing.relaxed v d n
  ];
}
