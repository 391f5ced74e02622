-- A search goes on being one when a node is offered at a price.
use Rattle.std.proofs.Common.{◌≡◌, ◌≢◌, ℕ, ◌+◌, ◌*◌, ◌^◌, ◌<◌, ◌≤◌, true, false, List, refl, sym, ◌∙◌, ap, inl, inr, arith}
use Rattle.std.proofs.lemmas.Bool.{cases_eq}
use Rattle.fab_astar.specs.declared.queue.Queue.{Queue}
use Rattle.fab_astar.specs.Queue.{IsPushed}
use Rattle.fab_astar.specs.Scene.{Scene}
use Rattle.fab_astar.specs.State.{State, stamp, cost, before, IsDone, IsSeen, improves, taken, unsettled, IsOffered, IsTraced, Grows, IsSearch}
use Rattle.fab_astar.specs.State.IsOffered.{passes, takes}
use Rattle.fab_astar.proofs.Taking.{Grows-same, improves_yes, improves_no, stamp_here, stamp_there, cost_here, cost_there, before_here, before_there, shaped, done_back, done_on, unsettled_same}

-- an offer that may be made
pub record IsOffer (scene : Scene) (starts : List ℕ) (s : State) (w price from : ℕ) : Type 0 where
  pub inside : w < scene.graph.nodes
  pub traced : IsTraced scene starts s w price from
  pub ordered : (v : ℕ) → IsDone s v → cost s v + scene.rest v ≤ price + scene.rest w
  pub bounded : price + unsettled s * 2 ^ 43 ≤ (scene.graph.nodes + 1) * 2 ^ 43

-- what an offer leaves
pub record Leaves (scene : Scene) (starts : List ℕ) (s : State) (w price : ℕ) (t : State) (r : Queue) : Type 0 where
  pub good : IsSearch scene starts t r
  pub grows : Grows s t
  pub seen : IsSeen t w
  pub cheap : cost t w ≤ price

module _ (scene : Scene) (starts : List ℕ) (s : State) (q : Queue) (w price from : ℕ) (search : IsSearch scene starts s q) (offer : IsOffer scene starts s w price from) where
  module _ (r : Queue) (undone : stamp s w ≤ s.mark) (better : IsSeen s w → price < cost s w) (push : IsPushed q r (price + scene.rest w) w) where
    seen_there : (v : ℕ) → v ≢ w → IsSeen (taken s w price from) v → IsSeen s v
    seen_there v n seen = omega (arith, stamp_there scene.graph.nodes s w price from search.shape offer.inside v n)

    traced_on : (v p f : ℕ) → IsTraced scene starts s v p f → IsTraced scene starts (taken s w price from) v p f
    traced_on v p f (inl h) = inl h
    traced_on v p f (inr h) =
        let d = done_on scene.graph.nodes s w price from search.shape offer.inside undone f h.0 in
        inr (d.1, h.1, h.2, h.3 ∙ ap (λ x. x + 2 * scene.price v) (sym d.2))

    taken_search : IsSearch scene starts (taken s w price from) r
    taken_search = record {
      shape = shaped scene.graph.nodes s w price from search.shape offer.inside;
      traced = λ v seen. elim (cases_eq v w) [
        | inl e ↦ rw (e, cost_here scene.graph.nodes s w price from search.shape offer.inside, before_here scene.graph.nodes s w price from search.shape offer.inside) (traced_on w price from offer.traced)
        | inr n ↦ rw (cost_there scene.graph.nodes s w price from search.shape offer.inside v n, before_there scene.graph.nodes s w price from search.shape offer.inside v n) (traced_on v (cost s v) (before s v) (search.traced v (seen_there v n seen)))
      ];
      ordered = λ v u dv ou.
          let b = done_back scene.graph.nodes s w price from search.shape offer.inside v dv in
          let cv = cost_there scene.graph.nodes s w price from search.shape offer.inside v b.0 in
          elim (cases_eq u w) [
            | inl e ↦ rw e (omega (arith, cv, cost_here scene.graph.nodes s w price from search.shape offer.inside, offer.ordered v b.1))
            | inr n ↦ omega (arith, cv, cost_there scene.graph.nodes s w price from search.shape offer.inside u n, search.ordered v u b.1 (sym (stamp_there scene.graph.nodes s w price from search.shape offer.inside u n) ∙ ou))
          ];
      queued = λ u ou. elim (cases_eq u w) [
        | inl e ↦ rw (e, cost_here scene.graph.nodes s w price from search.shape offer.inside) push.here
        | inr n ↦ rw (cost_there scene.graph.nodes s w price from search.shape offer.inside u n) (push.kept (cost s u + scene.rest u) u (search.queued u (sym (stamp_there scene.graph.nodes s w price from search.shape offer.inside u n) ∙ ou)))
      ];
      entered = λ k u waits. elim (push.cases k u waits) [
        | inl h ↦ rw h.1 (omega (arith, stamp_here scene.graph.nodes s w price from search.shape offer.inside), omega (arith, cost_here scene.graph.nodes s w price from search.shape offer.inside, h.0))
        | inr h ↦ let old = search.entered k u h in elim (cases_eq u w) [
          | inl e ↦
              let old_w = rw e at old in
              rw e (omega (arith, stamp_here scene.graph.nodes s w price from search.shape offer.inside), omega (arith, cost_here scene.graph.nodes s w price from search.shape offer.inside, better old_w.0, old_w.1))
          | inr n ↦ (omega (arith, stamp_there scene.graph.nodes s w price from search.shape offer.inside u n, old.0), omega (arith, cost_there scene.graph.nodes s w price from search.shape offer.inside u n, old.1))
        ]
      ];
      bounded = λ u seen.
          rw (unsettled_same scene.graph.nodes s w price from search.shape offer.inside undone)
          (elim (cases_eq u w) [
            | inl e ↦ rw (e, cost_here scene.graph.nodes s w price from search.shape offer.inside) offer.bounded
            | inr n ↦ rw (cost_there scene.graph.nodes s w price from search.shape offer.inside u n) (search.bounded u (seen_there u n seen))
          ]);
    }

    taken_grows : Grows s (taken s w price from)
    taken_grows = record {
      mark = refl;
      left = unsettled_same scene.graph.nodes s w price from search.shape offer.inside undone;
      done = λ v d. let h = done_on scene.graph.nodes s w price from search.shape offer.inside undone v d in (h.1, h.2);
      only = λ v d. (done_back scene.graph.nodes s w price from search.shape offer.inside v d).1;
      seen = λ v seen. elim (cases_eq v w) [
        | inl e ↦
            let old = rw e at seen in
            rw e (omega (arith, stamp_here scene.graph.nodes s w price from search.shape offer.inside), omega (arith, cost_here scene.graph.nodes s w price from search.shape offer.inside, better old))
        | inr n ↦ (omega (arith, stamp_there scene.graph.nodes s w price from search.shape offer.inside v n), omega (arith, cost_there scene.graph.nodes s w price from search.shape offer.inside v n))
      ];
    }

  taken_leaves : (r : Queue) → improves s w price ≡ true → IsPushed q r (price + scene.rest w) w → Leaves scene starts s w price (taken s w price from) r
  taken_leaves r h push =
      let undone : stamp s w ≤ s.mark = elim (improves_yes s w price h) [ inl a ↦ omega (arith, a.0) | inr b ↦ omega arith ] in
      let better : IsSeen s w → price < cost s w = λ seen. elim (improves_yes s w price h) [ inl a ↦ a.1 | inr b ↦ absurd (omega arith) ] in
      record {
        good = taken_search r undone better push;
        grows = taken_grows r undone better push;
        seen = omega (arith, stamp_here scene.graph.nodes s w price from search.shape offer.inside);
        cheap = omega (arith, cost_here scene.graph.nodes s w price from search.shape offer.inside);
      }

  kept_leaves : improves s w price ≡ false → Leaves scene starts s w price s q
  kept_leaves h = record {
    good = search;
    grows = Grows-same s;
    seen = elim (improves_no s w price h) [ inl a ↦ omega (arith, a.0) | inr b ↦ omega arith ];
    cheap = elim (improves_no s w price h) [
      | inl a ↦ a.1
      | inr b ↦ omega (arith, offer.ordered w (omega (arith, search.shape.latest w)))
    ];
  }

  pub offered_leaves : (key : ℕ) (t : State) (r : Queue) → key ≡ price + scene.rest w → IsOffered s q w price from key t r → Leaves scene starts s w price t r
  offered_leaves key t r same (passes h) = kept_leaves h
  offered_leaves key t r same (takes h push) = taken_leaves r h (rw same at push)
