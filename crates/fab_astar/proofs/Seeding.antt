-- The start of a search.
use Rattle.std.proofs.Common.{◌≡◌, ℕ, ◌+◌, ◌<◌, ◌≤◌, ◌^◌, not, eqb, List, [], ◌++◌, length, get_or, refl, sym, ◌∙◌, inl, inr, arith, length-append}
use Rattle.std.proofs.lemmas.Bool.{cases_eq, cases_Bool}
use Rattle.std.proofs.lemmas.List.Elements.{Contains-get_or, Contains-append_left}
use Rattle.std.proofs.lemmas.List.Sums.{count_by-le-length}
use Rattle.std.proofs.Math.ListN.{get_or-append}
use Rattle.std.proofs.lemmas.List.{get_or-append-add}
use Rattle.fab_astar.specs.declared.queue.Queue.{Queue}
use Rattle.fab_astar.specs.Queue.{IsEmpty}
use Rattle.fab_astar.specs.Walks.{has}
use Rattle.fab_astar.specs.Scene.{Scene, IsScene, toll}
use Rattle.fab_astar.specs.State.{State, stamp, IsOffered, IsShaped, AreSeeded, IsClosed}
use Rattle.fab_astar.proofs.Offering.{IsOffer, offered_leaves}

pub fresh : (scene : Scene) (s : State) (q : Queue) → IsShaped scene.graph.nodes s → IsEmpty q → ((w : ℕ) → stamp s w < s.mark) → AreSeeded scene [] s q 0
fresh scene s q shape empty unseen = record {
  search = record {
    shape = shape;
    traced = λ w seen. absurd (omega (arith, unseen w));
    ordered = λ v w d o. absurd (omega (arith, unseen w, o));
    queued = λ w o. absurd (omega (arith, unseen w, o));
    entered = λ k w h. absurd (empty k w h);
    bounded = λ w seen. absurd (omega (arith, unseen w));
  };
  begun = λ i l. absurd (omega arith);
  undone = λ v d. absurd (omega (arith, unseen v, d));
}

pub toll_low : (scene : Scene) (good : IsScene scene) (w : ℕ) → w < scene.graph.nodes → toll scene w < 2 ^ 42
toll_low scene good w l = elim (cases_Bool (has scene.tree w)) [
  | inl h ↦ rw h (omega arith)
  | inr h ↦ rw h (good.prices.cheap w l)
]

-- there are more starts than those that were offered
pub more_starts : (scene : Scene) (before starts : List ℕ) (s : State) (q : Queue) (n : ℕ) → n ≡ length before → AreSeeded scene before s q (length before) → AreSeeded scene (before ++ starts) s q n
more_starts scene before starts s q n same seeds = record {
  search = record {
    shape = seeds.search.shape;
    traced = λ w seen. elim (seeds.search.traced w seen) [
      | inl h ↦ inl (Contains-append_left before starts w h.0, h.1, h.2)
      | inr h ↦ inr h
    ];
    ordered = seeds.search.ordered;
    queued = seeds.search.queued;
    entered = seeds.search.entered;
    bounded = seeds.search.bounded;
  };
  begun = λ i l.
      let in_front : i < length before = omega arith in
      rw (get_or-append before starts 0 i in_front) (seeds.begun i in_front);
  undone = seeds.undone;
}

module _ (scene : Scene) (starts : List ℕ) (s : State) (q : Queue) (i w : ℕ) (good : IsScene scene) (seeds : AreSeeded scene starts s q i) (more : i < length starts) (at : w ≡ get_or starts i 0) (inside : w < scene.graph.nodes) where
  seed_offer : IsOffer scene starts s w (toll scene w) w
  seed_offer = record {
    inside = inside;
    traced = inl (rw at (Contains-get_or starts i 0 more), refl, refl);
    ordered = λ v d. absurd (seeds.undone v d);
    bounded =
        let few = count_by-le-length (λ t. not (eqb t (s.mark + 1))) s.stamps in
        omega (arith, few, toll_low scene good w inside, seeds.search.shape.stamps);
  }

  -- one more start is offered
  pub seed_step : (t : State) (r : Queue) (price key j : ℕ) → j ≡ i + 1 → price ≡ toll scene w → key ≡ price + scene.rest w → IsOffered s q w price w key t r → AreSeeded scene starts t r j
  seed_step t r price key j next p k offered =
      let leaves = offered_leaves scene starts s q w (toll scene w) w seeds.search seed_offer key t r (omega (arith, k, p)) (rw p at offered) in
      record {
        search = leaves.good;
        begun = λ k l. elim (cases_eq k i) [
          | inl e ↦ rw (e, ← at) (leaves.seen, leaves.cheap)
          | inr n ↦
              let b = seeds.begun k (omega arith) in
              let g = leaves.grows.seen (get_or starts k 0) b.0 in
              (g.0, omega (arith, g.1, b.1))
        ];
        undone = λ v d. seeds.undone v (leaves.grows.only v d);
      }

pub seeds_closed : (scene : Scene) (starts : List ℕ) (s : State) (q : Queue) (limit : ℕ) → AreSeeded scene starts s q (length starts) → IsClosed scene starts s limit
seeds_closed scene starts s q limit seeds = record {
  begun = seeds.begun;
  relaxed = λ v d. absurd (seeds.undone v d);
}

-- the start at hand, behind those that were offered before
pub start_at : (before starts : List ℕ) (k w : ℕ) → w ≡ get_or starts k 0 → w ≡ get_or (before ++ starts) (length before + k) 0
start_at before starts k w e = e ∙ sym (get_or-append-add before starts k 0)

pub start_in : (before starts : List ℕ) (k : ℕ) → k < length starts → length before + k < length (before ++ starts)
start_in before starts k l = omega (arith, length-append before starts)

pub all_offered : (scene : Scene) (before starts : List ℕ) (s : State) (q : Queue) (k : ℕ) → length starts ≤ k → AreSeeded scene (before ++ starts) s q (length before + k) → AreSeeded scene (before ++ starts) s q (length (before ++ starts))
all_offered scene before starts s q k all seeds = record {
  search = seeds.search;
  begun = λ i l. seeds.begun i (omega (arith, length-append before starts));
  undone = seeds.undone;
}
