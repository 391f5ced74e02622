-- No walk is cheaper than what the search found, and what it found is a walk.
use Rattle.std.proofs.Common.{◌≡◌, ◌≢◌, ◌⊎◌, ℕ, ◌+◌, ◌*◌, ◌^◌, ◌<◌, ◌≤◌, false, List, [], ◌∷◌, ◌++◌, get_or, sym, ◌∙◌, ap, inl, inr, arith, append_assoc}
use Rattle.std.proofs.lemmas.Bool.{cases_eq}
use Rattle.std.specs.List.{Contains, All}
use Rattle.std.proofs.lemmas.List.Elements.{All-contains, All-nil, All-push}
use Rattle.std.proofs.lemmas.Grind.{get_or_default_zero}
use Rattle.std.proofs.lemmas.List.{append-nil}
use Rattle.fab_astar.specs.declared.queue.Queue.{Queue}
use Rattle.fab_astar.specs.Walks.{Walk, has, paid}
use Rattle.fab_astar.specs.Walks.Walk.{begins, goes}
use Rattle.fab_astar.specs.Scene.{Scene, IsScene, toll}
use Rattle.fab_astar.specs.State.{State, stamp, cost, before, IsOpen, IsDone, IsSeen, AreTraced, IsShaped, IsSearch, IsClosed, IsWalkedBack}
use Rattle.fab_astar.proofs.Taking.{seen_inside}
use Rattle.fab_astar.proofs.Paying.{paid_goes}

-- a list at the place of one of its elements
pub place : (xs : List ℕ) (x : ℕ) (c : Contains xs x) → get_or xs c.0 0 ≡ x
place xs x c = sym (get_or_default_zero xs c.0 x c.1) ∙ c.2

module _ (scene : Scene) (starts : List ℕ) (s : State) (q : Queue) (limit : ℕ) (good : IsScene scene) (search : IsSearch scene starts s q) (closed : IsClosed scene starts s limit) where
  -- A walk to a node is paid in full, or it leaves what is settled through a node that waits, or through one that the limit cut off.
  abbrev pub IsMet : ℕ → ℕ → Type 0
  IsMet w price = (IsDone s w × (cost s w ≤ price)) ⊎ (((x : ℕ) × IsOpen s x × (cost s x + scene.rest x ≤ price + scene.rest w)) ⊎ (limit ≤ price + scene.rest w))

  met_by_seen : (w price : ℕ) → IsSeen s w → cost s w ≤ price → IsMet w price
  met_by_seen w price seen h = elim (cases_eq (stamp s w) s.mark) [
    | inl e ↦ inr (inl (w, e, omega arith))
    | inr n ↦ inl (omega (arith, search.shape.latest w), h)
  ]

  -- a walk stays inside
  pub reach : {w : ℕ} {walk : List ℕ} → Walk scene.graph scene.tree starts w walk → w < scene.graph.nodes
  reach {w} {walk} (begins among) = seen_inside scene.graph.nodes s search.shape w (rw (place starts w among) at (closed.begun among.0 among.1)).0
  reach {w} {walk} (goes {node = v} earlier edge free) = All-contains (λ x. x < scene.graph.nodes) (scene.graph.ends v) w (good.graph.inside v (reach earlier)) edge

  pub met : {w : ℕ} {walk : List ℕ} → Walk scene.graph scene.tree starts w walk → IsMet w (paid scene.tree scene.price walk)
  met {w} {walk} (begins among) =
      let b = rw (place starts w among) at (closed.begun among.0 among.1) in
      met_by_seen w (toll scene w) b.0 b.1
  met {w} {walk} (goes {node = v} {path = shorter} earlier edge free) =
      let more = paid_goes w scene.price earlier in
      let falls = good.consistent v w (reach earlier) edge in
      let some = good.prices.some w (All-contains (λ x. x < scene.graph.nodes) (scene.graph.ends v) w (good.graph.inside v (reach earlier)) edge) in
      elim (met earlier) [
        | inl d ↦
            let at = place (scene.graph.ends v) w edge in
            let b = rw at at (closed.relaxed v d.0 edge.0 edge.1 (rw at free)) in
            elim b [
              | inl seen ↦ met_by_seen w (paid scene.tree scene.price (w ∷ shorter)) seen.0 (omega (arith, seen.1, d.1, more))
              | inr cut ↦ inr (inr (omega (arith, cut, d.1, more)))
            ]
        | inr o ↦ elim o [
          | inl x ↦ inr (inl (x.0, x.1, omega (arith, x.2, more, falls, some)))
          | inr cut ↦ inr (inr (omega (arith, cut, more, falls, some)))
        ]
      ]

  -- no walk to a goal pays less than the limit, which counts 1 for the sink, says
  pub least : (goal : ℕ) → scene.rest goal ≤ 1 → (IsDone s goal → limit ≤ cost s goal + 1) → ((v : ℕ) → IsOpen s v → limit ≤ cost s v + scene.rest v) → (walk : List ℕ) → Walk scene.graph scene.tree starts goal walk → limit ≤ paid scene.tree scene.price walk + 1
  least goal near done over walk w = elim (met w) [
    | inl d ↦ omega (arith, done d.0, d.1)
    | inr o ↦ elim o [
      | inl x ↦ omega (arith, over x.0 x.1, x.2)
      | inr cut ↦ omega (arith, cut)
    ]
  ]

  -- where nothing waits and no limit stands, each node that a walk comes to is settled
  pub all_done : 2 ^ 64 ≤ limit + 1 → ((v : ℕ) → IsOpen s v → ⊥) → {w : ℕ} {walk : List ℕ} → Walk scene.graph scene.tree starts w walk → IsDone s w
  all_done none empty {w} {walk} (begins among) =
      let b = rw (place starts w among) at (closed.begun among.0 among.1) in
      elim (cases_eq (stamp s w) s.mark) [ inl e ↦ absurd (empty w e) | inr n ↦ omega (arith, search.shape.latest w, b.0) ]
  all_done none empty {w} {walk} (goes {node = v} earlier edge free) =
      let d = all_done none empty earlier in
      let at = place (scene.graph.ends v) w edge in
      let b = rw at at (closed.relaxed v d edge.0 edge.1 (rw at free)) in
      let low : cost s v ≤ (scene.graph.nodes + 1) * 2 ^ 43 = omega (arith, search.bounded v (omega (arith, d))) in
      let inside : w < scene.graph.nodes = All-contains (λ x. x < scene.graph.nodes) (scene.graph.ends v) w (good.graph.inside v (reach earlier)) edge in
      elim b [
        | inl seen ↦ elim (cases_eq (stamp s w) s.mark) [ inl e ↦ absurd (empty w e) | inr n ↦ omega (arith, search.shape.latest w, seen.0) ]
        | inr cut ↦ absurd (omega (arith, cut, low, good.prices.cheap w inside, good.low w inside, good.graph.few, none))
      ]

-- the walk back from a node, as far as the nodes in front say
module _ (scene : Scene) (starts : List ℕ) (s : State) (good : IsScene scene) (shape : IsShaped scene.graph.nodes s) (traced : AreTraced scene starts s) (w : ℕ) (seen : IsSeen s w) where
  -- what is known at a node on the way back: it begins the walk, or the node before it leads to it and is cheaper
  pub back : ((before s w ≡ w) × Contains starts w × (cost s w ≡ toll scene w))
      ⊎ ((before s w ≢ w) × IsSeen s (before s w) × Contains (scene.graph.ends (before s w)) w × (has scene.tree w ≡ false) × (cost s w ≡ cost s (before s w) + 2 * scene.price w) × (cost s (before s w) < cost s w))
  back = elim (traced w seen) [
    | inl h ↦ inl (h.2, h.0, h.1)
    | inr h ↦
        let some = good.prices.some w (seen_inside scene.graph.nodes s shape w seen) in
        inr ((λ e. let q = ap (cost s) e in omega (arith, h.3, q)), omega (arith, h.0), h.1, h.2, h.3, omega (arith, h.3))
  ]

-- a walk on the way back: from the node at hand on, it is a walk to the goal, paid in full
pub record IsBack (scene : Scene) (starts : List ℕ) (s : State) (goal : ℕ) (walk : List ℕ) (at : ℕ) : Type 0 where
  pub seen : IsSeen s at
  pub leads : (rest : List ℕ) → Walk scene.graph scene.tree starts at rest → (Walk scene.graph scene.tree starts goal (walk ++ rest)) × (paid scene.tree scene.price (walk ++ rest) + cost s at ≡ cost s goal + paid scene.tree scene.price rest)
  pub inside : All (λ w. w < scene.graph.nodes) walk

pub back_begins : (scene : Scene) (starts : List ℕ) (s : State) (goal : ℕ) → IsSeen s goal → IsBack scene starts s goal [] goal
back_begins scene starts s goal seen = record {
  seen = seen;
  leads = λ rest w. (w, omega arith);
  inside = All-nil (λ w. w < scene.graph.nodes);
}

module _ (scene : Scene) (starts : List ℕ) (s : State) (goal : ℕ) (walk : List ℕ) (at : ℕ) (good : IsScene scene) (shape : IsShaped scene.graph.nodes s) (traced : AreTraced scene starts s) (so_far : IsBack scene starts s goal walk at) where
  pub at_inside : at < scene.graph.nodes
  at_inside = seen_inside scene.graph.nodes s shape at so_far.seen

  pub all_inside : All (λ w. w < scene.graph.nodes) (walk ++ at ∷ [])
  all_inside = All-push (λ w. w < scene.graph.nodes) walk at so_far.inside at_inside

  pub back_ends : before s at ≡ at → Walk scene.graph scene.tree starts goal (walk ++ at ∷ []) × (paid scene.tree scene.price (walk ++ at ∷ []) ≡ cost s goal)
  back_ends h = elim (back scene starts s good shape traced at so_far.seen) [
    | inl b ↦ let done = so_far.leads (at ∷ []) (begins b.1) in (done.0, omega (arith, done.1, b.2))
    | inr b ↦ absurd (b.0 h)
  ]

  pub back_goes : before s at ≢ at → IsBack scene starts s goal (walk ++ at ∷ []) (before s at) × (cost s (before s at) < cost s at)
  back_goes n = elim (back scene starts s good shape traced at so_far.seen) [
    | inl b ↦ absurd (n b.0)
    | inr b ↦ (
      record {
        seen = b.1;
        leads = λ rest w.
            let more = so_far.leads (at ∷ rest) (goes w b.2 b.3) in
            let pays = paid_goes at scene.price w in
            rw append_assoc (more.0, omega (arith, more.1, pays, b.4));
        inside = all_inside;
      },
      b.5,
    )
  ]

-- the walk behind a list, on the way back
pub record IsGoingBack (scene : Scene) (starts : List ℕ) (s : State) (goal : ℕ) (old new : List ℕ) (at : ℕ) : Type 0 where
  pub walk : List ℕ
  pub is : new ≡ old ++ walk
  pub course : IsBack scene starts s goal walk at

pub going_begins : (scene : Scene) (starts : List ℕ) (s : State) (goal : ℕ) (old : List ℕ) → IsSeen s goal → IsGoingBack scene starts s goal old old goal
going_begins scene starts s goal old seen = record { walk = []; is = sym (append-nil old); course = back_begins scene starts s goal seen }

module _ (scene : Scene) (starts : List ℕ) (s : State) (goal : ℕ) (old now new : List ℕ) (at : ℕ) (good : IsScene scene) (shape : IsShaped scene.graph.nodes s) (traced : AreTraced scene starts s) (so_far : IsGoingBack scene starts s goal old now at) (pushed : new ≡ now ++ at ∷ []) where
  pub going_in : at < scene.graph.nodes
  going_in = at_inside scene starts s goal so_far.walk at good shape traced so_far.course

  longer : new ≡ old ++ (so_far.walk ++ at ∷ [])
  longer = pushed ∙ ap (λ xs. xs ++ at ∷ []) so_far.is ∙ append_assoc old so_far.walk (at ∷ [])

  pub going_ends : before s at ≡ at → IsWalkedBack scene starts s goal old new
  going_ends h =
      let done = back_ends scene starts s goal so_far.walk at good shape traced so_far.course h in
      record {
        path = so_far.walk ++ at ∷ [];
        is = longer;
        walk = done.0;
        paid_is = done.1;
        inside = all_inside scene starts s goal so_far.walk at good shape traced so_far.course;
      }

  pub going_on : before s at ≢ at → IsGoingBack scene starts s goal old new (before s at) × (cost s (before s at) < cost s at)
  going_on n =
      let next = back_goes scene starts s goal so_far.walk at good shape traced so_far.course n in
      (record { walk = so_far.walk ++ at ∷ []; is = longer; course = next.0 }, next.1)
