-- A turn of the search: an entry of least key is taken out.
use Rattle.std.proofs.Common.{◌≡◌, ◌⊎◌, ℕ, ◌+◌, ◌<◌, ◌≤◌, ◌^◌, List, length, Option, Some, None, refl, sym, ◌∙◌, ap, subst, inl, inr, arith}
use Rattle.std.specs.List.{Contains}
use Rattle.fab_astar.specs.declared.queue.Queue.{Queue}
use Rattle.fab_astar.specs.Queue.{IsPopped, IsEmpty}
use Rattle.fab_astar.specs.Walks.{Walk, HasNoWalk, paid}
use Rattle.fab_astar.specs.Scene.{Scene, IsScene}
use Rattle.fab_astar.specs.State.{State, cost, IsOpen, IsDone, IsSeen, settled, unsettled, IsSearch, IsClosed, IsClosing, AreSeeded, Grows}
use Rattle.fab_astar.proofs.Settling.{closed_below, seen_u, inside_u, dropped, key_least, key_is, settled_done, done_on, u_done, settled_search, settled_closing, one_less}
use Rattle.fab_astar.proofs.Least.{least, all_done}
use Rattle.fab_astar.proofs.Seeding.{seeds_closed}

-- what is known of the best end so far
abbrev pub IsFound : (goals : List ℕ) → State → (limit : ℕ) → Option ℕ → Type 0
IsFound goals s limit None = 2 ^ 64 ≤ limit + 1
IsFound goals s limit (Some goal) = Contains goals goal × IsSeen s goal × (cost s goal + 1 ≡ limit)

-- what holds of the search before each turn
pub record IsTurning (scene : Scene) (starts goals : List ℕ) (s : State) (q : Queue) (limit : ℕ) (end : Option ℕ) : Type 0 where
  pub search : IsSearch scene starts s q
  pub closed : IsClosed scene starts s limit
  pub each : (goal : ℕ) → Contains goals goal → IsDone s goal → limit ≤ cost s goal + 1
  pub found : IsFound goals s limit end
  pub settled_end : (goal : ℕ) → end ≡ Some goal → IsDone s goal

pub turning_begins : (scene : Scene) (starts goals : List ℕ) (s : State) (q : Queue) (limit : ℕ) → 2 ^ 64 ≤ limit + 1 → AreSeeded scene starts s q (length starts) → IsTurning scene starts goals s q limit None
turning_begins scene starts goals s q limit none seeds = record {
  search = seeds.search;
  closed = seeds_closed scene starts s q limit seeds;
  each = λ goal among done. absurd (seeds.undone goal done);
  found = none;
  settled_end = λ goal is. absurd (let h = is in cc);
}

-- what the best end is once a node is about to be settled
pub record IsNoted (goals : List ℕ) (u price limit lower : ℕ) (end new : Option ℕ) : Type 0 where
  pub below : lower ≤ limit
  pub goal : Contains goals u → lower ≤ price + 1
  pub cases : ((lower ≡ limit) × (new ≡ end)) ⊎ ((new ≡ Some u) × Contains goals u × (lower ≡ price + 1))

module _ (scene : Scene) (starts goals : List ℕ) (s : State) (q : Queue) (limit : ℕ) (end : Option ℕ) (good : IsScene scene) (near : (goal : ℕ) → Contains goals goal → scene.rest goal ≤ 1) where
  -- the search is over: nothing that waits can lead to a better walk
  module _ (search : IsSearch scene starts s q) (closed : IsClosed scene starts s limit) (each : (goal : ℕ) → Contains goals goal → IsDone s goal → limit ≤ cost s goal + 1) (over : (v : ℕ) → IsOpen s v → limit ≤ cost s v + scene.rest v) where
    pub best_least : (o : Option ℕ) → IsFound goals s limit o → (goal : ℕ) → o ≡ Some goal → (other : ℕ) (path : List ℕ) → Contains goals other → Walk scene.graph scene.tree starts other path → cost s goal ≤ paid scene.tree scene.price path
    best_least None found goal is other path among walk = absurd (let h = is in cc)
    best_least (Some x) found goal is other path among walk =
        let same : x ≡ goal = cc in
        let low = least scene starts s q limit good search closed other (near other among) (each other among) over path walk in
        omega (arith, found.2, low, ap (cost s) same)

  -- nothing waits, and no goal was reached
  pub ends_none : (turn : IsTurning scene starts goals s q limit end) → IsEmpty q → end ≡ None → HasNoWalk scene.graph scene.tree starts goals
  ends_none turn empty is = λ goal path among walk.
      let found : 2 ^ 64 ≤ limit + 1 = subst (λ o. IsFound goals s limit o) is turn.found in
      let done = all_done scene starts s q limit good turn.search turn.closed found (λ v o. empty (cost s v + scene.rest v) v (turn.search.queued v o)) walk in
      omega (arith, turn.each goal among done, turn.search.bounded goal (omega (arith, done)), good.graph.few, found)

  pub ends_least : (turn : IsTurning scene starts goals s q limit end) → IsEmpty q → (goal : ℕ) → end ≡ Some goal → (other : ℕ) (path : List ℕ) → Contains goals other → Walk scene.graph scene.tree starts other path → cost s goal ≤ paid scene.tree scene.price path
  ends_least turn empty = best_least turn.search turn.closed turn.each (λ v o. absurd (empty (cost s v + scene.rest v) v (turn.search.queued v o))) end turn.found

pub is_seen : (goals : List ℕ) (s : State) (limit : ℕ) (o : Option ℕ) → IsFound goals s limit o → (goal : ℕ) → o ≡ Some goal → IsSeen s goal × Contains goals goal
is_seen goals s limit None found goal is = absurd (let h = is in cc)
is_seen goals s limit (Some x) found goal is =
    let same : x ≡ goal = cc in
    subst (λ y. IsSeen s y × Contains goals y) same (found.1, found.0)

module _ (scene : Scene) (starts goals : List ℕ) (s : State) (q : Queue) (limit : ℕ) (end : Option ℕ) (good : IsScene scene) (near : (goal : ℕ) → Contains goals goal → scene.rest goal ≤ 1) (turn : IsTurning scene starts goals s q limit end) (r : Queue) (key u : ℕ) (pop : IsPopped q r key u) where
  pub u_inside : u < scene.graph.nodes
  u_inside = inside_u scene starts s q turn.search r key u pop

  pub u_low : cost s u + 1 < 2 ^ 64
  u_low = omega (arith, turn.search.bounded u (seen_u scene starts s q turn.search r key u pop), good.graph.few)

  pub skipped : (IsOpen s u → ⊥) → IsTurning scene starts goals s r limit end
  skipped n = record {
    search = dropped scene starts s q turn.search r key u pop n;
    closed = turn.closed;
    each = turn.each;
    found = turn.found;
    settled_end = turn.settled_end;
  }

  module _ (waits : IsOpen s u) (lower : ℕ) (new : Option ℕ) (noted : IsNoted goals u (cost s u) limit lower end new) where
    pub new_found : IsFound goals s lower new
    new_found = elim noted.cases [
      | inl same ↦ rw (same.0, same.1) turn.found
      | inr here ↦ rw here.0 (here.1, omega (arith, waits), sym here.2)
    ]

    -- the search is over
    pub over_least : lower ≤ key → (goal : ℕ) → new ≡ Some goal → (other : ℕ) (path : List ℕ) → Contains goals other → Walk scene.graph scene.tree starts other path → cost s goal ≤ paid scene.tree scene.price path
    over_least h =
        best_least scene starts goals s q lower end good near turn.search (closed_below scene starts s limit lower noted.below turn.closed) (λ goal among done. omega (arith, turn.each goal among done, noted.below)) (λ v o. omega (arith, key_least scene starts s q turn.search r key u pop v o)) new new_found

    pub over_none : lower ≤ key → new ≡ None → HasNoWalk scene.graph scene.tree starts goals
    over_none h is = λ goal path among walk.
        let found : 2 ^ 64 ≤ lower + 1 = subst (λ o. IsFound goals s lower o) is new_found in
        omega (arith, key_is scene starts s q turn.search r key u pop waits, turn.search.bounded u (omega (arith, waits)), good.graph.few, good.low u u_inside, found)

    pub over_seen : (goal : ℕ) → new ≡ Some goal → IsSeen s goal × Contains goals goal
    over_seen = is_seen goals s lower new new_found

    -- the node is settled
    pub now_search : IsSearch scene starts (settled s u) r
    now_search = settled_search scene starts s q turn.search r key u pop waits

    pub now_closing : IsClosing scene starts (settled s u) lower u 0
    now_closing = settled_closing scene starts s q turn.search r key u pop waits lower (closed_below scene starts s limit lower noted.below turn.closed)

    pub fewer : unsettled (settled s u) + 1 ≡ unsettled s
    fewer = one_less scene starts s q turn.search r key u pop waits

    -- and the nodes to which it leads have been offered
    pub turned : (t : State) (p : Queue) → IsSearch scene starts t p → IsClosed scene starts t lower → Grows (settled s u) t → IsTurning scene starts goals t p lower new
    turned t p search closed grows =
        let end_done : (goal : ℕ) → new ≡ Some goal → IsDone (settled s u) goal = λ goal is. elim noted.cases [
          | inl same ↦ done_on scene starts s q turn.search r key u pop waits goal (turn.settled_end goal (sym same.1 ∙ is))
          | inr here ↦ let e : u ≡ goal = (let a = here.0 in cc) in subst (λ v. IsDone (settled s u) v) e (u_done scene starts s q turn.search r key u pop waits)
        ] in
        record {
          search = search;
          closed = closed;
          each = λ goal among done.
              let before = grows.only goal done in
              let same = (grows.done goal before).1 in
              elim (settled_done scene starts s q turn.search r key u pop waits goal before) [
                | inl e ↦ let c = ap (cost s) e in omega (arith, same, c, noted.goal (subst (λ v. Contains goals v) e among))
                | inr d ↦ omega (arith, same, turn.each goal among d, noted.below)
              ];
          found = found_on new end_done new_found;
          settled_end = λ goal is. (grows.done goal (end_done goal is)).0;
        }
      where
        found_on : (o : Option ℕ) → ((goal : ℕ) → o ≡ Some goal → IsDone (settled s u) goal) → IsFound goals s lower o → IsFound goals t lower o
        found_on None done found = found
        found_on (Some goal) done found =
            let d = grows.done goal (done goal refl) in
            (found.0, omega (arith, d.0), ap (λ n. n + 1) d.1 ∙ found.2)
