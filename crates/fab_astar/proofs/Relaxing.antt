-- The offers of the node settled last.
use Rattle.std.proofs.Common.{◌≡◌, ℕ, ◌+◌, ◌*◌, ◌<◌, ◌≤◌, ◌^◌, true, false, List, length, get_or, arith}
use Rattle.fab_astar.specs.declared.queue.Queue.{Queue}
use Rattle.fab_astar.specs.Walks.{has}
use Rattle.fab_astar.specs.Scene.{Scene, IsScene}
use Rattle.fab_astar.specs.State.{State, cost, IsOffered, IsSearch, IsClosing, Grows}
use Rattle.fab_astar.proofs.Taking.{Grows-trans, seen_inside}
use Rattle.fab_astar.proofs.Offering.{offered_leaves}
use Rattle.fab_astar.proofs.Settling.{passed, cut_off, offer, offered_closing}

-- the search while the edges of a node are offered
pub record AreOffered (scene : Scene) (starts : List ℕ) (limit : ℕ) (first s : State) (q : Queue) (now i : ℕ) : Type 0 where
  pub search : IsSearch scene starts s q
  pub closing : IsClosing scene starts s limit now i
  pub grows : Grows first s

module _ (scene : Scene) (starts : List ℕ) (limit : ℕ) (first s : State) (q : Queue) (now i w : ℕ) (good : IsScene scene) (so_far : AreOffered scene starts limit first s q now i) (at : w ≡ get_or (scene.graph.ends now) i 0) (more : i < length (scene.graph.ends now)) where
  pub from : now < scene.graph.nodes
  from = seen_inside scene.graph.nodes s so_far.search.shape now (omega (arith, so_far.closing.latest))

  pub inside : w < scene.graph.nodes
  inside = rw at (good.graph.inside now from i 0 more)

  pub pass_step : has scene.tree w ≡ true → AreOffered scene starts limit first s q now (i + 1)
  pass_step h = record {
    search = so_far.search;
    closing = passed scene starts s q limit now i w good so_far.search so_far.closing at more h;
    grows = so_far.grows;
  }

  pub cut_step : limit ≤ cost s now + 2 * scene.price w + scene.rest w → AreOffered scene starts limit first s q now (i + 1)
  cut_step h = record {
    search = so_far.search;
    closing = cut_off scene starts s q limit now i w good so_far.search so_far.closing at more h;
    grows = so_far.grows;
  }

  pub through_low : cost s now + 2 * scene.price w < 2 ^ 63 + 2 ^ 44
  through_low = omega (arith, so_far.closing.spare, good.prices.cheap w inside, good.graph.few)

  pub key_low : cost s now + 2 * scene.price w + scene.rest w < 2 ^ 64
  key_low = omega (arith, through_low, good.low w inside)

  pub offer_step : (t : State) (r : Queue) (through key : ℕ) → has scene.tree w ≡ false → through ≡ cost s now + 2 * scene.price w → key ≡ through + scene.rest w → IsOffered s q w through now key t r → AreOffered scene starts limit first t r now (i + 1)
  offer_step t r through key free p k offered =
      let o = offer scene starts s q limit now i w good so_far.search so_far.closing at more inside free in
      let leaves = offered_leaves scene starts s q w (cost s now + 2 * scene.price w) now so_far.search o key t r (omega (arith, k, p)) (rw p at offered) in
      record {
        search = leaves.good;
        closing = offered_closing scene starts s q limit now i w good so_far.search so_far.closing at more inside free t r leaves;
        grows = Grows-trans first s t so_far.grows leaves.grows;
      }
