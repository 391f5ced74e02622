-- What a search knows of the nodes, and what is true of it between two steps.
use Rattle.std.specs.Prelude.{◌≡◌, ◌≢◌, ◌⊎◌, ℕ, ◌+◌, ◌*◌, ◌^◌, ◌<◌, ◌≤◌, Bool, true, false, if◌then◌else◌, ◌==◌, nat_lt, not, List, ◌++◌, length, slice_index, slice_set, count_by}
use Rattle.std.specs.List.{All, Contains}
use Rattle.fab_astar.specs.declared.queue.Queue.{Queue}
use Rattle.fab_astar.specs.Queue.{Waits, IsPushed}
use Rattle.fab_astar.specs.Walks.{Walk, has, paid}
use Rattle.fab_astar.specs.Scene.{Scene, toll}

-- A node whose stamp is the mark waits with the least price so far, and one whose stamp is one more is settled. Smaller stamps are of earlier searches.
pub record State : Type 0 where
  pub mark : ℕ
  pub stamps : List ℕ
  pub costs : List ℕ
  pub befores : List ℕ

abbrev pub stamp : State → ℕ → ℕ
stamp s w = slice_index s.stamps w

abbrev pub cost : State → ℕ → ℕ
cost s w = slice_index s.costs w

abbrev pub before : State → ℕ → ℕ
before s w = slice_index s.befores w

abbrev pub IsOpen : State → ℕ → Type 0
IsOpen s w = stamp s w ≡ s.mark

abbrev pub IsDone : State → ℕ → Type 0
IsDone s w = stamp s w ≡ s.mark + 1

abbrev pub IsSeen : State → ℕ → Type 0
IsSeen s w = s.mark ≤ stamp s w

-- whether a node is better reached at this price
abbrev pub improves : State → ℕ → ℕ → Bool
improves s w price = if stamp s w == s.mark then nat_lt price (cost s w) else nat_lt (stamp s w) s.mark

-- the state once a node takes this price, from the node before it
abbrev pub taken : State → ℕ → ℕ → ℕ → State
taken s w price from = record {
  mark = s.mark;
  stamps = slice_set s.stamps w s.mark;
  costs = slice_set s.costs w price;
  befores = slice_set s.befores w from;
}

-- A node is offered at a price: it takes it where that is better, and waits under the key.
pub data IsOffered (s : State) (q : Queue) (w price from key : ℕ) : State → Queue → Type 0 where
  passes : improves s w price ≡ false → IsOffered s q w price from key s q
  takes : {r : Queue} → improves s w price ≡ true → IsPushed q r key w → IsOffered s q w price from key (taken s w price from) r

-- the state once a node is settled
abbrev pub settled : State → ℕ → State
settled s w = record s { stamps = slice_set s.stamps w (s.mark + 1) }

-- how many nodes are not settled
abbrev pub unsettled : State → ℕ
unsettled s = count_by (λ t. not (t == s.mark + 1)) s.stamps

-- how a node came to its price
abbrev pub IsTraced : Scene → List ℕ → State → ℕ → ℕ → ℕ → Type 0
IsTraced scene starts s w price from =
    (Contains starts w × (price ≡ toll scene w) × (from ≡ w))
    ⊎ (IsDone s from × Contains (scene.graph.ends from) w × (has scene.tree w ≡ false) × (price ≡ cost s from + 2 * scene.price w))

pub record IsShaped (nodes : ℕ) (s : State) : Type 0 where
  pub stamps : length s.stamps ≡ nodes
  pub costs : length s.costs ≡ nodes
  pub befores : length s.befores ≡ nodes
  pub marked : 1 ≤ s.mark
  pub small : s.mark + 1 < 2 ^ 32
  pub latest : (w : ℕ) → stamp s w ≤ s.mark + 1

-- how each node that was seen came to its price
abbrev pub AreTraced : Scene → List ℕ → State → Type 0
AreTraced scene starts s = (w : ℕ) → IsSeen s w → IsTraced scene starts s w (cost s w) (before s w)

-- what holds of a search at any time
pub record IsSearch (scene : Scene) (starts : List ℕ) (s : State) (q : Queue) : Type 0 where
  pub shape : IsShaped scene.graph.nodes s
  pub traced : AreTraced scene starts s
  pub ordered : (v w : ℕ) → IsDone s v → IsOpen s w → cost s v + scene.rest v ≤ cost s w + scene.rest w
  pub queued : (w : ℕ) → IsOpen s w → Waits q (cost s w + scene.rest w) w
  pub entered : (key w : ℕ) → Waits q key w → IsSeen s w × (cost s w + scene.rest w ≤ key)
  pub bounded : (w : ℕ) → IsSeen s w → cost s w + unsettled s * 2 ^ 43 ≤ (scene.graph.nodes + 1) * 2 ^ 43

-- Of the nodes to which a settled node leads, the first some have been offered, but for those that a limit cuts off.
abbrev pub IsRelaxed : Scene → State → (limit : ℕ) → ℕ → ℕ → Type 0
IsRelaxed scene s limit v upto =
    (i : ℕ) → i < upto → has scene.tree (slice_index (scene.graph.ends v) i) ≡ false →
    (IsSeen s (slice_index (scene.graph.ends v) i) × (cost s (slice_index (scene.graph.ends v) i) ≤ cost s v + 2 * scene.price (slice_index (scene.graph.ends v) i)))
    ⊎ (limit ≤ cost s v + 2 * scene.price (slice_index (scene.graph.ends v) i) + scene.rest (slice_index (scene.graph.ends v) i))

-- the first some starts have been offered
abbrev pub AreBegun : Scene → List ℕ → State → ℕ → Type 0
AreBegun scene starts s upto =
    (i : ℕ) → i < upto → IsSeen s (slice_index starts i) × (cost s (slice_index starts i) ≤ toll scene (slice_index starts i))

-- all starts are offered, and all that settled nodes lead to
pub record IsClosed (scene : Scene) (starts : List ℕ) (s : State) (limit : ℕ) : Type 0 where
  pub begun : AreBegun scene starts s (length starts)
  pub relaxed : (v : ℕ) → IsDone s v → IsRelaxed scene s limit v (length (scene.graph.ends v))

-- the same, but for the node settled last, of which the first some edges are done
pub record IsClosing (scene : Scene) (starts : List ℕ) (s : State) (limit now upto : ℕ) : Type 0 where
  pub begun : AreBegun scene starts s (length starts)
  pub relaxed : (v : ℕ) → IsDone s v → v ≢ now → IsRelaxed scene s limit v (length (scene.graph.ends v))
  pub latest : IsDone s now
  pub here : IsRelaxed scene s limit now upto
  pub greatest : (v : ℕ) → IsDone s v → cost s v + scene.rest v ≤ cost s now + scene.rest now
  pub spare : cost s now + (unsettled s + 1) * 2 ^ 43 ≤ (scene.graph.nodes + 1) * 2 ^ 43

-- what a later state keeps of an earlier one
pub record Grows (s t : State) : Type 0 where
  pub mark : t.mark ≡ s.mark
  pub left : unsettled t ≡ unsettled s
  pub done : (v : ℕ) → IsDone s v → IsDone t v × (cost t v ≡ cost s v)
  pub only : (v : ℕ) → IsDone t v → IsDone s v
  pub seen : (v : ℕ) → IsSeen s v → IsSeen t v × (cost t v ≤ cost s v)

-- what holds while starts are offered
pub record AreSeeded (scene : Scene) (starts : List ℕ) (s : State) (q : Queue) (i : ℕ) : Type 0 where
  pub search : IsSearch scene starts s q
  pub begun : AreBegun scene starts s i
  pub undone : (v : ℕ) → IsDone s v → ⊥

-- a walk of the price that the search came to stands behind a list
pub record IsWalkedBack (scene : Scene) (starts : List ℕ) (s : State) (goal : ℕ) (old new : List ℕ) : Type 0 where
  pub path : List ℕ
  pub is : new ≡ old ++ path
  pub walk : Walk scene.graph scene.tree starts goal path
  pub paid_is : paid scene.tree scene.price path ≡ cost s goal
  pub inside : All (λ w. w < scene.graph.nodes) path
