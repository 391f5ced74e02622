-- What walks pay.
use Rattle.std.proofs.Common.{◌≡◌, ℕ, ◌+◌, ◌*◌, ◌≤◌, false, List, ◌∷◌, refl, arith}
use Rattle.fab_astar.specs.Walks.{Graph, Walk, has, paid}
use Rattle.fab_astar.specs.Walks.Walk.{begins, goes}

-- a walk of one more step pays twice for its last node
pub paid_goes : {graph : Graph} {tree starts : List ℕ} {node : ℕ} {path : List ℕ} (next : ℕ) (price : ℕ → ℕ) → Walk graph tree starts node path → paid tree price (next ∷ path) ≡ 2 * price next + paid tree price path
paid_goes next price (begins among) = refl
paid_goes next price (goes earlier edge free) = refl

-- a walk to a node that the tree lacks pays for it
pub pays_for_last : {graph : Graph} {tree starts : List ℕ} {node : ℕ} {path : List ℕ} (price : ℕ → ℕ) → Walk graph tree starts node path → has tree node ≡ false → price node ≤ paid tree price path
pays_for_last {tree = tree} {node = node} price (begins among) free = rw free (omega arith)
pays_for_last {node = node} price (goes {path = path} earlier edge h) free = omega (arith, paid_goes node price earlier)
