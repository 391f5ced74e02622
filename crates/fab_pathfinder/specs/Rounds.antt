-- Trees of nets, rounds and negotiated runs.
use Rattle.std.specs.Prelude.{◌≡◌, ℕ, ◌+◌, ◌-◌, ◌*◌, ◌<◌, ◌≤◌, List, [], ◌∷◌, ◌++◌, length, map, take, drop, slice_index_or, count_by, sum_by}
use Rattle.std.specs.List.{Contains, flat_map}
use Rattle.fab_astar.specs.Walks.{Graph, Walk, has, IsLeastTo, HasNoWalk}

-- What a net has to reach: for each of its sinks the nodes that stand before it, from any of its roots.
pub record Net : Type 0 where
  pub roots : List ℕ
  pub goals : List (List ℕ)

-- the walks of a tree, one for each sink, each with its last node first
abbrev pub Paths : Type 0
Paths = List (List ℕ)

-- the nodes of a tree
abbrev pub nodes_of : Paths → List ℕ
nodes_of paths = flat_map (λ path. path) paths

-- A tree that has some nodes grows sink by sink: each sink has a walk of least price, from the tree so far or a root.
abbrev pub AreGrown : Graph → (roots : List ℕ) → (price : ℕ → ℕ) → (tree : List ℕ) → (goals : List (List ℕ)) → Paths → Type 0
AreGrown graph roots price tree [] [] = Unit {0}
AreGrown graph roots price tree [] (path ∷ paths) = ⊥
AreGrown graph roots price tree (sink ∷ goals) [] = ⊥
AreGrown graph roots price tree (sink ∷ goals) (path ∷ paths) =
    IsLeastTo graph tree (tree ++ roots) price sink path × AreGrown graph roots price (tree ++ path) goals paths

-- how many trees have a node
abbrev pub users : List Paths → ℕ → ℕ
users trees node = count_by (λ paths. has (nodes_of paths) node) trees

-- the price of a node in a round, for a net beside others
abbrev pub negotiated : (past : ℕ → ℕ) → (round : ℕ) → (others : ℕ → ℕ) → ℕ → ℕ
negotiated past round others node = (1 + past node) * (1 + round * others node)

abbrev pub net_at : List Net → ℕ → Net
net_at nets k = slice_index_or nets k (record { roots = []; goals = [] })

abbrev pub tree_at : List Paths → ℕ → Paths
tree_at trees k = slice_index_or trees k []

-- how many of the other nets have a node as net k grows its tree: those before it have their new trees, and those behind it their old ones
abbrev pub others : (old new : List Paths) → (k : ℕ) → ℕ → ℕ
others old new k node = users (take k new) node + users (drop (k + 1) old) node

-- In a round each net in order gives up its tree and grows a new one.
pub record IsRound (graph : Graph) (nets : List Net) (past : ℕ → ℕ) (round : ℕ) (old new : List Paths) : Type 0 where
  pub all : length new ≡ length nets
  pub each : (k : ℕ) → k < length nets →
      AreGrown graph (net_at nets k).roots (negotiated past round (others old new k)) [] (net_at nets k).goals (tree_at new k)

-- a node stands in two trees
abbrev pub LeavesShared : List Paths → Type 0
LeavesShared trees = (node : ℕ) × (2 ≤ users trees node)

-- what the rounds so far add to the price of a node
abbrev pub past_of : List (List Paths) → ℕ → ℕ
past_of rounds node = sum_by (λ trees. users trees node - 1) rounds

-- the trees before the first round
abbrev pub no_trees : List Net → List Paths
no_trees nets = map (λ net. []) nets

-- the trees after some rounds, or those before the first
abbrev pub last_trees : (first : List Paths) → List (List Paths) → List Paths
last_trees first [] = first
last_trees first (trees ∷ rounds) = last_trees trees rounds

-- Rounds from 0 on, each but the last of which leaves a shared node, and the last trees.
pub data Run (graph : Graph) (nets : List Net) : List (List Paths) → List Paths → Type 0 where
  begins : Run graph nets [] (no_trees nets)
  goes : {rounds : List (List Paths)} {old : List Paths} (new : List Paths) → Run graph nets rounds old → (0 < length rounds → LeavesShared old)
      → IsRound graph nets (past_of rounds) (length rounds) old new → Run graph nets (rounds ++ new ∷ []) new

-- a walk from a root comes to a goal
pub record HasWalk (graph : Graph) (roots goals : List ℕ) : Type 0 where
  pub goal : ℕ
  pub path : List ℕ
  pub among : Contains goals goal
  pub walk : Walk graph [] roots goal path

-- The first net with a sink that no walk from the net's roots comes to, and its first such sink.
pub record IsCutOff (graph : Graph) (nets : List Net) (net sink : ℕ) : Type 0 where
  pub net_in : net < length nets
  pub sink_in : sink < length (net_at nets net).goals
  pub apart : HasNoWalk graph [] (net_at nets net).roots (slice_index_or (net_at nets net).goals sink [])
  pub nets_before : (k s : ℕ) → k < net → s < length (net_at nets k).goals → HasWalk graph (net_at nets k).roots (slice_index_or (net_at nets k).goals s [])
  pub sinks_before : (s : ℕ) → s < sink → HasWalk graph (net_at nets net).roots (slice_index_or (net_at nets net).goals s [])
