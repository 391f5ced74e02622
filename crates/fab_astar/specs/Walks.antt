-- Walks in a graph, what they pay, and which are least.
use Rattle.std.specs.Prelude.{◌≡◌, ℕ, ◌+◌, ◌*◌, ◌≤◌, Bool, false, nat_eq, if◌then◌else◌, List, [], ◌∷◌, ◌++◌}
use Rattle.std.specs.List.{Contains, list_any}

-- a graph on the numbers below a bound
pub record Graph : Type 0 where
  pub nodes : ℕ
  -- the nodes to which a node leads, in order
  pub ends : ℕ → List ℕ

-- whether a list of nodes has one
abbrev pub has : (nodes : List ℕ) → (node : ℕ) → Bool
has nodes node = list_any (λ other. nat_eq other node) nodes

-- A walk to a node, the last node first. It begins at a start, and steps on nodes that the tree lacks.
pub data Walk (graph : Graph) (tree starts : List ℕ) : ℕ → List ℕ → Type 0 where
  begins : {node : ℕ} → Contains starts node → Walk graph tree starts node (node ∷ [])
  goes : {node next : ℕ} {path : List ℕ} → Walk graph tree starts node path → Contains (graph.ends node) next → has tree next ≡ false
      → Walk graph tree starts next (next ∷ path)

-- What a walk pays: for its first node once, unless the tree has it, and for each later one twice, since a step goes over two wires.
abbrev pub paid : (tree : List ℕ) → (price : ℕ → ℕ) → (path : List ℕ) → ℕ
paid tree price [] = 0
paid tree price (node ∷ []) = if has tree node then 0 else price node
paid tree price (node ∷ (before ∷ path)) = 2 * price node + paid tree price (before ∷ path)

-- a walk to one of the goals, and no walk to any of them pays less
pub record IsLeastTo (graph : Graph) (tree starts : List ℕ) (price : ℕ → ℕ) (goals path : List ℕ) : Type 0 where
  pub goal : ℕ
  pub among : Contains goals goal
  pub walk : Walk graph tree starts goal path
  pub least : (other : ℕ) (longer : List ℕ) → Contains goals other → Walk graph tree starts other longer → paid tree price path ≤ paid tree price longer

-- no walk comes to a goal
abbrev pub HasNoWalk : Graph → (tree starts goals : List ℕ) → Type 0
HasNoWalk graph tree starts goals = (goal : ℕ) (path : List ℕ) → Contains goals goal → Walk graph tree starts goal path → ⊥

-- a tree grows by a least walk to one of the goals
pub record AddsLeast (graph : Graph) (roots : List ℕ) (price : ℕ → ℕ) (goals old new : List ℕ) : Type 0 where
  pub path : List ℕ
  pub is : new ≡ old ++ path
  pub least : IsLeastTo graph old (old ++ roots) price goals path
