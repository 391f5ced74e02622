-- What waits in the queue of a search.
use Rattle.std.specs.Prelude.{◌≡◌, ◌⊎◌, ℕ, ◌+◌, ◌/◌, ◌<◌, ◌≤◌, List, [], ◌∷◌, length, map, slice_index_or, sum_by}
use Rattle.std.specs.List.{Contains}
use Rattle.fab_astar.specs.declared.queue.Queue.{Queue}

-- the nodes in the buckets; eight buckets share a key
abbrev pub near : Queue → List (List ℕ)
near queue = map (λ bucket. bucket.items) queue.buckets.items

-- a node waits in a bucket
abbrev pub IsNear : List (List ℕ) → (key node : ℕ) → Type 0
IsNear buckets key node = (k : ℕ) × (k / 8 ≡ key) × Contains (slice_index_or buckets k []) node

-- an entry is among those of greater keys
abbrev pub IsFar : List (ℕ × ℕ) → (key node : ℕ) → Type 0
IsFar [] key node = ⊥
IsFar (entry ∷ entries) key node = ((entry.0 ≡ key) × (entry.1 ≡ node)) ⊎ IsFar entries key node

-- a node waits under a key
abbrev pub Waits : Queue → (key node : ℕ) → Type 0
Waits queue key node = IsNear (near queue) key node ⊎ IsFar queue.far.keys key node

-- how many entries there are
abbrev pub size : Queue → ℕ
size queue = sum_by (λ (nodes : List ℕ). length nodes) (near queue) + length queue.far.keys

-- no bucket outside two marks has a node, and greater keys stand apart
pub record IsQueue (queue : Queue) : Type 0 where
  pub many : length (near queue) ≡ 65536
  pub below : (k : ℕ) → k < queue.now → slice_index_or (near queue) k [] ≡ []
  pub above : (k : ℕ) → queue.top ≤ k → slice_index_or (near queue) k [] ≡ []
  pub top_in : queue.top ≤ 65536
  pub apart : (key node : ℕ) → IsFar queue.far.keys key node → 8192 ≤ key

-- nothing waits
abbrev pub IsEmpty : Queue → Type 0
IsEmpty queue = (key node : ℕ) → Waits queue key node → ⊥

-- one more entry waits
pub record IsPushed (old new : Queue) (key node : ℕ) : Type 0 where
  pub here : Waits new key node
  pub kept : (k v : ℕ) → Waits old k v → Waits new k v
  pub cases : (k v : ℕ) → Waits new k v → ((k ≡ key) × (v ≡ node)) ⊎ Waits old k v

-- an entry of least key is taken out
pub record IsPopped (old new : Queue) (key node : ℕ) : Type 0 where
  pub first : Waits old key node
  pub least : (k v : ℕ) → Waits old k v → key ≤ k
  pub kept : (k v : ℕ) → Waits old k v → ((k ≡ key) × (v ≡ node)) ⊎ Waits new k v
  pub among : (k v : ℕ) → Waits new k v → Waits old k v
