-- What the tables of a search say.
use Rattle.std.specs.Prelude.{◌≡◌, ℕ, ◌^◌, ◌<◌, ◌≤◌, Bool, ◌||◌, nat_eq, if◌then◌else◌, List, length, map, slice_index}
use Rattle.fab_astar.specs.declared.tables.Node.{Node}
use Rattle.fab_astar.specs.declared.tables.Tables.{Tables}
use Rattle.fab_astar.specs.Queue.{IsQueue}
use Rattle.fab_astar.specs.State.{State, IsShaped}

-- how many nodes there are
abbrev pub count_of : Tables → ℕ
count_of t = length t.nodes.items

-- what the search knows
abbrev pub state_of : Tables → State
state_of t = record {
  mark = t.mark;
  stamps = map (λ (n : Node). n.stamp) t.nodes.items;
  costs = map (λ (n : Node). n.cost) t.nodes.items;
  befores = map (λ (n : Node). n.before) t.nodes.items;
}

abbrev pub prices : Tables → List ℕ
prices t = map (λ (n : Node). n.price) t.nodes.items

abbrev pub counts : Tables → List ℕ
counts t = map (λ (n : Node). n.users) t.nodes.items

abbrev pub trees : Tables → List ℕ
trees t = map (λ (n : Node). n.tree) t.nodes.items

-- what a net pays for a node
abbrev pub price_of : Tables → (node : ℕ) → ℕ
price_of t node = slice_index (prices t) node

-- how many nets have a node
abbrev pub users_of : Tables → (node : ℕ) → ℕ
users_of t node = slice_index (counts t) node

-- whether the tree that grows now has a node
abbrev pub is_held : Tables → (node : ℕ) → Bool
is_held t node = nat_eq (slice_index (trees t) node) t.tree_mark

-- the tables are in order
pub record AreTables (t : Tables) : Type 0 where
  pub shape : IsShaped (count_of t) (state_of t)
  pub queue : IsQueue t.queue
  pub held_marked : 1 ≤ t.tree_mark
  pub held_small : t.tree_mark < 2 ^ 32
  pub held_latest : (node : ℕ) → slice_index (trees t) node ≤ t.tree_mark

-- what a search leaves as it was
pub record IsKept (old new : Tables) : Type 0 where
  pub count : count_of new ≡ count_of old
  pub price : prices new ≡ prices old
  pub users : counts new ≡ counts old
  pub tree : trees new ≡ trees old
  pub mark : new.tree_mark ≡ old.tree_mark

-- one node has other users and another price
pub record IsCharged (old new : Tables) (node users price : ℕ) : Type 0 where
  pub count : count_of new ≡ count_of old
  pub price_is : (w : ℕ) → price_of new w ≡ (if nat_eq node w then price else price_of old w)
  pub users_is : (w : ℕ) → users_of new w ≡ (if nat_eq node w then users else users_of old w)
  pub held : (w : ℕ) → is_held new w ≡ is_held old w

-- the tree has one more node
pub record IsHeldToo (old new : Tables) (node : ℕ) : Type 0 where
  pub count : count_of new ≡ count_of old
  pub price : prices new ≡ prices old
  pub users : counts new ≡ counts old
  pub held : (w : ℕ) → is_held new w ≡ (is_held old w || nat_eq node w)
