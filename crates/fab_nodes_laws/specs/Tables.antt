-- A table that bounds what is left to pay from a node on, by the class of the node and by how far away the tile of the sink is. Nodes of
-- one tile type with one matrix name number make a good class. The table may come from anywhere, if it passes this test.
use Rattle.std.specs.Prelude.{◌≡◌, ℕ, ◌+◌, ◌-◌, ◌<◌, ◌≤◌, List, Contains}
use Rattle.fab_astar.specs.Walks.{Graph}

-- where the tile of a node stands, and its class
pub record Places : Type 0 where
  pub column : ℕ → ℕ
  pub row : ℕ → ℕ
  pub class : ℕ → ℕ

-- places within the greatest grid
abbrev pub AreWithin : Graph → Places → Type 0
AreWithin graph places = (node : ℕ) → node < graph.nodes → (places.column node < 32) × (places.row node < 32)

-- From one class to another, so many tiles across and down. Distances are 32 where nothing changes, so that none is below 0.
pub record Hop : Type 0 where
  pub from : ℕ
  pub to : ℕ
  pub across : ℕ
  pub down : ℕ

-- from one place to another
abbrev pub away : (here there : ℕ) → ℕ
away here there = there + 32 - here

abbrev pub hop_between : Places → (from to : ℕ) → Hop
hop_between places from to =
    record { from = places.class from; to = places.class to; across = away (places.column from) (places.column to); down = away (places.row from) (places.row to) }

-- the hop of each edge is one of these
abbrev pub HasHops : Graph → Places → (hops : List Hop) → Type 0
HasHops graph places hops = (from to : ℕ) → from < graph.nodes → Contains (graph.ends from) to → Contains hops (hop_between places from to)

-- what is left from a node on to a tile at a column and a row
abbrev pub left_to : (table : (class across down : ℕ) → ℕ) → Places → (x y node : ℕ) → ℕ
left_to table places x y node = table (places.class node) (away (places.column node) x) (away (places.row node) y)

-- over a hop the table falls by 2 at most, from whatever distance
abbrev pub IsTested : (table : (class across down : ℕ) → ℕ) → (hops : List Hop) → Type 0
IsTested table hops =
    (hop : Hop) → Contains hops hop → (across down across2 down2 : ℕ) → across < 64 → down < 64 → across2 < 64 → down2 < 64 →
    across2 + hop.across ≡ across + 32 → down2 + hop.down ≡ down + 32 → table hop.from across down ≤ 2 + table hop.to across2 down2

-- the table is 1 at most where the sink is in the tile of one of these classes: those from which pairs lead to sinks
abbrev pub IsLowAtGoals : (table : (class across down : ℕ) → ℕ) → (classes : List ℕ) → Type 0
IsLowAtGoals table classes = (class : ℕ) → Contains classes class → table class 32 32 ≤ 1
