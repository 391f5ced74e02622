-- A table that bounds what is left to pay from a node on, by the class of the node and by how far away the tile of the sink is.
use Rattle.std.specs.Prelude.{◌≡◌, ℕ, ◌+◌, ◌-◌, ◌*◌, ◌<◌, ◌≤◌, List, Vec, [], map, length, slice_index, slice_index_or, Contains}
use Rattle.fab_model.specs.Grid.{PlainFabric}
use Rattle.fab_astar.specs.Walks.{Graph}
pub use Rattle.fab_nodes_laws.specs.Tables.{away}
use Rattle.fab_route.specs.declared.classes.Place.{Place}
use Rattle.fab_route.specs.declared.hops.Hop.{Hop}
use Rattle.fab_route.specs.declared.window.Window.{Window}

-- ---- places

abbrev pub no_place : Place
no_place = record { class = 0; column = 0; row = 0 }

abbrev pub place_at : List Place → (node : ℕ) → Place
place_at places node = slice_index_or places node no_place

-- a grid of so many columns and rows is not too large
pub record IsWindow (window : Window) : Type 0 where
  pub some_columns : 1 ≤ window.columns
  pub few_columns : window.columns ≤ 32
  pub some_rows : 1 ≤ window.rows
  pub few_rows : window.rows ≤ 32

-- a place stands in the grid, and its class is one of so many
pub record IsWithin (window : Window) (classes : ℕ) (place : Place) : Type 0 where
  pub column : place.column < window.columns
  pub row : place.row < window.rows
  pub class : place.class < classes

-- ---- hops

-- From one class to another, so many tiles across and down. Distances are 32 where nothing changes, so that none is below 0.
abbrev pub hop_between : (from to : Place) → Hop
hop_between from to = record { from = from.class; across = away from.column to.column; down = away from.row to.row }

-- the hops to a class
abbrev pub hops_to : {A : Type 0} → List (Vec Hop A) → (class : ℕ) → List Hop
hops_to hops class = slice_index_or (map (λ group. group.items) hops) class []

-- the hop of an edge is listed
abbrev pub HasHop : {A : Type 0} → List (Vec Hop A) → (from to : Place) → Type 0
HasHop hops from to = Contains (hops_to hops to.class) (hop_between from to)

-- those of the edges of the first nodes are
abbrev pub HaveHops : {A : Type 0} → Graph → List Place → (count : ℕ) → List (Vec Hop A) → Type 0
HaveHops graph places count hops = (from to : ℕ) → from < count → Contains (graph.ends from) to → HasHop hops (place_at places from) (place_at places to)

-- no hop is lost
abbrev pub KeepHops : {A : Type 0} → (old new : List (Vec Hop A)) → Type 0
KeepHops old new = (length new ≡ length old) × ((class : ℕ) (hop : Hop) → Contains (hops_to old class) hop → Contains (hops_to new class) hop)

-- ---- tables

-- A table has 64 times 64 entries for each class. Where a table begins, this is the entry of a class at a distance.
abbrev pub entry_of : (start class across down : ℕ) → ℕ
entry_of start class across down = start + class * 4096 + across * 64 + down

-- distances in a grid
abbrev pub IsAcross : Window → ℕ → Type 0
IsAcross window across = (33 - window.columns ≤ across) × (across < 32 + window.columns)

abbrev pub IsDown : Window → ℕ → Type 0
IsDown window down = (33 - window.rows ≤ down) × (down < 32 + window.rows)

-- over a hop of so many rows the entries of a line fall by 2 at most to those of another line
abbrev pub IsLineTested : (entries : List ℕ) → (rows from_line to_line down : ℕ) → Type 0
IsLineTested entries rows from_line to_line down =
    (here there : ℕ) → 33 - rows ≤ here → here < 32 + rows → 33 - rows ≤ there → there < 32 + rows → there + down ≡ here + 32 →
    slice_index entries (from_line + here) ≤ 2 + slice_index entries (to_line + there)

-- over a hop a table falls by 2 at most, from whatever distance in a grid
abbrev pub IsHopTested : (entries : List ℕ) → Window → (start to : ℕ) → Hop → Type 0
IsHopTested entries window start to hop =
    (across down across2 down2 : ℕ) → IsAcross window across → IsDown window down → IsAcross window across2 → IsDown window down2 →
    across2 + hop.across ≡ across + 32 → down2 + hop.down ≡ down + 32 →
    slice_index entries (entry_of start hop.from across down) ≤ 2 + slice_index entries (entry_of start to across2 down2)

-- the first classes are tested
abbrev pub AreTested : {A : Type 0} → (entries : List ℕ) → Window → List (Vec Hop A) → (start count : ℕ) → Type 0
AreTested entries window hops start count = (to : ℕ) (hop : Hop) → to < count → Contains (hops_to hops to) hop → IsHopTested entries window start to hop

-- so are three tables of a size
abbrev pub AreTestedTables : {A : Type 0} → (entries : List ℕ) → Window → List (Vec Hop A) → (size : ℕ) → Type 0
AreTestedTables entries window hops size = (table : ℕ) → table < 3 → AreTested entries window hops (table * size) (length hops)

-- ---- where a bound aims

-- the entry of class 0 at the first tile, for a sink of a fabric by the table and the tile of the sink
pub record IsAim (fabric : PlainFabric) (size aim : ℕ) : Type 0 where
  pub table : ℕ
  pub column : ℕ
  pub row : ℕ
  pub few : table < 3
  pub column_in : column < fabric.columns
  pub row_in : row < fabric.rows
  pub aim_is : aim ≡ table * size + column * 64 + row

abbrev pub AreAims : PlainFabric → (size : ℕ) → List ℕ → Type 0
AreAims fabric size aims = (aim : ℕ) → IsAim fabric size (slice_index aims aim)

-- where the entries of a node begin
abbrev pub spot_of : Place → ℕ
spot_of place = place.class * 4096 + (32 - place.column) * 64 + (32 - place.row)

-- over an edge the entries fall by 2 at most, whatever they aim at
abbrev pub AreConsistent : Graph → List Place → Window → (size : ℕ) → (entries : List ℕ) → Type 0
AreConsistent graph places window size entries =
    (table column row from to : ℕ) → table < 3 → column < window.columns → row < window.rows → from < graph.nodes → Contains (graph.ends from) to →
    slice_index entries (spot_of (place_at places from) + (table * size + column * 64 + row)) ≤ 2 + slice_index entries (spot_of (place_at places to) + (table * size + column * 64 + row))

-- what is kept for bounds, without where it lies in memory
pub record PlainBounds : Type 0 where
  pub spots : List ℕ
  pub aims : List ℕ
  pub entries : List ℕ

-- what is left to pay from a node on to where a bound aims
abbrev pub left_from : PlainBounds → (aim node : ℕ) → ℕ
left_from bounds aim node = slice_index bounds.entries (slice_index bounds.spots node + slice_index bounds.aims aim)
