-- What a search looks at: the graph, what the net has, what nodes cost, and what is left to pay from them at least.
use Rattle.std.specs.Prelude.{ℕ, ◌+◌, ◌^◌, ◌<◌, ◌≤◌, List, slice_index, Option, Some, None, if◌then◌else◌}
use Rattle.std.specs.List.{All, Contains}
use Rattle.fab_astar.specs.Walks.{Graph, has}

pub record Scene : Type 0 where
  pub graph : Graph
  -- the nodes of the net's tree
  pub tree : List ℕ
  pub price : ℕ → ℕ
  -- no more than what is left to pay from a node on, and 1
  pub rest : ℕ → ℕ

-- what a walk pays to begin at a node
abbrev pub toll : Scene → (node : ℕ) → ℕ
toll scene node = if has scene.tree node then 0 else scene.price node

-- edges stay inside the graph, which is not too large
pub record IsGraph (graph : Graph) : Type 0 where
  pub inside : (v : ℕ) → v < graph.nodes → All (λ w. w < graph.nodes) (graph.ends v)
  pub few : graph.nodes ≤ 2 ^ 20

-- A bound on what is left falls by 2 at most along an edge, whatever it aims at.
pub record IsBound (graph : Graph) (rest : ℕ → ℕ → ℕ) : Type 0 where
  pub falls : (aim v w : ℕ) → v < graph.nodes → Contains (graph.ends v) w → rest aim v ≤ 2 + rest aim w
  pub low : (aim w : ℕ) → w < graph.nodes → rest aim w < 2 ^ 32

-- each node costs something, and none too much
pub record ArePrices (nodes : ℕ) (price : ℕ → ℕ) : Type 0 where
  pub some : (node : ℕ) → node < nodes → 1 ≤ price node
  pub cheap : (node : ℕ) → node < nodes → price node < 2 ^ 42

-- the bound where one is to be used
abbrev pub left : (rest : ℕ → ℕ → ℕ) → (guide : Option ℕ) → (node : ℕ) → ℕ
left rest None node = 0
left rest (Some aim) node = rest aim node

abbrev pub scene_of : Graph → (rest : ℕ → ℕ → ℕ) → (guide : Option ℕ) → (tree prices : List ℕ) → Scene
scene_of graph rest guide tree prices = record { graph = graph; tree = tree; price = slice_index prices; rest = left rest guide }

-- what makes a search right
pub record IsScene (scene : Scene) : Type 0 where
  pub graph : IsGraph scene.graph
  pub prices : ArePrices scene.graph.nodes scene.price
  pub consistent : (v w : ℕ) → v < scene.graph.nodes → Contains (scene.graph.ends v) w → scene.rest v ≤ 2 + scene.rest w
  pub low : (w : ℕ) → w < scene.graph.nodes → scene.rest w < 2 ^ 32
