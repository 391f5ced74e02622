-- What a mapping of a packed design onto a fabric is.
use Rattle.std.specs.Prelude.{◌≡◌, ℕ, ◌<◌, ◌≤◌, List, length}
use Rattle.fab_legal.specs.fab_model.specs.Grid.{PlainFabric}
use Rattle.fab_legal.specs.fab_netlist.specs.Packed.{PlainPacked}
use Rattle.fab_legal.specs.fab_implementation.specs.Plain.{Pad, PlainTree, PlainImplementation}
use Rattle.fab_ways_laws.specs.Placing.{IsGoodPlacement}
use Rattle.fab_ways_laws.specs.Routing.{Paths, Run, LeavesShared}
use Rattle.fab_ways_laws.specs.Trees.{trees_of, with_trees}

-- the last trees of a run of at least one round and at most the allowed number, which leaves no wire in two trees
pub record AreRouted (fabric : PlainFabric) (packed : PlainPacked) (placement : PlainImplementation) (allowed : ℕ) (trees : List PlainTree) : Type 0 where
  pub rounds : List (List Paths)
  pub last : List Paths
  pub run : Run fabric packed placement rounds last
  pub some_rounds : 0 < length rounds
  pub few_rounds : length rounds ≤ allowed
  pub unshared : LeavesShared last → ⊥
  pub trees_are : trees ≡ trees_of packed placement last

-- a good placement with trees that are routed on it
pub record IsMapping (fabric : PlainFabric) (packed : PlainPacked) (fixed : List Pad) (allowed : ℕ) (implementation : PlainImplementation) : Type 0 where
  pub placement : PlainImplementation
  pub good : IsGoodPlacement fabric packed fixed placement
  pub trees : List PlainTree
  pub routed : AreRouted fabric packed placement allowed trees
  pub is : implementation ≡ with_trees placement trees
