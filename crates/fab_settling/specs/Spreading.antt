-- What is kept of the nodes of expressions while what comes to be known spreads.
use Rattle.std.specs.Prelude.{◌≡◌, ℕ, ◌+◌, ◌≤◌, List, Some, slice_get, All, IfSome}
use Rattle.fab_compiled.specs.declared.tree.Tree.{Tree}
use Rattle.fab_compiled.specs.Evaluation.{IsWithin}
use Rattle.fab_compiled.specs.Leading.{PointTerns}
use Rattle.fab_compiled.specs.Trees.{IsMade}
use Rattle.fab_nodes.specs.Nodes.{AreKept}
use Rattle.fab_settling.specs.declared.run_values.RunValues.{RunValues}
use Rattle.fab_settling.specs.declared.spreading.Spread.{Spread}
use Rattle.fab_settling.specs.declared.within.Within.{Within}

-- What is kept within an expression is right of it.
pub record IsKeptWithin (trees : List Tree) (count : ℕ) (t : PointTerns) (within : Within) : Type 0 where
  pub tree : Tree
  pub is : slice_get trees within.tree ≡ Some tree
  pub made : IsMade tree
  pub begins : within.first ≤ count
  pub inside : IsWithin tree within.first count
  pub kept : AreKept (λ place. t (within.first + place)) tree within.values

-- What is kept of the expressions of a run is right of them.
pub record IsKeptOfRun (trees : List Tree) (count : ℕ) (t : PointTerns) (values : RunValues) : Type 0 where
  pub gate : IfSome values.gate (IsKeptWithin trees count t)
  pub bits : IfSome values.bits (IsKeptWithin trees count t)

-- the same of all runs
abbrev pub IsSpread : List Tree → (count : ℕ) → PointTerns → Spread → Type 0
IsSpread trees count t spread = All (IsKeptOfRun trees count t) spread.values.items
