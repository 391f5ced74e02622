-- What is asked of an expression that is looked at.
use Rattle.std.specs.Prelude.{ℕ, ◌^◌, ◌≤◌, List, length, take, drop}
use Rattle.fab_systems_laws.specs.Ternary.{Tern as PlainTern}
use Rattle.fab_ternary.specs.declared.Tern.{Tern}
use Rattle.fab_compiled.specs.declared.tree.Tree.{Tree}
use Rattle.fab_compiled.specs.Terns.{IsView}
use Rattle.fab_compiled.specs.Trees.{IsMade}
use Rattle.fab_compiled.specs.Evaluation.{IsWithin}
use Rattle.fab_nodes.specs.declared.layout.Layout.{Layout}
use Rattle.fab_nodes.specs.Nodes.{room, AreNodes, IsLaidOut}

-- An expression over the points of an instance, of which the first is given, and the layout of its nodes.
pub record IsRead (terns : List Tern) (leads : List ℕ) (first : ℕ) (tree : Tree) (layout : Layout) : Type 0 where
  pub made : IsMade tree
  pub view : IsView terns leads
  pub few : length leads ≤ 2 ^ 32
  pub begins : first ≤ length leads
  pub inside : IsWithin tree first (length leads)
  pub laid : IsLaidOut tree layout

-- What is kept of two expressions stands one behind the other.
abbrev pub AreBoth : (at : ℕ → PlainTern) → (left right : Tree) → List PlainTern → Type 0
AreBoth at left right ts = AreNodes at left (take (room left) ts) × AreNodes at right (drop (room left) ts)
