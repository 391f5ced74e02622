-- The expressions that are compiled so far.
use Rattle.std.specs.Prelude.{◌≡◌, ℕ, List, length, slice_get, Some}
use Rattle.fab_syntax.specs.Plain.{PlainExpr, PlainModule}
use Rattle.fab_meaning.specs.Points.{Path}
use Rattle.fab_values.specs.Declarations.{declarations}
use Rattle.fab_equations.specs.Instances.{Instance, expressions, points}
use Rattle.fab_equations.specs.Numbering.{IsInstanceOfNumber}
use Rattle.fab_equations.specs.Tables.{IsExpression}
use Rattle.fab_equations.specs.Equations.{IsSource}
use Rattle.fab_equations.specs.declared.driver.Source.{Source as MeantSource}
use Rattle.fab_compiled.specs.declared.tree.Tree.{Tree}
use Rattle.fab_compiled.specs.Compiling.{IsCompiled}
use Rattle.fab_network.specs.declared.network.Source.{Source}
use Rattle.fab_network.specs.Network.{IsFitSource}
use Rattle.fab_wiring.specs.declared.trees.Known.{Known}
use Rattle.fab_wiring.specs.declared.trees.Trees.{Trees}
use Rattle.fab_wiring.specs.Wiring.{IsSourceOf}

-- the tree of this number is the expression over the names of an instance
pub record IsTreeFor (text : List PlainModule) (trees : List Tree) (i : Instance) (expr number : ℕ) : Type 0 where
  pub tree : Tree
  pub is : slice_get trees number ≡ Some tree
  pub compiled : (e : PlainExpr) → IsExpression text expr e → (wide : ℕ) × IsCompiled (declarations i.here) e tree wide

-- what is known of an expression serves all instances of the module
abbrev pub IsKnown : List PlainModule → List Tree → (expr : ℕ) → Known → Type 0
IsKnown text trees expr known = (number : ℕ) (i : Instance) → IsInstanceOfNumber text number i → i.number ≡ known.«module» → IsTreeFor text trees i expr known.tree

pub record AreTrees (text : List PlainModule) (made : Trees) : Type 0 where
  pub long : length made.known.items ≡ length (expressions text)
  pub known : (expr : ℕ) (k : Known) → slice_get made.known.items expr ≡ Some (Some k) → IsKnown text made.trees.items expr k

-- trees keep their numbers
abbrev pub AreKept : (old new : List Tree) → Type 0
AreKept old new = (number : ℕ) (tree : Tree) → slice_get old number ≡ Some tree → slice_get new number ≡ Some tree

-- a source by places for one by names
pub record IsMade (text : List PlainModule) (trees : List Tree) (from : MeantSource) (source : Source) : Type 0 where
  pub value : (path : Path) (e : PlainExpr) → IsSource text from path e → IsSourceOf text trees path e from.bit source
  pub fit : IsFitSource trees (length (points text)) source

abbrev pub HasSource : List PlainModule → MeantSource → Type 0
HasSource text source = (path : Path) × (e : PlainExpr) × IsSource text source path e
