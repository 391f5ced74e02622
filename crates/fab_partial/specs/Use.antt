-- What an implementation uses of some columns of a fabric. The columns are those that pass a test.
use Rattle.std.specs.Prelude.{◌≡◌, ◌<◌, ℕ, Bool, true, false, List, ◌∷◌, ◌++◌, All}
use Rattle.std.specs.List.{flat_map}
use Rattle.fab_implementation.specs.fab_model.specs.Tiles.{output_field}
use Rattle.fab_implementation.specs.fab_model.specs.Grid.{PlainFabric}
use Rattle.fab_implementation.specs.fab_fabric.specs.declared.wire.Site.{Site}
use Rattle.fab_implementation.specs.Plain.{Edge, PlainImplementation, PlainTree}
use Rattle.fab_legal.specs.Steps.{IsPaired}
use Rattle.fab_partial.specs.declared.uses.Use.{Use}
use Rattle.fab_partial.specs.declared.uses.Use.TheVariants as uses

-- The edge is a pair of a switch matrix in one of the columns, and some configuration bits choose the input of its output. An output with one
-- input takes none, so an edge that enters such an output asks nothing of the configuration.
pub record IsUsedEdge (fabric : PlainFabric) (there : ℕ → Bool) (edge : Edge) : Type 0 where
  pub paired : IsPaired fabric edge.0 edge.1
  pub within : there paired.x ≡ true
  pub some : 0 < (output_field paired.tile paired.pair.output).1

-- No cell stands in the columns, and no such edge is there: the implementation reads none of their configuration bits.
pub record AreUnused (fabric : PlainFabric) (implementation : PlainImplementation) (there : ℕ → Bool) : Type 0 where
  pub cells : All (λ line. there line.1.x ≡ false) implementation.cells
  pub edges : All (λ tree. All (λ edge. IsUsedEdge fabric there edge → ⊥) tree.edges) implementation.trees

-- the first item of a list that has a property
pub record IsFirst {X : Type 0} (Holds : X → Type 0) (xs : List X) (x : X) : Type 0 where
  pub before : List X
  pub after : List X
  pub xs_are : xs ≡ before ++ x ∷ after
  pub holds : Holds x
  pub none_before : All (λ other. Holds other → ⊥) before

-- the edges of all nets, in the order of the text
abbrev pub all_edges : PlainImplementation → List Edge
all_edges implementation = flat_map (λ (tree : PlainTree). tree.edges) implementation.trees

-- What stands in the way of an exchange of the columns: the site of the first cell in them. If there is no cell, it is the wire that the first
-- used edge enters.
pub data IsUse (fabric : PlainFabric) (implementation : PlainImplementation) (there : ℕ → Bool) : Use → Type 0 where
  of_cell : {line : ℕ × Site} → IsFirst (λ (line : ℕ × Site). there line.1.x ≡ true) implementation.cells line → IsUse fabric implementation there (uses.Cell line.1)
  of_edge : {edge : Edge} → All (λ line. there line.1.x ≡ false) implementation.cells → IsFirst (IsUsedEdge fabric there) (all_edges implementation) edge
      → IsUse fabric implementation there (uses.Edge edge.1)
