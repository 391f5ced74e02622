-- What the loops over cells and over nets find is what an implementation uses.
use Rattle.std.proofs.Common.{◌≡◌, ℕ, ◌+◌, ◌<◌, Bool, false, List, All, MatchOption, Option, Some, None, take, length, get_or, refl, subst}
use Rattle.fab_implementation.specs.fab_fabric.specs.declared.wire.Site.{Site}
use Rattle.fab_implementation.specs.fab_fabric.specs.declared.wire.Wire.{Wire}
use Rattle.fab_implementation.specs.fab_model.specs.Grid.{PlainFabric}
use Rattle.fab_implementation.specs.Plain.{Edge, PlainImplementation, PlainTree}
use Rattle.fab_partial.specs.Use.{IsUse, IsUsedEdge, of_cell, of_edge}
use Rattle.fab_partial.specs.declared.uses.Use.TheVariants as uses
use Rattle.fab_partial.specs.inner.Firsts.{EntersFirst, IsFirstCell}
use Rattle.fab_partial.proofs.Firsts.{all_more, first_of_lists}

module _ (fabric : PlainFabric) (implementation : PlainImplementation) (there : ℕ → Bool) where
  -- no cell stands in the columns
  abbrev CellsAreFree : Type 0
  CellsAreFree = All (λ (line : ℕ × Site). there line.1.x ≡ false) implementation.cells

  -- no edge is a used one
  abbrev IsFree : List Edge → Type 0
  IsFree edges = All (λ edge. IsUsedEdge fabric there edge → ⊥) edges

  -- ---- cells

  abbrev FindsCell : Option Site → Type 0
  FindsCell found = MatchOption found CellsAreFree (IsFirstCell implementation.cells there)

  pub cell_is_use : (found : Option Site) (site : Site) → FindsCell found → found ≡ Some site → IsUse fabric implementation there (uses.Cell site)
  cell_is_use found site finds is =
      let first : IsFirstCell implementation.cells there site = subst (λ (o : Option Site). FindsCell o) is finds in
      subst (λ (s : Site). IsUse fabric implementation there (uses.Cell s)) first.site_is (of_cell first.first)

  pub cells_free : (found : Option Site) → FindsCell found → ((site : Site) → found ≡ Some site → ⊥) → CellsAreFree
  cells_free None finds never = finds
  cells_free (Some site) finds never = absurd (never site refl)

  -- ---- edges

  module _ (n : ℕ) (tree : PlainTree) (inside : n < length implementation.trees) (tree_is : tree ≡ get_or implementation.trees n tree) where
    abbrev FindsWire : Option Wire → Type 0
    FindsWire found = MatchOption found (IsFree tree.edges) (EntersFirst (IsUsedEdge fabric there) tree.edges)

    abbrev Before : Type 0
    Before = All (λ (tree : PlainTree). IsFree tree.edges) (take n implementation.trees)

    pub wire_is_use : (found : Option Wire) (wire : Wire) → FindsWire found → found ≡ Some wire → CellsAreFree → Before → IsUse fabric implementation there (uses.Edge wire)
    wire_is_use found wire finds is cells before =
        let first : EntersFirst (IsUsedEdge fabric there) tree.edges wire = subst (λ (o : Option Wire). FindsWire o) is finds in
        let here = subst (λ (t : PlainTree). EntersFirst (IsUsedEdge fabric there) t.edges wire) tree_is first in
        let whole = first_of_lists (IsUsedEdge fabric there) (λ (tree : PlainTree). tree.edges) implementation.trees n tree here.edge inside before here.first in
        subst (λ (w : Wire). IsUse fabric implementation there (uses.Edge w)) here.wire_is (of_edge cells whole)

    pub trees_free : (found : Option Wire) → FindsWire found → ((wire : Wire) → found ≡ Some wire → ⊥) → Before → All (λ (tree : PlainTree). IsFree tree.edges) (take (n + 1) implementation.trees)
    trees_free None finds never before =
        all_more (λ (tree : PlainTree). IsFree tree.edges) implementation.trees n tree inside before (subst (λ (t : PlainTree). IsFree t.edges) tree_is finds)
    trees_free (Some wire) finds never before = absurd (never wire refl)
