-- An implementation has one first use of some columns, or none.
use Rattle.std.proofs.Common.{◌≡◌, ℕ, Bool, true, false, All, sym, ap, ◌∙◌}
use Rattle.std.proofs.lemmas.Bool.{false≢true}
use Rattle.std.proofs.lemmas.List.Elements.{All-weaker}
use Rattle.fab_implementation.specs.fab_model.specs.Grid.{PlainFabric}
use Rattle.fab_implementation.specs.fab_fabric.specs.declared.wire.Site.{Site}
use Rattle.fab_implementation.specs.Plain.{Edge, PlainImplementation, PlainTree}
use Rattle.fab_partial.specs.Use.{AreUnused, IsUse, IsUsedEdge, all_edges, of_cell, of_edge}
use Rattle.fab_partial.specs.declared.uses.Use.{Use}
use Rattle.fab_partial.specs.declared.uses.Use.TheVariants as uses
use Rattle.fab_partial.proofs.Firsts.{all_of_lists, no_first, one_first}

module _ (fabric : PlainFabric) (implementation : PlainImplementation) (there : ℕ → Bool) where
  abbrev StandsThere : ℕ × Site → Type 0
  StandsThere line = there line.1.x ≡ true

  -- where each cell stands elsewhere, none stands there
  none_there : All (λ (line : ℕ × Site). there line.1.x ≡ false) implementation.cells → All (λ (line : ℕ × Site). StandsThere line → ⊥) implementation.cells
  none_there cells =
      All-weaker (λ (line : ℕ × Site). there line.1.x ≡ false) (λ (line : ℕ × Site). StandsThere line → ⊥) (λ line no yes. false≢true (sym no ∙ yes)) implementation.cells cells

  pub one_use : (a b : Use) → IsUse fabric implementation there a → IsUse fabric implementation there b → a ≡ b
  one_use a b (of_cell {line = line} first) (of_cell {line = other} second) = ap (λ (l : ℕ × Site). uses.Cell l.1) (one_first StandsThere implementation.cells line other first second)
  one_use a b (of_cell {line = line} first) (of_edge cells second) = absurd (no_first StandsThere implementation.cells line (none_there cells) first)
  one_use a b (of_edge cells first) (of_cell {line = line} second) = absurd (no_first StandsThere implementation.cells line (none_there cells) second)
  one_use a b (of_edge {edge = edge} cells first) (of_edge {edge = other} _ second) =
      ap (λ (e : Edge). uses.Edge e.1) (one_first (IsUsedEdge fabric there) (all_edges implementation) edge other first second)

  pub unused_has_no_use : (found : Use) → AreUnused fabric implementation there → IsUse fabric implementation there found → ⊥
  unused_has_no_use found unused (of_cell {line = line} first) = no_first StandsThere implementation.cells line (none_there unused.cells) first
  unused_has_no_use found unused (of_edge {edge = edge} cells first) =
      no_first (IsUsedEdge fabric there) (all_edges implementation) edge
      (all_of_lists (λ (e : Edge). IsUsedEdge fabric there e → ⊥) (λ (tree : PlainTree). tree.edges) implementation.trees unused.edges) first
