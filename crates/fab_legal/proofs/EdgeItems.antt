-- The first wrong edge of the first tree that has one.
use Rattle.std.proofs.Common.{◌≡◌, ℕ, ◌+◌, List, get_or, Option, Some, None, MatchOption, refl, sym, subst}
use Rattle.fab_implementation.specs.fab_model.specs.Grid.{PlainFabric}
use Rattle.fab_implementation.specs.fab_netlist.specs.Plain.{IsAt}
use Rattle.fab_implementation.specs.Plain.{Edge, PlainTree}
use Rattle.fab_legal.specs.Turns.{FirstAreRight, AreRight, IsFirstWrongAt}
use Rattle.fab_legal.specs.Broken.{IsEdgeItem, IsWireText}
use Rattle.fab_legal.proofs.Lists.{right_more, first_wrong, wrong_not_right}

module _ (fabric : PlainFabric) (IsRightEdge : PlainTree → List Edge → Edge → Type 0) (trees : List PlainTree) (n : ℕ) (tree : PlainTree) (at : IsAt trees n tree) where
  abbrev IsRightTree : List PlainTree → PlainTree → Type 0
  IsRightTree before other = AreRight (IsRightEdge other) other.edges

  abbrev Finds : Option ℕ → Type 0
  Finds o = MatchOption o (AreRight (IsRightEdge tree) tree.edges) (IsFirstWrongAt (IsRightEdge tree) tree.edges)

  pub tree_more : (o : Option ℕ) → Finds o → ((place : ℕ) → o ≡ Some place → ⊥) → FirstAreRight IsRightTree trees n → FirstAreRight IsRightTree trees (n + 1)
  tree_more None found never before = right_more IsRightTree trees n tree before at found
  tree_more (Some place) found never before = absurd (never place refl)

  pub edge_item : (o : Option ℕ) (place : ℕ) (edge : Edge) (text : List ℕ) → Finds o → o ≡ Some place → FirstAreRight IsRightTree trees n → edge ≡ get_or tree.edges place edge → IsWireText fabric edge.1 text →
      IsEdgeItem fabric IsRightTree IsRightEdge trees text
  edge_item o place edge text found is before read named =
      let wrong : IsFirstWrongAt (IsRightEdge tree) tree.edges place = subst (λ (x : Option ℕ). Finds x) is found in
      let edge_at : IsAt tree.edges place edge = (wrong.inside, sym read) in
      let first = first_wrong (IsRightEdge tree) tree.edges place edge wrong edge_at in
      record {
        tree = tree;
        edge = edge;
        first_edge = first;
        text = named;
        first_tree = record { place = n; is_at = at; wrong = λ right. wrong_not_right (IsRightEdge tree) tree.edges edge first right; before = before };
      }
