-- One edge more of the last net.
use Rattle.std.proofs.Common.{◌≡◌, List, [], ◌∷◌, ◌++◌, Option, Some, Result, Ok, refl, sym, ap, ◌∙◌}
use Rattle.fab_base.specs.declared.problem.Problem.{Problem}
use Rattle.fab_base.specs.declared.problem.Problem.TheVariants as problems
use Rattle.fab_base.specs.Reading.{Refuses}
use Rattle.fab_fabric.specs.declared.wire.Wire.{Wire}
use Rattle.fab_implementation.specs.Plain.{PlainTree}
use Rattle.fab_impl.specs.Lines.{Cell, Known, with_edge, edge_at, with_wires, set_cells, set_trees}
use Rattle.fab_lines.specs.Items.{with_last}

with_last-push : {X : Type 0} (change : X → X) (front : List X) (x : X) → with_last change (front ++ x ∷ []) ≡ front ++ change x ∷ []
with_last-push change [] x = refl
with_last-push change (first ∷ []) x = refl
with_last-push change (first ∷ next ∷ more) x = ap (λ rest. first ∷ rest) (with_last-push change (next ∷ more) x)

some_net : (front : List PlainTree) (tree : PlainTree) (from to : Option Wire) → with_wires (front ++ tree ∷ []) from to ≡ edge_at (front ++ tree ∷ []) from to
some_net [] tree from to = refl
some_net (first ∷ front) tree from to = refl

pub edge_taken : (old front new : List PlainTree) (tree longer : PlainTree) (sought_from sought_to : Option Wire) (from to : Wire) → old ≡ front ++ tree ∷ [] → sought_from ≡ Some from → sought_to ≡ Some to
    → longer ≡ with_edge (from, to) tree → new ≡ front ++ longer ∷ [] → with_wires old sought_from sought_to ≡ Ok new
edge_taken old front new tree longer sought_from sought_to from to popped is_from is_to is_longer pushed =
    ap (λ (trees : List PlainTree). with_wires trees sought_from sought_to) popped
    ∙ some_net front tree sought_from sought_to
    ∙ ap (λ (f : Option Wire). edge_at (front ++ tree ∷ []) f sought_to) is_from
    ∙ ap (λ (t : Option Wire). edge_at (front ++ tree ∷ []) (Some from) t) is_to
    ∙ ap (λ (trees : List PlainTree). let r : Result (List PlainTree) Problem = Ok trees in r)
    (with_last-push (with_edge (from, to)) front tree ∙ ap (λ (t : PlainTree). front ++ t ∷ []) (sym is_longer) ∙ sym pushed)

pub cells_refused : (old : Known) (problem : Problem) (given : Result (List Cell) Problem) → Refuses problem given → Refuses problem (set_cells old given)
cells_refused old problems.Memory given so = tt
cells_refused old problem given so = ap (set_cells old) so

pub trees_refused : (old : Known) (problem : Problem) (given : Result (List PlainTree) Problem) → Refuses problem given → Refuses problem (set_trees old given)
trees_refused old problems.Memory given so = tt
trees_refused old problem given so = ap (set_trees old) so
