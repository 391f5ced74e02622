-- A tree that grows by one more walk.
use Rattle.std.proofs.Common.{◌≡◌, ℕ, zero, suc, ◌<◌, List, [], ◌∷◌, ◌++◌, length, get_or, refl, sym, subst, inl, inr, arith, append_assoc}
use Rattle.std.proofs.lemmas.Bool.{cases_Bool}
use Rattle.std.proofs.lemmas.List.{append-nil}
use Rattle.std.proofs.lemmas.List.Elements.{All-contains, All-cons, All-nil, All-append, Contains-append_left, Contains-append_right, Contains-append_cases}
use Rattle.std.specs.List.{All}
use Rattle.fab_astar.specs.Walks.{Graph, Walk, has, paid, IsLeastTo, HasNoWalk}
use Rattle.fab_astar.specs.Walks.Walk.{begins, goes}
use Rattle.fab_astar.specs.Scene.{IsGraph}
use Rattle.fab_astar.proofs.Members.{has_contains}
use Rattle.fab_astar.proofs.Paying.{paid_goes}
use Rattle.fab_pathfinder.specs.Rounds.{Paths, nodes_of, AreGrown, HasWalk}

-- one more sink
pub AreGrown-push : (graph : Graph) (roots : List ℕ) (price : ℕ → ℕ) (tree : List ℕ) (goals : List (List ℕ)) (paths : Paths) (sink path : List ℕ) → AreGrown graph roots price tree goals paths
    → IsLeastTo graph (tree ++ nodes_of paths) ((tree ++ nodes_of paths) ++ roots) price sink path → AreGrown graph roots price tree (goals ++ sink ∷ []) (paths ++ path ∷ [])
AreGrown-push graph roots price tree [] [] sink path grown least = (rw append-nil at least, tt)
AreGrown-push graph roots price tree [] (p ∷ paths) sink path grown least = absurd grown
AreGrown-push graph roots price tree (g ∷ goals) [] sink path grown least = absurd grown
AreGrown-push graph roots price tree (g ∷ goals) (p ∷ paths) sink path grown least =
    (grown.0, AreGrown-push graph roots price (tree ++ p) goals paths sink path grown.1 (subst (λ t. IsLeastTo graph t (t ++ roots) price sink path) (sym (append_assoc tree p (nodes_of paths))) least))

-- ---- prices of nodes that the graph does not have

-- a walk pays the same at prices that agree within the graph
pub paid_inside : {graph : Graph} {tree starts : List ℕ} {node : ℕ} {path : List ℕ} (p q : ℕ → ℕ) → IsGraph graph → All (λ w. w < graph.nodes) starts → ((w : ℕ) → w < graph.nodes → p w ≡ q w) → Walk graph tree starts node path
    → (node < graph.nodes) × (paid tree p path ≡ paid tree q path)
paid_inside {graph = graph} {tree = tree} {starts = starts} {node = node} p q good within same (begins among) =
    let inside = All-contains (λ w. w < graph.nodes) starts node within among in
    (inside, elim (cases_Bool (has tree node)) [ inl h ↦ rw h refl | inr h ↦ rw h (same node inside) ])
paid_inside {graph = graph} {tree = tree} {node = next} p q good within same (goes {node = v} {path = path} earlier edge free) =
    let before = paid_inside p q good within same earlier in
    let inside = All-contains (λ w. w < graph.nodes) (graph.ends v) next (good.inside v before.0) edge in
    (inside, omega (arith, paid_goes next p earlier, paid_goes next q earlier, before.1, same next inside))

pub least_inside : (graph : Graph) (tree starts : List ℕ) (p q : ℕ → ℕ) (goals path : List ℕ) → IsGraph graph → All (λ w. w < graph.nodes) starts → ((w : ℕ) → w < graph.nodes → p w ≡ q w) → IsLeastTo graph tree starts p goals path → IsLeastTo graph tree starts q goals path
least_inside graph tree starts p q goals path good within same least = record {
  goal = least.goal;
  among = least.among;
  walk = least.walk;
  least = λ other longer among walk. omega (arith, least.least other longer among walk, (paid_inside p q good within same walk).1, (paid_inside p q good within same least.walk).1);
}

-- ---- walks from the roots alone

-- the rest of a walk behind the last node that the tree has
pub without_tree : {graph : Graph} {roots : List ℕ} {node : ℕ} {path : List ℕ} (tree : List ℕ) → Walk graph [] roots node path → (shorter : List ℕ) × Walk graph tree (tree ++ roots) node shorter
without_tree {roots = roots} {node = node} tree (begins among) = (node ∷ [], begins (Contains-append_right tree roots node among))
without_tree {roots = roots} {node = next} tree (goes earlier edge free) = elim (cases_Bool (has tree next)) [
  | inl h ↦ (next ∷ [], begins (Contains-append_left tree roots next (has_contains tree next h)))
  | inr h ↦ let e = without_tree tree earlier in (next ∷ e.0, goes e.1 edge h)
]

-- a sink that no walk from a tree comes to is cut off from the roots
pub cut_off : (graph : Graph) (roots tree goals : List ℕ) → HasNoWalk graph tree (tree ++ roots) goals → HasNoWalk graph [] roots goals
cut_off graph roots tree goals none goal path among walk = let w = without_tree tree walk in none goal w.0 among w.1

-- a walk from the roots comes to a node
abbrev IsComeTo : Graph → (roots : List ℕ) → (node : ℕ) → Type 0
IsComeTo graph roots node = (path : List ℕ) × Walk graph [] roots node path

-- what a walk from a tree comes to, if walks from the roots come to the tree
beyond_tree : {graph : Graph} {tree : List ℕ} (roots : List ℕ) {node : ℕ} {path : List ℕ} → All (IsComeTo graph roots) tree → Walk graph tree (tree ++ roots) node path → IsComeTo graph roots node × All (IsComeTo graph roots) path
beyond_tree {graph = graph} {tree = tree} roots {node = node} rooted (begins among) =
    let here : IsComeTo graph roots node = elim (Contains-append_cases tree roots node among) [
      | inl t ↦ All-contains (IsComeTo graph roots) tree node rooted t
      | inr r ↦ (node ∷ [], begins r)
    ] in
    (here, All-cons (IsComeTo graph roots) node [] here (All-nil (IsComeTo graph roots)))
beyond_tree {graph = graph} roots {node = next} rooted (goes {node = v} {path = path} earlier edge free) =
    let before = beyond_tree roots rooted earlier in
    let here : IsComeTo graph roots next = (next ∷ before.0.0, goes before.0.1 edge refl) in
    (here, All-cons (IsComeTo graph roots) next path here before.1)

more_have_walks : (graph : Graph) (roots : List ℕ) (price : ℕ → ℕ) (tree : List ℕ) (goals : List (List ℕ)) (paths : Paths) → All (IsComeTo graph roots) tree → AreGrown graph roots price tree goals paths
    → (s : ℕ) → s < length goals → HasWalk graph roots (get_or goals s [])
more_have_walks graph roots price tree [] paths rooted grown s l = absurd (omega arith)
more_have_walks graph roots price tree (g ∷ goals) [] rooted grown s l = absurd grown
more_have_walks graph roots price tree (g ∷ goals) (path ∷ paths) rooted grown zero l =
    let here = beyond_tree roots rooted grown.0.walk in
    record { goal = grown.0.goal; path = here.0.0; among = grown.0.among; walk = here.0.1 }
more_have_walks graph roots price tree (g ∷ goals) (path ∷ paths) rooted grown (suc s) l =
    let here = beyond_tree roots rooted grown.0.walk in
    more_have_walks graph roots price (tree ++ path) goals paths (All-append (IsComeTo graph roots) tree path rooted here.1) grown.1 s (omega arith)

-- walks from the roots come to the sinks of a tree
pub have_walks : (graph : Graph) (roots : List ℕ) (price : ℕ → ℕ) (goals : List (List ℕ)) (paths : Paths) → AreGrown graph roots price [] goals paths → (s : ℕ) → s < length goals → HasWalk graph roots (get_or goals s [])
have_walks graph roots price goals paths grown s l = more_have_walks graph roots price [] goals paths (All-nil (IsComeTo graph roots)) grown s l
