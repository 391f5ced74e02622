-- The walks of a tree, which lie one behind the other.
use Rattle.std.proofs.Common.{◌≡◌, ℕ, ◌≤◌, List, [], ◌∷◌, ◌++◌, length, take, drop, sum_by, refl, sym, ◌∙◌, ap, arith}
use Rattle.std.proofs.lemmas.List.{take-append-le, drop-append-le, take_all, take-append-drop, length-drop}
use Rattle.std.proofs.lemmas.List.Sums.{sum_by-cons}
use Rattle.fab_pathfinder.specs.Plain.{parts}
use Rattle.fab_pathfinder.specs.Rounds.{nodes_of}

no_nodes : (nodes : List ℕ) → length nodes ≡ 0 → nodes ≡ []
no_nodes [] h = refl
no_nodes (x ∷ nodes) h = absurd (omega arith)

left_over : (nodes : List ℕ) (n : ℕ) (ns : List ℕ) → sum_by (λ (k : ℕ). k) (n ∷ ns) ≡ length nodes → (n ≤ length nodes) × (sum_by (λ (k : ℕ). k) ns ≡ length (drop n nodes))
left_over nodes n ns whole = (omega (arith, whole, sum_by-cons (λ (k : ℕ). k) n ns), omega (arith, whole, sum_by-cons (λ (k : ℕ). k) n ns, length-drop n nodes))

-- one more walk
pub parts-push : (nodes path lengths : List ℕ) → sum_by (λ (k : ℕ). k) lengths ≡ length nodes → parts (nodes ++ path) (lengths ++ length path ∷ []) ≡ parts nodes lengths ++ path ∷ []
parts-push nodes path [] whole =
    let none = no_nodes nodes (sym whole) in
    ap (λ xs. parts (xs ++ path) (length path ∷ [])) none ∙ ap (λ xs. xs ∷ []) (take_all (length path) path (omega arith))
parts-push nodes path (n ∷ ns) whole =
    let rest = left_over nodes n ns whole in
    ap (λ xs. xs ∷ parts (drop n (nodes ++ path)) (ns ++ length path ∷ [])) (take-append-le n nodes path rest.0)
    ∙ ap (λ xs. take n nodes ∷ parts xs (ns ++ length path ∷ [])) (drop-append-le n nodes path rest.0)
    ∙ ap (λ xs. take n nodes ∷ xs) (parts-push (drop n nodes) path ns rest.1)

-- the nodes of the walks are those of the tree
pub nodes_of-parts : (nodes lengths : List ℕ) → sum_by (λ (k : ℕ). k) lengths ≡ length nodes → nodes_of (parts nodes lengths) ≡ nodes
nodes_of-parts nodes [] whole = sym (no_nodes nodes (sym whole))
nodes_of-parts nodes (n ∷ ns) whole =
    let rest = left_over nodes n ns whole in
    ap (λ xs. take n nodes ++ xs) (nodes_of-parts (drop n nodes) ns rest.1) ∙ take-append-drop n nodes
