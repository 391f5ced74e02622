-- The trees of wires, net by net.
use Rattle.std.proofs.Common.{◌≡◌, ℕ, zero, suc, ◌+◌, ◌-◌, ◌<◌, ◌≤◌, List, [], ◌∷◌, ◌++◌, map, take, drop, length, get_or, min, sum_by, refl, sym, ap, ap₂, ◌∙◌, arith}
use Rattle.std.proofs.lemmas.List.{append-nil, append_assoc, get_or_default, drop-drop}
use Rattle.std.proofs.lemmas.List.Sums.{sum_by-cons, sum_by_more, sum_by_more_le}
use Rattle.fab_netlist.specs.declared.net_id.NetId.{NetId}
use Rattle.fab_netlist.specs.Plain.{IsAt}
use Rattle.fab_implementation.specs.Plain.{Edge, PlainTree}
use Rattle.fab_legal.proofs.Members.{taken_more}
use Rattle.fab_pathfinder.specs.Plain.{parts}
use Rattle.fab_pathfinder.specs.Rounds.{Paths}
use Rattle.fab_ways_laws.specs.Trees.{edges_along, edges_of, tree_with, trees_for}
use Rattle.fab_nodes_laws.specs.Nodes.{Numbering}
use Rattle.fab_nodes_laws.specs.Nets.{wires_along, wire_paths, wire_trees}

-- ---- the walks of a tree

pub parts_long : (nodes lengths : List ℕ) → length (parts nodes lengths) ≡ length lengths
parts_long nodes [] = refl
parts_long nodes (n ∷ ns) = ap suc (parts_long (drop n nodes) ns)

abbrev pub sum_of : List ℕ → ℕ
sum_of lengths = sum_by (λ (k : ℕ). k) lengths

part_at : (nodes lengths : List ℕ) (i from : ℕ) → i < length lengths → from ≡ sum_of (take i lengths) → get_or (parts nodes lengths) i [] ≡ take (get_or lengths i 0) (drop from nodes)
part_at nodes [] i from low so_far = absurd (omega (arith, low))
part_at nodes (n ∷ ns) zero from low so_far = ap (λ k. take n (drop k nodes)) (sym so_far)
part_at nodes (n ∷ ns) (suc i) from low so_far =
    let rest = sum_of (take i ns) in
    let sum : from ≡ n + rest = so_far ∙ sum_by-cons (λ (k : ℕ). k) n (take i ns) in
    part_at (drop n nodes) ns i rest (omega (arith, low)) refl ∙ ap (take (get_or ns i 0)) (drop-drop rest n nodes ∙ ap (λ k. drop k nodes) (sym sum))

paths_push : (numbering : Numbering) (ss : List ℕ) (ps : Paths) (s : ℕ) (p : List ℕ) → length ss ≡ length ps → wire_paths numbering (ss ++ s ∷ []) (ps ++ p ∷ []) ≡ wire_paths numbering ss ps ++ (s ∷ wires_along numbering p) ∷ []
paths_push numbering [] [] s p same = refl
paths_push numbering [] (q ∷ qs) s p same = absurd (omega (arith, same))
paths_push numbering (t ∷ ts) [] s p same = absurd (omega (arith, same))
paths_push numbering (t ∷ ts) (q ∷ qs) s p same = ap (λ (ws : Paths). (t ∷ wires_along numbering q) ∷ ws) (paths_push numbering ts qs s p (omega (arith, same)))

edges_push : (paths : Paths) (path : List ℕ) → edges_of (paths ++ path ∷ []) ≡ edges_of paths ++ edges_along path
edges_push [] path = append-nil (edges_along path)
edges_push (p ∷ ps) path = ap (λ es. edges_along p ++ es) (edges_push ps path) ∙ sym (append_assoc (edges_along p) (edges_of ps) (edges_along path))

paths_cut : (numbering : Numbering) (n : ℕ) (ss : List ℕ) (ps : Paths) → min (length ss) (length ps) ≤ n → wire_paths numbering (take n ss) (take n ps) ≡ wire_paths numbering ss ps
paths_cut numbering zero [] ps low = refl
paths_cut numbering zero (s ∷ ss) [] low = refl
paths_cut numbering zero (s ∷ ss) (p ∷ ps) low = absurd (omega (arith, low))
paths_cut numbering (suc n) [] ps low = refl
paths_cut numbering (suc n) (s ∷ ss) [] low = refl
paths_cut numbering (suc n) (s ∷ ss) (p ∷ ps) low = ap (λ (ws : Paths). (s ∷ wires_along numbering p) ∷ ws) (paths_cut numbering n ss ps (omega (arith, low)))

take_long : {X : Type 0} (n : ℕ) (xs : List X) → n ≤ length xs → length (take n xs) ≡ n
take_long zero xs low = refl
take_long (suc n) [] low = absurd (omega (arith, low))
take_long (suc n) (x ∷ xs) low = ap suc (take_long n xs (omega (arith, low)))

module _ (numbering : Numbering) (sinks nodes lengths : List ℕ) where
  abbrev paths : Paths
  paths = parts nodes lengths

  -- the edges of the first walks
  abbrev pub HaveEdges : (i : ℕ) → List Edge → Type 0
  HaveEdges i edges = edges ≡ edges_of (wire_paths numbering (take i sinks) (take i paths))

  pub walk_more : (i from to sink : ℕ) (old new : List Edge) → i < length sinks → i < length lengths → sink ≡ get_or sinks i 0 → from ≡ sum_of (take i lengths) → to ≡ from + get_or lengths i 0 → HaveEdges i old →
      new ≡ old ++ edges_along (sink ∷ wires_along numbering (take (to - from) (drop from nodes))) → HaveEdges (i + 1) new
  walk_more i from to sink old new low few sink_is so_far to_is before is =
      let path = take (to - from) (drop from nodes) in
      let at : IsAt sinks i sink = (low, get_or_default sinks i sink 0 low ∙ sym sink_is) in
      let long : i < length paths = omega (arith, few, parts_long nodes lengths) in
      let path_is : get_or paths i [] ≡ path = part_at nodes lengths i from few so_far ∙ ap (λ n. take n (drop from nodes)) (omega (arith, to_is)) in
      let path_at : IsAt paths i path = (long, get_or_default paths i path [] long ∙ path_is) in
      is ∙ ap (λ es. es ++ edges_along (sink ∷ wires_along numbering path)) before
      ∙ sym (ap₂ (λ (ss : List ℕ) (ps : Paths). edges_of (wire_paths numbering ss ps)) (taken_more sinks i sink at) (taken_more paths i path path_at)
      ∙ ap edges_of (paths_push numbering (take i sinks) (take i paths) sink path (take_long i sinks (omega (arith, low)) ∙ sym (take_long i paths (omega (arith, long)))))
      ∙ edges_push (wire_paths numbering (take i sinks) (take i paths)) (sink ∷ wires_along numbering path))

  pub all_walks : (i : ℕ) (edges : List Edge) → min (length sinks) (length lengths) ≤ i → HaveEdges i edges → edges ≡ edges_of (wire_paths numbering sinks paths)
  all_walks i edges past have = have ∙ ap edges_of (paths_cut numbering i sinks paths (omega (arith, past, parts_long nodes lengths)))

-- where the next walk begins
pub sum_more : (lengths : List ℕ) (i from to : ℕ) → i < length lengths → from ≡ sum_of (take i lengths) → to ≡ from + get_or lengths i 0 → to ≡ sum_of (take (i + 1) lengths)
sum_more lengths i from to low so_far to_is = omega (arith, sum_by_more (λ (k : ℕ). k) lengths i 0 low, so_far, to_is)

pub sum_low : (lengths nodes : List ℕ) (i from : ℕ) → i < length lengths → from ≡ sum_of (take i lengths) → sum_of lengths ≡ length nodes → from + get_or lengths i 0 ≤ length nodes
sum_low lengths nodes i from low so_far whole = omega (arith, sum_by_more_le (λ (k : ℕ). k) lengths i 0 low, so_far, whole)

-- ---- the trees of a round

trees_long : (numbering : Numbering) (sinks : List (List ℕ)) (trees : List Paths) → length (wire_trees numbering sinks trees) ≡ min (length sinks) (length trees)
trees_long numbering [] trees = omega arith
trees_long numbering (s ∷ ss) [] = omega arith
trees_long numbering (s ∷ ss) (t ∷ ts) = omega (arith, trees_long numbering ss ts)

tree_there : (numbering : Numbering) (sinks : List (List ℕ)) (trees : List Paths) (k : ℕ) → k < length sinks → k < length trees → get_or (wire_trees numbering sinks trees) k [] ≡ wire_paths numbering (get_or sinks k []) (get_or trees k [])
tree_there numbering [] trees k low few = absurd (omega (arith, low))
tree_there numbering (s ∷ ss) [] k low few = absurd (omega (arith, few))
tree_there numbering (s ∷ ss) (t ∷ ts) zero low few = refl
tree_there numbering (s ∷ ss) (t ∷ ts) (suc k) low few = tree_there numbering ss ts k (omega (arith, low)) (omega (arith, few))

named_push : (ns : List NetId) (gs : List Paths) (n : NetId) (g : Paths) → length ns ≡ length gs → trees_for (λ name. name) (ns ++ n ∷ []) (gs ++ g ∷ []) ≡ trees_for (λ name. name) ns gs ++ tree_with n (edges_of g)
named_push [] [] n g same = append-nil (tree_with n (edges_of g))
named_push [] (h ∷ hs) n g same = absurd (omega (arith, same))
named_push (m ∷ ms) [] n g same = absurd (omega (arith, same))
named_push (m ∷ ms) (h ∷ hs) n g same =
    ap (λ ts. tree_with m (edges_of h) ++ ts) (named_push ms hs n g (omega (arith, same))) ∙ sym (append_assoc (tree_with m (edges_of h)) (trees_for (λ name. name) ms hs) (tree_with n (edges_of g)))

named_cut : (n : ℕ) (ns : List NetId) (gs : List Paths) → min (length ns) (length gs) ≤ n → trees_for (λ name. name) (take n ns) (take n gs) ≡ trees_for (λ name. name) ns gs
named_cut zero [] gs low = refl
named_cut zero (m ∷ ms) [] low = refl
named_cut zero (m ∷ ms) (h ∷ hs) low = absurd (omega (arith, low))
named_cut (suc n) [] gs low = refl
named_cut (suc n) (m ∷ ms) [] low = refl
named_cut (suc n) (m ∷ ms) (h ∷ hs) low = ap (λ ts. tree_with m (edges_of h) ++ ts) (named_cut n ms hs (omega (arith, low)))

module _ (numbering : Numbering) (names : List NetId) (sinks : List (List ℕ)) (trees : List Paths) where
  abbrev wired : List Paths
  wired = wire_trees numbering sinks trees

  -- the trees of the first nets
  abbrev pub HaveTrees : (i : ℕ) → List PlainTree → Type 0
  HaveTrees i told = told ≡ trees_for (λ name. name) (take i names) (take i wired)

  pub tree_more : (i : ℕ) (name : NetId) (own : List ℕ) (tree : Paths) (edges : List Edge) (old new : List PlainTree) → i < length names → i < length sinks → i < length trees → name ≡ get_or names i name →
      own ≡ get_or sinks i [] → tree ≡ get_or trees i [] → edges ≡ edges_of (wire_paths numbering own tree) → HaveTrees i old → new ≡ old ++ tree_with name edges → HaveTrees (i + 1) new
  tree_more i name own tree edges old new low few less name_is own_is tree_is edges_are before is =
      let paths = wire_paths numbering own tree in
      let at : IsAt names i name = (low, sym name_is) in
      let long : i < length wired = omega (arith, few, less, trees_long numbering sinks trees) in
      let paths_is : get_or wired i [] ≡ paths = tree_there numbering sinks trees i few less ∙ ap₂ (λ (s : List ℕ) (t : Paths). wire_paths numbering s t) (sym own_is) (sym tree_is) in
      let paths_at : IsAt wired i paths = (long, get_or_default wired i paths [] long ∙ paths_is) in
      is ∙ ap (λ ts. ts ++ tree_with name edges) before ∙ ap (λ es. trees_for (λ name. name) (take i names) (take i wired) ++ tree_with name es) edges_are
      ∙ sym (ap₂ (λ (ns : List NetId) (gs : List Paths). trees_for (λ name. name) ns gs) (taken_more names i name at) (taken_more wired i paths paths_at)
      ∙ named_push (take i names) (take i wired) name paths (take_long i names (omega (arith, low)) ∙ sym (take_long i wired (omega (arith, long)))))

  pub all_trees : (i : ℕ) (told : List PlainTree) → min (min (length names) (length sinks)) (length trees) ≤ i → HaveTrees i told → told ≡ trees_for (λ name. name) names wired
  all_trees i told past have = have ∙ named_cut i names wired (omega (arith, past, trees_long numbering sinks trees))

-- trees by names that are made before
pub named_before : (name : NetId → NetId) (nets : List NetId) (grown : List Paths) → trees_for (λ n. n) (map name nets) grown ≡ trees_for name nets grown
named_before name [] grown = refl
named_before name (net ∷ nets) [] = refl
named_before name (net ∷ nets) (paths ∷ grown) = ap (λ ts. tree_with (name net) (edges_of paths) ++ ts) (named_before name nets grown)
