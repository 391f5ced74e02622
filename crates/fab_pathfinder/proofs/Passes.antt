-- The nets of a round one after another.
use Rattle.std.proofs.Common.{◌≡◌, ℕ, ◌+◌, ◌*◌, ◌<◌, ◌≤◌, cond, List, [], ◌∷◌, ◌++◌, length, get_or, take, drop, sym, ◌∙◌, ap, subst, inl, inr, arith}
use Rattle.std.proofs.lemmas.Bool.{cases_eq}
use Rattle.std.proofs.lemmas.List.{take-append-le, take_all, length-map, length-drop, length_push, get_or-map}
use Rattle.std.proofs.lemmas.List.Elements.{All-contains, All-cons, All-nil, All-append}
use Rattle.std.specs.List.{All}
use Rattle.std.proofs.lemmas.List.Sums.{sum_by-drop_more, sum_by_push, count_by-le-length}
use Rattle.std.proofs.Math.ListN.{get_or-append}
use Rattle.std.proofs.Math.Seq.{get_or-append_seam}
use Rattle.fab_astar.specs.declared.tables.Tables.{Tables}
use Rattle.fab_astar.specs.Walks.{Graph, Walk, has, HasNoWalk}
use Rattle.fab_astar.specs.Walks.Walk.{begins, goes}
use Rattle.fab_astar.specs.Scene.{IsGraph}
use Rattle.fab_astar.specs.Tables.{AreTables, count_of, users_of}
use Rattle.fab_pathfinder.specs.Rounds.{Net, Paths, AreGrown, nodes_of, users, negotiated, others, net_at, tree_at, HasWalk, IsCutOff}
use Rattle.fab_pathfinder.specs.declared.net.Net as demand
use Rattle.fab_pathfinder.specs.declared.tree.Tree.{Tree}
use Rattle.fab_pathfinder.specs.Plain.{paths_of, trees_of, goals_of, net_of, nets_of}
use Rattle.fab_pathfinder.specs.inner.Prices.{bit, ArePriced}
use Rattle.fab_pathfinder.proofs.Parts.{nodes_of-parts}
use Rattle.fab_pathfinder.proofs.Grown.{least_inside, have_walks}
use Rattle.fab_pathfinder.proofs.Sinks.{goals_long}

pub users-push : (trees : List Paths) (t : Paths) (w : ℕ) → users (trees ++ t ∷ []) w ≡ users trees w + bit (has (nodes_of t) w)
users-push trees t w = sum_by_push (λ (x : Paths). cond (has (nodes_of x) w) 1 0) trees t

pub users-drop : (trees : List Paths) (k w : ℕ) → k < length trees → users (drop k trees) w ≡ bit (has (nodes_of (get_or trees k [])) w) + users (drop (k + 1) trees) w
users-drop trees k w l = sum_by-drop_more (λ (x : Paths). cond (has (nodes_of x) w) 1 0) trees k [] l

pub users-le : (trees : List Paths) (w : ℕ) → users trees w ≤ length trees
users-le trees w = count_by-le-length (λ (x : Paths). has (nodes_of x) w) trees

-- the first some nets have their trees
abbrev pub AreGrownUpto : Graph → List Net → (past : ℕ → ℕ) → (round : ℕ) → (old new : List Paths) → (upto : ℕ) → Type 0
AreGrownUpto graph nets past round old new upto =
    (k : ℕ) → k < upto → AreGrown graph (net_at nets k).roots (negotiated past round (others old new k)) [] (net_at nets k).goals (tree_at new k)

-- one more net has its tree
pub grown_push : (graph : Graph) (nets : List Net) (past : ℕ → ℕ) (round : ℕ) (old new : List Paths) (t : Paths) (n : ℕ) (counts : ℕ → ℕ) → length new ≡ n → AreGrownUpto graph nets past round old new n →
    ((w : ℕ) → counts w ≡ users new w + users (drop (n + 1) old) w) → AreGrown graph (net_at nets n).roots (negotiated past round counts) [] (net_at nets n).goals t → AreGrownUpto graph nets past round old (new ++ t ∷ []) (n + 1)
grown_push graph nets past round old new t n counts len before same grown = λ k l. elim (cases_eq k n) [
  | inl e ↦
      let front : take n (new ++ t ∷ []) ≡ new = take-append-le n new (t ∷ []) (omega arith) ∙ take_all n new (omega arith) in
      let seam : get_or (new ++ t ∷ []) n [] ≡ t = subst (λ x. get_or (new ++ t ∷ []) x [] ≡ t) len (get_or-append_seam new t [] []) in
      let here : AreGrown graph (net_at nets n).roots (negotiated past round (others old (new ++ t ∷ []) n)) [] (net_at nets n).goals t =
      subst (λ (f : ℕ → ℕ). AreGrown graph (net_at nets n).roots (negotiated past round f) [] (net_at nets n).goals t) (λ i w. (same w ∙ ap (λ ts. users ts w + users (drop (n + 1) old) w) (sym front)) i) grown in
      rw e (subst (λ (z : Paths). AreGrown graph (net_at nets n).roots (negotiated past round (others old (new ++ t ∷ []) n)) [] (net_at nets n).goals z) (sym seam) here)
  | inr ne ↦
      let below : k < n = omega arith in
      let front : take k (new ++ t ∷ []) ≡ take k new = take-append-le k new (t ∷ []) (omega arith) in
      let was : get_or (new ++ t ∷ []) k [] ≡ get_or new k [] = get_or-append new (t ∷ []) [] k (omega arith) in
      subst (λ (z : Paths). AreGrown graph (net_at nets k).roots (negotiated past round (others old (new ++ t ∷ []) k)) [] (net_at nets k).goals z) (sym was)
      (subst (λ (ts : List Paths). AreGrown graph (net_at nets k).roots (negotiated past round (λ w. users ts w + users (drop (k + 1) old) w)) [] (net_at nets k).goals (get_or new k [])) (sym front) (before k below))
]

-- ---- prices beyond the graph

path_inside : {graph : Graph} {tree starts : List ℕ} {node : ℕ} {path : List ℕ} → IsGraph graph → All (λ w. w < graph.nodes) starts → Walk graph tree starts node path → (node < graph.nodes) × All (λ w. w < graph.nodes) path
path_inside {graph = graph} {starts = starts} {node = node} good within (begins among) =
    let inside = All-contains (λ w. w < graph.nodes) starts node within among in
    (inside, All-cons (λ w. w < graph.nodes) node [] inside (All-nil (λ w. w < graph.nodes)))
path_inside {graph = graph} {node = next} good within (goes {node = v} {path = path} earlier edge free) =
    let before = path_inside good within earlier in
    let inside = All-contains (λ w. w < graph.nodes) (graph.ends v) next (good.inside v before.0) edge in
    (inside, All-cons (λ w. w < graph.nodes) next path inside before.1)

-- a tree that grew at some prices grew at all that agree with them within the graph
pub grown_inside : (graph : Graph) (roots : List ℕ) (p q : ℕ → ℕ) (tree : List ℕ) (goals : List (List ℕ)) (paths : Paths) → IsGraph graph → All (λ w. w < graph.nodes) roots → All (λ w. w < graph.nodes) tree → ((w : ℕ) → w < graph.nodes → p w ≡ q w)
    → AreGrown graph roots p tree goals paths → AreGrown graph roots q tree goals paths
grown_inside graph roots p q tree [] [] good r t same grown = tt
grown_inside graph roots p q tree [] (path ∷ paths) good r t same grown = absurd grown
grown_inside graph roots p q tree (g ∷ goals) [] good r t same grown = absurd grown
grown_inside graph roots p q tree (g ∷ goals) (path ∷ paths) good r t same grown =
    let starts = All-append (λ w. w < graph.nodes) tree roots t r in (
      least_inside graph tree (tree ++ roots) p q g path good starts same grown.0,
      grown_inside graph roots p q (tree ++ path) goals paths good r (All-append (λ w. w < graph.nodes) tree path t (path_inside good starts grown.0.walk).1) same grown.1,
    )

-- ---- what holds before each net

pub record IsPassing (graph : Graph) (nets : List Net) (past : List ℕ) (round : ℕ) (old new : List Paths) (t : Tables) (n : ℕ) : Type 0 where
  pub tables : AreTables t
  pub count : count_of t ≡ graph.nodes
  pub priced : ArePriced past round t
  pub len : length new ≡ n
  pub counted : (w : ℕ) → users_of t w ≡ users new w + users (drop n old) w
  pub grown : AreGrownUpto graph nets (λ w. get_or past w 0) round old new n

pub tree_nodes : (tree : Tree) → nodes_of (paths_of tree) ≡ tree.nodes.items
tree_nodes tree = nodes_of-parts tree.nodes.items tree.lengths.items tree.whole

pub tree_there : (trees : List Tree) (k : ℕ) (tree : Tree) → k < length trees → tree ≡ get_or trees k tree → get_or (trees_of trees) k [] ≡ paths_of tree
tree_there trees k tree l at = get_or-map paths_of trees k tree [] l ∙ ap paths_of (sym at)

module _ (old new : List Paths) (n : ℕ) (nodes : List ℕ) (more : n < length old) (is : nodes_of (get_or old n []) ≡ nodes) where
  -- the users of a net's nodes, and without it
  pub dropped : (w : ℕ) → users (drop n old) w ≡ bit (has nodes w) + users (drop (n + 1) old) w
  dropped w = users-drop old n w more ∙ ap (λ xs. bit (has xs w) + users (drop (n + 1) old) w) is

  pub few_left : (w : ℕ) → users (drop (n + 1) old) w + n + 1 ≤ length old
  few_left w = omega (arith, users-le (drop (n + 1) old) w, length-drop (n + 1) old)

-- one more net has grown its tree
pub passed : (graph : Graph) (nets : List Net) (past : List ℕ) (round : ℕ) (old new : List Paths) (t u v : Tables) (n : ℕ) (t_price : ℕ → ℕ) (roots : List ℕ) (goals : List (List ℕ)) (paths : Paths) (nodes : List ℕ) → IsGraph graph → All (λ w. w < graph.nodes) roots →
    IsPassing graph nets past round old new t n → roots ≡ (net_at nets n).roots → goals ≡ (net_at nets n).goals → nodes_of paths ≡ nodes →
    ((w : ℕ) → users_of u w ≡ users new w + users (drop (n + 1) old) w) → ((w : ℕ) → w < graph.nodes → t_price w ≡ (1 + get_or past w 0) * (1 + round * users_of u w)) →
    AreGrown graph roots t_price [] goals paths → AreTables v → count_of v ≡ graph.nodes → ArePriced past round v → ((w : ℕ) → users_of v w ≡ users_of u w + bit (has nodes w)) →
    IsPassing graph nets past round old (new ++ paths ∷ []) v (n + 1)
passed graph nets past round old new t u v n t_price roots goals paths nodes good inside so_far r g is counts_are prices_are grown tables count priced more = record {
  tables = tables;
  count = count;
  priced = priced;
  len = omega (arith, length_push new paths, so_far.len);
  counted = λ w. omega (arith, more w, counts_are w, users-push new paths w, ap (λ xs. bit (has xs w)) is);
  grown =
      let here : AreGrown graph roots (negotiated (λ w. get_or past w 0) round (λ w. users_of u w)) [] goals paths =
      grown_inside graph roots t_price (negotiated (λ w. get_or past w 0) round (λ w. users_of u w)) [] goals paths good inside (All-nil (λ w. w < graph.nodes)) prices_are grown in
      grown_push graph nets (λ w. get_or past w 0) round old new paths n (λ w. users_of u w) so_far.len so_far.grown counts_are
      (subst (λ (gs : List (List ℕ)). AreGrown graph (net_at nets n).roots (negotiated (λ w. get_or past w 0) round (λ w. users_of u w)) [] gs paths) g
      (subst (λ (rs : List ℕ). AreGrown graph rs (negotiated (λ w. get_or past w 0) round (λ w. users_of u w)) [] goals paths) r here));
}

-- ---- nets of the code

pub trees_long : (trees : List Tree) → length (trees_of trees) ≡ length trees
trees_long trees = length-map trees paths_of

pub net_there : (nets : List demand.Net) (k : ℕ) (net : demand.Net) → k < length nets → net ≡ get_or nets k net → net_at (nets_of nets) k ≡ net_of net
net_there nets k net l at = get_or-map net_of nets k net (record { roots = []; goals = [] }) l ∙ ap net_of (sym at)

pub cut_off_in : (graph : Graph) (nets : List demand.Net) (past : List ℕ) (round : ℕ) (old new : List Paths) (t : Tables) (k : ℕ) (net : demand.Net) (sink : ℕ) → k < length nets → net ≡ get_or nets k net → sink < length net.sinks.items → IsPassing graph (nets_of nets) past round old new t k
    → HasNoWalk graph [] net.roots.items (get_or (goals_of net.sinks.items) sink []) → ((s : ℕ) → s < sink → HasWalk graph net.roots.items (get_or (goals_of net.sinks.items) s [])) → IsCutOff graph (nets_of nets) k sink
cut_off_in graph nets past round old new t k net sink l at inside so_far none before =
    let e = net_there nets k net l at in
    record {
      net_in = omega (arith, length-map nets net_of);
      sink_in = subst (λ (n : Net). sink < length n.goals) (sym e) (omega (arith, goals_long net.sinks.items));
      apart = subst (λ (n : Net). HasNoWalk graph [] n.roots (get_or n.goals sink [])) (sym e) none;
      nets_before = λ j s earlier m. have_walks graph (net_at (nets_of nets) j).roots (negotiated (λ w. get_or past w 0) round (others old new j)) (net_at (nets_of nets) j).goals (tree_at new j) (so_far.grown j earlier) s m;
      sinks_before = λ s earlier. subst (λ (n : Net). HasWalk graph n.roots (get_or n.goals s [])) (sym e) (before s earlier);
    }
