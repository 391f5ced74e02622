-- What a run holds between two rounds.
use Rattle.std.proofs.Common.{◌≡◌, ℕ, zero, suc, ◌+◌, ◌-◌, ◌*◌, ◌<◌, ◌≤◌, true, false, List, [], ◌∷◌, ◌++◌, length, get_or, replicate, Option, None, Some, is_none, IfSome, IfNone, refl, sym, ◌∙◌, ap, subst, inl, inr, arith}
use Rattle.std.specs.List.{All}
use Rattle.std.proofs.lemmas.Bool.{cases_lt}
use Rattle.std.proofs.lemmas.List.{length_push, map_push, length-map, length-replicate, get_or-map, get_or-replicate, get_or_past}
use Rattle.std.proofs.lemmas.List.Elements.{All-map, All-nil}
use Rattle.std.proofs.lemmas.List.Sums.{sum_by_push}
use Rattle.fab_astar.specs.declared.tables.Tables.{Tables}
use Rattle.fab_astar.specs.Walks.{Graph}
use Rattle.fab_astar.specs.Tables.{users_of}
use Rattle.fab_pathfinder.specs.Rounds.{Net, Paths, IsRound, LeavesShared, Run, last_trees, past_of, no_trees, nodes_of, users}
use Rattle.fab_pathfinder.specs.Rounds.Run.{begins, goes}
use Rattle.fab_pathfinder.specs.declared.net.Net as demand
use Rattle.fab_pathfinder.specs.declared.tree.Tree.{Tree}
use Rattle.fab_pathfinder.specs.declared.tree.Round.{Round}
use Rattle.fab_pathfinder.specs.Plain.{paths_of, trees_of, rounds_of, nets_of}
use Rattle.fab_pathfinder.proofs.Passes.{users-le, tree_nodes, trees_long}

pub last_trees-push : (first : List Paths) (rounds : List (List Paths)) (trees : List Paths) → last_trees first (rounds ++ trees ∷ []) ≡ trees
last_trees-push first [] trees = refl
last_trees-push first (x ∷ rounds) trees = last_trees-push x rounds trees

-- all trees stand within a graph
abbrev pub AreInside : (nodes : ℕ) → List Paths → Type 0
AreInside nodes trees = All (λ (paths : Paths). All (λ w. w < nodes) (nodes_of paths)) trees

pub trees_inside : (n : ℕ) (trees : List Tree) → AreInside n (trees_of trees) → All (λ (tree : Tree). All (λ w. w < n) tree.nodes.items) trees
trees_inside n trees inside = λ k d l.
    subst (λ (ws : List ℕ). All (λ w. w < n) ws) (tree_nodes (get_or trees k d))
    (subst (λ (paths : Paths). All (λ w. w < n) (nodes_of paths)) (get_or-map paths_of trees k d [] l) (inside k [] (omega (arith, trees_long trees))))

pub inside_trees : (n : ℕ) (trees : List Tree) → All (λ (tree : Tree). All (λ w. w < n) tree.nodes.items) trees → AreInside n (trees_of trees)
inside_trees n trees inside =
    All-map (λ (paths : Paths). All (λ w. w < n) (nodes_of paths)) paths_of trees (λ k d l. subst (λ (ws : List ℕ). All (λ w. w < n) ws) (sym (tree_nodes (get_or trees k d))) (inside k d l))

pub record IsRunning (graph : Graph) (nets : List Net) (rounds : List (List Paths)) (t : Tables) (past : List ℕ) (round : ℕ) : Type 0 where
  pub run : Run graph nets rounds (last_trees (no_trees nets) rounds)
  pub len : length rounds ≡ round
  pub sharing : 0 < length rounds → LeavesShared (last_trees (no_trees nets) rounds)
  pub counted : (w : ℕ) → users_of t w ≡ users (last_trees (no_trees nets) rounds) w
  pub trees : length (last_trees (no_trees nets) rounds) ≡ length nets
  pub inside : AreInside graph.nodes (last_trees (no_trees nets) rounds)
  pub past_is : (w : ℕ) → get_or past w 0 ≡ past_of rounds w
  pub past_low : (w : ℕ) → get_or past w 0 ≤ round * 32769

-- ---- before the first round

none_users : (nets : List Net) (w : ℕ) → users (no_trees nets) w ≡ 0
none_users [] w = refl
none_users (net ∷ nets) w = none_users nets w

none_inside : (n : ℕ) (nets : List Net) → AreInside n (no_trees nets)
none_inside n nets = All-map (λ (paths : Paths). All (λ w. w < n) (nodes_of paths)) (λ (net : Net). []) nets (λ k d l. All-nil (λ w. w < n))

zeros : (n w : ℕ) → ◌≡◌ {A = ℕ} (get_or (replicate n 0) w 0) 0
zeros n w = elim (cases_lt w n) [
  | inl l ↦ get_or-replicate n w 0 0 l
  | inr g ↦ get_or_past (replicate n 0) w 0 (omega (arith, length-replicate {A = ℕ} n 0))
]

pub running_first : (graph : Graph) (nets : List Net) (rounds : List (List Paths)) (t : Tables) (past : List ℕ) (n : ℕ) → rounds ≡ [] → ((w : ℕ) → users_of t w ≡ 0) → past ≡ replicate n 0 → IsRunning graph nets rounds t past 0
running_first graph nets rounds t past n none unused blank = subst (λ (rs : List (List Paths)). IsRunning graph nets rs t past 0) (sym none) (record {
  run = begins;
  len = refl;
  sharing = λ l. absurd (omega arith);
  counted = λ w. unused w ∙ sym (none_users nets w);
  trees = length-map nets (λ (net : Net). []);
  inside = none_inside graph.nodes nets;
  past_is = λ w. ap (λ xs. get_or xs w 0) blank ∙ zeros n w;
  past_low = λ w. omega (arith, ap (λ xs. get_or xs w 0) blank, zeros n w);
})

-- trees of no walks
bare_none : (trees : List Tree) (nets : List demand.Net) → length trees ≡ length nets → All (λ (tree : Tree). tree.lengths.items ≡ []) trees → trees_of trees ≡ no_trees (nets_of nets)
bare_none [] [] l bare = refl
bare_none [] (net ∷ nets) l bare = absurd (omega arith)
bare_none (tree ∷ trees) [] l bare = absurd (omega arith)
bare_none (tree ∷ trees) (net ∷ nets) l bare =
    let here : paths_of tree ≡ [] = rw (bare 0 tree (omega arith)) refl in
    let rest : trees_of trees ≡ no_trees (nets_of nets) = bare_none trees nets (omega arith) (λ k d m. bare (suc k) d (omega arith)) in
    ap (λ (paths : Paths). paths ∷ trees_of trees) here ∙ ap (λ (ts : List Paths). [] ∷ ts) rest

-- the trees that a round gives up
pub latest_is : (result bare bare' : List Tree) (rounds rounds' : List Round) (nets : List demand.Net) → trees_of result ≡ last_trees (trees_of bare') (rounds_of rounds') → bare' ≡ bare → rounds' ≡ rounds → length bare ≡ length nets
    → All (λ (tree : Tree). tree.lengths.items ≡ []) bare → trees_of result ≡ last_trees (no_trees (nets_of nets)) (rounds_of rounds)
latest_is result bare bare' rounds rounds' nets is b r long none =
    is ∙ ap (λ (rs : List Round). last_trees (trees_of bare') (rounds_of rs)) r ∙ ap (λ (ts : List Tree). last_trees (trees_of ts) (rounds_of rounds)) b ∙ ap (λ (ts : List Paths). last_trees ts (rounds_of rounds)) (bare_none bare nets long none)

pub round_at : (graph : Graph) (nets : List Net) (past past' : List ℕ) (round : ℕ) (old old' new : List Paths) → past' ≡ past → old' ≡ old → IsRound graph nets (λ w. get_or past' w 0) round old' new → IsRound graph nets (λ w. get_or past w 0) round old new
round_at graph nets past past' round old old' new p o is =
    subst (λ (xs : List ℕ). IsRound graph nets (λ w. get_or xs w 0) round old new) p (subst (λ (ts : List Paths). IsRound graph nets (λ w. get_or past' w 0) round ts new) o is)

-- ---- one more round

module _ (graph : Graph) (nets : List Net) (rounds rounds' : List (List Paths)) (t u : Tables) (past past' : List ℕ) (round : ℕ) (new : List Paths) (pushed : rounds' ≡ rounds ++ new ∷ []) (h : IsRunning graph nets rounds t past round)
    (is_round : IsRound graph nets (λ w. get_or past w 0) round (last_trees (no_trees nets) rounds) new) (counted : (w : ℕ) → users_of u w ≡ users new w) where
  pub run_last : last_trees (no_trees nets) rounds' ≡ new
  run_last = ap (λ (rs : List (List Paths)). last_trees (no_trees nets) rs) pushed ∙ last_trees-push (no_trees nets) rounds new

  pub run_on : Run graph nets rounds' (last_trees (no_trees nets) rounds')
  run_on =
      let goes_on : Run graph nets (rounds ++ new ∷ []) new =
      goes new h.run h.sharing (subst (λ (f : ℕ → ℕ). IsRound graph nets f (length rounds) (last_trees (no_trees nets) rounds) new) (λ i w. h.past_is w i) (rw h.len is_round)) in
      subst (λ (ts : List Paths). Run graph nets rounds' ts) (sym run_last) (subst (λ (rs : List (List Paths)). Run graph nets rs new) (sym pushed) goes_on)

  pub run_next : ((w : ℕ) → get_or past' w 0 ≡ get_or past w 0 + (users_of u w - 1)) → length nets ≤ 32770 → LeavesShared new → AreInside graph.nodes new → IsRunning graph nets rounds' u past' (round + 1)
  run_next more few sharing inside = record {
    run = run_on;
    len = omega (arith, ap (λ (rs : List (List Paths)). length rs) pushed, length_push rounds new, h.len);
    sharing = λ _. subst (λ (ts : List Paths). LeavesShared ts) (sym run_last) sharing;
    counted = λ w. counted w ∙ ap (λ (ts : List Paths). users ts w) (sym run_last);
    trees = ap (λ (ts : List Paths). length ts) run_last ∙ is_round.all;
    inside = subst (λ (ts : List Paths). AreInside graph.nodes ts) (sym run_last) inside;
    past_is = λ w. omega (arith, more w, h.past_is w, counted w, ap (λ (rs : List (List Paths)). past_of rs w) pushed, sum_by_push (λ (ts : List Paths). users ts w - 1) rounds new);
    past_low = λ w. omega (arith, more w, h.past_low w, counted w, users-le new w, is_round.all, few);
  }

pub rounds_push : (rounds rounds' : List Round) (round : Round) → rounds' ≡ rounds ++ round ∷ [] → rounds_of rounds' ≡ rounds_of rounds ++ trees_of round.trees.items ∷ []
rounds_push rounds rounds' round is = ap (λ (rs : List Round). rounds_of rs) is ∙ map_push (λ (r : Round). trees_of r.trees.items) rounds round

-- ---- the node that is shared

pub some_shared : (o : Option ℕ) (P : ℕ → Type 0) → is_none o ≡ false → IfSome o P → (w : ℕ) × P w
some_shared None P some h = absurd (grind arith)
some_shared (Some w) P some h = (w, h)

pub none_shared : (o : Option ℕ) (P : Type 0) → is_none o ≡ true → IfNone o P → P
none_shared None P is h = h
none_shared (Some w) P is h = absurd (grind arith)

pub IfNone-weaker : (o : Option ℕ) (P Q : Type 0) → (P → Q) → IfNone o P → IfNone o Q
IfNone-weaker None P Q so h = so h
IfNone-weaker (Some w) P Q so h = tt

pub last_trees-at : (first : List Paths) (rounds : List Round) (n : ℕ) (d : Round) → length rounds ≡ n + 1 → last_trees first (rounds_of rounds) ≡ trees_of (get_or rounds n d).trees.items
last_trees-at first [] n d l = absurd (omega arith)
last_trees-at first (x ∷ []) zero d l = refl
last_trees-at first (x ∷ (y ∷ rounds)) zero d l = absurd (omega arith)
last_trees-at first (x ∷ rounds) (suc n) d l = last_trees-at (trees_of x.trees.items) rounds n d (omega arith)
