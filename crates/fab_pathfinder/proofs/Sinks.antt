-- A tree while its sinks are reached one after another.
use Rattle.std.proofs.Common.{◌≡◌, ℕ, ◌+◌, ◌-◌, ◌<◌, ◌≤◌, List, [], ◌∷◌, ◌++◌, length, get_or, take, sum_by, sym, ◌∙◌, ap, subst, arith, length-append}
use Rattle.std.proofs.lemmas.List.{take_more, length-take, length-map, get_or-map, get_or-take}
use Rattle.std.proofs.lemmas.List.Sums.{sum_by_push}
use Rattle.fab_astar.specs.Walks.{Graph, IsLeastTo, AddsLeast, HasNoWalk}
use Rattle.fab_pathfinder.specs.Rounds.{AreGrown, HasWalk, nodes_of}
use Rattle.fab_pathfinder.specs.declared.net.Sink.{Sink}
use Rattle.fab_pathfinder.specs.Plain.{parts, goals_of}
use Rattle.fab_pathfinder.proofs.Parts.{parts-push, nodes_of-parts}
use Rattle.fab_pathfinder.proofs.Grown.{AreGrown-push, cut_off, have_walks}

pub record AreReached (graph : Graph) (roots : List ℕ) (price : ℕ → ℕ) (goals : List (List ℕ)) (nodes lengths : List ℕ) (i : ℕ) : Type 0 where
  pub whole : sum_by (λ (k : ℕ). k) lengths ≡ length nodes
  pub grown : AreGrown graph roots price [] (take i goals) (parts nodes lengths)

-- one more sink is reached
pub reached_more : (graph : Graph) (roots : List ℕ) (price : ℕ → ℕ) (goals : List (List ℕ)) (nodes lengths : List ℕ) (i : ℕ) (sink new more : List ℕ) (n : ℕ) → i < length goals → sink ≡ get_or goals i [] → AreReached graph roots price goals nodes lengths i
    → AddsLeast graph roots price sink nodes new → n ≡ length new - length nodes → more ≡ lengths ++ n ∷ [] → AreReached graph roots price goals new more (i + 1)
reached_more graph roots price goals nodes lengths i sink new more n inside at so_far adds count pushed =
    let long : n ≡ length adds.path = omega (arith, count, ap (λ (xs : List ℕ). length xs) adds.is, length-append nodes adds.path) in
    let lengths_are : more ≡ lengths ++ length adds.path ∷ [] = pushed ∙ ap (λ k. lengths ++ k ∷ []) long in
    let paths : parts new more ≡ parts nodes lengths ++ adds.path ∷ [] =
    ap (λ xs. parts xs more) adds.is ∙ ap (λ ns. parts (nodes ++ adds.path) ns) lengths_are ∙ parts-push nodes adds.path lengths so_far.whole in
    let all = nodes_of-parts nodes lengths so_far.whole in
    let least : IsLeastTo graph (nodes_of (parts nodes lengths)) (nodes_of (parts nodes lengths) ++ roots) price sink adds.path =
    subst (λ t. IsLeastTo graph t (t ++ roots) price sink adds.path) (sym all) adds.least in
    record {
      whole = omega (arith, ap (λ (ns : List ℕ). sum_by (λ (k : ℕ). k) ns) pushed, sum_by_push (λ (k : ℕ). k) lengths n, so_far.whole, long, ap (λ (xs : List ℕ). length xs) adds.is, length-append nodes adds.path);
      grown =
          subst (λ ps. AreGrown graph roots price [] (take (i + 1) goals) ps) (sym paths)
          (subst (λ gs. AreGrown graph roots price [] gs (parts nodes lengths ++ adds.path ∷ [])) (sym (take_more goals i [] inside ∙ ap (λ g. take i goals ++ g ∷ []) (sym at)))
          (AreGrown-push graph roots price [] (take i goals) (parts nodes lengths) sink adds.path so_far.grown least));
    }

-- walks come to the sinks so far
pub reached_walks : (graph : Graph) (roots : List ℕ) (price : ℕ → ℕ) (goals : List (List ℕ)) (nodes lengths : List ℕ) (i s : ℕ) → AreReached graph roots price goals nodes lengths i → i ≤ length goals → s < i → HasWalk graph roots (get_or goals s [])
reached_walks graph roots price goals nodes lengths i s so_far long below =
    subst (λ (g : List ℕ). HasWalk graph roots g) (get_or-take i goals s [] below)
    (have_walks graph roots price (take i goals) (parts nodes lengths) so_far.grown s (omega (arith, length-take i goals)))

-- ---- a sink of the code

pub goals_long : (sinks : List Sink) → length (goals_of sinks) ≡ length sinks
goals_long sinks = length-map sinks (λ (sink : Sink). sink.goals.items)

pub sink_goals : (sinks : List Sink) (k : ℕ) (sink : Sink) → k < length sinks → sink ≡ get_or sinks k sink → sink.goals.items ≡ get_or (goals_of sinks) k []
sink_goals sinks k sink l at = ap (λ (s : Sink). s.goals.items) at ∙ sym (get_or-map (λ (s : Sink). s.goals.items) sinks k sink [] l)

pub cut_off_at : (graph : Graph) (roots roots' tree goals goals' : List ℕ) → roots' ≡ roots → goals' ≡ goals → HasNoWalk graph tree (tree ++ roots') goals' → HasNoWalk graph [] roots goals
cut_off_at graph roots roots' tree goals goals' r s none =
    cut_off graph roots tree goals (subst (λ (x : List ℕ). HasNoWalk graph tree (tree ++ x) goals) r (subst (λ (x : List ℕ). HasNoWalk graph tree (tree ++ roots') x) s none))

pub adds_at : (graph : Graph) (roots roots' prices prices' goals goals' tree new : List ℕ) → roots' ≡ roots → prices' ≡ prices → goals' ≡ goals → AddsLeast graph roots' (λ w. get_or prices' w 0) goals' tree new → AddsLeast graph roots (λ w. get_or prices w 0) goals tree new
adds_at graph roots roots' prices prices' goals goals' tree new r p s adds =
    subst (λ (x : List ℕ). AddsLeast graph x (λ w. get_or prices w 0) goals tree new) r
    (subst (λ (x : List ℕ). AddsLeast graph roots' (λ w. get_or x w 0) goals tree new) p
    (subst (λ (x : List ℕ). AddsLeast graph roots' (λ w. get_or prices' w 0) x tree new) s adds))
