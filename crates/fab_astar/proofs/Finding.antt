-- A walk that was found, by a search or without one.
use Rattle.std.proofs.Common.{◌≡◌, ℕ, ◌+◌, ◌<◌, ◌≤◌, ◌^◌, Bool, true, false, ◌||◌, List, [], ◌∷◌, ◌++◌, length, drop, get_or, Option, Some, None, sym, ◌∙◌, ap, subst, arith}
use Rattle.std.proofs.lemmas.List.Elements.{All-contains, Contains-append_left, Contains-append_right}
use Rattle.std.proofs.Math.Seq.{drop-append_seam}
use Rattle.std.specs.List.{All, Contains}
use Rattle.fab_astar.specs.Walks.{Graph, Walk, has, paid, AddsLeast}
use Rattle.fab_astar.specs.Walks.Walk.{begins}
use Rattle.fab_astar.specs.Scene.{Scene, IsScene, IsGraph, IsBound, ArePrices, left, scene_of}
use Rattle.fab_astar.specs.State.{State, cost, IsWalkedBack}
use Rattle.fab_astar.proofs.Members.{has_contains, has-append}
use Rattle.fab_astar.proofs.Paying.{pays_for_last}

-- what a search looks at is right
pub scene_right : (graph : Graph) (rest : ℕ → ℕ → ℕ) (guide : Option ℕ) (tree prices : List ℕ) → IsGraph graph → IsBound graph rest → ArePrices graph.nodes (λ w. get_or prices w 0) → IsScene (scene_of graph rest guide tree prices)
scene_right graph rest guide tree prices g b p = record {
  graph = g;
  prices = p;
  consistent = λ v w inside leads. falls guide v w inside leads;
  low = λ w inside. low guide w inside;
}
  where
    falls : (o : Option ℕ) (v w : ℕ) → v < graph.nodes → Contains (graph.ends v) w → left rest o v ≤ 2 + left rest o w
    falls None v w inside leads = omega arith
    falls (Some aim) v w inside leads = b.falls aim v w inside leads

    low : (o : Option ℕ) (w : ℕ) → w < graph.nodes → left rest o w < 2 ^ 32
    low None w inside = omega arith
    low (Some aim) w inside = b.low aim w inside

-- the walk back from the best goal is least
pub adds_found : (scene : Scene) (roots goals : List ℕ) (s : State) (goal : ℕ) (new : List ℕ) → IsWalkedBack scene (scene.tree ++ roots) s goal scene.tree new → Contains goals goal →
    ((other : ℕ) (path : List ℕ) → Contains goals other → Walk scene.graph scene.tree (scene.tree ++ roots) other path → cost s goal ≤ paid scene.tree scene.price path) → AddsLeast scene.graph roots scene.price goals scene.tree new
adds_found scene roots goals s goal new back among least = record {
  path = back.path;
  is = back.is;
  least = record {
    goal = goal;
    among = among;
    walk = back.walk;
    least = λ other path a w. omega (arith, least other path a w, back.paid_is);
  };
}

-- the same, where the search was of a tree and at prices that are the net's
pub found_again : (graph : Graph) (rest : ℕ → ℕ → ℕ) (guide : Option ℕ) (roots goals tree tree' prices prices' prices'' : List ℕ) (s : State) (goal : ℕ) (new : List ℕ) → tree' ≡ tree → prices' ≡ prices → prices'' ≡ prices →
    IsWalkedBack (scene_of graph rest guide tree prices'') (tree ++ roots) s goal tree new → Contains goals goal →
    ((other : ℕ) (path : List ℕ) → Contains goals other → Walk graph tree' (tree' ++ roots) other path → cost s goal ≤ paid tree' (λ v. get_or prices' v 0) path) → AddsLeast graph roots (λ v. get_or prices v 0) goals tree new
found_again graph rest guide roots goals tree tree' prices prices' prices'' s goal new same_tree same same_again back among least =
    adds_found (scene_of graph rest guide tree prices) roots goals s goal new
    (subst (λ (ps : List ℕ). IsWalkedBack (scene_of graph rest guide tree ps) (tree ++ roots) s goal tree new) same_again back) among
    (λ other path a w.
    subst (λ (ps : List ℕ). cost s goal ≤ paid tree (λ v. get_or ps v 0) path) same
    (subst (λ (t : List ℕ). cost s goal ≤ paid t (λ v. get_or prices' v 0) path) same_tree (least other path a (subst (λ (t : List ℕ). Walk graph t (t ++ roots) other path) (sym same_tree) w))))

-- a goal in the tree is a least walk by itself
pub adds_held : (graph : Graph) (roots : List ℕ) (price : ℕ → ℕ) (goals tree new : List ℕ) (goal : ℕ) → Contains goals goal → has tree goal ≡ true → new ≡ tree ++ goal ∷ [] → AddsLeast graph roots price goals tree new
adds_held graph roots price goals tree new goal among held is = record {
  path = goal ∷ [];
  is = is;
  least = record {
    goal = goal;
    among = among;
    walk = begins (Contains-append_left tree roots goal (has_contains tree goal held));
    least = λ other path a w. rw held (omega arith);
  };
}

-- so is a root of price 1 among the goals, where the tree has no goal
pub adds_root : (graph : Graph) (roots : List ℕ) (price : ℕ → ℕ) (goals tree new : List ℕ) (goal : ℕ) → Contains goals goal → Contains roots goal → price goal ≡ 1 → All (λ g. has tree g ≡ false) goals → All (λ g. 1 ≤ price g) goals → new ≡ tree ++ goal ∷ [] → AddsLeast graph roots price goals tree new
adds_root graph roots price goals tree new goal among root cheap free some is = record {
  path = goal ∷ [];
  is = is;
  least = record {
    goal = goal;
    among = among;
    walk = begins (Contains-append_right tree roots goal root);
    least = λ other path a w.
        let f = All-contains (λ g. has tree g ≡ false) goals goal free among in
        let o = All-contains (λ g. has tree g ≡ false) goals other free a in
        let p = All-contains (λ g. 1 ≤ price g) goals other some a in
        rw f (omega (arith, cheap, p, pays_for_last price w o));
  };
}

-- the tables hold the tree again
pub held_again : (old new : List ℕ) (path : List ℕ) (w : ℕ) (before after : Bool) → new ≡ old ++ path → before ≡ has old w → after ≡ (before || has (drop (length old) new) w) → after ≡ has new w
held_again old new path w before after is b a =
    a ∙ ap (λ x. x || has (drop (length old) new) w) b
    ∙ ap (λ xs. has old w || has xs w) (ap (drop (length old)) is ∙ drop-append_seam old path)
    ∙ sym (has-append old path w)
    ∙ ap (λ xs. has xs w) (sym is)
