use Rattle.std.proofs.Common.{◌≡◌, ℕ, ◌+◌, ◌<◌, List, get_or, drop, sym, ◌∙◌, ap, subst, arith}
use Rattle.std.proofs.lemmas.List.{map_push}
use Rattle.std.proofs.lemmas.List.Elements.{All-push}
use Rattle.std.specs.List.{All}
use Rattle.fab_astar.specs.Scene.{ArePrices}
use Rattle.fab_astar.specs.Tables.{users_of, price_of}
use Rattle.fab_pathfinder.specs.declared.net.Net as demand
use Rattle.fab_pathfinder.specs.declared.tree.Tree.{Tree}
use Rattle.fab_pathfinder.specs.Rounds.{Net, Paths, nodes_of, users}
use Rattle.fab_pathfinder.specs.Plain.{paths_of, trees_of, nets_of, goals_of, IsInside}
use Rattle.fab_pathfinder.specs.inner.Prices.{bit}
use Rattle.fab_pathfinder.proofs.Counting.{priced_low, past_on, priced_same}
use Rattle.fab_pathfinder.proofs.Passes.{IsPassing, passed, dropped, few_left, users-le, tree_there, tree_nodes, trees_long, net_there, cut_off_in}
use Rattle.fab_pathfinder.proofs.round.run_round.Goals as goal

pub give_up-requires-clause-counted : goal.give_up-requires-clause-counted
give_up-requires-clause-counted g c = λ w h. omega (arith, c.loop-net.invariant.passing.counted w, dropped (trees_of c.args.old.now) (trees_of c.loop-net.new.items) c.loop-net.net c.deref.result.now (omega (arith, trees_long c.args.old.now, c.requires.old)) (ap nodes_of (tree_there c.args.old.now c.loop-net.net c.index-old-net.result (omega (arith, c.requires.old)) c.index-old-net.is) ∙ tree_nodes c.index-old-net.result ∙ sym c.deref.ensures.value) w, ap bit h)

pub grow-requires-clause-prices : goal.grow-requires-clause-prices
grow-requires-clause-prices g c =
    subst (λ n. ArePrices n (price_of c.release.new.self)) (c.release.ensures.count ∙ c.give_up.ensures.count ∙ c.loop-net.invariant.passing.count)
    (priced_low c.args.past.now c.args.round c.release.new.self (past_on c.args.past.now c.args.round c.args.tables.now c.release.new.self ((c.release.ensures.count ∙ c.give_up.ensures.count ∙ c.loop-net.invariant.passing.count) ∙ sym c.requires.count) c.requires.past)
    (λ w. let here : users_of c.release.new.self w ≡ users (trees_of c.loop-net.new.items) w + users (drop (c.loop-net.net + 1) (trees_of c.args.old.now)) w = (omega (arith, ap (λ (xs : List ℕ). get_or xs w 0) c.release.ensures.users, c.give_up.ensures.users w, c.loop-net.invariant.passing.counted w, dropped (trees_of c.args.old.now) (trees_of c.loop-net.new.items) c.loop-net.net c.deref.result.now (omega (arith, trees_long c.args.old.now, c.requires.old)) (ap nodes_of (tree_there c.args.old.now c.loop-net.net c.index-old-net.result (omega (arith, c.requires.old)) c.index-old-net.is) ∙ tree_nodes c.index-old-net.result ∙ sym c.deref.ensures.value) w)) in omega (arith, here, users-le (trees_of c.loop-net.new.items) w, few_left (trees_of c.args.old.now) (trees_of c.loop-net.new.items) c.loop-net.net c.deref.result.now (omega (arith, trees_long c.args.old.now, c.requires.old)) (ap nodes_of (tree_there c.args.old.now c.loop-net.net c.index-old-net.result (omega (arith, c.requires.old)) c.index-old-net.is) ∙ tree_nodes c.index-old-net.result ∙ sym c.deref.ensures.value) w, c.loop-net.invariant.passing.len, trees_long c.args.old.now, c.requires.old, c.requires.few)) (priced_same c.args.past.now c.args.round c.give_up.new.tables c.release.new.self c.release.ensures.count c.release.ensures.price c.release.ensures.users c.give_up.ensures.priced))

pub grow-requires-clause-net : goal.grow-requires-clause-net
grow-requires-clause-net g c = (subst (λ (n : demand.Net). IsInside (g.F.Field.graph c.args.field.now).nodes n) (sym c.index-nets-net.is) (c.requires.nets c.loop-net.net c.index-nets-net.result (omega arith)))

pub take_up-requires-clause-few : goal.take_up-requires-clause-few
take_up-requires-clause-few g c = λ w. let here : users_of c.release.new.self w ≡ users (trees_of c.loop-net.new.items) w + users (drop (c.loop-net.net + 1) (trees_of c.args.old.now)) w = (omega (arith, ap (λ (xs : List ℕ). get_or xs w 0) c.release.ensures.users, c.give_up.ensures.users w, c.loop-net.invariant.passing.counted w, dropped (trees_of c.args.old.now) (trees_of c.loop-net.new.items) c.loop-net.net c.deref.result.now (omega (arith, trees_long c.args.old.now, c.requires.old)) (ap nodes_of (tree_there c.args.old.now c.loop-net.net c.index-old-net.result (omega (arith, c.requires.old)) c.index-old-net.is) ∙ tree_nodes c.index-old-net.result ∙ sym c.deref.ensures.value) w)) in omega (arith, ap (λ (xs : List ℕ). get_or xs w 0) c.in_ok-tree.ensures.users, here, users-le (trees_of c.loop-net.new.items) w, few_left (trees_of c.args.old.now) (trees_of c.loop-net.new.items) c.loop-net.net c.deref.result.now (omega (arith, trees_long c.args.old.now, c.requires.old)) (ap nodes_of (tree_there c.args.old.now c.loop-net.net c.index-old-net.result (omega (arith, c.requires.old)) c.index-old-net.is) ∙ tree_nodes c.index-old-net.result ∙ sym c.deref.ensures.value) w, c.loop-net.invariant.passing.len, trees_long c.args.old.now, c.requires.old, c.requires.few)

pub take_up-requires-clause-priced : goal.take_up-requires-clause-priced
take_up-requires-clause-priced g c = priced_same c.args.past.now c.args.round c.release.new.self c.grow.new.tables c.in_ok-tree.ensures.count c.in_ok-tree.ensures.price c.in_ok-tree.ensures.users (priced_same c.args.past.now c.args.round c.give_up.new.tables c.release.new.self c.release.ensures.count c.release.ensures.price c.release.ensures.users c.give_up.ensures.priced)

pub returns-in-Err-clause-cut_off : goal.returns-in-Err-clause-cut_off
returns-in-Err-clause-cut_off g c = cut_off_in (g.F.Field.graph c.args.field.now) c.args.nets.now c.args.past.now c.args.round (trees_of c.args.old.now) (trees_of c.loop-net.new.items) c.loop-net.tables c.loop-net.net c.index-nets-net.result c.in-Err.sink (omega arith) c.index-nets-net.is (rw c.in-Err.is at c.in_ok-tree.ensures.sink) c.loop-net.invariant.passing (rw c.in-Err.is at c.in_ok-tree.ensures.apart) (rw c.in-Err.is at c.in_ok-tree.ensures.before)

pub loop-net-preserved : goal.loop-net-preserved
loop-net-preserved g c = record {
  inside = subst (λ (ts : List Tree). All (λ (tree : Tree). All (λ w. w < (g.F.Field.graph c.args.field.now).nodes) tree.nodes.items) ts) (sym c.in_ok-push-in-Ok.ensures.items) (All-push (λ (tree : Tree). All (λ w. w < (g.F.Field.graph c.args.field.now).nodes) tree.nodes.items) c.loop-net.new.items c.in-Ok.tree c.loop-net.invariant.inside (rw c.in-Ok.is at c.in_ok-tree.ensures.inside));
  passing =
      subst (λ (ts : List Paths). IsPassing (g.F.Field.graph c.args.field.now) (nets_of c.args.nets.now) c.args.past.now c.args.round (trees_of c.args.old.now) ts c.take_up.new.tables (c.loop-net.net + 1)) (sym (ap trees_of c.in_ok-push-in-Ok.ensures.items ∙ map_push paths_of c.loop-net.new.items c.in-Ok.tree))
      (passed (g.F.Field.graph c.args.field.now) (nets_of c.args.nets.now) c.args.past.now c.args.round (trees_of c.args.old.now) (trees_of c.loop-net.new.items) c.loop-net.tables c.release.new.self c.take_up.new.tables c.loop-net.net (price_of c.release.new.self) c.index-nets-net.result.roots.items (goals_of c.index-nets-net.result.sinks.items) (paths_of c.in-Ok.tree) c.deref-in-Ok.result.now c.requires.graph (subst (λ (n : demand.Net). IsInside (g.F.Field.graph c.args.field.now).nodes n) (sym c.index-nets-net.is) (c.requires.nets c.loop-net.net c.index-nets-net.result (omega arith))).roots c.loop-net.invariant.passing
      (sym (ap (λ (n : Net). n.roots) (net_there c.args.nets.now c.loop-net.net c.index-nets-net.result (omega arith) c.index-nets-net.is))) (sym (ap (λ (n : Net). n.goals) (net_there c.args.nets.now c.loop-net.net c.index-nets-net.result (omega arith) c.index-nets-net.is)))
      (tree_nodes c.in-Ok.tree ∙ sym c.deref-in-Ok.ensures.value)
      (λ w. (omega (arith, ap (λ (xs : List ℕ). get_or xs w 0) c.release.ensures.users, c.give_up.ensures.users w, c.loop-net.invariant.passing.counted w, dropped (trees_of c.args.old.now) (trees_of c.loop-net.new.items) c.loop-net.net c.deref.result.now (omega (arith, trees_long c.args.old.now, c.requires.old)) (ap nodes_of (tree_there c.args.old.now c.loop-net.net c.index-old-net.result (omega (arith, c.requires.old)) c.index-old-net.is) ∙ tree_nodes c.index-old-net.result ∙ sym c.deref.ensures.value) w)))
      (λ w l. (priced_same c.args.past.now c.args.round c.give_up.new.tables c.release.new.self c.release.ensures.count c.release.ensures.price c.release.ensures.users c.give_up.ensures.priced) w (omega (arith, (c.release.ensures.count ∙ c.give_up.ensures.count ∙ c.loop-net.invariant.passing.count))))
      (rw c.in-Ok.is at c.in_ok-tree.ensures.grown) c.take_up.ensures.tables (c.take_up.ensures.count ∙ c.in_ok-tree.ensures.count ∙ (c.release.ensures.count ∙ c.give_up.ensures.count ∙ c.loop-net.invariant.passing.count)) c.take_up.ensures.priced
      (λ w. omega (arith, c.take_up.ensures.users w, ap (λ (xs : List ℕ). get_or xs w 0) c.in_ok-tree.ensures.users)));
}
