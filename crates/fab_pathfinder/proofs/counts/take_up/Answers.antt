use Rattle.std.proofs.Common.{ℕ, List, get_or, refl, sym, ◌∙◌, ap, arith}
use Rattle.fab_astar.specs.Tables.{users_of}
use Rattle.fab_pathfinder.proofs.Counting.{held_more, taken}
use Rattle.fab_pathfinder.proofs.counts.take_up.Goals as goal

pub loop-node-preserved : goal.loop-node-preserved
loop-node-preserved c = record {
  tables = c.recount.ensures.tables;
  count = c.recount.ensures.charged.count ∙ c.hold.ensures.held.count ∙ c.loop-node.invariant.count;
  priced = c.recount.ensures.priced;
  held = held_more c.args.nodes.now c.loop-node.node-index (get_or c.args.nodes.now c.loop-node.node-index 0) c.loop-node.tables c.hold.new.self c.recount.new.tables _ _ refl (omega arith) c.loop-node.invariant.held (sym c.is_held.ensures ∙ c.if-is_held.false) c.hold.ensures.held c.recount.ensures.charged;
  users = taken c.args.nodes.now c.loop-node.node-index (get_or c.args.nodes.now c.loop-node.node-index 0) c.loop-node.tables c.hold.new.self c.recount.new.tables _ _ refl (omega arith) c.loop-node.invariant.held (sym c.is_held.ensures ∙ c.if-is_held.false) c.hold.ensures.held c.recount.ensures.charged (λ w. users_of c.args.tables.now w) c.loop-node.invariant.users (omega (arith, c.users-users.ensures, ap (λ (xs : List ℕ). get_or xs (get_or c.args.nodes.now c.loop-node.node-index 0) 0) c.hold.ensures.held.users));
}
