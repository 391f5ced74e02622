use Rattle.std.proofs.Common.{◌-◌, [], get_or, refl, ◌∙◌, arith}
use Rattle.fab_astar.specs.Tables.{prices, price_of}
use Rattle.fab_pathfinder.specs.Plain.{goals_of}
use Rattle.fab_pathfinder.proofs.Sinks.{reached_more, reached_walks, sink_goals, goals_long, cut_off_at, adds_at}
use Rattle.fab_pathfinder.proofs.grow.grow.Goals as goal

pub returns-then-not-branch-clause-apart : goal.returns-then-not-branch-clause-apart
returns-then-not-branch-clause-apart g c =
    cut_off_at (g.F.Field.graph c.args.field.now) c.args.net.now.roots.items c.deref.result.now c.loop-number.nodes.items (get_or (goals_of c.args.net.now.sinks.items) c.loop-number.number []) c.deref-in-loop-number.result.now c.deref.ensures.value (c.deref-in-loop-number.ensures.value ∙ sink_goals c.args.net.now.sinks.items c.loop-number.number c.index-sink.result.now (omega arith) c.index-sink.ensures) (rw c.if-not-branch.true at c.in_ok-least_walk.ensures.none)

pub returns-then-not-branch-clause-before : goal.returns-then-not-branch-clause-before
returns-then-not-branch-clause-before g c = λ s l.
    reached_walks (g.F.Field.graph c.args.field.now) c.args.net.now.roots.items (price_of c.args.tables.now) (goals_of c.args.net.now.sinks.items) c.loop-number.nodes.items c.loop-number.lengths.items c.loop-number.number s c.loop-number.invariant.reached (omega (arith, goals_long c.args.net.now.sinks.items)) l

pub loop-number-preserved : goal.loop-number-preserved
loop-number-preserved g c = record {
  tables = c.in_ok-least_walk.ensures.tables;
  count = c.in_ok-least_walk.ensures.count ∙ c.loop-number.invariant.count;
  price = c.in_ok-least_walk.ensures.price ∙ c.loop-number.invariant.price;
  users = c.in_ok-least_walk.ensures.users ∙ c.loop-number.invariant.users;
  held = rw c.if-not-branch.false at c.in_ok-least_walk.ensures.held;
  inside = c.in_ok-least_walk.ensures.inside;
  reached =
      reached_more (g.F.Field.graph c.args.field.now) c.args.net.now.roots.items (price_of c.args.tables.now) (goals_of c.args.net.now.sinks.items) c.loop-number.nodes.items c.loop-number.lengths.items c.loop-number.number (get_or (goals_of c.args.net.now.sinks.items) c.loop-number.number []) c.least_walk.new.tree.items c.push.new.self.items (c.len.result - c.len-from.result)
      (omega (arith, goals_long c.args.net.now.sinks.items)) refl c.loop-number.invariant.reached
      (adds_at (g.F.Field.graph c.args.field.now) c.args.net.now.roots.items c.deref.result.now (prices c.args.tables.now) (prices c.loop-number.tables) (get_or (goals_of c.args.net.now.sinks.items) c.loop-number.number []) c.deref-in-loop-number.result.now c.loop-number.nodes.items c.least_walk.new.tree.items c.deref.ensures.value c.loop-number.invariant.price (c.deref-in-loop-number.ensures.value ∙ sink_goals c.args.net.now.sinks.items c.loop-number.number c.index-sink.result.now (omega arith) c.index-sink.ensures) (rw c.if-not-branch.false at c.in_ok-least_walk.ensures.found))
      (omega (arith, c.len.ensures, c.len-from.ensures)) c.in_ok-push.ensures.items;
}
