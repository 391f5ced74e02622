use Rattle.std.proofs.Common.{◌++◌, sym, ◌∙◌, ap, subst, arith}
use Rattle.fab_astar.specs.Scene.{scene_of}
use Rattle.fab_astar.specs.State.{cost}
use Rattle.fab_astar.specs.Tables.{state_of, prices}
use Rattle.fab_astar.proofs.Least.{IsGoingBack, going_begins, going_in, going_ends, going_on}
use Rattle.fab_astar.proofs.walks.walk_back.Goals as goal

pub back-init : goal.back-init
back-init g c = going_begins (scene_of (g.F.Field.graph c.args._field.now) (g.F.Field.rest c.args._field.now) c.args._guide c.args.tree.now.items (prices c.args.tables.now)) (c.args.tree.now.items ++ c.args._roots.now) (state_of c.args.tables.now) c.args.goal c.args.tree.now.items c.requires.seen

pub before-before-requires : goal.before-before-requires
before-before-requires g c = omega (arith, going_in (scene_of (g.F.Field.graph c.args._field.now) (g.F.Field.rest c.args._field.now) c.args._guide c.args.tree.now.items (prices c.args.tables.now)) (c.args.tree.now.items ++ c.args._roots.now) (state_of c.args.tables.now) c.args.goal c.args.tree.now.items c.back.tree.items c.push.new.self.items c.back.at c.requires.scene c.requires.shape c.requires.traced c.back.invariant c.in_ok-push.ensures.items, c.requires.count)

pub returns-then-before-at : goal.returns-then-before-at
returns-then-before-at g c = going_ends (scene_of (g.F.Field.graph c.args._field.now) (g.F.Field.rest c.args._field.now) c.args._guide c.args.tree.now.items (prices c.args.tables.now)) (c.args.tree.now.items ++ c.args._roots.now) (state_of c.args.tables.now) c.args.goal c.args.tree.now.items c.back.tree.items c.push.new.self.items c.back.at c.requires.scene c.requires.shape c.requires.traced c.back.invariant c.in_ok-push.ensures.items (sym c.before-before.ensures ∙ c.if-before-at.true)

pub back-smaller : goal.back-smaller
back-smaller g c = omega (arith, (going_on (scene_of (g.F.Field.graph c.args._field.now) (g.F.Field.rest c.args._field.now) c.args._guide c.args.tree.now.items (prices c.args.tables.now)) (c.args.tree.now.items ++ c.args._roots.now) (state_of c.args.tables.now) c.args.goal c.args.tree.now.items c.back.tree.items c.push.new.self.items c.back.at c.requires.scene c.requires.shape c.requires.traced c.back.invariant c.in_ok-push.ensures.items (λ e. c.if-before-at.false (c.before-before.ensures ∙ e))).1, ap (λ v. cost (state_of c.args.tables.now) v) c.before-before.ensures)

pub back-preserved : goal.back-preserved
back-preserved g c = subst (λ v. IsGoingBack (scene_of (g.F.Field.graph c.args._field.now) (g.F.Field.rest c.args._field.now) c.args._guide c.args.tree.now.items (prices c.args.tables.now)) (c.args.tree.now.items ++ c.args._roots.now) (state_of c.args.tables.now) c.args.goal c.args.tree.now.items c.push.new.self.items v) (sym c.before-before.ensures) (going_on (scene_of (g.F.Field.graph c.args._field.now) (g.F.Field.rest c.args._field.now) c.args._guide c.args.tree.now.items (prices c.args.tables.now)) (c.args.tree.now.items ++ c.args._roots.now) (state_of c.args.tables.now) c.args.goal c.args.tree.now.items c.back.tree.items c.push.new.self.items c.back.at c.requires.scene c.requires.shape c.requires.traced c.back.invariant c.in_ok-push.ensures.items (λ e. c.if-before-at.false (c.before-before.ensures ∙ e))).0
