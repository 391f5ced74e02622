use Rattle.std.proofs.Common.{◌+◌, ◌++◌, length, get_or, refl, sym, ◌∙◌, subst, arith}
use Rattle.fab_astar.specs.Scene.{left, scene_of}
use Rattle.fab_astar.specs.State.{State, IsOffered}
use Rattle.fab_astar.specs.State.IsOffered.{passes, takes}
use Rattle.fab_astar.specs.Tables.{state_of, prices}
use Rattle.fab_astar.proofs.Keeping.{kept_same, kept_on, toll_is}
use Rattle.fab_astar.proofs.Seeding.{more_starts, seed_step, start_at, start_in, all_offered, toll_low}
use Rattle.fab_astar.proofs.explore.seed.Goals as goal

pub loop-start-init : goal.loop-start-init
loop-start-init g c = record {
  kept = kept_same c.args.tables.now;
  queue = c.requires.queue;
  seeded = more_starts (scene_of (g.F.Field.graph c.args.field.now) (g.F.Field.rest c.args.field.now) c.args.guide c.args._tree.now (prices c.args.tables.now)) c.args._before.now c.args.starts.now (state_of c.args.tables.now) c.args.tables.now.queue _ (omega arith) c.requires.seeded;
}

pub toll-cost-requires : goal.toll-cost-requires
toll-cost-requires g c = omega (arith, (c.requires.starts c.loop-start.start-index 0 (omega arith)), c.loop-start.invariant.kept.count, c.requires.count)

pub improves-requires : goal.improves-requires
improves-requires g c = omega (arith, (c.requires.starts c.loop-start.start-index 0 (omega arith)), c.loop-start.invariant.kept.count, c.requires.count)

pub left-requires : goal.left-requires
left-requires g c = (c.requires.starts c.loop-start.start-index 0 (omega arith))

pub take-requires-clause-node : goal.take-requires-clause-node
take-requires-clause-node g c = omega (arith, (c.requires.starts c.loop-start.start-index 0 (omega arith)), c.loop-start.invariant.kept.count, c.requires.count)

pub overflow_add-key : goal.overflow_add-key
overflow_add-key g c = omega (arith, (toll_is (g.F.Field.graph c.args.field.now) (g.F.Field.rest c.args.field.now) c.args.guide c.args._tree.now c.args.tables.now c.loop-start.tables (get_or c.args.starts.now c.loop-start.start-index 0) c.toll-cost.result c.loop-start.invariant.kept c.requires.held c.toll-cost.ensures), toll_low (scene_of (g.F.Field.graph c.args.field.now) (g.F.Field.rest c.args.field.now) c.args.guide c.args._tree.now (prices c.args.tables.now)) c.requires.scene (get_or c.args.starts.now c.loop-start.start-index 0) (c.requires.starts c.loop-start.start-index 0 (omega arith)), c.left.ensures, c.requires.scene.low (get_or c.args.starts.now c.loop-start.start-index 0) (c.requires.starts c.loop-start.start-index 0 (omega arith)))

pub loop-start-preserved-then-not-improves : goal.loop-start-preserved-then-not-improves
loop-start-preserved-then-not-improves g c = record {
  kept = c.loop-start.invariant.kept;
  queue = c.loop-start.invariant.queue;
  seeded = seed_step (scene_of (g.F.Field.graph c.args.field.now) (g.F.Field.rest c.args.field.now) c.args.guide c.args._tree.now (prices c.args.tables.now)) (c.args._before.now ++ c.args.starts.now) (state_of c.loop-start.tables) c.loop-start.tables.queue (length c.args._before.now + c.loop-start.start-index) (get_or c.args.starts.now c.loop-start.start-index 0) c.requires.scene c.loop-start.invariant.seeded (start_in c.args._before.now c.args.starts.now c.loop-start.start-index (omega arith)) (start_at c.args._before.now c.args.starts.now c.loop-start.start-index (get_or c.args.starts.now c.loop-start.start-index 0) refl) (c.requires.starts c.loop-start.start-index 0 (omega arith)) (state_of c.loop-start.tables) c.loop-start.tables.queue c.toll-cost.result (c.toll-cost.result + (left (g.F.Field.rest c.args.field.now) c.args.guide (get_or c.args.starts.now c.loop-start.start-index 0))) _ (omega arith) (toll_is (g.F.Field.graph c.args.field.now) (g.F.Field.rest c.args.field.now) c.args.guide c.args._tree.now c.args.tables.now c.loop-start.tables (get_or c.args.starts.now c.loop-start.start-index 0) c.toll-cost.result c.loop-start.invariant.kept c.requires.held c.toll-cost.ensures) refl (passes (sym c.improves.ensures ∙ c.if-not-improves.true));
}

pub loop-start-preserved : goal.loop-start-preserved
loop-start-preserved g c =
    let offered = subst (λ (t : State). IsOffered (state_of c.loop-start.tables) c.loop-start.tables.queue (get_or c.args.starts.now c.loop-start.start-index 0) c.toll-cost.result (get_or c.args.starts.now c.loop-start.start-index 0) (c.toll-cost.result + c.left.result) t c.take.new.self.queue) (sym c.in_ok-take.ensures.taken) (takes (sym c.improves.ensures ∙ c.if-not-improves.false) c.in_ok-take.ensures.pushed) in
    record {
      kept = kept_on c.args.tables.now c.loop-start.tables c.take.new.self c.loop-start.invariant.kept c.in_ok-take.ensures.kept;
      queue = c.in_ok-take.ensures.queue;
      seeded = seed_step (scene_of (g.F.Field.graph c.args.field.now) (g.F.Field.rest c.args.field.now) c.args.guide c.args._tree.now (prices c.args.tables.now)) (c.args._before.now ++ c.args.starts.now) (state_of c.loop-start.tables) c.loop-start.tables.queue (length c.args._before.now + c.loop-start.start-index) (get_or c.args.starts.now c.loop-start.start-index 0) c.requires.scene c.loop-start.invariant.seeded (start_in c.args._before.now c.args.starts.now c.loop-start.start-index (omega arith)) (start_at c.args._before.now c.args.starts.now c.loop-start.start-index (get_or c.args.starts.now c.loop-start.start-index 0) refl) (c.requires.starts c.loop-start.start-index 0 (omega arith)) (state_of c.take.new.self) c.take.new.self.queue c.toll-cost.result (c.toll-cost.result + c.left.result) _ (omega arith) (toll_is (g.F.Field.graph c.args.field.now) (g.F.Field.rest c.args.field.now) c.args.guide c.args._tree.now c.args.tables.now c.loop-start.tables (get_or c.args.starts.now c.loop-start.start-index 0) c.toll-cost.result c.loop-start.invariant.kept c.requires.held c.toll-cost.ensures) (omega (arith, c.left.ensures)) offered;
    }

pub returns-clause-seeded : goal.returns-clause-seeded
returns-clause-seeded g c = all_offered (scene_of (g.F.Field.graph c.args.field.now) (g.F.Field.rest c.args.field.now) c.args.guide c.args._tree.now (prices c.args.tables.now)) c.args._before.now c.args.starts.now (state_of c.loop-start.tables) c.loop-start.tables.queue c.loop-start.start-index (omega arith) c.loop-start.invariant.seeded
