use Rattle.std.proofs.Common.{ℕ, List, ◌++◌, sym, ◌∙◌, ap, subst, arith}
use Rattle.std.proofs.lemmas.Bool.{false≢true}
use Rattle.fab_astar.specs.Queue.{size}
use Rattle.fab_astar.specs.Scene.{IsScene, scene_of}
use Rattle.fab_astar.specs.State.{cost, unsettled}
use Rattle.fab_astar.specs.Tables.{state_of, prices}
use Rattle.fab_astar.proofs.Keeping.{kept_same, kept_on, kept_requeued, held_kept, if_some, if_none}
use Rattle.fab_astar.proofs.Noted.{noted_is}
use Rattle.fab_astar.proofs.Turning.{turning_begins, u_inside, u_low, skipped, over_least, over_none, over_seen, now_search, now_closing, fewer, turned, ends_none, ends_least, is_seen}
use Rattle.fab_astar.proofs.explore.explore.Goals as goal

pub turns-init : goal.turns-init
turns-init g c = record {
  kept = kept_same c.args.tables.now;
  queue = c.requires.queue;
  turning = turning_begins (scene_of (g.F.Field.graph c.args.field.now) (g.F.Field.rest c.args.field.now) c.args.guide c.args.tree.now (prices c.args.tables.now)) (c.args.tree.now ++ c.args.roots.now) c.args.goals.now (state_of c.args.tables.now) c.args.tables.now.queue _ (omega arith) c.requires.seeded;
}

pub is_open-requires : goal.is_open-requires
is_open-requires g c = omega (arith, u_inside (scene_of (g.F.Field.graph c.args.field.now) (g.F.Field.rest c.args.field.now) c.args.guide c.args.tree.now (prices c.args.tables.now)) (c.args.tree.now ++ c.args.roots.now) c.args.goals.now (state_of c.turns.tables) c.turns.tables.queue c.turns.best.limit c.turns.best.end c.requires.scene c.requires.near c.turns.invariant.turning c.pop.new.self c.in-Some.key c.in-Some.node c.in-Some.ensures.popped, c.turns.invariant.kept.count, c.requires.count)

pub turns-smaller-then-not-is_open : goal.turns-smaller-then-not-is_open
turns-smaller-then-not-is_open g c = omega (arith, c.in-Some.ensures.size)

pub turns-preserved-then-not-is_open : goal.turns-preserved-then-not-is_open
turns-preserved-then-not-is_open g c = record {
  kept = (kept_requeued c.args.tables.now c.turns.tables c.pop.new.self c.turns.invariant.kept);
  queue = c.pop.ensures.queue;
  turning = skipped (scene_of (g.F.Field.graph c.args.field.now) (g.F.Field.rest c.args.field.now) c.args.guide c.args.tree.now (prices c.args.tables.now)) (c.args.tree.now ++ c.args.roots.now) c.args.goals.now (state_of c.turns.tables) c.turns.tables.queue c.turns.best.limit c.turns.best.end c.requires.scene c.requires.near c.turns.invariant.turning c.pop.new.self c.in-Some.key c.in-Some.node c.in-Some.ensures.popped (λ o. false≢true (sym c.if-not-is_open.true ∙ c.is_open.ensures.1 o));
}

pub cost-requires : goal.cost-requires
cost-requires g c = omega (arith, u_inside (scene_of (g.F.Field.graph c.args.field.now) (g.F.Field.rest c.args.field.now) c.args.guide c.args.tree.now (prices c.args.tables.now)) (c.args.tree.now ++ c.args.roots.now) c.args.goals.now (state_of c.turns.tables) c.turns.tables.queue c.turns.best.limit c.turns.best.end c.requires.scene c.requires.near c.turns.invariant.turning c.pop.new.self c.in-Some.key c.in-Some.node c.in-Some.ensures.popped, c.turns.invariant.kept.count, c.requires.count)

pub noted-best-requires : goal.noted-best-requires
noted-best-requires g c = omega (arith, u_low (scene_of (g.F.Field.graph c.args.field.now) (g.F.Field.rest c.args.field.now) c.args.guide c.args.tree.now (prices c.args.tables.now)) (c.args.tree.now ++ c.args.roots.now) c.args.goals.now (state_of c.turns.tables) c.turns.tables.queue c.turns.best.limit c.turns.best.end c.requires.scene c.requires.near c.turns.invariant.turning c.pop.new.self c.in-Some.key c.in-Some.node c.in-Some.ensures.popped, c.cost.ensures)

pub returns-then-best-key-clause-kept : goal.returns-then-best-key-clause-kept
returns-then-best-key-clause-kept g c = (kept_requeued c.args.tables.now c.turns.tables c.pop.new.self c.turns.invariant.kept)

pub returns-then-best-key-clause-shape : goal.returns-then-best-key-clause-shape
returns-then-best-key-clause-shape g c = c.turns.invariant.turning.search.shape

pub returns-then-best-key-clause-traced : goal.returns-then-best-key-clause-traced
returns-then-best-key-clause-traced g c = c.turns.invariant.turning.search.traced

pub returns-then-best-key-clause-seen : goal.returns-then-best-key-clause-seen
returns-then-best-key-clause-seen g c = if_some c.noted-best.result.end _ (λ goal is. (over_seen (scene_of (g.F.Field.graph c.args.field.now) (g.F.Field.rest c.args.field.now) c.args.guide c.args.tree.now (prices c.args.tables.now)) (c.args.tree.now ++ c.args.roots.now) c.args.goals.now (state_of c.turns.tables) c.turns.tables.queue c.turns.best.limit c.turns.best.end c.requires.scene c.requires.near c.turns.invariant.turning c.pop.new.self c.in-Some.key c.in-Some.node c.in-Some.ensures.popped (c.is_open.ensures.0 c.if-not-is_open.false) c.noted-best.result.limit c.noted-best.result.end (noted_is c.args.goals.now c.in-Some.node c.cost.result (cost (state_of c.turns.tables) c.in-Some.node) c.turns.best c.noted-best.result c.cost.ensures c.noted-best.ensures.lower c.noted-best.ensures.goal c.noted-best.ensures.cases) goal is).0)

pub returns-then-best-key-clause-goal : goal.returns-then-best-key-clause-goal
returns-then-best-key-clause-goal g c = if_some c.noted-best.result.end _ (λ goal is. (over_seen (scene_of (g.F.Field.graph c.args.field.now) (g.F.Field.rest c.args.field.now) c.args.guide c.args.tree.now (prices c.args.tables.now)) (c.args.tree.now ++ c.args.roots.now) c.args.goals.now (state_of c.turns.tables) c.turns.tables.queue c.turns.best.limit c.turns.best.end c.requires.scene c.requires.near c.turns.invariant.turning c.pop.new.self c.in-Some.key c.in-Some.node c.in-Some.ensures.popped (c.is_open.ensures.0 c.if-not-is_open.false) c.noted-best.result.limit c.noted-best.result.end (noted_is c.args.goals.now c.in-Some.node c.cost.result (cost (state_of c.turns.tables) c.in-Some.node) c.turns.best c.noted-best.result c.cost.ensures c.noted-best.ensures.lower c.noted-best.ensures.goal c.noted-best.ensures.cases) goal is).1)

pub returns-then-best-key-clause-least : goal.returns-then-best-key-clause-least
returns-then-best-key-clause-least g c = if_some c.noted-best.result.end _ (over_least (scene_of (g.F.Field.graph c.args.field.now) (g.F.Field.rest c.args.field.now) c.args.guide c.args.tree.now (prices c.args.tables.now)) (c.args.tree.now ++ c.args.roots.now) c.args.goals.now (state_of c.turns.tables) c.turns.tables.queue c.turns.best.limit c.turns.best.end c.requires.scene c.requires.near c.turns.invariant.turning c.pop.new.self c.in-Some.key c.in-Some.node c.in-Some.ensures.popped (c.is_open.ensures.0 c.if-not-is_open.false) c.noted-best.result.limit c.noted-best.result.end (noted_is c.args.goals.now c.in-Some.node c.cost.result (cost (state_of c.turns.tables) c.in-Some.node) c.turns.best c.noted-best.result c.cost.ensures c.noted-best.ensures.lower c.noted-best.ensures.goal c.noted-best.ensures.cases) (omega arith))

pub returns-then-best-key-clause-none : goal.returns-then-best-key-clause-none
returns-then-best-key-clause-none g c = if_none c.noted-best.result.end _ (over_none (scene_of (g.F.Field.graph c.args.field.now) (g.F.Field.rest c.args.field.now) c.args.guide c.args.tree.now (prices c.args.tables.now)) (c.args.tree.now ++ c.args.roots.now) c.args.goals.now (state_of c.turns.tables) c.turns.tables.queue c.turns.best.limit c.turns.best.end c.requires.scene c.requires.near c.turns.invariant.turning c.pop.new.self c.in-Some.key c.in-Some.node c.in-Some.ensures.popped (c.is_open.ensures.0 c.if-not-is_open.false) c.noted-best.result.limit c.noted-best.result.end (noted_is c.args.goals.now c.in-Some.node c.cost.result (cost (state_of c.turns.tables) c.in-Some.node) c.turns.best c.noted-best.result c.cost.ensures c.noted-best.ensures.lower c.noted-best.ensures.goal c.noted-best.ensures.cases) (omega arith))

pub settle-requires-clause-node : goal.settle-requires-clause-node
settle-requires-clause-node g c = omega (arith, u_inside (scene_of (g.F.Field.graph c.args.field.now) (g.F.Field.rest c.args.field.now) c.args.guide c.args.tree.now (prices c.args.tables.now)) (c.args.tree.now ++ c.args.roots.now) c.args.goals.now (state_of c.turns.tables) c.turns.tables.queue c.turns.best.limit c.turns.best.end c.requires.scene c.requires.near c.turns.invariant.turning c.pop.new.self c.in-Some.key c.in-Some.node c.in-Some.ensures.popped, c.turns.invariant.kept.count, c.requires.count)

pub settle-requires-clause-small : goal.settle-requires-clause-small
settle-requires-clause-small g c = c.turns.invariant.turning.search.shape.small

pub relax-requires-clause-scene : goal.relax-requires-clause-scene
relax-requires-clause-scene g c = subst (λ (ps : List ℕ). IsScene (scene_of (g.F.Field.graph c.args.field.now) (g.F.Field.rest c.args.field.now) c.args.guide c.args.tree.now ps)) (sym (c.settle.ensures.kept.price ∙ c.turns.invariant.kept.price)) c.requires.scene

pub relax-requires-clause-count : goal.relax-requires-clause-count
relax-requires-clause-count g c = c.settle.ensures.kept.count ∙ c.turns.invariant.kept.count ∙ c.requires.count

pub relax-requires-clause-held : goal.relax-requires-clause-held
relax-requires-clause-held g c = λ node. held_kept c.args.tables.now c.settle.new.self (kept_on c.args.tables.now (record c.turns.tables { queue = c.pop.new.self }) c.settle.new.self (kept_requeued c.args.tables.now c.turns.tables c.pop.new.self c.turns.invariant.kept) c.settle.ensures.kept) node ∙ c.requires.held node

pub relax-requires-clause-queue : goal.relax-requires-clause-queue
relax-requires-clause-queue g c = rw c.settle.ensures.queue c.pop.ensures.queue

pub relax-requires-clause-search : goal.relax-requires-clause-search
relax-requires-clause-search g c = rw ((c.settle.ensures.kept.price ∙ c.turns.invariant.kept.price), c.settle.ensures.settled, c.settle.ensures.queue) (now_search (scene_of (g.F.Field.graph c.args.field.now) (g.F.Field.rest c.args.field.now) c.args.guide c.args.tree.now (prices c.args.tables.now)) (c.args.tree.now ++ c.args.roots.now) c.args.goals.now (state_of c.turns.tables) c.turns.tables.queue c.turns.best.limit c.turns.best.end c.requires.scene c.requires.near c.turns.invariant.turning c.pop.new.self c.in-Some.key c.in-Some.node c.in-Some.ensures.popped (c.is_open.ensures.0 c.if-not-is_open.false) c.noted-best.result.limit c.noted-best.result.end (noted_is c.args.goals.now c.in-Some.node c.cost.result (cost (state_of c.turns.tables) c.in-Some.node) c.turns.best c.noted-best.result c.cost.ensures c.noted-best.ensures.lower c.noted-best.ensures.goal c.noted-best.ensures.cases))

pub relax-requires-clause-closing : goal.relax-requires-clause-closing
relax-requires-clause-closing g c = rw ((c.settle.ensures.kept.price ∙ c.turns.invariant.kept.price), c.settle.ensures.settled) (now_closing (scene_of (g.F.Field.graph c.args.field.now) (g.F.Field.rest c.args.field.now) c.args.guide c.args.tree.now (prices c.args.tables.now)) (c.args.tree.now ++ c.args.roots.now) c.args.goals.now (state_of c.turns.tables) c.turns.tables.queue c.turns.best.limit c.turns.best.end c.requires.scene c.requires.near c.turns.invariant.turning c.pop.new.self c.in-Some.key c.in-Some.node c.in-Some.ensures.popped (c.is_open.ensures.0 c.if-not-is_open.false) c.noted-best.result.limit c.noted-best.result.end (noted_is c.args.goals.now c.in-Some.node c.cost.result (cost (state_of c.turns.tables) c.in-Some.node) c.turns.best c.noted-best.result c.cost.ensures c.noted-best.ensures.lower c.noted-best.ensures.goal c.noted-best.ensures.cases))

pub turns-smaller : goal.turns-smaller
turns-smaller g c = omega (arith, fewer (scene_of (g.F.Field.graph c.args.field.now) (g.F.Field.rest c.args.field.now) c.args.guide c.args.tree.now (prices c.args.tables.now)) (c.args.tree.now ++ c.args.roots.now) c.args.goals.now (state_of c.turns.tables) c.turns.tables.queue c.turns.best.limit c.turns.best.end c.requires.scene c.requires.near c.turns.invariant.turning c.pop.new.self c.in-Some.key c.in-Some.node c.in-Some.ensures.popped (c.is_open.ensures.0 c.if-not-is_open.false) c.noted-best.result.limit c.noted-best.result.end (noted_is c.args.goals.now c.in-Some.node c.cost.result (cost (state_of c.turns.tables) c.in-Some.node) c.turns.best c.noted-best.result c.cost.ensures c.noted-best.ensures.lower c.noted-best.ensures.goal c.noted-best.ensures.cases), ap unsettled c.settle.ensures.settled, c.in_ok-relax.ensures.grows.left, c.in_ok-relax.ensures.size, ap size c.settle.ensures.queue, c.in-Some.ensures.size)

pub turns-preserved : goal.turns-preserved
turns-preserved g c = record {
  kept = kept_on c.args.tables.now c.settle.new.self c.relax.new.tables (kept_on c.args.tables.now (record c.turns.tables { queue = c.pop.new.self }) c.settle.new.self (kept_requeued c.args.tables.now c.turns.tables c.pop.new.self c.turns.invariant.kept) c.settle.ensures.kept) c.in_ok-relax.ensures.kept;
  queue = c.in_ok-relax.ensures.queue;
  turning = turned (scene_of (g.F.Field.graph c.args.field.now) (g.F.Field.rest c.args.field.now) c.args.guide c.args.tree.now (prices c.args.tables.now)) (c.args.tree.now ++ c.args.roots.now) c.args.goals.now (state_of c.turns.tables) c.turns.tables.queue c.turns.best.limit c.turns.best.end c.requires.scene c.requires.near c.turns.invariant.turning c.pop.new.self c.in-Some.key c.in-Some.node c.in-Some.ensures.popped (c.is_open.ensures.0 c.if-not-is_open.false) c.noted-best.result.limit c.noted-best.result.end (noted_is c.args.goals.now c.in-Some.node c.cost.result (cost (state_of c.turns.tables) c.in-Some.node) c.turns.best c.noted-best.result c.cost.ensures c.noted-best.ensures.lower c.noted-best.ensures.goal c.noted-best.ensures.cases) (state_of c.relax.new.tables) c.relax.new.tables.queue (rw (c.settle.ensures.kept.price ∙ c.turns.invariant.kept.price) at c.in_ok-relax.ensures.search) (rw (c.settle.ensures.kept.price ∙ c.turns.invariant.kept.price) at c.in_ok-relax.ensures.closed) (rw c.settle.ensures.settled at c.in_ok-relax.ensures.grows);
}

pub returns-clause-kept : goal.returns-clause-kept
returns-clause-kept g c = (kept_requeued c.args.tables.now c.turns.tables c.pop.new.self c.turns.invariant.kept)

pub returns-clause-shape : goal.returns-clause-shape
returns-clause-shape g c = c.turns.invariant.turning.search.shape

pub returns-clause-traced : goal.returns-clause-traced
returns-clause-traced g c = c.turns.invariant.turning.search.traced

pub returns-clause-seen : goal.returns-clause-seen
returns-clause-seen g c = if_some c.turns.best.end _ (λ goal is. (is_seen c.args.goals.now (state_of c.turns.tables) c.turns.best.limit c.turns.best.end c.turns.invariant.turning.found goal is).0)

pub returns-clause-goal : goal.returns-clause-goal
returns-clause-goal g c = if_some c.turns.best.end _ (λ goal is. (is_seen c.args.goals.now (state_of c.turns.tables) c.turns.best.limit c.turns.best.end c.turns.invariant.turning.found goal is).1)

pub returns-clause-least : goal.returns-clause-least
returns-clause-least g c = if_some c.turns.best.end _ (ends_least (scene_of (g.F.Field.graph c.args.field.now) (g.F.Field.rest c.args.field.now) c.args.guide c.args.tree.now (prices c.args.tables.now)) (c.args.tree.now ++ c.args.roots.now) c.args.goals.now (state_of c.turns.tables) c.turns.tables.queue c.turns.best.limit c.turns.best.end c.requires.scene c.requires.near c.turns.invariant.turning c.in_default.ensures.none)

pub returns-clause-none : goal.returns-clause-none
returns-clause-none g c = if_none c.turns.best.end _ (ends_none (scene_of (g.F.Field.graph c.args.field.now) (g.F.Field.rest c.args.field.now) c.args.guide c.args.tree.now (prices c.args.tables.now)) (c.args.tree.now ++ c.args.roots.now) c.args.goals.now (state_of c.turns.tables) c.turns.tables.queue c.turns.best.limit c.turns.best.end c.requires.scene c.requires.near c.turns.invariant.turning c.in_default.ensures.none)
