use Rattle.std.proofs.Common.{◌+◌, ◌*◌, refl, arith}
use Rattle.std.specs.Vec.{with_item}
use Rattle.fab_astar.proofs.Near.{lent_longer}
use Rattle.fab_astar.proofs.Queues.{far_queue, far_pushed, near_queue, near_pushed, near_grows}
use Rattle.fab_astar.proofs.queue.Queue.push.Goals as goal

pub returns-then-key-ge-FAR-clause-queue : goal.returns-then-key-ge-FAR-clause-queue
returns-then-key-ge-FAR-clause-queue c = far_queue c.args.self.now _ c.args.key c.args.node c.requires.queue (omega arith) refl refl refl c.in_ok-insert.ensures.keys

pub returns-then-key-ge-FAR-clause-pushed : goal.returns-then-key-ge-FAR-clause-pushed
returns-then-key-ge-FAR-clause-pushed c = far_pushed c.args.self.now _ c.args.key c.args.node refl c.in_ok-insert.ensures.keys

pub returns-clause-queue : goal.returns-clause-queue
returns-clause-queue c =
    near_queue c.args.self.now _ (8 * c.args.key + c.args.tie) c.args.node c.requires.queue
    (lent_longer c.args.self.now.buckets.items (8 * c.args.key + c.args.tie) c.index_mut-bucket.result.now c.push.new.self c.args.node (omega (arith, c.requires.queue.many)) c.index_mut-bucket.ensures.value c.in_ok-push.ensures.items)
    c.min-self.ensures c.max-self.ensures refl

pub returns-clause-pushed : goal.returns-clause-pushed
returns-clause-pushed c =
    near_pushed c.args.self.now _ (8 * c.args.key + c.args.tie) c.args.key c.args.node
    (lent_longer c.args.self.now.buckets.items (8 * c.args.key + c.args.tie) c.index_mut-bucket.result.now c.push.new.self c.args.node (omega (arith, c.requires.queue.many)) c.index_mut-bucket.ensures.value c.in_ok-push.ensures.items)
    (omega arith) refl

pub returns-clause-size : goal.returns-clause-size
returns-clause-size c =
    near_grows c.args.self.now (record c.args.self.now { buckets = with_item c.args.self.now.buckets (8 * c.args.key + c.args.tie) c.push.new.self; now = c.min-self.result; top = c.max-self.result }) (8 * c.args.key + c.args.tie) c.args.node
    (lent_longer c.args.self.now.buckets.items (8 * c.args.key + c.args.tie) c.index_mut-bucket.result.now c.push.new.self c.args.node (omega (arith, c.requires.queue.many)) c.index_mut-bucket.ensures.value c.in_ok-push.ensures.items)
    refl
