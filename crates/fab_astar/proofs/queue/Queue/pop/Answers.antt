use Rattle.std.proofs.Common.{refl, arith}
use Rattle.std.specs.Vec.{with_item}
use Rattle.fab_astar.proofs.Near.{lent_shorter}
use Rattle.fab_astar.proofs.Queues.{far_less, far_popped, near_popped, shorter_queue, popped_after, shrinks}
use Rattle.fab_astar.proofs.queue.Queue.pop.Goals as goal

pub returns-then-self-clause-queue : goal.returns-then-self-clause-queue
returns-then-self-clause-queue c = far_less c.advance.new.self _ c.in-Some.key c.in-Some.node c.advance.ensures.queue refl refl refl c.in-Some.ensures.removal

pub returns-then-self-clause-popped : goal.returns-then-self-clause-popped
returns-then-self-clause-popped c =
    popped_after c.args.self.now c.advance.new.self _ c.in-Some.key c.in-Some.node c.advance.ensures.near c.advance.ensures.far
    (far_popped c.advance.new.self _ c.in-Some.key c.in-Some.node c.advance.ensures.queue c.if-self.true refl c.in-Some.ensures.removal c.in-Some.ensures.all_above)

pub returns-clause-queue : goal.returns-clause-queue
returns-clause-queue c =
    shorter_queue c.advance.new.self _ c.advance.new.self.now c.in-Some-pop.node c.advance.ensures.queue refl c.if-self.false
    (lent_shorter c.advance.new.self.buckets.items c.advance.new.self.now c.index_mut-bucket.result.now c.pop.new.self c.in-Some-pop.node (omega (arith, c.if-self.false, c.advance.ensures.queue.many, c.advance.ensures.queue.top_in)) c.index_mut-bucket.ensures.value c.in-Some-pop.ensures.items)
    refl refl refl

pub returns-clause-popped : goal.returns-clause-popped
returns-clause-popped c =
    popped_after c.args.self.now c.advance.new.self _ _ c.in-Some-pop.node c.advance.ensures.near c.advance.ensures.far
    (near_popped c.advance.new.self _ c.advance.new.self.now c.in-Some-pop.node c.advance.ensures.queue refl c.if-self.false
    (lent_shorter c.advance.new.self.buckets.items c.advance.new.self.now c.index_mut-bucket.result.now c.pop.new.self c.in-Some-pop.node (omega (arith, c.if-self.false, c.advance.ensures.queue.many, c.advance.ensures.queue.top_in)) c.index_mut-bucket.ensures.value c.in-Some-pop.ensures.items)
    refl)

pub returns-clause-size : goal.returns-clause-size
returns-clause-size c =
    shrinks c.args.self.now c.advance.new.self (record c.advance.new.self { buckets = with_item c.advance.new.self.buckets c.advance.new.self.now c.pop.new.self }) c.advance.new.self.now c.in-Some-pop.node c.advance.ensures.near c.advance.ensures.far
    (lent_shorter c.advance.new.self.buckets.items c.advance.new.self.now c.index_mut-bucket.result.now c.pop.new.self c.in-Some-pop.node (omega (arith, c.if-self.false, c.advance.ensures.queue.many, c.advance.ensures.queue.top_in)) c.index_mut-bucket.ensures.value c.in-Some-pop.ensures.items)
    refl
