use Rattle.std.proofs.Common.{◌≡◌, [], vec_len, sym, ◌∙◌, arith, eqb-true}
use Rattle.fab_astar.proofs.Near.{lent, inside_near, empty_list}
use Rattle.fab_astar.proofs.Queues.{advanced}
use Rattle.fab_astar.proofs.queue.Queue.advance.Goals as goal

pub loop-self-preserved : goal.loop-self-preserved
loop-self-preserved c =
    let q = c.loop-self.invariant.queue in
    let inside = inside_near c.loop-self.self.buckets.items c.loop-self.self.now (omega (arith, q.many, q.top_in)) in
    let empty : c.index.result.now.items ≡ [] = empty_list c.index.result.now.items (omega (arith, eqb-true (vec_len c.index.result.now) 0 (sym c.if-is_empty.ensures))) in
    record {
      queue = advanced c.loop-self.self q (sym (lent c.loop-self.self.buckets.items c.loop-self.self.now c.index.result.now inside c.index.ensures) ∙ empty);
      near_same = c.loop-self.invariant.near_same;
      far_same = c.loop-self.invariant.far_same;
    }
