use Rattle.std.proofs.Common.{◌<◌, inl, inr, refl, ◌∙◌, arith}
use Rattle.std.proofs.lemmas.Bool.{cases_eq}
use Rattle.fab_astar.proofs.Near.{emptied, unchanged, as_long}
use Rattle.fab_astar.proofs.Queues.{all_empty, nothing_waits, emptied_queue}
use Rattle.fab_astar.proofs.queue.Queue.clear.Goals as goal

pub loop-at-preserved : goal.loop-at-preserved
loop-at-preserved c =
    let inside : c.loop-at.at < 65536 = omega (arith, c.requires.queue.top_in) in
    record {
      many = as_long c.loop-at.self.buckets.items c.loop-at.at c.clear.new.self ∙ c.loop-at.invariant.many;
      below = λ k l. elim (cases_eq k c.loop-at.at) [
        | inl e ↦ rw e (emptied c.loop-at.self.buckets.items c.loop-at.at c.clear.new.self (omega (arith, c.loop-at.invariant.many)) c.clear.ensures.items)
        | inr n ↦ unchanged c.loop-at.self.buckets.items c.loop-at.at k c.clear.new.self n ∙ c.loop-at.invariant.below k (omega arith)
      ];
      above = λ k l. unchanged c.loop-at.self.buckets.items c.loop-at.at k c.clear.new.self (omega arith) ∙ c.loop-at.invariant.above k l;
      same_top = c.loop-at.invariant.same_top;
    }

pub returns-clause-queue : goal.returns-clause-queue
returns-clause-queue c =
    emptied_queue _ c.loop-at.invariant.many (all_empty c.loop-at.self c.loop-at.at c.loop-at.invariant.below c.loop-at.invariant.above (omega (arith, c.loop-at.invariant.same_top))) c.clear-2.ensures.empty refl

pub returns-clause-empty : goal.returns-clause-empty
returns-clause-empty c = nothing_waits (record c.loop-at.self { now = 65536; top = 0; far = c.clear-2.new.self }) (all_empty c.loop-at.self c.loop-at.at c.loop-at.invariant.below c.loop-at.invariant.above (omega (arith, c.loop-at.invariant.same_top))) c.clear-2.ensures.empty
