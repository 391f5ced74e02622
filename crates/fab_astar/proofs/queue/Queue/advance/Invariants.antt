use Rattle.std.proofs.Common.{◌≡◌, ◌-◌}
use Rattle.fab_astar.specs.Queue.{IsQueue, near}
use Rattle.fab_astar.proofs.queue.Queue.advance.Given as goal

abbrev pub invariant-loop-self : goal.invariant-loop-self
invariant-loop-self l = record {
  queue : IsQueue l.self;
  near_same : near l.self ≡ near l.fn.self;
  far_same : l.self.far.keys ≡ l.fn.self.far.keys;
}

abbrev pub decreases-loop-self : goal.decreases-loop-self
decreases-loop-self l = l.self.top - l.self.now
