use Rattle.std.proofs.Common.{◌+◌, ◌-◌, length}
use Rattle.fab_legal.specs.inner.Tables.{missing}
use Rattle.fab_legal.proofs.ReachSearch.{Searching}
use Rattle.fab_legal.proofs.reach.put_reached.Given as goal

abbrev pub invariant-loop-next : goal.invariant-loop-next
invariant-loop-next l = Searching l._edges l.set.keys l.next

abbrev pub decreases-loop-next : goal.decreases-loop-next
decreases-loop-next l = missing l._edges l.set.keys + (length l.set.keys - l.next)
