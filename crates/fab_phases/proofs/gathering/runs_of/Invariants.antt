use Rattle.std.proofs.Common.{length}
use Rattle.fab_phases.proofs.Gathered.{AreRunsSoFar}
use Rattle.fab_phases.proofs.gathering.runs_of.Given as goal

abbrev pub decreases-runs : goal.decreases-runs
decreases-runs l = length l.rest

abbrev pub invariant-runs : goal.invariant-runs
invariant-runs l = AreRunsSoFar l.network l.demand l.latches l.rest l.runs.items
