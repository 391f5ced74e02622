use Rattle.fab_phases.proofs.Ticking.{RunsSoFar}
use Rattle.fab_phases.proofs.ticks.take_runs.Given as goal

abbrev pub invariant-loop-run : goal.invariant-loop-run
invariant-loop-run l = RunsSoFar l.network l.runs l.demand l.run-index l.fn.given l.given
