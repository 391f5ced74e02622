use Rattle.std.proofs.Common.{length}
use Rattle.fab_compiled.proofs.evaluation.+entry.Given as goal

abbrev pub decreases-entry : goal.decreases-entry
decreases-entry l = length l.index.now
