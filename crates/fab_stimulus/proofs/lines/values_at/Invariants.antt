use Rattle.std.proofs.Common.{◌≡◌, take}
use Rattle.fab_stimulus.specs.Stimuli.{values_at}
use Rattle.fab_stimulus.proofs.lines.values_at.Given as goal

abbrev pub invariant-loop-column : goal.invariant-loop-column
invariant-loop-column l = l.values.items ≡ values_at l.digits (take l.column-index l.columns)
