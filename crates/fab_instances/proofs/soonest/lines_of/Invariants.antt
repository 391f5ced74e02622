use Rattle.std.proofs.Common.{◌≡◌, map}
use Rattle.fab_blif_models.specs.Plain.{plain_models, plain_statement}
use Rattle.fab_instances.specs.Uses.{lines_before}
use Rattle.fab_instances.proofs.soonest.lines_of.Given as goal

abbrev pub invariant-loop-place : goal.invariant-loop-place
invariant-loop-place l = map (λ line. plain_statement line.now) l.lines.items ≡ lines_before (plain_models l.models) l.marks l.place
