use Rattle.std.proofs.Common.{◌<◌, ℕ}
use Rattle.fab_blif_models.specs.Plain.{plain_models}
use Rattle.fab_instances.specs.Uses.{IsMarked}
use Rattle.fab_instances.proofs.Levels.{AllStay}
use Rattle.fab_instances.proofs.ranks.never_falls.Given as goal

abbrev pub invariant-loop-place : goal.invariant-loop-place
invariant-loop-place l = (before : ℕ) → before < l.place → IsMarked l.used before → AllStay (plain_models l.models) l.ranks before
