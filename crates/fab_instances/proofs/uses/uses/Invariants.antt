use Rattle.std.proofs.Common.{◌+◌, not, length}
use Rattle.std.specs.List.{count_by}
use Rattle.fab_blif_models.specs.Plain.{plain_models}
use Rattle.fab_instances.proofs.Searching.{Searched}
use Rattle.fab_instances.proofs.uses.uses.Given as goal

abbrev pub invariant-loop-place : goal.invariant-loop-place
invariant-loop-place l = Searched (plain_models l.models) l.start (record { marks = l.marks.items; todo = l.todo.items })

-- each model is put on the list once
abbrev pub decreases-loop-place : goal.decreases-loop-place
decreases-loop-place l = count_by not l.marks.items + length l.todo.items
