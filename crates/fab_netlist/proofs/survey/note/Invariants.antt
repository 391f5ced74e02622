use Rattle.std.proofs.Common.{◌≡◌, drop}
use Rattle.fab_netlist.specs.inner.Survey.{noted}
use Rattle.fab_netlist.proofs.survey.note.Given as goal

abbrev pub invariant-loop-place : goal.invariant-loop-place
invariant-loop-place l = noted l.place (drop l.place l.nets) l.table ≡ noted 0 l.nets l.fn.table
