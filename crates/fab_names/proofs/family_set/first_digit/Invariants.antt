use Rattle.std.proofs.Common.{◌≤◌}
use Rattle.fab_names.proofs.Keys.{IsEdge}
use Rattle.fab_names.proofs.family_set.first_digit.Given as goal

abbrev pub invariant-loop-place : goal.invariant-loop-place
invariant-loop-place l = record { within : l.first ≤ l.place; edge : IsEdge l.base l.first }
