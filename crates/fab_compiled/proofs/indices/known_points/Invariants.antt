use Rattle.std.proofs.Common.{◌+◌, ◌-◌, ◌≤◌}
use Rattle.fab_solutions_laws.specs.fab_ternary_laws_Shown.{first_terns}
use Rattle.fab_compiled.specs.Terns.{seen}
use Rattle.fab_compiled.specs.inner.Indices.{IsNumberBelow}
use Rattle.fab_compiled.proofs.indices.known_points.Given as goal

-- the bits from the place on
abbrev pub invariant-loop-place : goal.invariant-loop-place
invariant-loop-place l = record {
  low : l.place ≤ l.count;
  so_far : IsNumberBelow (first_terns (l.count - l.place) (λ k. seen l.view.terns.now l.view.leads.now (l.start + (l.place + k)))) l.above l.number;
}

abbrev pub decreases-loop-place : goal.decreases-loop-place
decreases-loop-place l = l.place
