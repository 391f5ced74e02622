use Rattle.std.proofs.Common.{◌≤◌}
use Rattle.fab_stepping.specs.inner.Known.{bits_seen, AgreeFrom}
use Rattle.fab_stepping.proofs.known_bits.last_apart.Given as goal

-- the bits from the place on agree
abbrev pub invariant-loop-place : goal.invariant-loop-place
invariant-loop-place l = record {
  low : l.place ≤ l.end;
  so_far : AgreeFrom (bits_seen l.view.terns.now l.view.leads.now l.first l.left) (bits_seen l.view.terns.now l.view.leads.now l.first l.right) l.place l.end;
}

abbrev pub decreases-loop-place : goal.decreases-loop-place
decreases-loop-place l = l.place
