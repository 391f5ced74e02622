use Rattle.fab_changes.specs.Fanout.{HasTouched}
use Rattle.fab_changes.specs.inner.Looking.{HasTakenGroup}
use Rattle.fab_changes.proofs.looking.take_values.Given as goal

-- the points so far have what was found
abbrev pub invariant-loop-place : goal.invariant-loop-place
invariant-loop-place l = record {
  taken : HasTakenGroup l.group l.place l.found l.fn.demand l.demand;
  fanout : HasTouched l.fn.demand.own l.fn.demand.terns l.demand.terns l.fn.fanout l.fanout;
  watches : HasTouched l.fn.demand.own l.fn.demand.terns l.demand.terns l.fn.watches l.watches;
}
