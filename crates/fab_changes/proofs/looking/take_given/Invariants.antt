use Rattle.fab_changes.specs.Fanout.{HasTouched}
use Rattle.fab_changes.specs.inner.Looking.{HaveTaken}
use Rattle.fab_changes.proofs.looking.take_given.Given as goal

-- the inputs and flip-flops so far have what is given to them
abbrev pub invariant-loop-place : goal.invariant-loop-place
invariant-loop-place l = record {
  taken : HaveTaken l.taken l.place-index l.given l.fn.demand l.demand;
  fanout : HasTouched l.fn.demand.own l.fn.demand.terns l.demand.terns l.fn.fanout l.fanout;
  watches : HasTouched l.fn.demand.own l.fn.demand.terns l.demand.terns l.fn.watches l.watches;
}
