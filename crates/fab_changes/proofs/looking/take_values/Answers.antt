use Rattle.std.proofs.Common.{◌-◌, List, ℕ, refl, ap, arith, slice_index}
use Rattle.fab_changes.proofs.Lists.{kept_read}
use Rattle.fab_changes.proofs.Right.{group_more, taken_by}
use Rattle.fab_changes.proofs.Touching.{touched_by, touched_then}
use Rattle.fab_changes.proofs.looking.take_values.Goals as goal

pub loop-place-preserved : goal.loop-place-preserved
loop-place-preserved c =
    let old = c.args.demand.now in
    let mid = c.loop-place.demand in
    let new = c.take.new.demand in
    let place = c.loop-place.place in
    let inv = c.loop-place.invariant in
    let same = inv.taken.points.own in
    record {
      taken = group_more c.args.group c.args.found.now old mid new place (record { low = omega arith; below = omega arith })
          (λ other inside early. c.requires.once other place early (omega (arith, c.loop-place-test.true, c.requires.ends)))
          (taken_by (slice_index mid.own place) (slice_index old.own place) _ _ mid new (ap (λ (own : List ℕ). slice_index own place) same)
          (kept_read c.args.found.now (place - c.args.group.begin) _ (omega (arith, c.requires.room))) c.take.ensures.taken)
          inv.taken;
      fanout = touched_then old.own old.terns mid.terns new.terns c.args.fanout.now c.loop-place.fanout c.take.new.fanout inv.fanout
          (touched_by old.own mid.own mid.terns new.terns mid.terns new.terns c.loop-place.fanout c.take.new.fanout same refl refl c.take.ensures.fanout);
      watches = touched_then old.own old.terns mid.terns new.terns c.args.watches.now c.loop-place.watches c.take.new.watches inv.watches
          (touched_by old.own mid.own mid.terns new.terns mid.terns new.terns c.loop-place.watches c.take.new.watches same refl refl c.take.ensures.watches);
    }
