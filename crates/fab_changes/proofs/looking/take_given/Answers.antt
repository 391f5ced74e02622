use Rattle.std.proofs.Common.{◌≡◌, ◌<◌, List, ℕ, length, refl, sym, ap, ◌∙◌, subst, arith, slice_index}
use Rattle.fab_network.specs.Passes.{kept_tern}
use Rattle.fab_changes.proofs.Lists.{kept_read}
use Rattle.fab_changes.proofs.Right.{taken_by, taken_one}
use Rattle.fab_changes.proofs.Touching.{touched_by, touched_then}
use Rattle.fab_changes.proofs.looking.take_given.Goals as goal

pub bounds-own-place : goal.bounds-own-place
bounds-own-place c =
    let place = slice_index c.args.taken.now c.loop-place.place-index in
    let within : place < length c.args.demand.now.own = c.requires.within place (c.loop-place.place-index, c.loop-place-test.true, refl) in
    let long : length c.own.result.now ≡ length c.args.demand.now.own = ap length (c.own.ensures ∙ c.loop-place.invariant.taken.points.own) in
    omega (arith, within, long)

pub bounds-given-point : goal.bounds-given-point
bounds-given-point c =
    let place = slice_index c.args.taken.now c.loop-place.place-index in
    let within : place < length c.args.demand.now.own = c.requires.within place (c.loop-place.place-index, c.loop-place-test.true, refl) in
    let inside : slice_index c.args.demand.now.own place < length c.args.given.now = omega (arith, (c.requires.own place within).0, c.requires.given) in
    subst (λ (own : List ℕ). slice_index own place < length c.args.given.now) (sym (c.own.ensures ∙ c.loop-place.invariant.taken.points.own)) inside

pub take-requires : goal.take-requires
take-requires c =
    let place = slice_index c.args.taken.now c.loop-place.place-index in
    let within : place < length c.args.demand.now.own = c.requires.within place (c.loop-place.place-index, c.loop-place-test.true, refl) in
    let long : length c.loop-place.demand.own ≡ length c.args.demand.now.own = ap length c.loop-place.invariant.taken.points.own in
    record { within = omega (arith, within, long) }

pub loop-place-preserved : goal.loop-place-preserved
loop-place-preserved c =
    let old = c.args.demand.now in
    let mid = c.loop-place.demand in
    let new = c.take.new.demand in
    let place = slice_index c.args.taken.now c.loop-place.place-index in
    let inv = c.loop-place.invariant in
    let same = inv.taken.points.own in
    let lent = c.own.ensures ∙ same in
    let within : place < length old.own = c.requires.within place (c.loop-place.place-index, c.loop-place-test.true, refl) in
    let inside : slice_index old.own place < length c.args.given.now = omega (arith, (c.requires.own place within).0, c.requires.given) in
    let given = c.args.given.now in
    let point : slice_index c.own.result.now place ≡ slice_index old.own place = ap (λ (own : List ℕ). slice_index own place) lent in
    record {
      taken = taken_one c.args.taken.now c.loop-place.place-index given old mid new
          (taken_by (slice_index mid.own place) (slice_index old.own place) _ _ mid new (ap (λ (own : List ℕ). slice_index own place) same)
          (kept_read given (slice_index c.own.result.now place) _ (omega (arith, inside, point)) ∙ ap (kept_tern given) point) c.take.ensures.taken)
          inv.taken;
      fanout = touched_then old.own old.terns mid.terns new.terns c.args.fanout.now c.loop-place.fanout c.take.new.fanout inv.fanout
          (touched_by old.own mid.own mid.terns new.terns mid.terns new.terns c.loop-place.fanout c.take.new.fanout same refl refl c.take.ensures.fanout);
      watches = touched_then old.own old.terns mid.terns new.terns c.args.watches.now c.loop-place.watches c.take.new.watches inv.watches
          (touched_by old.own mid.own mid.terns new.terns mid.terns new.terns c.loop-place.watches c.take.new.watches same refl refl c.take.ensures.watches);
    }
