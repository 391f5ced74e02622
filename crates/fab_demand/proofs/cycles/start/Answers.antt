use Rattle.std.proofs.Common.{◌<◌, length, ◌∙◌, ap, arith, slice_index, slice_get}
use Rattle.fab_demand.specs.inner.Cycles.{start_tern}
use Rattle.fab_demand.proofs.Starting.{kept_read, others_more, started_more}
use Rattle.fab_demand.proofs.cycles.start.Goals as goal

pub loop-place-preserved : goal.loop-place-preserved
loop-place-preserved c =
    let here = slice_index c.args.order.now c.loop-place.place in
    let inside : here < length c.args.terns.now = c.requires.within c.loop-place.place c.loop-place-test.true in
    let room : here < length c.loop-place.terns = omega (arith, inside, c.loop-place.auto.terns) in
    let is = c.start_at.ensures ∙ ap (λ x. start_tern x (slice_get c.args.network.now.drives.items here))
    (kept_read c.args.given.now here _ (omega (arith, inside, c.requires.given))) in
    record {
      so_far = started_more c.args.network.now c.args.given.now c.args.order.now c.loop-place.terns c.loop-place.place c.start_at.result
          c.loop-place-test.true room is
          c.loop-place.invariant.so_far;
      others = λ point none. others_more c.args.network.now c.args.given.now c.args.order.now c.loop-place.terns c.loop-place.place c.start_at.result
          c.loop-place-test.true room is
          point none ∙ c.loop-place.invariant.others point none;
    }

pub returns-clause-started : goal.returns-clause-started
returns-clause-started c place l = c.loop-place.invariant.so_far place (omega (arith, l, c.loop-place-test.false))
