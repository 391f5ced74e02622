use Rattle.std.proofs.Common.{◌≡◌, ◌<◌, length, subst, arith}
use Rattle.fab_load_points.specs.inner.Known.{AddsPlaces}
use Rattle.fab_load_points.proofs.Places.{more_places}
use Rattle.fab_load_points.proofs.known.add_places.Goals as goal

pub loop-k-preserved : goal.loop-k-preserved
loop-k-preserved c =
    let places = c.args.places.now in
    let k = c.loop-k.k in
    let less : k < length places = omega (arith, c.loop-k-test.true, c.requires.within) in
    more_places c.args.first places c.args.known.from k c.args.reads.now.items c.loop-k.reads.items c.push.new.self.items c.loop-k.auto.k less c.in_ok-push.ensures.items
    c.loop-k.invariant

pub returns : goal.returns
returns c =
    let last : c.loop-k.k ≡ c.args.known.end = omega (arith, c.loop-k-test.false, c.loop-k.auto.k-end, c.requires.rises) in
    subst (λ n. AddsPlaces c.args.first c.args.places.now c.args.known.from n c.args.reads.now.items c.loop-k.reads.items) last c.loop-k.invariant
