use Rattle.std.proofs.Common.{◌<◌, length, false, arith, get_or}
use Rattle.std.proofs.lemmas.Option.{slice_get-get_or, slice_get_within}
use Rattle.fab_network.specs.Passes.{kept_tern}
use Rattle.fab_phases.proofs.Telling.{fed_all, fed_more, fed_none}
use Rattle.fab_phases.proofs.cycles.feed.Goals as goal

pub loop-place-init : goal.loop-place-init
loop-place-init c = fed_none c.args.ins.now c.args.inputs.now c.args.given.now

pub loop-place-preserved : goal.loop-place-preserved
loop-place-preserved c =
    let place = c.loop-place.place in
    let point = get_or c.args.ins.now place 0 in
    let value = get_or c.args.inputs.now place false in
    let at = slice_get-get_or c.args.ins.now place 0 c.loop-place-test.true in
    let inside : place < length c.args.inputs.now = omega arith in
    let bound = c.requires.ins place point at in
    fed_more c.args.ins.now c.args.inputs.now place (kept_tern c.args.given.now) c.loop-place.given point value c.known.result c.requires.once at
    (slice_get-get_or c.args.inputs.now place false inside) (omega (arith, bound)) c.known.ensures c.loop-place.invariant

pub returns : goal.returns
returns c =
    fed_all c.args.ins.now c.args.inputs.now c.loop-place.place (kept_tern c.args.given.now) c.loop-place.given
    (λ place point e. let within = slice_get_within c.args.ins.now place point e in omega arith) c.loop-place.invariant
