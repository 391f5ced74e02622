use Rattle.std.proofs.Common.{◌≡◌, length, arith, get_or}
use Rattle.std.proofs.lemmas.Option.{slice_get-get_or, slice_get_within}
use Rattle.fab_compiled.specs.Terns.{seen}
use Rattle.fab_phases.proofs.Telling.{shown_all, shown_more}
use Rattle.fab_phases.proofs.cycles.show.Goals as goal

pub loop-place-init : goal.loop-place-init
loop-place-init c place point output less e f = absurd (omega arith)

pub loop-place-preserved : goal.loop-place-preserved
loop-place-preserved c =
    shown_more c.args.outs.now (seen c.args.demand.now.terns c.args.demand.now.leads) c.loop-place.place c.loop-place.outputs (get_or c.args.outs.now c.loop-place.place 0)
    c.at.result (slice_get-get_or c.args.outs.now c.loop-place.place 0 c.loop-place-test.true) c.at.ensures c.loop-place.invariant

pub returns : goal.returns
returns c =
    let long : length c.loop-place.outputs ≡ length c.args.outs.now = omega arith in
    shown_all c.args.outs.now (seen c.args.demand.now.terns c.args.demand.now.leads) c.loop-place.outputs long
    (λ place point output e f. let within = slice_get_within c.args.outs.now place point e in c.loop-place.invariant place point output (omega arith) e f)
