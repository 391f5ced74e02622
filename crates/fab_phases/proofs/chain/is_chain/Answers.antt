use Rattle.std.proofs.Common.{ℕ, ◌<◌, subst, arith, get_or}
use Rattle.std.proofs.lemmas.Option.{slice_get-get_or}
use Rattle.fab_phases.specs.Loading.{Takes}
use Rattle.fab_phases.proofs.Chained.{chain_all, chain_more, chain_none}
use Rattle.fab_phases.proofs.Ticking.{no_flop}
use Rattle.fab_phases.proofs.chain.is_chain.Goals as goal

pub loop-place-init : goal.loop-place-init
loop-place-init c = chain_none c.args.network.now c.args.demand.now c.args.source c.args.flops.now

pub is_taken_from-requires-clause-next : goal.is_taken_from-requires-clause-next
is_taken_from-requires-clause-next c =
    let flop = get_or c.args.flops.now c.loop-place.place no_flop in
    (c.requires.flops c.loop-place.place flop (slice_get-get_or c.args.flops.now c.loop-place.place no_flop c.loop-place-test.true)).next

pub loop-place-preserved : goal.loop-place-preserved
loop-place-preserved c =
    let place = c.loop-place.place in
    let flop = get_or c.args.flops.now place no_flop in
    let same = c.before_of-before.ensures in
    let takes = c.is_taken_from.ensures c.if-not-is_taken_from.false in
    let above = c.is_above.ensures c.if-not-is_above.false in
    chain_more c.args.network.now c.args.demand.now c.args.source c.args.flops.now place flop (slice_get-get_or c.args.flops.now place no_flop c.loop-place-test.true)
    (subst (Takes c.args.network.now c.args.demand.now flop.next) same takes) (λ some. subst (λ (before : ℕ). before < flop.point) same (above some)) c.loop-place.invariant

pub returns : goal.returns
returns c = λ yes. chain_all c.args.network.now c.args.demand.now c.args.source c.args.flops.now c.loop-place.place (omega arith) c.loop-place.invariant
