use Rattle.std.proofs.Common.{◌≡◌, length, sym, ap, ◌∙◌, arith}
use Rattle.fab_sim.proofs.Opening.{leads_stay, opened_all, opened_more, opened_none, own_stay}
use Rattle.fab_sim.proofs.forming.find_forms.Goals as goal

pub loop-place-init : goal.loop-place-init
loop-place-init c = opened_none c.args.demand.now

pub set_own-requires : goal.set_own-requires
set_own-requires c =
    let same : length c.loop-place.demand.own ≡ length c.args.demand.now.own = ap length (own_stay c.args.demand.now c.loop-place.demand c.loop-place.invariant.stays) in
    let long : length c.own-count.result.now ≡ length c.args.demand.now.own = ap length c.own-count.ensures in
    omega arith

pub loop-place-preserved : goal.loop-place-preserved
loop-place-preserved c =
    let long : length c.own-count.result.now ≡ length c.args.demand.now.own = ap length c.own-count.ensures in
    opened_more c.args.demand.now c.loop-place.demand c.set_own.new.self c.loop-place.place (omega arith) c.loop-place.invariant c.set_own.ensures

pub find_forms-requires-clause-points : goal.find_forms-requires-clause-points
find_forms-requires-clause-points c = c.requires.points ∙ sym (leads_stay c.args.demand.now c.loop-place.demand c.loop-place.invariant.stays)

pub find_forms-requires-clause-fresh : goal.find_forms-requires-clause-fresh
find_forms-requires-clause-fresh c =
    let long : length c.own-count.result.now ≡ length c.args.demand.now.own = ap length c.own-count.ensures in
    opened_all c.loop-place.place c.args.demand.now c.loop-place.demand (omega arith) c.requires.marked c.loop-place.invariant

pub returns-clause-points : goal.returns-clause-points
returns-clause-points c =
    leads_stay c.args.demand.now c.find_forms.new.self (λ asked differs. c.find_forms.ensures.stays asked (c.loop-place.invariant.stays asked differs))

pub returns-clause-stays : goal.returns-clause-stays
returns-clause-stays c asked differs = c.find_forms.ensures.stays asked (c.loop-place.invariant.stays asked differs)
