use Rattle.std.proofs.Common.{length, refl, sym, subst, List, ◌+◌, ◌∙◌}
use Rattle.fab_network.specs.declared.network.Drive.TheVariants.{Hold}
use Rattle.fab_phases.specs.inner.Gathering.{AreGated, HasGated, IsGated}
use Rattle.fab_phases.specs.declared.gathering.GatedLatch.{GatedLatch}
use Rattle.fab_phases.proofs.Asking.{gated_grow, more_twice, ready_grows}
use Rattle.fab_phases.proofs.Gathered.{gated_is, has_gated_more}
use Rattle.fab_phases.proofs.Lists.{each_more}
use Rattle.fab_phases.proofs.Ticking.{fit_at}
use Rattle.fab_phases.proofs.gathering.add_latch.Goals as goal

pub ask_source-requires-clause-source : goal.ask_source-requires-clause-source
ask_source-requires-clause-source c =
    let here = c.in-Some.ensures in
    fit_at c.args.network.now c.args.network.now.trees.items (length c.args.demand.now.leads) c.in-Some.gated.gate refl c.requires.points
    (c.requires.fit c.args.point (Hold c.in-Some.gated.gate c.in-Some.gated.latch.latched) here.2).0

pub ask_source-requires-in-Some-clause-source : goal.ask_source-requires-in-Some-clause-source
ask_source-requires-in-Some-clause-source c =
    let here = c.in-Some.ensures in
    fit_at c.args.network.now c.args.network.now.trees.items (length c.ask_source.new.self.leads) c.in-Some.gated.latch.latched refl
    (c.requires.points ∙ sym c.ask_source.ensures.more.long)
    (c.requires.fit c.args.point (Hold c.in-Some.gated.gate c.in-Some.gated.latch.latched) here.2).1

pub returns-in_ok-push-clause-more : goal.returns-in_ok-push-clause-more
returns-in_ok-push-clause-more c =
    more_twice c.args.demand.now c.ask_source.new.self c.ask_source-in-Some.new.self c.ask_source.ensures.more c.ask_source-in-Some.ensures.more

pub returns-in_ok-push-clause-latches : goal.returns-in_ok-push-clause-latches
returns-in_ok-push-clause-latches c =
    let here = c.in-Some.ensures in
    let network = c.args.network.now in
    let loads = c.args.loads.now in
    let stay = c.sources_stay_asked.ensures in
    let between = c.ask_source.new.self in
    let asked = c.ask_source-in-Some.new.self in
    let gated = c.in-Some.gated in
    let fit = c.requires.fit c.args.point (Hold gated.gate gated.latch.latched) here.2 in
    let more = more_twice c.args.demand.now between asked c.ask_source.ensures.more c.ask_source-in-Some.ensures.more in
    let is = gated_is network asked loads c.args.point gated here
    (ready_grows stay network between asked c.ask_source-in-Some.ensures.more gated.gate (record { fit = fit.0; asked_for = c.ask_source.ensures.source }))
    (record { fit = fit.1; asked_for = c.ask_source-in-Some.ensures.source }) in
    let old = gated_grow stay network c.args.demand.now asked more loads c.args.latches.now.items c.requires.latches in
    subst (AreGated network asked loads) (sym c.in_ok-push.ensures.items) (each_more (IsGated network asked loads) c.args.latches.now.items gated old is)

pub returns-in_ok-push-clause-all : goal.returns-in_ok-push-clause-all
returns-in_ok-push-clause-all c =
    let here = c.in-Some.ensures in
    subst (λ (latches : List GatedLatch). HasGated c.args.network.now c.args.loads.now (c.args.point + 1) latches) (sym c.in_ok-push.ensures.items)
    (has_gated_more c.args.network.now c.args.loads.now c.args.point c.args.latches.now.items c.in-Some.gated c.requires.all here.0)
