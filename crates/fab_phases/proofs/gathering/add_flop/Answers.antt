use Rattle.std.proofs.Common.{length, refl, sym, subst, List, ◌+◌}
use Rattle.fab_network.specs.declared.network.Clock.TheVariants.{Loader}
use Rattle.fab_network.specs.declared.network.Drive.TheVariants.{Flop}
use Rattle.fab_phases.specs.Loading.{AreFlops, HasFlops, IsLoadedFlop}
use Rattle.fab_phases.specs.declared.loading.LoadedFlop.{LoadedFlop}
use Rattle.fab_phases.proofs.Asking.{flops_grow}
use Rattle.fab_phases.proofs.Gathered.{flop_is, has_flops_more}
use Rattle.fab_phases.proofs.Lists.{each_more}
use Rattle.fab_phases.proofs.Ticking.{fit_at}
use Rattle.fab_phases.proofs.gathering.add_flop.Goals as goal

pub ask_source-requires-clause-source : goal.ask_source-requires-clause-source
ask_source-requires-clause-source c =
    let here = c.in-Some.ensures in
    fit_at c.args.network.now c.args.network.now.trees.items (length c.args.demand.now.leads) c.in-Some.flop.next refl c.requires.points
    (c.requires.fit c.args.point (Flop Loader c.in-Some.flop.next) here.2)

pub returns-in_ok-push-clause-flops : goal.returns-in_ok-push-clause-flops
returns-in_ok-push-clause-flops c =
    let here = c.in-Some.ensures in
    let network = c.args.network.now in
    let loads = c.args.loads.now in
    let asked = c.ask_source.new.self in
    let flop = c.in-Some.flop in
    let is = flop_is network asked loads c.args.point flop here
    (record { fit = c.requires.fit c.args.point (Flop Loader flop.next) here.2; asked_for = c.ask_source.ensures.source }) in
    let old = flops_grow c.sources_stay_asked.ensures network c.args.demand.now asked c.ask_source.ensures.more loads c.args.flops.now.items c.requires.flops in
    subst (AreFlops network asked loads) (sym c.in_ok-push.ensures.items) (each_more (IsLoadedFlop network asked loads) c.args.flops.now.items flop old is)

pub returns-in_ok-push-clause-all : goal.returns-in_ok-push-clause-all
returns-in_ok-push-clause-all c =
    let here = c.in-Some.ensures in
    subst (λ (flops : List LoadedFlop). HasFlops c.args.network.now c.args.loads.now (c.args.point + 1) flops) (sym c.in_ok-push.ensures.items)
    (has_flops_more c.args.network.now c.args.loads.now c.args.point c.args.flops.now.items c.in-Some.flop c.requires.all here.0)
