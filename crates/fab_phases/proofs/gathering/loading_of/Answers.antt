use Rattle.std.proofs.Common.{List, length, sym, subst}
use Rattle.std.specs.Option.{ForSome}
use Rattle.fab_phases.specs.Loading.{IsChain}
use Rattle.fab_phases.specs.inner.Gathering.{AreGated, AreInRuns}
use Rattle.fab_phases.specs.inner.Ticks.{AreFitFlops}
use Rattle.fab_phases.specs.declared.loading.LoadedFlop.{LoadedFlop}
use Rattle.fab_phases.specs.declared.loading.Run.{Run}
use Rattle.fab_phases.proofs.Asking.{flops_grow, more_twice}
use Rattle.fab_phases.proofs.Chained.{loaded_fit}
use Rattle.fab_phases.proofs.Gathered.{gated_moved, has_gated_moved, has_latches}
use Rattle.fab_phases.proofs.gathering.loading_of.Goals as goal

pub runs_of-requires-clause-latches : goal.runs_of-requires-clause-latches
runs_of-requires-clause-latches c =
    let made = c.in_ok-latches.ensures in
    let gated = gated_moved c.args.network.now c.latches_of.new.demand c.args.loads.now c.in_ok-latches.latches.items c.bring_together.new.latches.items c.bring_together.ensures
    made.latches in
    (c.args.loads.now, subst (AreGated c.args.network.now c.latches_of.new.demand c.args.loads.now) (sym c.deref.ensures.value) gated)

pub chain_source-chain-requires-clause-flops : goal.chain_source-chain-requires-clause-flops
chain_source-chain-requires-clause-flops c =
    let flops = c.in_ok-flops.ensures in
    subst (AreFitFlops c.args.network.now) (sym c.deref-2.ensures.value)
    (loaded_fit c.args.network.now c.flops_of.new.demand c.args.loads.now c.in_ok-flops.flops.items flops.flops)

pub returns-clause-more : goal.returns-clause-more
returns-clause-more c =
    let flops = c.in_ok-flops.ensures in
    let latches = c.in_ok-latches.ensures in
    more_twice c.args.demand.now c.flops_of.new.demand c.latches_of.new.demand flops.more latches.more

pub returns-clause-loading : goal.returns-clause-loading
returns-clause-loading c =
    let network = c.args.network.now in
    let loads = c.args.loads.now in
    let asked = c.latches_of.new.demand in
    let flops = c.in_ok-flops.ensures in
    let latches = c.in_ok-latches.ensures in
    let runs = c.in_ok-runs.ensures in
    let old = c.in_ok-latches.latches.items in
    let new = c.bring_together.new.latches.items in
    let gated = subst (AreGated network asked loads) (sym c.deref.ensures.value) (gated_moved network asked loads old new c.bring_together.ensures latches.latches) in
    record {
      flops = flops_grow c.sources_stay_asked.ensures network c.flops_of.new.demand asked latches.more loads c.in_ok-flops.flops.items flops.flops;
      has_flops = flops.all;
      runs = runs.runs loads gated;
      has_latches = has_latches network loads (length network.drives.items) new c.in_ok-runs.runs.items
          (has_gated_moved network loads (length network.drives.items) old new c.bring_together.ensures latches.all)
          (subst (AreInRuns c.in_ok-runs.runs.items) c.deref.ensures.value runs.all);
      chain =
          subst (λ (rs : List Run). ForSome c.chain_source-chain.result (λ source. IsChain network asked source c.in_ok-flops.flops.items rs)) c.deref-3.ensures.value
          (subst (λ (fs : List LoadedFlop). ForSome c.chain_source-chain.result (λ source. IsChain network asked source fs c.deref-3.result.now)) c.deref-2.ensures.value
          c.chain_source-chain.ensures);
    }
