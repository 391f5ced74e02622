use Rattle.std.proofs.Common.{◌≡◌, length, sym, ap, ◌∙◌, subst, arith, List}
use Rattle.fab_phases.specs.inner.Ticks.{AreFitFlops, AreFitRuns, LeavesFlops, LeavesRuns}
use Rattle.fab_phases.specs.declared.loading.LoadedFlop.{LoadedFlop}
use Rattle.fab_phases.specs.declared.loading.Run.{Run}
use Rattle.fab_phases.proofs.Grouping.{flops_leave}
use Rattle.fab_phases.proofs.Running.{differs_none}
use Rattle.fab_phases.proofs.Stepping.{has_ticked}
use Rattle.fab_phases.proofs.Ticking.{flops_fit, runs_fit}
use Rattle.fab_phases.proofs.ticks.tick.Goals as goal

pub take_flops-requires-clause-points : goal.take_flops-requires-clause-points
take_flops-requires-clause-points c = c.requires.points ∙ sym (ap length (c.settle.ensures.stays c.args.demand.now (differs_none c.args.demand.now)).leads)

pub take_flops-requires-clause-given : goal.take_flops-requires-clause-given
take_flops-requires-clause-given c =
    let same : length c.settle.new.self.leads ≡ length c.args.demand.now.leads = ap length (c.settle.ensures.stays c.args.demand.now (differs_none c.args.demand.now)).leads in
    omega arith

pub take_flops-requires-clause-flops : goal.take_flops-requires-clause-flops
take_flops-requires-clause-flops c =
    let at = c.requires.loading.3 in
    subst (AreFitFlops c.args.network.now) (sym c.deref.ensures.value) (flops_fit c.args.network.now at.asked c.requires.loading.0 c.args.loading.now at.gathered)

pub take_runs-requires-clause-points : goal.take_runs-requires-clause-points
take_runs-requires-clause-points c = c.requires.points ∙ sym (ap length (c.settle.ensures.stays c.args.demand.now (differs_none c.args.demand.now)).leads)

pub take_runs-requires-clause-given : goal.take_runs-requires-clause-given
take_runs-requires-clause-given c =
    let same : length c.settle.new.self.leads ≡ length c.args.demand.now.leads = ap length (c.settle.ensures.stays c.args.demand.now (differs_none c.args.demand.now)).leads in
    omega arith

pub take_runs-requires-clause-runs : goal.take_runs-requires-clause-runs
take_runs-requires-clause-runs c =
    let at = c.requires.loading.3 in
    subst (AreFitRuns c.args.network.now) (sym c.deref-2.ensures.value) (runs_fit c.args.network.now at.asked c.requires.loading.0 c.args.loading.now at.gathered)

pub returns-clause-points : goal.returns-clause-points
returns-clause-points c = ap length (c.settle.ensures.stays c.args.demand.now (differs_none c.args.demand.now)).leads

pub returns-clause-loading : goal.returns-clause-loading
returns-clause-loading c loads first width at =
    (has_ticked c.args.network.now c.args.loading.now loads first width c.args.demand.now c.settle.new.self c.args.given.now c.take_flops.new.given c.take_runs.new.given
    c.requires.solvable at c.settle.ensures.stays c.settle.ensures.shows
    (flops_leave c.args.network.now c.args.loading.now.flops.items c.settle.new.self c.args.given.now c.take_flops.new.given
    (subst (λ (flops : List LoadedFlop). LeavesFlops c.args.network.now flops c.settle.new.self c.args.given.now c.take_flops.new.given) c.deref.ensures.value c.take_flops.ensures.leaves))
    (subst (λ (runs : List Run). LeavesRuns c.args.network.now runs c.settle.new.self c.take_flops.new.given c.take_runs.new.given) c.deref-2.ensures.value c.take_runs.ensures)).loading_at

pub returns-clause-ticks : goal.returns-clause-ticks
returns-clause-ticks c loads first width at =
    (has_ticked c.args.network.now c.args.loading.now loads first width c.args.demand.now c.settle.new.self c.args.given.now c.take_flops.new.given c.take_runs.new.given
    c.requires.solvable at c.settle.ensures.stays c.settle.ensures.shows
    (flops_leave c.args.network.now c.args.loading.now.flops.items c.settle.new.self c.args.given.now c.take_flops.new.given
    (subst (λ (flops : List LoadedFlop). LeavesFlops c.args.network.now flops c.settle.new.self c.args.given.now c.take_flops.new.given) c.deref.ensures.value c.take_flops.ensures.leaves))
    (subst (λ (runs : List Run). LeavesRuns c.args.network.now runs c.settle.new.self c.take_flops.new.given c.take_runs.new.given) c.deref-2.ensures.value c.take_runs.ensures)).tick
