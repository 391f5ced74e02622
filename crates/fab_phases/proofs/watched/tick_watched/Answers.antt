use Rattle.std.proofs.Common.{◌≡◌, length, List, refl, sym, ap, ◌∙◌, subst, arith}
use Rattle.fab_phases.specs.inner.Enables.{AreEnables, AreHolding, EnableGroups, EnableRuns, LeavesGroups}
use Rattle.fab_phases.specs.inner.Ticks.{AreFitRuns, LeavesRuns, WritesOnly}
use Rattle.fab_phases.specs.Loading.{IsInRuns}
use Rattle.fab_phases.specs.declared.enables.Enable.{Enable}
use Rattle.fab_phases.specs.declared.flop_groups.FlopGroup.{FlopGroup}
use Rattle.fab_phases.specs.declared.loading.Run.{Run}
use Rattle.fab_phases.proofs.Enabling.{enables_settled}
use Rattle.fab_phases.proofs.Grouping.{groups_leave, holding_same}
use Rattle.fab_phases.proofs.Running.{differs_none}
use Rattle.fab_phases.proofs.Stepping.{has_ticked}
use Rattle.fab_phases.proofs.Ticking.{runs_fit}
use Rattle.fab_phases.proofs.Watching.{enable_groups, enable_runs, runs_noted, watching_ticked}
use Rattle.fab_phases.proofs.watched.tick_watched.Goals as goal

pub take_groups-requires-clause-points : goal.take_groups-requires-clause-points
take_groups-requires-clause-points c = c.requires.points ∙ sym (ap length (c.settle.ensures.stays c.args.demand.now (differs_none c.args.demand.now)).leads)

pub take_groups-requires-clause-given : goal.take_groups-requires-clause-given
take_groups-requires-clause-given c =
    let same : length c.settle.new.demand.leads ≡ length c.args.demand.now.leads = ap length (c.settle.ensures.stays c.args.demand.now (differs_none c.args.demand.now)).leads in
    omega arith

pub take_groups-requires-clause-groups : goal.take_groups-requires-clause-groups
take_groups-requires-clause-groups c =
    subst (AreHolding c.args.network.now c.settle.new.demand) (sym c.deref.ensures.value)
    (holding_same c.args.network.now c.args.demand.now c.settle.new.demand c.args.watching.now.groups.items
    (c.settle.ensures.stays c.args.demand.now (differs_none c.args.demand.now)) c.requires.watching.groups.holding)

pub take_groups-requires-clause-of : goal.take_groups-requires-clause-of
take_groups-requires-clause-of c =
    let watching = c.args.watching.now in
    subst (λ (groups : List FlopGroup). EnableGroups groups c.deref-2.result.now) (sym c.deref.ensures.value)
    (subst (EnableGroups watching.groups.items) (sym c.deref-2.ensures.value)
    (enable_groups watching.groups.items c.args.loading.now.runs.items watching.enables.items c.requires.watching.of))

pub take_groups-requires-clause-enables : goal.take_groups-requires-clause-enables
take_groups-requires-clause-enables c =
    subst (λ (enables : List Enable). AreEnables c.args.network.now c.settle.new.demand enables c.settle.new.watches) (sym c.deref-2.ensures.value)
    (enables_settled c.args.network.now c.args.demand.now c.settle.new.demand c.args.watching.now.enables.items c.args.watching.now.watches c.settle.new.watches
    (c.settle.ensures.stays c.args.demand.now (differs_none c.args.demand.now)) c.settle.ensures.readers c.settle.ensures.long c.settle.ensures.kept
    c.requires.watching.enables)

pub take_enabled-requires-clause-points : goal.take_enabled-requires-clause-points
take_enabled-requires-clause-points c = c.requires.points ∙ sym (ap length (c.settle.ensures.stays c.args.demand.now (differs_none c.args.demand.now)).leads)

pub take_enabled-requires-clause-given : goal.take_enabled-requires-clause-given
take_enabled-requires-clause-given c =
    let same : length c.settle.new.demand.leads ≡ length c.args.demand.now.leads = ap length (c.settle.ensures.stays c.args.demand.now (differs_none c.args.demand.now)).leads in
    omega arith

pub take_enabled-requires-clause-runs : goal.take_enabled-requires-clause-runs
take_enabled-requires-clause-runs c =
    let at = c.requires.loading.3 in
    subst (AreFitRuns c.args.network.now) (sym c.deref-3.ensures.value) (runs_fit c.args.network.now at.asked c.requires.loading.0 c.args.loading.now at.gathered)

pub take_enabled-requires-clause-of : goal.take_enabled-requires-clause-of
take_enabled-requires-clause-of c =
    let watching = c.args.watching.now in
    subst (λ (runs : List Run). EnableRuns runs c.deref-4.result.now) (sym c.deref-3.ensures.value)
    (subst (EnableRuns c.args.loading.now.runs.items) (sym c.deref-4.ensures.value)
    (enable_runs watching.groups.items c.args.loading.now.runs.items watching.enables.items c.requires.watching.of))

pub take_enabled-requires-clause-enables : goal.take_enabled-requires-clause-enables
take_enabled-requires-clause-enables c =
    subst (λ (enables : List Enable). AreEnables c.args.network.now c.settle.new.demand enables c.take_groups.new.watches)
    (c.deref-2.ensures.value ∙ sym c.deref-4.ensures.value) c.take_groups.ensures.enables

pub returns-clause-points : goal.returns-clause-points
returns-clause-points c = ap length (c.settle.ensures.stays c.args.demand.now (differs_none c.args.demand.now)).leads

pub returns-clause-loading : goal.returns-clause-loading
returns-clause-loading c loads first width at =
    let watching = c.args.watching.now in
    (has_ticked c.args.network.now c.args.loading.now loads first width c.args.demand.now c.settle.new.demand c.args.given.now c.take_groups.new.given c.take_enabled.new.given
    c.requires.solvable at c.settle.ensures.stays c.settle.ensures.shows
    (groups_leave c.args.network.now c.args.demand.now c.settle.new.demand c.args.loading.now.flops.items watching.groups.items c.args.given.now c.take_groups.new.given
    c.requires.watching.groups c.requires.watching.all
    (subst (λ (groups : List FlopGroup). LeavesGroups c.args.network.now groups c.settle.new.demand c.args.given.now c.take_groups.new.given) c.deref.ensures.value
    c.take_groups.ensures.leaves))
    (subst (λ (runs : List Run). LeavesRuns c.args.network.now runs c.settle.new.demand c.take_groups.new.given c.take_enabled.new.given) c.deref-3.ensures.value
    c.take_enabled.ensures.leaves)).loading_at

pub returns-clause-ticks : goal.returns-clause-ticks
returns-clause-ticks c loads first width at =
    let watching = c.args.watching.now in
    (has_ticked c.args.network.now c.args.loading.now loads first width c.args.demand.now c.settle.new.demand c.args.given.now c.take_groups.new.given c.take_enabled.new.given
    c.requires.solvable at c.settle.ensures.stays c.settle.ensures.shows
    (groups_leave c.args.network.now c.args.demand.now c.settle.new.demand c.args.loading.now.flops.items watching.groups.items c.args.given.now c.take_groups.new.given
    c.requires.watching.groups c.requires.watching.all
    (subst (λ (groups : List FlopGroup). LeavesGroups c.args.network.now groups c.settle.new.demand c.args.given.now c.take_groups.new.given) c.deref.ensures.value
    c.take_groups.ensures.leaves))
    (subst (λ (runs : List Run). LeavesRuns c.args.network.now runs c.settle.new.demand c.take_groups.new.given c.take_enabled.new.given) c.deref-3.ensures.value
    c.take_enabled.ensures.leaves)).tick

pub returns-clause-watching : goal.returns-clause-watching
returns-clause-watching c =
    let at = c.requires.loading.3 in
    let after = c.settle.new.demand in
    let runs = c.args.loading.now.runs.items in
    let changes = c.take_groups.ensures.changes c.settle.ensures.changes in
    let writes = subst (λ (rs : List Run). WritesOnly (IsInRuns rs) c.take_groups.new.given c.take_enabled.new.given) c.deref-3.ensures.value c.take_enabled.ensures.writes in
    watching_ticked c.args.network.now c.args.loading.now c.args.demand.now after c.args.given.now c.take_enabled.new.given c.args.watching.now
    (record c.args.watching.now { changes = c.take_groups.new.changes; watches = c.take_enabled.new.watches })
    (c.settle.ensures.stays c.args.demand.now (differs_none c.args.demand.now)) c.requires.watching refl refl changes
    (runs_noted c.args.network.now at.asked after c.requires.loading.0 runs c.take_groups.new.given c.take_enabled.new.given c.take_groups.new.changes at.gathered.runs
    changes c.take_groups.ensures.noted writes)
    (subst (λ (enables : List Enable). AreEnables c.args.network.now after enables c.take_enabled.new.watches) c.deref-4.ensures.value c.take_enabled.ensures.enables)
