use Rattle.std.proofs.Common.{List, Vec, Global, sym, subst}
use Rattle.fab_phases.specs.Lists.{Each}
use Rattle.fab_phases.specs.inner.Enables.{AreEnablesOf, AreFlopGroups, AreInFlopGroups, AreNewlyWatched, IsFitEnable}
use Rattle.fab_phases.specs.inner.Ticks.{AreFitFlops}
use Rattle.fab_phases.specs.declared.enables.Enable.{Enable}
use Rattle.fab_phases.specs.declared.flop_groups.FlopGroup.{FlopGroup}
use Rattle.fab_phases.specs.declared.loading.LoadedFlop.{LoadedFlop}
use Rattle.fab_phases.specs.declared.loading.Run.{Run}
use Rattle.fab_phases.proofs.Ticking.{flops_fit, runs_fit}
use Rattle.fab_phases.proofs.Watching.{enables_fit, kept_ok, watching_made}
use Rattle.fab_phases.proofs.watched.watching_of.Goals as goal

pub groups_of-requires : goal.groups_of-requires
groups_of-requires c =
    let at = c.requires.loading.4 in
    record {
      flops = subst (AreFitFlops c.args.network.now) (sym c.deref.ensures.value) (flops_fit c.args.network.now at.asked c.requires.loading.0 c.args.loading.now at.gathered);
    }

pub watches_of-requires-clause-fit : goal.watches_of-requires-clause-fit
watches_of-requires-clause-fit c =
    let at = c.requires.loading.4 in
    let groups = c.in_ok-groups.groups.items in
    let runs = c.args.loading.now.runs.items in
    let enables = c.in_ok-enables.enables.items in
    let made : AreFlopGroups c.args.network.now c.args.demand.now c.deref.result.now groups =
    kept_ok (λ (found : Vec FlopGroup Global). AreFlopGroups c.args.network.now c.args.demand.now c.deref.result.now found.items) c.groups_of.result c.in_ok-groups.groups
    c.in_ok-groups.ensures.value c.groups_of.ensures.groups in
    let of : AreEnablesOf c.deref-2.result.now c.deref-3.result.now enables =
    kept_ok (λ (found : Vec Enable Global). AreEnablesOf c.deref-2.result.now c.deref-3.result.now found.items) c.enables_of.result c.in_ok-enables.enables
    c.in_ok-enables.ensures.value c.enables_of.ensures in
    let of_items : AreEnablesOf groups runs enables =
    subst (λ (gs : List FlopGroup). AreEnablesOf gs runs enables) c.deref-2.ensures.value
    (subst (λ (rs : List Run). AreEnablesOf c.deref-2.result.now rs enables) c.deref-3.ensures.value of) in
    subst (λ (es : List Enable). Each es (IsFitEnable c.args.network.now)) (sym c.deref-4.ensures.value)
    (enables_fit c.args.network.now c.args.demand.now groups runs enables of_items made.holding
    (runs_fit c.args.network.now at.asked c.requires.loading.0 c.args.loading.now at.gathered))

pub returns : goal.returns
returns c =
    let at = c.requires.loading.4 in
    let network = c.args.network.now in
    let asked = c.args.demand.now in
    let groups = c.in_ok-groups.groups.items in
    let flops = c.args.loading.now.flops.items in
    let runs = c.args.loading.now.runs.items in
    let enables = c.in_ok-enables.enables.items in
    let made : AreFlopGroups network asked c.deref.result.now groups =
    kept_ok (λ (found : Vec FlopGroup Global). AreFlopGroups network asked c.deref.result.now found.items) c.groups_of.result c.in_ok-groups.groups
    c.in_ok-groups.ensures.value c.groups_of.ensures.groups in
    let all : AreInFlopGroups groups c.deref.result.now =
    kept_ok (λ (found : Vec FlopGroup Global). AreInFlopGroups found.items c.deref.result.now) c.groups_of.result c.in_ok-groups.groups c.in_ok-groups.ensures.value
    c.groups_of.ensures.all in
    let of : AreEnablesOf c.deref-2.result.now c.deref-3.result.now enables =
    kept_ok (λ (found : Vec Enable Global). AreEnablesOf c.deref-2.result.now c.deref-3.result.now found.items) c.enables_of.result c.in_ok-enables.enables
    c.in_ok-enables.ensures.value c.enables_of.ensures in
    let of_items : AreEnablesOf groups runs enables =
    subst (λ (gs : List FlopGroup). AreEnablesOf gs runs enables) c.deref-2.ensures.value
    (subst (λ (rs : List Run). AreEnablesOf c.deref-2.result.now rs enables) c.deref-3.ensures.value of) in
    let own = c.in_ok-places.places.own.now in
    let leads = c.in_ok-places.places.leads.now in
    let watched : AreNewlyWatched network own leads enables c.in_ok-watches.watches =
    subst (λ (es : List Enable). AreNewlyWatched network own leads es c.in_ok-watches.watches) c.deref-4.ensures.value c.in_ok-watches.ensures in
    watching_made network c.args.loading.now asked
    (record { groups = c.in_ok-groups.groups; enables = c.in_ok-enables.enables; changes = c.in_ok-changes.changes; watches = c.in_ok-watches.watches }) own leads
    (runs_fit network at.asked c.requires.loading.0 c.args.loading.now at.gathered) c.in_ok-places.ensures.own c.in_ok-places.ensures.leads
    (subst (λ (fs : List LoadedFlop). AreFlopGroups network asked fs groups) c.deref.ensures.value made)
    (subst (AreInFlopGroups groups) c.deref.ensures.value all) of_items c.in_ok-changes.ensures.changes c.in_ok-changes.ensures.waits watched
