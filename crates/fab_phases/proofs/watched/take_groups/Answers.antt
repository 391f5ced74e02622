use Rattle.std.proofs.Common.{List, length, sym, subst, arith, get_or}
use Rattle.std.proofs.lemmas.Option.{slice_get-get_or}
use Rattle.fab_changes.specs.Changes.{WaitsAt}
use Rattle.fab_phases.specs.Lists.{Each}
use Rattle.fab_phases.specs.inner.Ticks.{AreFitFlops, WritesFlops}
use Rattle.fab_phases.specs.declared.loading.LoadedFlop.{LoadedFlop}
use Rattle.fab_phases.proofs.Grouping.{group_opened, group_step, groups_done, groups_start}
use Rattle.fab_phases.proofs.Passing.{groups_passed}
use Rattle.fab_phases.proofs.Watching.{flops_noted}
use Rattle.fab_phases.proofs.watched.take_groups.Goals as goal

pub groups-init : goal.groups-init
groups-init c = record {
  within = omega arith;
  leaves = groups_start c.args.network.now c.args.groups.now c.args.demand.now c.args.given.now;
  enables = c.requires.enables;
  noted = c.requires.noted;
  changes = λ are. are;
}

pub next_enabled-requires-clause-end : goal.next_enabled-requires-clause-end
next_enabled-requires-clause-end c = c.requires.of.room

pub bounds-groups-number : goal.bounds-groups-number
bounds-groups-number c =
    let next = rw c.in-Some.is at c.next_enabled.ensures.next in
    omega (arith, next.within)

pub take_flops-requires-clause-flops : goal.take_flops-requires-clause-flops
take_flops-requires-clause-flops c =
    let next = rw c.in-Some.is at c.next_enabled.ensures.next in
    let group = get_or c.args.groups.now c.in-Some.number c.index-groups-number.result in
    let at = slice_get-get_or c.args.groups.now c.in-Some.number c.index-groups-number.result next.within in
    subst (AreFitFlops c.args.network.now) (sym c.deref-in-Some.ensures.value) (c.requires.groups c.in-Some.number group at).flops

pub groups-preserved : goal.groups-preserved
groups-preserved c =
    let next = rw c.in-Some.is at c.next_enabled.ensures.next in
    let group = get_or c.args.groups.now c.in-Some.number c.index-groups-number.result in
    let at = slice_get-get_or c.args.groups.now c.in-Some.number c.index-groups-number.result next.within in
    record {
      within = omega (arith, next.within);
      leaves = group_step c.args.network.now c.args.groups.now c.args.demand.now c.in-Some.number c.args.given.now c.groups.given c.take_flops.new.given group at
          (group_opened c.args.network.now c.args.demand.now group c.deref-in-Some.result.now c.groups.given c.take_flops.new.given c.deref-in-Some.ensures.value
          c.take_flops.ensures.leaves)
          (groups_passed c.args.network.now c.args.groups.now c.args.enables.now c.args.demand.now c.groups.from c.in-Some.number c.args.given.now c.groups.given
          c.requires.groups c.requires.of next.passed c.groups.invariant.leaves);
      enables = c.next_enabled.ensures.enables;
      noted = flops_noted c.args.demand.now.terns group.flops.items c.groups.given c.take_flops.new.given c.groups.changes c.note_flops.new.changes
          c.groups.invariant.noted c.note_flops.ensures.more
          (subst (λ (flops : List LoadedFlop). Each flops (λ (flop : LoadedFlop). WaitsAt c.note_flops.new.changes flop.point)) c.deref.ensures.value
          c.note_flops.ensures.waits)
          (subst (λ (flops : List LoadedFlop). WritesFlops flops c.groups.given c.take_flops.new.given) c.deref-in-Some.ensures.value c.take_flops.ensures.writes);
      changes = λ are. c.note_flops.ensures.changes c.args.network.now c.args.demand.now (c.groups.invariant.changes are);
    }

pub groups-smaller : goal.groups-smaller
groups-smaller c =
    let next = rw c.in-Some.is at c.next_enabled.ensures.next in
    omega (arith, next.low, next.within)

pub returns-clause-leaves : goal.returns-clause-leaves
returns-clause-leaves c =
    let none = rw c.in_default.is at c.next_enabled.ensures.next in
    groups_done c.args.network.now c.args.groups.now c.args.demand.now (length c.args.groups.now) c.args.given.now c.groups.given (omega arith)
    (groups_passed c.args.network.now c.args.groups.now c.args.enables.now c.args.demand.now c.groups.from (length c.args.groups.now) c.args.given.now c.groups.given
    c.requires.groups c.requires.of none c.groups.invariant.leaves)
