use Rattle.std.proofs.Common.{List, refl, sym, subst, ap, inr}
use Rattle.fab_ternary.specs.Terns.{plain_tern}
use Rattle.fab_phases.specs.inner.Ticks.{AreFitLatches, WritesLatches}
use Rattle.fab_phases.specs.declared.loading.Latch.{Latch}
use Rattle.fab_phases.proofs.Ticking.{run_closed, run_opened}
use Rattle.fab_phases.proofs.ticks.take_run.Goals as goal

pub take_latches-requires : goal.take_latches-requires
take_latches-requires c = record {
  points = c.requires.points;
  given = c.requires.given;
  latches = subst (AreFitLatches c.args.network.now) (sym c.deref.ensures.value) c.requires.run.latches;
}

pub returns-in-No-clause-leaves : goal.returns-in-No-clause-leaves
returns-in-No-clause-leaves c =
    run_closed c.args.network.now c.args.run.now (plain_tern c.args.gate) c.args.demand.now c.args.given.now (ap plain_tern c.in-No.is) c.requires.gate

pub returns-in-Yes-clause-leaves : goal.returns-in-Yes-clause-leaves
returns-in-Yes-clause-leaves c =
    run_opened c.args.network.now c.args.run.now (plain_tern c.args.gate) c.deref.result.now c.args.demand.now c.args.given.now c.take_latches.new.given
    c.deref.ensures.value c.requires.gate c.take_latches.ensures.leaves

pub returns-in-No-clause-writes : goal.returns-in-No-clause-writes
returns-in-No-clause-writes c point = inr refl

pub returns-in-Yes-clause-writes : goal.returns-in-Yes-clause-writes
returns-in-Yes-clause-writes c =
    subst (λ (latches : List Latch). WritesLatches latches c.args.given.now c.take_latches.new.given) c.deref.ensures.value c.take_latches.ensures.writes
