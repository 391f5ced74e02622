use Rattle.std.proofs.Common.{length, refl, arith}
use Rattle.std.proofs.lemmas.Option.{slice_get_read}
use Rattle.fab_ternary.specs.Terns.{plain_tern}
use Rattle.fab_phases.proofs.Ticking.{eval_at, run_step, runs_done}
use Rattle.fab_phases.proofs.ticks.take_runs.Goals as goal

pub take_run-requires-clause-run : goal.take_run-requires-clause-run
take_run-requires-clause-run c =
    c.requires.runs c.loop-run.run-index c.run-item.result
    (slice_get_read c.args.runs.now (length c.args.runs.now) c.loop-run.run-index c.run-item.result refl c.loop-run-test.true c.run-item.is)

pub take_run-requires-clause-gate : goal.take_run-requires-clause-gate
take_run-requires-clause-gate c =
    eval_at c.args.network.now.trees.items c.deref.result.now c.args.demand.now.terns c.view.result.terns.now c.args.demand.now.leads c.view.result.leads.now
    c.run-item.result.gate (plain_tern c.evaluate-gate.result) c.deref.ensures.value c.view.ensures.terns c.view.ensures.leads c.evaluate-gate.ensures

pub loop-run-preserved : goal.loop-run-preserved
loop-run-preserved c =
    run_step c.args.network.now c.args.runs.now c.args.demand.now c.loop-run.run-index c.args.given.now c.loop-run.given c.take_run.new.given c.run-item.result
    (slice_get_read c.args.runs.now (length c.args.runs.now) c.loop-run.run-index c.run-item.result refl c.loop-run-test.true c.run-item.is)
    c.take_run.ensures.leaves c.loop-run.invariant

pub returns : goal.returns
returns c =
    runs_done c.args.network.now c.args.runs.now c.args.demand.now c.loop-run.run-index c.args.given.now c.loop-run.given (omega arith) c.loop-run.invariant
