use Rattle.std.proofs.Common.{sym, ◌∙◌, arith, get_or}
use Rattle.std.proofs.lemmas.Option.{slice_get-get_or, slice_get_within}
use Rattle.fab_network.specs.declared.network.Clock.TheVariants.{User}
use Rattle.fab_network.specs.Passes.{kept_tern}
use Rattle.fab_phases.proofs.Running.{marked_more, run_asked}
use Rattle.fab_phases.proofs.cycles.ask_for_run.Goals as goal

pub loop-out-init : goal.loop-out-init
loop-out-init c = record {
  points = c.clear.ensures.long;
  asked = c.clear.ensures.clear.enough c.args.network.now User (kept_tern c.args.given.now);
  marked = λ place point less e. absurd (omega arith);
}

pub ask-requires-clause-points : goal.ask-requires-clause-points
ask-requires-clause-points c = c.requires.points ∙ sym c.loop-out.invariant.points

pub ask-requires-clause-given : goal.ask-requires-clause-given
ask-requires-clause-given c = c.requires.given ∙ sym c.loop-out.invariant.points

pub ask-requires-clause-within : goal.ask-requires-clause-within
ask-requires-clause-within c =
    let bound = c.requires.outs c.loop-out.out-index (get_or c.args.outs.now c.loop-out.out-index 0) (slice_get-get_or c.args.outs.now c.loop-out.out-index 0 c.loop-out-test.true) in
    omega (arith, bound)

pub loop-out-preserved : goal.loop-out-preserved
loop-out-preserved c = record {
  points = c.ask.ensures.more.long ∙ c.loop-out.invariant.points;
  asked = c.ask.ensures.asked;
  marked = marked_more c.args.outs.now c.loop-out.out-index (get_or c.args.outs.now c.loop-out.out-index 0) c.loop-out.demand c.ask.new.self
      (slice_get-get_or c.args.outs.now c.loop-out.out-index 0 c.loop-out-test.true) c.ask.ensures.more c.ask.ensures.marked c.loop-out.invariant.marked;
}

pub ask_registers-requires-clause-points : goal.ask_registers-requires-clause-points
ask_registers-requires-clause-points c = c.requires.points ∙ sym c.loop-out.invariant.points

pub ask_registers-requires-clause-given : goal.ask_registers-requires-clause-given
ask_registers-requires-clause-given c = c.requires.given ∙ sym c.loop-out.invariant.points

pub ask_registers-requires-clause-asked : goal.ask_registers-requires-clause-asked
ask_registers-requires-clause-asked c = c.loop-out.invariant.asked

pub returns-clause-points : goal.returns-clause-points
returns-clause-points c = c.ask_registers.ensures.more.long ∙ c.loop-out.invariant.points

pub returns-clause-running : goal.returns-clause-running
returns-clause-running c ins are =
    run_asked c.args.network.now ins c.args.outs.now c.loop-out.demand c.ask_registers.new.self c.args.given.now c.ask_registers.ensures.asked c.ask_registers.ensures.registers
    c.ask_registers.ensures.more
    (λ place point e. let within = slice_get_within c.args.outs.now place point e in c.loop-out.invariant.marked place point (omega arith) e) are
