use Rattle.std.proofs.Common.{◌≡◌, ◌<◌, ◌∙◌, All, map, arith, sym, subst}
use Rattle.std.specs.Option.{ForSome}
use Rattle.std.specs.Str.{IsUtf8}
use Rattle.std.proofs.lemmas.Result.{IfErr-weaker, on_ok_weaker, err_from_is_err_and}
use Rattle.fab_syntax.specs.Plain.{plain_text}
use Rattle.fab_outputs.specs.declared.storing.Output.{Output}
use Rattle.fab_outputs.specs.Storing.{plain_output}
use Rattle.fab_outputs.proofs.Ending.{cause_of_store, leaves_of_store, done_of_store}
use Rattle.fab_simulate_command.specs.Simulating.{IsReadyToSimulate, MakesTrace, MeetsSimulation, SimulationFiles, simulate_refusals, simulation_files}
use Rattle.fab_simulate_command.proofs.Behind.{made_of, ready_of, read_cause, text_cause}
use Rattle.fab_simulate_command.proofs.simulating.do_simulate.Goals as goal

-- ---- a file is refused

pub returns-in_err-text-clause-cause : goal.returns-in_err-text-clause-cause
returns-in_err-text-clause-cause g c =
    let residual = err_from_is_err_and c.from_residual.result c.from_residual.ensures.1 in
    let names : SimulationFiles = simulation_files c.args.verilog.now c.args.bit.now c.args.state.now c.args.stimulus.now c.args.trace.now in
    rw (residual.1, residual.2) (text_cause (g.D.Desk.told c.args.desk.now) names _ _ c.in_err-text.field-0.0 c.in_err-text.ensures.cause)

pub returns-in_err-outputs-clause-cause : goal.returns-in_err-outputs-clause-cause
returns-in_err-outputs-clause-cause g c =
    let residual = err_from_is_err_and c.from_residual-in_err-outputs.result c.from_residual-in_err-outputs.ensures.1 in
    let names : SimulationFiles = simulation_files c.args.verilog.now c.args.bit.now c.args.state.now c.args.stimulus.now c.args.trace.now in
    let reads = g.D.Desk.reads in
    let before = c.in_ok-text.ensures.reads in
    rw (residual.1, residual.2)
    (read_cause (g.D.Desk.told c.args.desk.now) names (reads c.args.desk.now < reads c.outputs_of.new.desk) _ c.in_err-outputs.field-0.0 (g.D.Desk.told c.read_text.new.desk)
    (reads c.read_text.new.desk < reads c.outputs_of.new.desk) (plain_text c.in_ok-text.text) c.in_ok-text.ensures.told (λ rose. omega (arith, rose, before))
    (λ files is. c.in_ok-text.ensures.spelled files is) c.in_err-outputs.ensures.cause)

-- ---- the trace is stored

pub store_all-requires : goal.store_all-requires
store_all-requires g c = subst (All (λ (output : Output). IsUtf8 output.name)) (sym c.deref.ensures.value) (c.in_ok-outputs.ensures.names c.requires)

pub returns-clause-done : goal.returns-clause-done
returns-clause-done g c =
    let names : SimulationFiles = simulation_files c.args.verilog.now c.args.bit.now c.args.state.now c.args.stimulus.now c.args.trace.now in
    let told = g.D.Desk.told c.args.desk.now in
    let outputs = map plain_output c.deref.result.now in
    let made : ForSome told (λ files. MakesTrace files names c.args.order outputs) =
    λ files is. made_of files names c.args.order c.in_ok-outputs.outputs.items c.deref.result.now c.deref.ensures.value (c.in_ok-outputs.ensures.made files (c.in_ok-text.ensures.told ∙ is) (c.in_ok-text.ensures.spelled files is)) in
    on_ok_weaker c.store_all.result (λ stored. done_of_store (λ files. MakesTrace files names c.args.order) told outputs (g.D.Desk.told c.outputs_of.new.desk) (g.D.Desk.told c.store_all.new.desk) made
    (c.in_ok-outputs.ensures.told ∙ c.in_ok-text.ensures.told) stored) c.store_all.ensures.done

pub returns-clause-leaves : goal.returns-clause-leaves
returns-clause-leaves g c =
    let names : SimulationFiles = simulation_files c.args.verilog.now c.args.bit.now c.args.state.now c.args.stimulus.now c.args.trace.now in
    let told = g.D.Desk.told c.args.desk.now in
    let outputs = map plain_output c.deref.result.now in
    let made : ForSome told (λ files. MakesTrace files names c.args.order outputs) =
    λ files is. made_of files names c.args.order c.in_ok-outputs.outputs.items c.deref.result.now c.deref.ensures.value (c.in_ok-outputs.ensures.made files (c.in_ok-text.ensures.told ∙ is) (c.in_ok-text.ensures.spelled files is)) in
    IfErr-weaker c.store_all.result _ _ (λ fault stopped. leaves_of_store (λ files. MakesTrace files names c.args.order) told outputs (g.D.Desk.told c.outputs_of.new.desk) (g.D.Desk.told c.store_all.new.desk) _ fault made
    (c.in_ok-outputs.ensures.told ∙ c.in_ok-text.ensures.told) stopped) c.store_all.ensures.stopped

pub returns-clause-cause : goal.returns-clause-cause
returns-clause-cause g c =
    let names : SimulationFiles = simulation_files c.args.verilog.now c.args.bit.now c.args.state.now c.args.stimulus.now c.args.trace.now in
    let told = g.D.Desk.told c.args.desk.now in
    let first = c.in_ok-text.ensures.writes in
    let second = c.in_ok-outputs.ensures.writes in
    IfErr-weaker c.store_all.result _ _ (λ fault stopped. cause_of_store told _ _ (λ files. MeetsSimulation files names) (λ files. IsReadyToSimulate files names) simulate_refusals
    (map plain_output c.deref.result.now) _ _ _ fault
    (λ files is. ready_of files names c.args.order (map plain_output c.in_ok-outputs.outputs.items) (c.in_ok-outputs.ensures.made files (c.in_ok-text.ensures.told ∙ is) (c.in_ok-text.ensures.spelled files is)))
    (λ rose. omega (arith, rose, first, second)) stopped) c.store_all.ensures.stopped
