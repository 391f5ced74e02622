use Rattle.std.proofs.Common.{◌≡◌, ◌<◌, List, subst}
use Rattle.std.proofs.lemmas.Result.{err_from_is_err_and}
use Rattle.fab_files.specs.Files.{HasReadCause}
use Rattle.fab_syntax.specs.Plain.{plain_text}
use Rattle.fab_simulate_command.specs.Simulating.{SimulationFiles, simulation_files}
use Rattle.fab_simulate_command.proofs.Behind.{behind_cause, device_is_read, unfit_cause}
use Rattle.fab_simulate_command.proofs.simulating.outputs_of.Goals as goal

pub returns-in_err-equations-clause-cause : goal.returns-in_err-equations-clause-cause
returns-in_err-equations-clause-cause g c =
    let residual = err_from_is_err_and c.from_residual.result c.from_residual.ensures.1 in
    let names : SimulationFiles = simulation_files c.args.verilog.now c.args.bit.now c.args.state.now c.args.stimulus.now c.args.trace.now in
    rw (residual.1, residual.2) (unfit_cause (g.D.Desk.told c.args.desk.now) _ names (plain_text c.args.text.now) c.in_err-equations.field-0.0 c.in_err-equations.ensures.refused)

pub returns-in_err-bytes-clause-cause : goal.returns-in_err-bytes-clause-cause
returns-in_err-bytes-clause-cause g c =
    let residual = err_from_is_err_and c.from_residual-in_err-bytes.result c.from_residual-in_err-bytes.ensures.1 in
    let names : SimulationFiles = simulation_files c.args.verilog.now c.args.bit.now c.args.state.now c.args.stimulus.now c.args.trace.now in
    let given = rw c.in_ok-equations.ensures.text at c.in_err-bytes.ensures.cause in
    rw (residual.1, residual.2)
    (behind_cause (g.D.Desk.told c.args.desk.now) _ names (plain_text c.args.text.now) c.in_err-bytes.field-0.0 c.in_ok-equations.ensures.sound c.in_ok-equations.ensures.small given)

pub returns-clause-made : goal.returns-clause-made
returns-clause-made g c = λ files told spelled.
    let traced = rw c.in_ok-equations.ensures.text at c.in_ok-bytes.ensures.trace in
    record {
      text = plain_text c.args.text.now;
      bytes = c.in_ok-bytes.bytes.items;
      device = device_is_read files c.args.verilog.now (plain_text c.args.text.now) c.in_ok-equations.ensures.sound c.in_ok-equations.ensures.small spelled;
      made = traced files told;
      outputs_are = c.in_ok-one_output.ensures.are;
    }
