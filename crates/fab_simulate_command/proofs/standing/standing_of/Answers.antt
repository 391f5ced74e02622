use Rattle.std.proofs.lemmas.Result.{err_from_is_err_and}
use Rattle.fab_syntax.specs.Plain.{plain_text}
use Rattle.fab_simulate_command.proofs.Standings.{points_of_new, spelling_refused}
use Rattle.fab_simulate_command.proofs.standing.standing_of.Goals as goal

pub returns-in_err-state-clause-refused : goal.returns-in_err-state-clause-refused
returns-in_err-state-clause-refused c =
    let residual = err_from_is_err_and c.from_residual.result c.from_residual.ensures.1 in
    rw (residual.1, residual.2) (spelling_refused (plain_text c.args.equations.now) c.args.file.now c.args.bytes.now c.in_err-state.field-0.0 c.in_err-state.ensures.refusal)

pub returns-clause-spelled : goal.returns-clause-spelled
returns-clause-spelled c = record {
  spelled = c.in_ok-state.ensures.spells;
  says = c.in_ok-state.ensures.said;
  points = points_of_new (plain_text c.args.equations.now) c.in_ok-state.state c.in_ok-machine.machine c.in_ok-machine.ensures.made;
}
