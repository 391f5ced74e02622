use Rattle.fab_syntax.specs.Plain.{plain_text}
use Rattle.fab_simulate_command.proofs.Standings.{points_refused}
use Rattle.fab_simulate_command.proofs.standing.machine_of.Goals as goal

pub returns-in-Err-clause-refused : goal.returns-in-Err-clause-refused
returns-in-Err-clause-refused c =
    points_refused (plain_text c.args.equations.now) c.args.file.now c.args.bytes.now c.args.state.now c.in-Err.fault c.at_line.result c.requires.says c.at_line.ensures c.in-Err.ensures.refused
