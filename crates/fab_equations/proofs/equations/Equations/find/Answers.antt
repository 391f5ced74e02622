use Rattle.fab_syntax.specs.Plain.{plain_text}
use Rattle.fab_equations.proofs.Found.{read_found, read_absent}
use Rattle.fab_equations.proofs.equations.Equations.find.Goals as goal

pub returns-clause-found : goal.returns-clause-found
returns-clause-found c =
    let read = c.in_ok-local.ensures.0 in
    read_found (plain_text c.args.self.now) c.args.name.now c.in_ok-local.local.instance c.in_ok-local.local.name.now read c.local.result (c.local.ensures read.i read.is)

pub returns-clause-absent : goal.returns-clause-absent
returns-clause-absent c =
    let read = c.in_ok-local.ensures.0 in
    read_absent (plain_text c.args.self.now) c.args.name.now c.in_ok-local.local.instance c.in_ok-local.local.name.now read c.in_ok-local.ensures.1 c.local.result (c.local.ensures read.i read.is)
