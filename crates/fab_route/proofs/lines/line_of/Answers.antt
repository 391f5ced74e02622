use Rattle.fab_legal.proofs.PortNumbers.{found_number, missing_number}
use Rattle.fab_route.proofs.lines.line_of.Goals as goal

pub returns-in-Some : goal.returns-in-Some
returns-in-Some c = found_number c.args.name.now c.bytes.result.now c.args.names.now.keys c.in-Some.number c.bytes.ensures c.in-Some.ensures.index

pub returns-in-None : goal.returns-in-None
returns-in-None c = missing_number c.args.name.now c.bytes.result.now c.args.names.now.keys c.len.result c.bytes.ensures c.len.ensures.len c.in-None.ensures.index
