use Rattle.fab_model.proofs.Wires.{wire_at_number, number_has_wire, plain_wires_are_wires}
use Rattle.fab_model.proofs.laws.wires_have_numbers.Goals as goal

pub returns-clause-number : goal.returns-clause-number
returns-clause-number c = wire_at_number

pub returns-clause-wire : goal.returns-clause-wire
returns-clause-wire c = number_has_wire

pub returns-clause-in_order : goal.returns-clause-in_order
returns-clause-in_order c = plain_wires_are_wires
