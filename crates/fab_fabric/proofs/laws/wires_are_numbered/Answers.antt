use Rattle.fab_fabric.proofs.Numbered.{index_within, one_place, some_place, wire_within, one_wire, some_wire}
use Rattle.fab_fabric.proofs.laws.wires_are_numbered.Goals as goal

pub returns-clause-within : goal.returns-clause-within
returns-clause-within c = index_within

pub returns-clause-one_place : goal.returns-clause-one_place
returns-clause-one_place c = one_place

pub returns-clause-some_place : goal.returns-clause-some_place
returns-clause-some_place c = some_place

pub returns-clause-wire_within : goal.returns-clause-wire_within
returns-clause-wire_within c = wire_within

pub returns-clause-one_wire : goal.returns-clause-one_wire
returns-clause-one_wire c = one_wire

pub returns-clause-some_wire : goal.returns-clause-some_wire
returns-clause-some_wire c = some_wire
