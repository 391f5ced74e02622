use Rattle.fab_state.specs.Constraints.{data_ports}
use Rattle.fab_designs.proofs.Parts.{none_fixed}
use Rattle.fab_designs.proofs.constraints.read_constraints.Goals as goal

pub returns-in-None-clause-spelled : goal.returns-in-None-clause-spelled
returns-in-None-clause-spelled g c = λ files is. rw c.in-None.is c.new.ensures.items

pub returns-in-None-clause-fixings : goal.returns-in-None-clause-fixings
returns-in-None-clause-fixings g c = rw c.new.ensures.items (none_fixed c.args.fabric.now (data_ports c.args.netlist.now))

pub returns-in-Some-clause-spelled : goal.returns-in-Some-clause-spelled
returns-in-Some-clause-spelled g c = λ files is. rw c.in-Some.is (c.read_file.ensures.spelled files is)
