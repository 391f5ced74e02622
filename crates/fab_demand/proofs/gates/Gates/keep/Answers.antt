use Rattle.fab_demand.proofs.KeptGates.{gates_more}
use Rattle.fab_demand.proofs.gates.Gates.keep.Goals as goal

pub returns-clause-gates : goal.returns-clause-gates
returns-clause-gates c trees terns leads marks is are =
    gates_more trees terns leads marks c.args.self.now.kept.items c.put.new.self.kept.items
    (record { source = c.args.source; gate = c.args.gate }) c.put.ensures is are
