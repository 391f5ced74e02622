use Rattle.fab_equations.proofs.Numbering.{instances_stand}
use Rattle.fab_equations.proofs.Paths.{paths_are_instances, paths_differ}
use Rattle.fab_equations.proofs.laws.instances_are_numbered.Goals as goal

pub returns-clause-stand : goal.returns-clause-stand
returns-clause-stand c = λ text sound number i is. instances_stand text sound number i is

pub returns-clause-all : goal.returns-clause-all
returns-clause-all c = λ text sound path m stands. paths_are_instances text sound path m stands

pub returns-clause-once : goal.returns-clause-once
returns-clause-once c = λ text sound number other i j is also same. paths_differ text sound number other i j is also same
