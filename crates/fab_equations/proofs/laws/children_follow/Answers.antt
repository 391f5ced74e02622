use Rattle.fab_equations.proofs.Numbering.{children_follow, instances_are_children}
use Rattle.fab_equations.proofs.laws.children_follow.Goals as goal

pub returns-clause-follow : goal.returns-clause-follow
returns-clause-follow c = λ text sound number i is child l. children_follow text sound number i is child l

pub returns-clause-all : goal.returns-clause-all
returns-clause-all c = λ text sound number behind l. instances_are_children text sound number behind l
