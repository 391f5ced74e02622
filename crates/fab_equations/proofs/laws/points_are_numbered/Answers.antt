use Rattle.fab_equations.proofs.Points.{points_are_declared, declared_are_points, points_differ}
use Rattle.fab_equations.proofs.laws.points_are_numbered.Goals as goal

pub returns-clause-declared : goal.returns-clause-declared
returns-clause-declared c = λ text sound p there. points_are_declared text sound p there

pub returns-clause-all : goal.returns-clause-all
returns-clause-all c = λ text sound p declared. declared_are_points text sound p declared

pub returns-clause-once : goal.returns-clause-once
returns-clause-once c = λ text sound number other p e f. points_differ text sound number other p e f
