use Rattle.fab_read.proofs.FabricsOnce.{one_fabric, refused_once}
use Rattle.fab_read.proofs.laws.fabrics_are_spelled_once.Goals as goal

pub returns-clause-one_value : goal.returns-clause-one_value
returns-clause-one_value c = one_fabric

pub returns-clause-one_refusal : goal.returns-clause-one_refusal
returns-clause-one_refusal c = refused_once
