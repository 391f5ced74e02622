use Rattle.fab_solutions_laws.proofs.Drivers.{least_solutions_exist, least_solutions_agree}
use Rattle.fab_solutions_laws.proofs.least_solutions.Goals as goal

pub returns : goal.returns
returns c = record { exist = least_solutions_exist; agree = least_solutions_agree }
