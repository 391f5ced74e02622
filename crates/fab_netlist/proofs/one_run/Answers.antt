use Rattle.fab_netlist.proofs.RunLaw.{run_exists, runs_agree}
use Rattle.fab_netlist.proofs.one_run.Goals as goal

pub returns : goal.returns
returns c netlist wiring none held vectors = (run_exists netlist wiring none held vectors, runs_agree netlist wiring none held vectors)
