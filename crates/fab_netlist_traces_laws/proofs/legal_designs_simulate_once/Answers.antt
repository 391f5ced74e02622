use Rattle.fab_netlist_traces_laws.proofs.Once.{legal_designs_simulate_once as they_simulate_once}
use Rattle.fab_netlist_traces_laws.proofs.legal_designs_simulate_once.Goals as goal

pub returns : goal.returns
returns c = they_simulate_once c.simulations_exist.ensures c.simulations_agree.ensures c.design_is_declared.ensures
