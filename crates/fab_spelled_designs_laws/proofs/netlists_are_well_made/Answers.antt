use Rattle.fab_blif.proofs.Netlists.{netlist_is_well_made, wide_is_made}
use Rattle.fab_spelled_designs_laws.proofs.netlists_are_well_made.Goals as goal

pub returns-clause-wide : goal.returns-clause-wide
returns-clause-wide c = wide_is_made

pub returns-clause-narrow : goal.returns-clause-narrow
returns-clause-narrow c = netlist_is_well_made
