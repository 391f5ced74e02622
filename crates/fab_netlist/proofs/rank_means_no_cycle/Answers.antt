use Rattle.fab_netlist.proofs.Ranks.{rank_no_cycle, no_cycle_rank}
use Rattle.fab_netlist.proofs.rank_means_no_cycle.Goals as goal

pub returns : goal.returns
returns c netlist = (rank_no_cycle netlist, no_cycle_rank netlist)
