use Rattle.fab_demand.proofs.Keeping.{kept_again}
use Rattle.fab_demand.proofs.laws.kept_again.Goals as goal

pub returns : goal.returns
returns c network clock given asked looked later t next kept solves inputs flops latches = kept_again network clock given asked looked later t next kept
    solves inputs flops latches
