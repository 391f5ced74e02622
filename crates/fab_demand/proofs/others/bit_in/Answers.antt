use Rattle.fab_demand.proofs.Beside.{bit_is}
use Rattle.fab_demand.proofs.others.bit_in.Goals as goal

pub returns-then-are_alike : goal.returns-then-are_alike
returns-then-are_alike c = bit_is c.args.drive c.in_ok-found.found c.args.bits c.in_ok-found.ensures (c.are_alike.ensures c.if-are_alike.true)
