use Rattle.fab_legal.proofs.NetSteps.{new_net}
use Rattle.fab_legal.proofs.nets.is_new.Goals as goal

pub returns : goal.returns
returns c =
    new_net c.args.placed.now c.args.numbers.now.keys c.args.net c.net_number.result c.contains.result (c.exists.ensures.0 c.if-not-exists.false) c.net_number.ensures c.contains.ensures
