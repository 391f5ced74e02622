use Rattle.std.proofs.Common.{◌∙◌, ap}
use Rattle.fab_blif.specs.inner.Walk.{plain_nets}
use Rattle.fab_blif.proofs.Numbers.{nets_of_insert, place_of_net}
use Rattle.fab_blif.proofs.design.number_of.Goals as goal

pub returns-clause-nets : goal.returns-clause-nets
returns-clause-nets c = ap plain_nets c.in_ok-place.ensures.keys ∙ nets_of_insert c.args.nets.now.keys c.args.net

pub returns-clause-number : goal.returns-clause-number
returns-clause-number c = c.in_ok-place.ensures.index ∙ place_of_net c.args.net c.args.nets.now.keys
