use Rattle.fab_phases.proofs.Offering.{bit_offered}
use Rattle.fab_phases.proofs.words.offer_bit.Goals as goal

pub returns : goal.returns
returns c = bit_offered c.args.point c.args.bit c.args.given.now c.known.result c.requires c.known.ensures
