use Rattle.fab_stepping.proofs.KnownBits.{bit_is}
use Rattle.fab_stepping.proofs.known_bits.compared_bit.Goals as goal

pub returns-in_default : goal.returns-in_default
returns-in_default c =
    bit_is c.args.view.now.terns.now c.args.view.now.leads.now c.requires.own c.requires.known c.args.first c.requires.begins c.args.tree.now c.requires.inside c.args.bit
    c.is_one.result c.is_one.ensures
