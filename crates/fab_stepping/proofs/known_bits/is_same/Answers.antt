use Rattle.fab_stepping.proofs.KnownBits.{equality_is}
use Rattle.fab_stepping.proofs.known_bits.is_same.Goals as goal

pub returns : goal.returns
returns c =
    let r = c.requires in
    equality_is c.args.view.now.terns.now c.args.view.now.leads.now r.own r.known c.args.first r.begins c.args.left.now c.args.right.now c.args.width r.left_made r.right_made
    r.left_wide r.right_wide r.left_inside r.right_inside c.last_apart.result c.last_apart.ensures c.is_none.result c.is_none.ensures
