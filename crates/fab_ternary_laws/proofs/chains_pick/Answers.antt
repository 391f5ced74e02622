use Rattle.fab_ternary_laws.proofs.Picks.{chain_picks}
use Rattle.fab_ternary_laws.proofs.chains_pick.Goals as goal

pub returns : goal.returns
returns c names terns configured low width i first inputs long room = chain_picks names terns configured low width i first inputs long room
