use Rattle.fab_ternary_laws.proofs.Picks.{agreed_entry}
use Rattle.fab_ternary_laws.proofs.agreed_entries.Goals as goal

pub returns : goal.returns
returns c bits index b all = agreed_entry bits index b all
