use Rattle.fab_demand.proofs.Keeping.{given_kept}
use Rattle.fab_demand.proofs.laws.given_is_kept.Goals as goal

pub returns : goal.returns
returns c network clock given terns leads = given_kept network clock given terns leads
