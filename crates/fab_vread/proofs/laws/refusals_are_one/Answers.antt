use Rattle.fab_vread.proofs.Determined.{refusal_is_one}
use Rattle.fab_vread.proofs.laws.refusals_are_one.Goals as goal

pub returns : goal.returns
returns c = refusal_is_one
