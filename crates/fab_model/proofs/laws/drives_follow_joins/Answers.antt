use Rattle.fab_model.proofs.Drives.{dest_follows_joins, unjoined_is_zero}
use Rattle.fab_model.proofs.laws.drives_follow_joins.Goals as goal

pub returns-clause-joined : goal.returns-clause-joined
returns-clause-joined c = dest_follows_joins

pub returns-clause-unjoined : goal.returns-clause-unjoined
returns-clause-unjoined c = unjoined_is_zero
