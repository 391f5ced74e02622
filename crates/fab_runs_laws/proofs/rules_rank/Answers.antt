use Rattle.fab_runs_laws.proofs.Ranks.{rules_rank}
use Rattle.fab_runs_laws.proofs.rules_rank.Goals as goal

pub returns : goal.returns
returns c = rules_rank
