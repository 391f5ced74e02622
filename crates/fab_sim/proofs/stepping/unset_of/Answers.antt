use Rattle.std.proofs.Common.{◌∙◌}
use Rattle.fab_draws.proofs.Drawing.{seeded}
use Rattle.fab_sim.proofs.stepping.unset_of.Goals as goal

pub returns-clause-random : goal.returns-clause-random
returns-clause-random c = c.seed_from_u64-random.ensures ∙ seeded c.args.seed
