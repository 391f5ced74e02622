use Rattle.std.proofs.Common.{subst}
use Rattle.fab_astar.specs.Tables.{IsCharged}
use Rattle.fab_pathfinder.proofs.Counting.{charged_priced}
use Rattle.fab_pathfinder.proofs.counts.recount.Goals as goal

pub returns-clause-priced : goal.returns-clause-priced
returns-clause-priced c = charged_priced c.args.past.now c.args.round c.args.tables.now c.charge.new.self c.args.node c.args.users (subst (λ p. IsCharged c.args.tables.now c.charge.new.self c.args.node c.args.users p) c.price-price.ensures c.charge.ensures.charged) c.requires.priced
