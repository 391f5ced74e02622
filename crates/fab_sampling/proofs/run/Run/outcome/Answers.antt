use Rattle.fab_sampling.proofs.Ending.{unmapped_comes}
use Rattle.fab_sampling.proofs.run.Run.outcome.Goals as goal

pub returns-in-Err-clause-comes : goal.returns-in-Err-clause-comes
returns-in-Err-clause-comes g c =
    unmapped_comes c.args.self.now c.in-Err.fault c.unmapped.result c.in-Err.ensures.ends c.unmapped.ensures.outcome c.unmapped.ensures.searched
