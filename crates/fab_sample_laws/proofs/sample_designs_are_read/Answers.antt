use Rattle.fab_sample_laws.proofs.Designs.{designs_read}
use Rattle.fab_sample_laws.proofs.sample_designs_are_read.Goals as goal

pub returns : goal.returns
returns c = designs_read
