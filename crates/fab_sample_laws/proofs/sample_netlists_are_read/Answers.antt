use Rattle.fab_sample_laws.proofs.SampleNetlists.{netlists_read}
use Rattle.fab_sample_laws.proofs.sample_netlists_are_read.Goals as goal

pub returns : goal.returns
returns c = netlists_read
