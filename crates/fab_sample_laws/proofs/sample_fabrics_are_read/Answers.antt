use Rattle.fab_sample_laws.proofs.Assembled.{fabrics_read}
use Rattle.fab_sample_laws.proofs.sample_fabrics_are_read.Goals as goal

pub returns : goal.returns
returns c = λ files size least most told. fabrics_read files size least most told
