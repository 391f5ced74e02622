use Rattle.fab_sample_laws.proofs.Counted.{have_sites}
use Rattle.fab_sample_laws.proofs.sample_fabrics_have_sites.Goals as goal

pub returns : goal.returns
returns c = λ size fabric least most is. have_sites size fabric least most is
