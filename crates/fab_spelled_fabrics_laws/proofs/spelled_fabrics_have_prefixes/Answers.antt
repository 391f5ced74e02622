use Rattle.fab_spelled_fabrics_laws.proofs.Prefixes.{ArePrefixed, prefixes_kept}
use Rattle.fab_spelled_fabrics_laws.proofs.Readings.{spelled_keep}
use Rattle.fab_spelled_fabrics_laws.proofs.spelled_fabrics_have_prefixes.Goals as goal

pub returns : goal.returns
returns c = spelled_keep ArePrefixed ArePrefixed prefixes_kept
