use Rattle.fab_gen_tile.specs.Words.{IsNamed}
use Rattle.fab_spelled_fabrics_laws.proofs.Blocks.{names_kept}
use Rattle.fab_spelled_fabrics_laws.proofs.Readings.{spelled_keep}
use Rattle.fab_spelled_fabrics_laws.proofs.spelled_fabrics_are_named.Goals as goal

pub returns : goal.returns
returns c = spelled_keep IsNamed IsNamed names_kept
