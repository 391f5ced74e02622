use Rattle.fab_spelled_fabrics_laws.proofs.Whole.{spelled_tiles}
use Rattle.fab_spelled_fabrics_laws.proofs.spelled_fabrics_have_tiles.Goals as goal

pub returns : goal.returns
returns c = spelled_tiles
