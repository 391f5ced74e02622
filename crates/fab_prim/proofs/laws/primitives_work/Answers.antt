use Rattle.fab_prim.proofs.Works.{primitive_works}
use Rattle.fab_prim.proofs.laws.primitives_work.Goals as goal

pub returns : goal.returns
returns c = primitive_works
