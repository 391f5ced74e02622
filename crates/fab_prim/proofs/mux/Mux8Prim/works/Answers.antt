use Rattle.fab_kinds.specs.declared.kind.Kind.TheVariants as kinds
use Rattle.fab_prim.proofs.Works.{primitive_works}
use Rattle.fab_prim.proofs.mux.Mux8Prim.works.Goals as goal

pub returns : goal.returns
returns c = primitive_works kinds.Mux8
