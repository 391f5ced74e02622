use Rattle.fab_kinds.specs.declared.kind.Kind.TheVariants as kinds
use Rattle.fab_prim.proofs.Works.{primitive_works}
use Rattle.fab_prim.proofs.pad.IoPadPrim.works.Goals as goal

pub returns : goal.returns
returns c = primitive_works kinds.Io
