use Rattle.std.proofs.Common.{sym, subst}
use Rattle.fab_kinds.specs.declared.kind.Kind.TheVariants as kinds
use Rattle.fab_syntax.specs.Plain.{PlainModule}
use Rattle.fab_prim.specs.Works.{PrimitiveWorks}
use Rattle.fab_prim.proofs.Works.{primitive_works, module_is}
use Rattle.fab_prim.proofs.lut.Lut4cPrim.module.Goals as goal

pub returns-clause-works : goal.returns-clause-works
returns-clause-works c =
    subst (λ (m : PlainModule). PrimitiveWorks kinds.Lut4c m)
    (sym (module_is kinds.Lut4c _ _ _ c.in_ok-name.ensures c.in_ok-ports.ensures c.in_ok-items.ensures)) (primitive_works kinds.Lut4c)
