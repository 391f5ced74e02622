-- The module of each kind works.
use Rattle.std.proofs.Common.{◌≡◌, ℕ, List}
use Rattle.fab_kinds.specs.declared.kind.Kind.{Kind}
use Rattle.fab_kinds.specs.declared.kind.Kind.TheVariants as kinds
use Rattle.fab_syntax.specs.declared.tree.Port.{Port}
use Rattle.fab_syntax.specs.Plain.{PlainItem, PlainModule}
use Rattle.fab_prim.specs.Ports.{module_ports}
use Rattle.fab_prim.specs.Modules.{module_name, module_items, module_of_kind}
use Rattle.fab_prim.specs.Works.{PrimitiveWorks}
use Rattle.fab_prim.proofs.LutWorks.{lut_works}
use Rattle.fab_prim.proofs.PadWorks.{pad_works}
use Rattle.fab_prim.proofs.MuxWorks.{mux_works}

abbrev pub plain : (name : List ℕ) → List Port → List PlainItem → PlainModule
plain name ports items = record { name = name; ports = ports; items = items }

-- a module with these parts
pub module_is : (kind : Kind) (name : List ℕ) (ports : List Port) (items : List PlainItem) →
    name ≡ module_name kind → ports ≡ module_ports kind → items ≡ module_items kind → plain name ports items ≡ module_of_kind kind
module_is kind name ports items named with_ports with_items = λ j. plain (named j) (with_ports j) (with_items j)

pub primitive_works : (kind : Kind) → PrimitiveWorks kind (module_of_kind kind)
primitive_works kinds.Lut4c = lut_works
primitive_works kinds.Io = pad_works
primitive_works kinds.Mux8 = mux_works
