use Rattle.std.proofs.Common.{◌≡◌, ◌++◌, map, sym, subst}
use Rattle.fab_syntax.specs.Plain.{plain_item}
use Rattle.fab_values.specs.Declarations.{port_declaration, item_declarations}
use Rattle.fab_equations.specs.inner.Building.{DeclaresOnce}
use Rattle.fab_equations.proofs.NamedOnce.{fewer_declared}
use Rattle.fab_equations.proofs.declaring.declared_names.Goals as goal

pub declare_ports-requires : goal.declare_ports-requires
declare_ports-requires c =
    let m = c.args.definition.now in
    let start : map port_declaration m.ports.items ≡ c.new.result ++ map port_declaration c.deref.result.now =
    λ j. sym c.new.ensures j ++ map port_declaration (sym c.deref.ensures.value j) in
    subst DeclaresOnce start (fewer_declared (map port_declaration m.ports.items) (item_declarations (map plain_item m.items.items)) c.requires)
