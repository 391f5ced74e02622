use Rattle.std.proofs.Common.{◌≡◌, ◌++◌, length, map, sym, ap, ◌∙◌, arith}
use Rattle.std.specs.List.{flat_map}
use Rattle.fab_syntax.specs.Plain.{PlainModule, plain_item}
use Rattle.fab_syntax.specs.Sound.{item_expressions}
use Rattle.fab_values.specs.Declarations.{declarations}
use Rattle.fab_equations.specs.Tables.{firsts_of}
use Rattle.fab_equations.proofs.ChildSteps.{firsts_length}
use Rattle.fab_equations.proofs.TableSteps.{none_inside, table_is, expressions_around}
use Rattle.fab_equations.proofs.tables.table_of.Goals as goal

pub returns-clause-table : goal.returns-clause-table
returns-clause-table c spot here known before =
    let around = expressions_around spot in
    let names : c.in_ok-names.field-0.names ≡ declarations spot.here = c.in_ok-names.ensures.names ∙ ap declarations (sym here) in
    let firsts : c.in_ok-names.field-0.firsts.items ≡ firsts_of (declarations spot.here) = c.in_ok-names.ensures.firsts ∙ ap firsts_of names in
    let many : c.len.result ≡ length (declarations spot.here) =
    omega (arith, c.len.ensures, ap length firsts, firsts_length 0 (declarations spot.here)) in
    let start = none_inside spot c.in_ok-inside.inside c.len.result c.in_ok-inside.ensures.drivers c.in_ok-inside.ensures.child_names c.in_ok-inside.ensures.children
    c.in_ok-inside.ensures.offset many in
    let items : spot.here.items ≡ map plain_item c.deref.result.now = ap (λ (m : PlainModule). m.items) here ∙ ap (map plain_item) (sym c.deref.ensures.value) in
    let all = c.in_ok-add_items.ensures.inside spot around.0 names known items
    (ap (λ es. es ++ (flat_map item_expressions spot.here.items ++ around.0)) before ∙ around.1) start in
    table_is spot c.add_items.new.inside c.into_table.result all (c.into_table.ensures.names ∙ names) (ap (λ v. v.items) c.into_table.ensures.firsts ∙ firsts)
    c.into_table.ensures.drivers c.into_table.ensures.child_names c.into_table.ensures.children
