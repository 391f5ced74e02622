use Rattle.std.proofs.Common.{◌≡◌, ◌++◌, ◌∷◌, [], ℕ, List, map, take, ◌+◌, arith, sym, ap, ◌∙◌}
use Rattle.csv.specs.Records.{fields_of}
use Rattle.fab_lines.specs.Parts.{trimmed}
use Rattle.fab_rows.proofs.Fields.{field_below, map_take_field, take_all_fields}
use Rattle.fab_rows.proofs.cells.trimmed_fields.Goals as goal

pub loop-field-smaller : goal.loop-field-smaller
loop-field-smaller c = omega (arith, field_below (fields_of c.args.found.now) c.loop-field.count c.in-Some.field.now (sym c.in-Some.ensures.value))

pub loop-field-preserved : goal.loop-field-preserved
loop-field-preserved c =
    let name = c.in_ok-of.ensures ∙ c.trimmed.ensures in
    c.in_ok-push.ensures.items
    ∙ ap (λ (cells : List (List ℕ)). cells ++ c.in_ok-of.field-0 ∷ []) c.loop-field.invariant
    ∙ ap (λ (cell : List ℕ). map trimmed (take c.loop-field.count (fields_of c.args.found.now)) ++ cell ∷ []) name
    ∙ sym (map_take_field trimmed (fields_of c.args.found.now) c.loop-field.count c.in-Some.field.now (sym c.in-Some.ensures.value))

pub returns : goal.returns
returns c = c.loop-field.invariant ∙ ap (map trimmed) (take_all_fields (fields_of c.args.found.now) c.loop-field.count (sym c.in_default.ensures.value))
