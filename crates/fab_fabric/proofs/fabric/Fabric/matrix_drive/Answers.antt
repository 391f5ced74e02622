use Rattle.std.proofs.Common.{◌≡◌, ◌<◌, ◌+◌, ◌^◌, ◌∙◌, sym, ap, length, get_or, false, arith}
use Rattle.std.proofs.lemmas.Option.{same_Some}
use Rattle.fab_model.specs.fab_bits.specs.Bits.{number, first_bits}
use Rattle.fab_model.specs.Tiles.{PlainTile}
use Rattle.fab_model.specs.Drive.{matrix_inputs, select_value, matrix_drive}
use Rattle.fab_fabric.specs.declared.wire.Drive.TheVariants as drives
use Rattle.fab_fabric.specs.Drive.{numbered_drive}
use Rattle.fab_fabric.specs.Bits.{plain_bits}
use Rattle.fab_fabric.proofs.Numbered.{wires_of_tile}
use Rattle.fab_fabric.proofs.Selecting.{field_narrow, group_small, picked_named, driven_by_input, nonempty}
use Rattle.fab_fabric.proofs.fabric.Fabric.matrix_drive.Goals as goal

pub select_value-value-requires : goal.select_value-value-requires
select_value-value-requires c =
    let tile = c.in-Some.tile.now in
    let kept = c.in-Some.ensures.found.1 in
    let few : length (matrix_inputs tile c.args.output) < 2 ^ 64 = omega (arith, group_small c.in-Some.index.now.inputs.items c.args.output, ap length (kept.inputs c.args.output)) in
    field_narrow tile c.args.output c.field-low.result.1 few (ap (λ field. field.1) c.field-low.ensures)

pub wire_at-requires : goal.wire_at-requires
wire_at-requires c =
    let tile = c.in-Some.tile.now in
    let kept = c.in-Some.ensures.found.1 in
    let inputs = c.inputs_of-inputs.result.now in
    let inputs_are : inputs ≡ matrix_inputs tile c.args.output = c.inputs_of-inputs.ensures ∙ kept.inputs c.args.output in
    let some : length inputs ≡ 0 → ⊥ = nonempty (length inputs) c.is_empty.result c.is_empty.ensures c.if-is_empty.false in
    let named = picked_named tile kept.is_tile c.args.output inputs c.select_value-value.result c.picked.result inputs_are some c.picked.ensures.early c.picked.ensures.late in
    omega (arith, named, wires_of_tile c.args.self.now c.args.x c.args.y tile c.in-Some.ensures.found.0)

pub returns-clause-drive : goal.returns-clause-drive
returns-clause-drive c = λ other other_is.
    let tile = c.in-Some.tile.now in
    let kept = c.in-Some.ensures.found.1 in
    let inputs = c.inputs_of-inputs.result.now in
    let inputs_are : inputs ≡ matrix_inputs tile c.args.output = c.inputs_of-inputs.ensures ∙ kept.inputs c.args.output in
    let some : length inputs ≡ 0 → ⊥ = nonempty (length inputs) c.is_empty.result c.is_empty.ensures c.if-is_empty.false in
    let fabric = c.args.self.now in
    let bits = plain_bits c.args.bits.now c.args.x c.args.y in
    let same : tile ≡ other = same_Some tile other (sym c.in-Some.ensures.found.0 ∙ other_is) in
    let value : c.select_value-value.result ≡ select_value tile bits c.args.output =
    c.select_value-value.ensures ∙ (λ j. number (first_bits ((c.field-low.ensures j).1) (λ place. get_or (c.tile.ensures j) ((c.field-low.ensures j).0 + place) false))) in
    ap drives.Copy c.wire_at.ensures.index
    ∙ driven_by_input fabric bits c.args.x c.args.y tile c.args.output inputs c.select_value-value.result c.picked.result c.in-Some.ensures.found.0 kept.is_tile inputs_are some value c.picked.ensures.early
    c.picked.ensures.late
    ∙ ap (λ (t : PlainTile). numbered_drive fabric (matrix_drive bits c.args.x c.args.y t c.args.output)) same

pub returns-clause-within : goal.returns-clause-within
returns-clause-within c = c.wire_at.ensures.within
