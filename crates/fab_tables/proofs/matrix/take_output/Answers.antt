use Rattle.std.proofs.Common.{◌≡◌, Some, [], ◌∷◌, ◌++◌, length, sym, ap, ◌∙◌}
use Rattle.std.specs.Prelude.{unwrap_or}
use Rattle.std.specs.List.{list_any}
use Rattle.std.specs.Str.{bytes_eq}
use Rattle.std.proofs.lemmas.Result.{err_from_is_err_and}
use Rattle.fab_lines.specs.Order.{judged}
use Rattle.fab_lines.proofs.Judging.{judged_ok}
use Rattle.fab_bits.specs.Keys.{key_names}
use Rattle.fab_tables.specs.Matrix.{output_number, output_of, output_problem, pairs_with, pairs_of_row}
use Rattle.fab_tables.proofs.Chains.{refused_same}
use Rattle.fab_tables.proofs.Wired.{new_output}
use Rattle.fab_tables.proofs.matrix.take_output.Goals as goal

pub returns-in_err-output : goal.returns-in_err-output
returns-in_err-output c =
    let residual = err_from_is_err_and c.from_residual.result c.from_residual.ensures.1 in
    rw (residual.1, residual.2) (refused_same (output_problem c.args.names.now (length c.args.inputs.now) (key_names c.args.outputs.now.keys) c.args.cells.now) c.in_err-output.field-0.0 (unwrap_or (output_number c.args.names.now (output_of c.args.cells.now)) 0) _ c.in_err-output.ensures)

pub insert_name-requires : goal.insert_name-requires
insert_name-requires c =
    let outputs = key_names c.args.outputs.now.keys in
    let taken = judged_ok (output_problem c.args.names.now (length c.args.inputs.now) outputs c.args.cells.now) (unwrap_or (output_number c.args.names.now (output_of c.args.cells.now)) 0) c.in_ok-output.output c.in_ok-output.ensures in
    ap (λ name. list_any (bytes_eq name) outputs) c.output_of.ensures ∙ new_output c.args.names.now (length c.args.inputs.now) outputs c.args.cells.now taken.0

pub returns : goal.returns
returns c =
    let tile = c.args.names.now in
    let inputs = c.args.inputs.now in
    let outputs = key_names c.args.outputs.now.keys in
    let taken = judged_ok (output_problem tile (length inputs) outputs c.args.cells.now) (unwrap_or (output_number tile (output_of c.args.cells.now)) 0) c.in_ok-output.output c.in_ok-output.ensures in
    let named : key_names c.insert_name.new.names.keys ≡ outputs ++ output_of c.args.cells.now ∷ [] = c.in_ok-insert_name.ensures ∙ ap (λ name. outputs ++ name ∷ []) c.output_of.ensures in
    let paired : c.push_pairs.new.pairs.items ≡ c.args.pairs.now.items ++ pairs_of_row tile inputs c.args.cells.now =
    c.in_ok-push_pairs.ensures ∙ (λ j. c.args.pairs.now.items ++ pairs_with (taken.1 j) inputs (c.cells_behind.ensures j))
    in
    λ j. judged (taken.0 j) (record { tile = tile; inputs = Some inputs; outputs = sym named j; pairs = sym paired j })
