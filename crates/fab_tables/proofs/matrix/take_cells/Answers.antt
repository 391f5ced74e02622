use Rattle.std.proofs.Common.{ℕ, None, Option, List, Vec, Global, sym, ap, subst}
use Rattle.std.specs.Prelude.{option_map}
use Rattle.std.proofs.lemmas.Result.{err_from_is_err_and}
use Rattle.fab_base.specs.Reading.{Refuses}
use Rattle.fab_lines.specs.Order.{judged}
use Rattle.fab_bits.specs.Keys.{key_names}
use Rattle.fab_tables.specs.Matrix.{cells_behind, inputs_problem, input_numbers}
use Rattle.fab_tables.specs.inner.FollowingMatrix.{MatrixState, after_cells, with_inputs}
use Rattle.fab_tables.proofs.Chains.{refused_same}
use Rattle.fab_tables.proofs.matrix.take_cells.Goals as goal

pub returns-in_err-numbers : goal.returns-in_err-numbers
returns-in_err-numbers c =
    let tile = c.args.names.now in
    let cells = c.args.cells.now in
    let state : Option (List ℕ) → MatrixState = λ inputs. record { tile = tile; inputs = inputs; outputs = key_names c.args.outputs.now.keys; pairs = c.args.pairs.now.items } in
    let numbers : Option (Vec ℕ Global) → Option (List ℕ) = λ found. option_map (λ inputs. inputs.items) found in
    let refused : Refuses c.in_err-numbers.field-0.0 (judged (inputs_problem tile (cells_behind cells)) (input_numbers tile (cells_behind cells))) =
    subst (λ behind. Refuses c.in_err-numbers.field-0.0 (judged (inputs_problem tile behind) (input_numbers tile behind))) c.cells_behind.ensures c.in_err-numbers.ensures
    in
    let residual = err_from_is_err_and c.from_residual.result c.from_residual.ensures.1 in
    rw (residual.1, residual.2) (subst (λ inputs. Refuses c.in_err-numbers.field-0.0 (after_cells (state inputs) cells)) (sym (ap numbers c.in_default.is))
    (refused_same (inputs_problem tile (cells_behind cells)) c.in_err-numbers.field-0.0 (input_numbers tile (cells_behind cells)) (with_inputs (state None) (input_numbers tile (cells_behind cells))) refused))
