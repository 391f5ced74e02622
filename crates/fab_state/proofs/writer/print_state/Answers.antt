use Rattle.std.proofs.Common.{◌∙◌, ap, ℕ, List}
use Rattle.std.proofs.lemmas.Result.{IfOk-weaker}
use Rattle.fab_texts.specs.Rows.{rows_of, words_of}
use Rattle.fab_texts.proofs.PrintedRows.{rows_again}
use Rattle.fab_state.specs.Spelled.{state_lines}
use Rattle.fab_state.proofs.Printed.{state_rows}
use Rattle.fab_state.proofs.ReadBack.{spelled_is_read}
use Rattle.fab_state.proofs.writer.print_state.Goals as goal

pub returns-clause-spells : goal.returns-clause-spells
returns-clause-spells c =
    IfOk-weaker c.print.result _ _ (λ text is has. record {
      lines = ap (λ (bytes : List ℕ). words_of (rows_of bytes)) is ∙ rows_again (state_lines c.args.state.now) (state_rows c.args.state.now has);
      fresh = has.fresh;
    }) c.print.ensures

pub returns-clause-says : goal.returns-clause-says
returns-clause-says c = IfOk-weaker c.print.result _ _ (λ text spells has. spelled_is_read (rows_of text.items) c.args.state.now (spells has)) (returns-clause-spells c)
