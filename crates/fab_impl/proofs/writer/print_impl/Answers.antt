use Rattle.std.proofs.Common.{◌∙◌, ap, ℕ, List}
use Rattle.std.proofs.lemmas.Result.{IfOk-weaker}
use Rattle.fab_texts.specs.Rows.{rows_of, words_of}
use Rattle.fab_texts.proofs.PrintedRows.{rows_again}
use Rattle.fab_impl.specs.Spelled.{implementation_lines}
use Rattle.fab_impl.proofs.ReadBack.{spelled_is_read}
use Rattle.fab_impl.proofs.writer.print_impl.Goals as goal

pub returns-clause-spells : goal.returns-clause-spells
returns-clause-spells c =
    let fabric = c.args.fabric.now in
    let it = c.args.implementation.now in
    IfOk-weaker c.print.result _ _ (λ text is has. record {
      lines = ap (λ (bytes : List ℕ). words_of (rows_of bytes)) is ∙ rows_again (implementation_lines fabric it) has.rows;
      nameable = has.nameable;
    }) c.print.ensures.text

pub returns-clause-says : goal.returns-clause-says
returns-clause-says c =
    IfOk-weaker c.print.result _ _ (λ text spells has. spelled_is_read c.args.fabric.now c.is_well_made.ensures.is_fabric c.is_well_made.ensures.are_tiles (rows_of text.items) c.args.implementation.now (spells has)) (returns-clause-spells c)
