use Rattle.std.proofs.Common.{◌≡◌, ◌∙◌, ◌++◌, List, ap}
use Rattle.fab_texts.specs.Printed.{row_text, rows_text}
use Rattle.fab_texts.specs.Rows.{Word}
use Rattle.fab_state.specs.Plain.{PlainState}
use Rattle.fab_stimulus.specs.Spelled.{names_line}
use Rattle.fab_stimulus.specs.Stimuli.{ports_of}
use Rattle.fab_stimulus.proofs.PrintedLines.{lines_same}
use Rattle.fab_stimulus.proofs.trace.print_trace.Goals as goal

pub returns : goal.returns
returns c =
    let outs : c.deref.result.now ≡ c.args.state.now.outs = c.deref.ensures.value ∙ ap (λ (state : PlainState). state.outs) c.state.view_is in
    rw (c.in_ok-put_lines.ensures, c.in_ok-put_names.ensures, c.new-out.ensures.items, outs)
    (ap (λ (rest : List (List Word)). row_text (names_line (ports_of c.args.state.now.outs)) ++ rows_text rest) (lines_same c.args.lines.now))
