use Rattle.std.proofs.Common.{◌∙◌, ap, sym, length, Ok, Result, List}
use Rattle.std.specs.Prelude.{max}
use Rattle.std.specs.Str.Lines.{lines}
use Rattle.fab_base.specs.declared.problem.Problem.{Problem}
use Rattle.fab_implementation.specs.Plain.{Pad}
use Rattle.fab_lines.specs.Order.{placed, read_all}
use Rattle.fab_texts.specs.Rows.{rows_of, after_row}
use Rattle.fab_texts.proofs.Endings.{made_of}
use Rattle.fab_state.specs.Constraints.{Fixing, data_ports, unfixed, take_fixing}
use Rattle.fab_state.proofs.constraints.read.Goals as goal

pub returns : goal.returns
returns c =
    let fabric = c.args.fabric.now in
    let answer = read_all (after_row take_fixing) (λ row. row.line) (unfixed fabric (data_ports c.args.netlist.now)) (rows_of c.args.bytes.now) in
    let start = c.nothing.ensures ∙ ap (unfixed fabric) c.in_ok-allowed.ensures in
    let read = ap (λ (first : Fixing). placed c.args.file.now (read_all (after_row take_fixing) (λ row. row.line) first (rows_of c.args.bytes.now))) (sym start) ∙ c.in_ok-known.ensures in
    made_of (λ (k : Fixing). let r : Result (List Pad) Problem = Ok k.pads in r) c.args.file.now (max 1 (length (lines c.args.bytes.now))) answer c.in_ok-known.known c.into_fixed.result read
    (ap (λ (pads : List Pad). let r : Result (List Pad) Problem = Ok pads in r) (sym c.into_fixed.ensures))
