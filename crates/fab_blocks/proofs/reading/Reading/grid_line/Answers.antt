use Rattle.std.proofs.Common.{ℕ, List, Option, Vec, Global, [], ◌∷◌, sym, ap, ◌∙◌, subst, length, length-append, ◌<◌, arith}
use Rattle.std.specs.Prelude.{unwrap_or}
use Rattle.std.specs.Option.{option_map}
use Rattle.fab_rows.specs.Rows.{PlainRow}
use Rattle.fab_blocks.specs.Reading.{PlainGridLine, IsGrid}
use Rattle.fab_blocks.specs.Saying.{line_problem}
use Rattle.fab_blocks.proofs.Readings.{sound_lines, grid_more, lines_are_grid, items_of}
use Rattle.fab_blocks.proofs.reading.Reading.grid_line.Goals as goal

pub invariant_of-self-2 : goal.invariant_of-self-2
invariant_of-self-2 c =
    let lines = c.unwrap_or-lines.result.items in
    let line = c.in_ok-line_of.field-0 in
    let cells = c.deref-2.ensures.value ∙ ap (λ (r : PlainRow). r.cells) c.row.view_is ∙ sym (ap (λ (l : PlainGridLine). l.cells) c.in_ok-line_of.ensures) in
    let fine = sym (c.line_problem.ensures ∙ ap (λ (ls : List PlainGridLine). line_problem ls c.deref-2.result.now) c.deref.ensures.value ∙ ap (line_problem lines) cells) ∙ c.in_default.is in
    let found = ap (λ (v : Vec PlainGridLine Global). v.items) c.unwrap_or-lines.ensures ∙ items_of c.take.result c.new.result c.new.ensures.items ∙ ap (λ (o : Option (Vec PlainGridLine Global)). unwrap_or (option_map (λ (v : Vec PlainGridLine Global). v.items) o) []) c.take.ensures.value in
    let grid = subst IsGrid (sym found) (lines_are_grid _ c.self.invariant.grid) in
    let some : 0 < length line.cells = subst (λ (cs : List (List ℕ)). 0 < length cs) (sym (ap (λ (l : PlainGridLine). l.cells) c.in_ok-line_of.ensures)) c.requires in
    let more = grid_more lines line grid fine some in
    sound_lines _ c.push.new.self.items c.self.invariant (subst IsGrid (sym c.in_ok-push.ensures.items) more) (omega (arith, ap length c.in_ok-push.ensures.items, length-append lines (line ∷ [])))
