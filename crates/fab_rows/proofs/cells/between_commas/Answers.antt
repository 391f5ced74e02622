use Rattle.std.proofs.Common.{ℕ, List, map, rules, tests, ap, ◌∙◌, sym, eqb, Bor}
use Rattle.std.proofs.lemmas.Iterator.Consumers.{YieldsList-at, YieldsList-end}
use Rattle.std.proofs.lemmas.Iterator.Splits.{YieldsList-from_slice_split}
use Rattle.fab_lines.specs.Parts.{trimmed}
use Rattle.fab_lines.proofs.LastItems.{map-map}
use Rattle.fab_rows.proofs.cells.between_commas.Goals as goal

pub returns : goal.returns
returns c =
    let all = YieldsList-end (YieldsList-at c.into_iter-cell-iterator.ensures.into_iter_gives (YieldsList-from_slice_split _ (λ byte. eqb byte 44) c.args.line.now c.split-cell-items.ensures.rest c.split-cell-items.ensures.done c.split-cell-items.ensures.closure (λ x b q k. search (rules, tests)))) c.loop-cell.yielded c.loop-cell.cell-iterator c.loop-cell.yielded_by c.next.result c.next.new.self c.in-None.is c.next.ensures.steps in
    c.loop-cell.invariant ∙ sym (map-map trimmed (λ (s : Bor (List ℕ)). s.now) c.loop-cell.yielded) ∙ ap (map trimmed) all.0
