use Rattle.std.proofs.Common.{rules, ◌≡◌, ◌-◌, ◌/◌, ◌^◌, ◌<◌, List, length, get_or, take, sym, ap, ◌∙◌, subst, arith}
use Rattle.fab_netlist.specs.declared.wide.Cube.{Cube}
use Rattle.fab_wide.specs.inner.Words.{IsRowOf, marked_by}
use Rattle.fab_wide.proofs.Marked.{covered_none, many_covered, row_fits, rows_marked, written_back}
use Rattle.fab_wide.proofs.words.covered_words.Goals as goal

pub loop-row-init : goal.loop-row-init
loop-row-init c = c.in_ok-words.ensures.items_if_clones_equal (λ y is. is) ∙ sym (covered_none 0 c.word_count-count.result)

-- the rows, and how many words the table has
rows_are : (c : goal.After-mark_row-arg-1) → c.deref-row-items.result.now ≡ c.args.cover.now.rows
rows_are c = search rules

many : (c : goal.After-mark_row-arg-1) → length c.deref_mut.result.now ≡ c.word_count-count.result
many c = ap length (c.deref_mut.ensures.value ∙ c.loop-row.invariant)
    ∙ many_covered (take c.loop-row.row-index c.args.cover.now.rows) 0 c.word_count-count.result

pub mark_row-requires-clause-row : goal.mark_row-requires-clause-row
mark_row-requires-clause-row c =
    let inputs = length c.args.cover.now.inputs in
    let read : c.len.result ≡ inputs = search rules in
    let none : Cube = record { care = 0; value = 0 } in
    let within : c.loop-row.row-index < length c.args.cover.now.rows = omega (arith, c.loop-row-test.true, ap length (rows_are c)) in
    let fine = c.requires.rows c.loop-row.row-index none within in
    let count : length c.deref_mut.result.now ≡ 2 ^ (inputs - 4) = many c ∙ c.word_count-count.ensures ∙ ap (λ k. 2 ^ (k - 4)) read in
    subst (λ (rows : List Cube). IsRowOf (length c.deref_mut.result.now) ((get_or rows c.loop-row.row-index none).care / 16)
    ((get_or rows c.loop-row.row-index none).value / 16)) (sym (rows_are c))
    (row_fits inputs (length c.deref_mut.result.now) (get_or c.args.cover.now.rows c.loop-row.row-index none) fine count)

pub loop-row-preserved : goal.loop-row-preserved
loop-row-preserved c =
    let none : Cube = record { care = 0; value = 0 } in
    let rows : c.deref-row-items.result.now ≡ c.args.cover.now.rows = search rules in
    let within : c.loop-row.row-index < length c.args.cover.now.rows = omega (arith, c.loop-row-test.true, ap length rows) in
    written_back c.loop-row.words.len c.loop-row.words.items c.mark_row.new.words (sym (ap length c.deref_mut.ensures.value) ∙ c.deref_mut.ensures.len)
    (c.mark_row.auto.words ∙ ap length c.deref_mut.ensures.value)
    ∙ c.mark_row.ensures
    ∙ (λ j. marked_by (get_or (rows j) c.loop-row.row-index none) 0 ((c.deref_mut.ensures.value ∙ c.loop-row.invariant) j))
    ∙ rows_marked c.args.cover.now.rows c.loop-row.row-index 0 c.word_count-count.result none within
