use Rattle.std.proofs.Common.{◌≡◌, None, ◌++◌, length, sym, ap, subst, ◌∙◌, arith}
use Rattle.std.proofs.lemmas.Result.{err_from_is_err_and}
use Rattle.fab_base.specs.Reading.{Refuses}
use Rattle.fab_lines.specs.Numbers.{number_of}
use Rattle.fab_tables.specs.Config.{cell_at, frame_of, row_ones, row_bits, entry_bits, entries_with, used_bits, listed_bits, or_else, shape_reason, frame_reason, mask_reason, range_reason, outside_reason, twice_reason}
use Rattle.fab_tables.proofs.Chains.{judged_for, taken_for, refused_fourth, refused_last}
use Rattle.fab_tables.proofs.Tabled.{few_ones}
use Rattle.fab_tables.proofs.config.take_behind.Goals as goal

pub bits_in-requires : goal.bits_in-requires
bits_in-requires c =
    let mask = c.cell_at-2.result.now in
    let count = number_of c.cell_at-3.result.now in
    let taken = taken_for (mask_reason mask count) (used_bits mask) c.in_ok-ones.ones.items c.in_ok-ones.ensures in
    let few = few_ones mask count taken.0 in
    let many : c.len.result ≡ length (used_bits mask) = c.len.ensures ∙ c.in_ok-ones.ones.ok.0 ∙ ap length taken.1 in
    omega (arith, few, many)

pub returns-in_err-bits : goal.returns-in_err-bits
returns-in_err-bits c =
    let residual = err_from_is_err_and c.from_residual-in_err-bits.result c.from_residual-in_err-bits.ensures.1 in
    let cells = c.args.cells.now in
    let frames = c.args.frames.now.items in
    let placed = entry_bits c.args.entries.now.items in
    let bits = c.args.tile_bits in
    let shaped : shape_reason cells ≡ None = sym c.shape_reason.ensures ∙ c.in_default.is in
    let framed : frame_reason frames (frame_of cells) ≡ None =
    sym (λ j. frame_reason (c.deref.ensures.value j) (number_of (c.cell_at.ensures j)))
    ∙ (taken_for (frame_reason c.deref.result.now (number_of c.cell_at.result.now)) (number_of c.cell_at.result.now) c.in_ok-frame.frame c.in_ok-frame.ensures).0
    in
    let ones = taken_for (mask_reason c.cell_at-2.result.now (number_of c.cell_at-3.result.now)) (used_bits c.cell_at-2.result.now) c.in_ok-ones.ones.items c.in_ok-ones.ensures in
    let masked : mask_reason (cell_at cells 3) (number_of (cell_at cells 2)) ≡ None = sym (λ j. mask_reason (c.cell_at-2.ensures j) (number_of (c.cell_at-3.ensures j))) ∙ ones.0 in
    let many : c.len.result ≡ length (row_ones cells) = c.len.ensures ∙ c.in_ok-ones.ones.ok.0 ∙ ap length ones.1 ∙ ap (λ m. length (used_bits m)) c.cell_at-2.ensures in
    let refused : Refuses c.in_err-bits.field-0.0 (judged_for (or_else (range_reason (cell_at cells 4) (length (row_ones cells))) (outside_reason bits (row_bits cells))) (row_bits cells)) =
    subst (λ n. Refuses c.in_err-bits.field-0.0 (judged_for (or_else (range_reason (cell_at cells 4) n) (outside_reason bits (row_bits cells))) (row_bits cells))) many
    (subst (λ text. Refuses c.in_err-bits.field-0.0 (judged_for (or_else (range_reason text c.len.result) (outside_reason bits (listed_bits text))) (listed_bits text))) c.cell_at-4.ensures c.in_err-bits.ensures)
    in
    rw (residual.1, residual.2) (refused_fourth (shape_reason cells) (frame_reason frames (frame_of cells)) (mask_reason (cell_at cells 3) (number_of (cell_at cells 2))) (range_reason (cell_at cells 4) (length (row_ones cells)))
    (outside_reason bits (row_bits cells)) (twice_reason placed (row_bits cells)) c.in_err-bits.field-0.0 (row_bits cells) _ shaped framed masked refused)

pub returns-in_err-push_entries : goal.returns-in_err-push_entries
returns-in_err-push_entries c =
    let residual = err_from_is_err_and c.from_residual-in_err-push_entries.result c.from_residual-in_err-push_entries.ensures.1 in
    let cells = c.args.cells.now in
    let frames = c.args.frames.now.items in
    let placed = entry_bits c.args.entries.now.items in
    let bits = c.args.tile_bits in
    let shaped : shape_reason cells ≡ None = sym c.shape_reason.ensures ∙ c.in_default.is in
    let framed : frame_reason frames (frame_of cells) ≡ None =
    sym (λ j. frame_reason (c.deref.ensures.value j) (number_of (c.cell_at.ensures j)))
    ∙ (taken_for (frame_reason c.deref.result.now (number_of c.cell_at.result.now)) (number_of c.cell_at.result.now) c.in_ok-frame.frame c.in_ok-frame.ensures).0
    in
    let ones = taken_for (mask_reason c.cell_at-2.result.now (number_of c.cell_at-3.result.now)) (used_bits c.cell_at-2.result.now) c.in_ok-ones.ones.items c.in_ok-ones.ensures in
    let masked : mask_reason (cell_at cells 3) (number_of (cell_at cells 2)) ≡ None = sym (λ j. mask_reason (c.cell_at-2.ensures j) (number_of (c.cell_at-3.ensures j))) ∙ ones.0 in
    let many : c.len.result ≡ length (row_ones cells) = c.len.ensures ∙ c.in_ok-ones.ones.ok.0 ∙ ap length ones.1 ∙ ap (λ m. length (used_bits m)) c.cell_at-2.ensures in
    let listed = taken_for (or_else (range_reason c.cell_at-4.result.now c.len.result) (outside_reason bits (listed_bits c.cell_at-4.result.now))) (listed_bits c.cell_at-4.result.now) c.in_ok-bits.bits.items c.in_ok-bits.ensures in
    let ranged : or_else (range_reason (cell_at cells 4) (length (row_ones cells))) (outside_reason bits (row_bits cells)) ≡ None =
    sym (λ j. or_else (range_reason (c.cell_at-4.ensures j) (many j)) (outside_reason bits (listed_bits (c.cell_at-4.ensures j)))) ∙ listed.0
    in
    let same : c.deref-2.result.now ≡ row_bits cells = c.deref-2.ensures.value ∙ listed.1 ∙ ap listed_bits c.cell_at-4.ensures in
    let all = c.args.entries.now.items ++ entries_with c.in_ok-frame.frame c.deref-2.result.now c.deref-3.result.now in
    rw (residual.1, residual.2) (refused_last (shape_reason cells) (frame_reason frames (frame_of cells)) (mask_reason (cell_at cells 3) (number_of (cell_at cells 2))) (range_reason (cell_at cells 4) (length (row_ones cells)))
    (outside_reason bits (row_bits cells)) (twice_reason placed (row_bits cells)) c.in_err-push_entries.field-0.0 all _ shaped framed masked ranged
    (subst (λ its. Refuses c.in_err-push_entries.field-0.0 (judged_for (twice_reason placed its) all)) same c.in_err-push_entries.ensures))
