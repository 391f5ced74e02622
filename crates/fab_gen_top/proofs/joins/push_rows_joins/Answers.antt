use Rattle.std.proofs.Common.{◌++◌, ◌∙◌, ap, sym, map, take, arith, length, refl, slice_get}
use Rattle.std.proofs.lemmas.Option.{slice_get_read}
use Rattle.std.specs.List.{flat_map, enumerate_from}
use Rattle.fab_syntax.specs.Plain.{plain_join}
use Rattle.fab_model.specs.declared.tiles.WireRow.{WireRow}
use Rattle.fab_text_loads_laws.specs.fab_fabric_text_defs_Top.{row_joins}
use Rattle.fab_gen_top.specs.inner.Standing.{placed_of}
use Rattle.fab_gen_tile.proofs.Steps.{behind, flat_placed_more}
use Rattle.fab_gen_top.proofs.joins.push_rows_joins.Goals as goal

pub loop-number-preserved : goal.loop-number-preserved
loop-number-preserved c =
    let i = c.loop-number.number in
    let xs = c.args.rows.now in
    let x = c.index-rows-number.result in
    c.in_ok-push_row_joins.ensures
    ∙ behind (map plain_join c.loop-number.joins.items) (map plain_join c.args.joins.now.items) _ _ _ c.loop-number.invariant
    (ap (λ (b : WireRow). flat_map (row_joins c.args.fabric.now (placed_of c.args.fabric.now c.args.place)) (enumerate_from 0 (take i xs)) ++ (row_joins c.args.fabric.now (placed_of c.args.fabric.now c.args.place)) (i, b)) c.index-rows-number.is
    ∙ sym (flat_placed_more (row_joins c.args.fabric.now (placed_of c.args.fabric.now c.args.place)) xs i x (omega (arith, c.loop-number-test.true, c.loop-number.auto.number-end))))

pub push_row_joins-requires-clause-row : goal.push_row_joins-requires-clause-row
push_row_joins-requires-clause-row c =
    let i = c.loop-number.number in
    let xs = c.args.rows.now in
    let x = c.index-rows-number.result in
    ap (λ rows. slice_get rows i) (sym c.requires.rows)
    ∙ slice_get_read xs (length xs) i x refl (omega (arith, c.loop-number-test.true, c.loop-number.auto.number-end)) c.index-rows-number.is
