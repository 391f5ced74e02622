use Rattle.std.proofs.Common.{◌≡◌, ◌<◌, ◌≤◌, ◌/◌, ◌∙◌, ℕ, Option, length, List, All, Some, None, refl, sym, ap, subst, arith}
use Rattle.std.proofs.lemmas.Result.{err_from_is_err_and}
use Rattle.std.proofs.lemmas.List.Elements.{All-nil}
use Rattle.fab_base.specs.Reading.{IsFaultOr, fault_at}
use Rattle.fab_base.specs.declared.words.Reason.TheVariants as reasons
use Rattle.fab_base.specs.declared.words.Quantity.TheVariants as quantities
use Rattle.fab_base.specs.declared.problem.Problem.TheVariants as problems
use Rattle.fab_desk.specs.Files.{Map}
use Rattle.fab_model.specs.declared.mode.Mode.{Mode}
use Rattle.fab_model.specs.Tables.{HasTable}
use Rattle.fab_blocks.specs.Reading.{PlainReading, PlainGridLine, start}
use Rattle.fab_fabric.specs.Fabric.{fabric_of, in_mode, wire_count}
use Rattle.fab_files.proofs.Causes.{cause_weaker, placed_cause}
use Rattle.fab_read.specs.Rows.{MeetsRowsFile}
use Rattle.fab_read.specs.inner.Following.{ReadsFileTo}
use Rattle.fab_read.specs.Fabrics.{top, strange_line, column_count, places, most_wires, MeetsFabric, of_rows}
use Rattle.fab_read.proofs.Grids.{some_lines, rows_are, reading_is_fabric}
use Rattle.fab_read.proofs.Whole.{grid_absent, spells, tile_absent, wires_past}
use Rattle.fab_read.proofs.fabric.read.Goals as goal

pub returns-in_err-last-clause-cause : goal.returns-in_err-last-clause-cause
returns-in_err-last-clause-cause g c =
    let residual = err_from_is_err_and c.from_residual.result c.from_residual.ensures.1 in
    let told = g.D.Desk.told c.args.desk.now in
    let rose = g.D.Desk.reads c.args.desk.now < g.D.Desk.reads c.take_file.new.desk in
    let name = c.args.name.now in
    rw (residual.1, residual.2) (cause_weaker told told rose rose (λ files. MeetsRowsFile files (top name) c.new-reading.result) (λ files. MeetsFabric files name) c.in_err-last.field-0.0
    refl (λ r. r) (λ files is event met. of_rows (subst (λ (r : PlainReading). MeetsRowsFile files (top name) r event) c.new-reading.ensures met)) c.in_err-last.ensures.cause)

pub returns-in_default-clause-cause : goal.returns-in_default-clause-cause
returns-in_default-clause-cause g c =
    let told = g.D.Desk.told c.args.desk.now in
    let rose = g.D.Desk.reads c.args.desk.now < g.D.Desk.reads c.take_file.new.desk in
    let name = c.args.name.now in
    let reading = c.take_file.new.reading in
    let last = c.in_ok-last.last in
    let read : (files : Map) → told ≡ Some files → ReadsFileTo files (top name) start reading last = λ files is.
    subst (λ (r : PlainReading). ReadsFileTo files (top name) r reading last) c.new-reading.ensures (c.in_ok-last.ensures.read files is) in
    let none : reading.grid ≡ None = sym (rw c.in_default.is at c.into_parts-types.ensures.grid) in
    placed_cause told rose (λ files. MeetsFabric files name) name last (problems.Malformed reasons.Grid) c.at.result (λ files is. grid_absent files name reading last (read files is) none) c.at.ensures

pub returns-in-Some-strange_line-clause-cause : goal.returns-in-Some-strange_line-clause-cause
returns-in-Some-strange_line-clause-cause g c =
    let told = g.D.Desk.told c.args.desk.now in
    let rose = g.D.Desk.reads c.args.desk.now < g.D.Desk.reads c.take_file.new.desk in
    let name = c.args.name.now in
    let reading = c.take_file.new.reading in
    let last = c.in_ok-last.last in
    let types = c.into_parts-types.result.0.items in
    let lines = c.in-Some.lines.items in
    let line = c.in-Some-strange_line.line.now in
    let fault = c.at-in-Some-strange_line.result in
    let problem = problems.Malformed reasons.Tile in
    let read : (files : Map) → told ≡ Some files → ReadsFileTo files (top name) start reading last = λ files is.
    subst (λ (r : PlainReading). ReadsFileTo files (top name) r reading last) c.new-reading.ensures (c.in_ok-last.ensures.read files is) in
    let grid_of : reading.grid ≡ Some lines = sym (rw c.in-Some.is at c.into_parts-types.ensures.grid) in
    let strange : strange_line types lines ≡ Some line = (λ j. strange_line (sym c.deref.ensures.value j) (sym c.deref-2.ensures.value j)) ∙ sym c.in-Some-strange_line.ensures in
    let place : IsFaultOr fault (fault_at line.file line.line problem) = subst (λ (l : PlainGridLine). IsFaultOr fault (fault_at l.file l.line problem)) c.line.view_is c.at-in-Some-strange_line.ensures in
    placed_cause told rose (λ files. MeetsFabric files name) line.file line.line problem fault
    (λ files is. tile_absent files name reading last (read files is) types c.into_parts-types.ensures.types lines grid_of line strange) place

pub count_wires-requires : goal.count_wires-requires
count_wires-requires g c =
    let reading = c.take_file.new.reading in
    let types = c.into_parts-types.result.0.items in
    let lines = c.in-Some.lines.items in
    let columns = c.column_count-columns.result in
    let grid = c.in_ok-grid.grid.items in
    let sound = c.into_parts-types.ensures.sound in
    let grid_of : reading.grid ≡ Some lines = sym (rw c.in-Some.is at c.into_parts-types.ensures.grid) in
    let columns_are : columns ≡ column_count lines = c.column_count-columns.ensures ∙ ap column_count c.deref-3.ensures.value in
    let grid_is : grid ≡ places types lines = c.in_ok-grid.ensures ∙ (λ j. places (c.deref-4.ensures.value j) (c.deref-5.ensures.value j)) in
    let some : 1 ≤ length lines = some_lines reading lines sound c.in_ok-last.ensures.closed grid_of in
    let rows = rows_are types lines columns grid columns_are grid_is some (sound.grid lines grid_of) in
    let counted : c.len.result ≡ length lines = omega (arith, c.len.ensures, c.in-Some.lines.ok) in
    counted ∙ sym rows.1 ∙ ap (λ (g : List (Option ℕ)). length g / columns) (sym c.deref-7.ensures.value)

pub returns-then-wires-gt-MOST_WIRES-clause-cause : goal.returns-then-wires-gt-MOST_WIRES-clause-cause
returns-then-wires-gt-MOST_WIRES-clause-cause g c =
    let told = g.D.Desk.told c.args.desk.now in
    let rose = g.D.Desk.reads c.args.desk.now < g.D.Desk.reads c.take_file.new.desk in
    let name = c.args.name.now in
    let reading = c.take_file.new.reading in
    let last = c.in_ok-last.last in
    let types = c.into_parts-types.result.0.items in
    let lines = c.in-Some.lines.items in
    let columns = c.column_count-columns.result in
    let grid = c.in_ok-grid.grid.items in
    let wires = c.in_ok-wires.wires in
    let read : (files : Map) → told ≡ Some files → ReadsFileTo files (top name) start reading last = λ files is.
    subst (λ (r : PlainReading). ReadsFileTo files (top name) r reading last) c.new-reading.ensures (c.in_ok-last.ensures.read files is) in
    let grid_of : reading.grid ≡ Some lines = sym (rw c.in-Some.is at c.into_parts-types.ensures.grid) in
    let columns_are : columns ≡ column_count lines = c.column_count-columns.ensures ∙ ap column_count c.deref-3.ensures.value in
    let grid_is : grid ≡ places types lines = c.in_ok-grid.ensures ∙ (λ j. places (c.deref-4.ensures.value j) (c.deref-5.ensures.value j)) in
    let named : strange_line types lines ≡ None = sym (c.in_default-strange_line.ensures ∙ (λ j. strange_line (c.deref.ensures.value j) (c.deref-2.ensures.value j))) in
    let wires_are : wires ≡ wire_count (fabric_of types columns grid) = c.in_ok-wires.ensures ∙ (λ j. wire_count (fabric_of (c.deref-6.ensures.value j) columns (c.deref-7.ensures.value j))) in
    placed_cause told rose (λ files. MeetsFabric files name) name last (problems.Limit quantities.Wires wires most_wires) c.at-then-wires-gt-MOST_WIRES.result
    (λ files is. wires_past files name reading last (read files is) types c.into_parts-types.ensures.types lines grid_of columns grid wires named columns_are grid_is wires_are c.if-wires-gt-MOST_WIRES.true)
    c.at-then-wires-gt-MOST_WIRES.ensures

pub with_mode-requires : goal.with_mode-requires
with_mode-requires g c =
    let reading = c.take_file.new.reading in
    let types = c.into_parts-types.result.0.items in
    let lines = c.in-Some.lines.items in
    let columns = c.column_count-columns.result in
    let grid = c.in_ok-grid.grid.items in
    let sound = c.into_parts-types.ensures.sound in
    let grid_of : reading.grid ≡ Some lines = sym (rw c.in-Some.is at c.into_parts-types.ensures.grid) in
    let columns_are : columns ≡ column_count lines = c.column_count-columns.ensures ∙ ap column_count c.deref-3.ensures.value in
    let grid_is : grid ≡ places types lines = c.in_ok-grid.ensures ∙ (λ j. places (c.deref-4.ensures.value j) (c.deref-5.ensures.value j)) in
    let wires_are : c.in_ok-wires.wires ≡ wire_count (fabric_of types columns grid) = c.in_ok-wires.ensures ∙ (λ j. wire_count (fabric_of (c.deref-6.ensures.value j) columns (c.deref-7.ensures.value j))) in
    let tables : All HasTable reading.types = c.in_ok-last.ensures.tables (subst (λ (r : PlainReading). All HasTable r.types) (sym c.new-reading.ensures) (All-nil HasTable)) in
    reading_is_fabric reading types lines columns grid c.in_ok-wires.wires c.into_parts-types.ensures.types grid_of sound (some_lines reading lines sound c.in_ok-last.ensures.closed grid_of) tables columns_are grid_is wires_are
    c.if-wires-gt-MOST_WIRES.false

pub returns-clause-spelled : goal.returns-clause-spelled
returns-clause-spelled g c = λ files is.
    let name = c.args.name.now in
    let reading = c.take_file.new.reading in
    let last = c.in_ok-last.last in
    let types = c.into_parts-types.result.0.items in
    let lines = c.in-Some.lines.items in
    let columns = c.column_count-columns.result in
    let grid = c.in_ok-grid.grid.items in
    let read : ReadsFileTo files (top name) start reading last =
    subst (λ (r : PlainReading). ReadsFileTo files (top name) r reading last) c.new-reading.ensures (c.in_ok-last.ensures.read files is) in
    let grid_of : reading.grid ≡ Some lines = sym (rw c.in-Some.is at c.into_parts-types.ensures.grid) in
    let columns_are : columns ≡ column_count lines = c.column_count-columns.ensures ∙ ap column_count c.deref-3.ensures.value in
    let grid_is : grid ≡ places types lines = c.in_ok-grid.ensures ∙ (λ j. places (c.deref-4.ensures.value j) (c.deref-5.ensures.value j)) in
    let named : strange_line types lines ≡ None = sym (c.in_default-strange_line.ensures ∙ (λ j. strange_line (c.deref.ensures.value j) (c.deref-2.ensures.value j))) in
    let wires_are : c.in_ok-wires.wires ≡ wire_count (fabric_of types columns grid) = c.in_ok-wires.ensures ∙ (λ j. wire_count (fabric_of (c.deref-6.ensures.value j) columns (c.deref-7.ensures.value j))) in
    spells files name reading last read types c.into_parts-types.ensures.types lines grid_of columns grid c.in_ok-wires.wires c.in_ok-with_mode.field-0 named columns_are grid_is wires_are
    c.if-wires-gt-MOST_WIRES.false (c.in_ok-with_mode.ensures ∙ ap (λ (mode : Mode). in_mode mode (fabric_of types columns grid)) c.configuration-mode.ensures)
