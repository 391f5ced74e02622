use Rattle.std.proofs.Common.{◌≡◌, ◌<◌, ◌≤◌, ◌-◌, ◌+◌, ◌∷◌, ◌∙◌, ℕ, true, false, not, All, List, length, Ok, Some, sym, ap, refl, subst, arith}
use Rattle.std.proofs.lemmas.Result.{IfOk-weaker, IfErr-weaker, err_from_is_err_and, on_ok_weaker}
use Rattle.fab_base.specs.Reading.{IsFaultOr, fault_at}
use Rattle.fab_base.specs.declared.problem.Problem.TheVariants as problems
use Rattle.fab_base.specs.declared.words.Reason.TheVariants as reasons
use Rattle.fab_blocks.specs.Reading.{PlainHolder}
use Rattle.fab_blocks.specs.Saying.{said_of}
use Rattle.fab_blocks.specs.declared.standing.Said.TheVariants as said
use Rattle.fab_desk.specs.Files.{Map}
use Rattle.fab_model.specs.Tables.{HasTable}
use Rattle.fab_rows.specs.Rows.{PlainRow, rows_of, rows_at}
use Rattle.fab_lines.specs.Counts.{last_line}
use Rattle.fab_files.specs.Files.{MeetsFile, handed_out}
use Rattle.fab_list_files.proofs.Rows.{cause_at}
use Rattle.fab_files.proofs.Causes.{cause_weaker, placed_cause}
use Rattle.fab_read.specs.Rows.{end_at, is_left_open, ReadsRows, MeetsRows, MeetsRowsFile, of_file, of_rows, of_end}
use Rattle.fab_read.specs.Tiles.{End, MeetsTile}
use Rattle.fab_read.specs.inner.Following.{EndsTile, MeetsRow}
use Rattle.fab_read.proofs.Opened.{opened_included, opened_named}
use Rattle.fab_read.proofs.RowByRow.{taken_leads, file_leads, tile_leads, file_meets, tile_meets, bad_meets, leads_further, leads_to_end, leads_to_event}
use Rattle.fab_read.proofs.rows.+rows.Goals as goal

pub take_rows-returns-in_err-take_row-clause-cause : goal.take_rows-returns-in_err-take_row-clause-cause
take_rows-returns-in_err-take_row-clause-cause g t c =
    let residual = err_from_is_err_and c.from_residual-in_err-take_row.result c.from_residual-in_err-take_row.ensures.1 in
    let holder = c.args.holder.now in
    let before = c.args.reading.now in
    let here = c.loop-row.reading in
    let told = g.D.Desk.told c.args.desk.now in
    let now_told = g.D.Desk.told c.loop-row.desk in
    let reads = g.D.Desk.reads in
    let rows = rows_of c.args.bytes.now in
    let row = c.in-Some.row in
    rw (residual.1, residual.2) (cause_weaker now_told told (reads c.loop-row.desk < reads c.take_row.new.desk) (reads c.args.desk.now < reads c.take_row.new.desk)
    (λ files. MeetsRow files holder here row) (λ files. MeetsRows files holder before rows) c.in_err-take_row.field-0.0
    c.loop-row.invariant.told (λ r. omega (arith, r, c.loop-row.invariant.reads))
    (λ files is event met.
    leads_to_event files holder before rows here row (rows_at c.loop-row.line c.loop-row.rest.now) (rows_at (row.line + 1) c.in-Some.after.now) event
    (rw c.in-Some.is at c.in_ok-row.ensures.next)
    (c.loop-row.invariant.on files is) met)
    c.in_err-take_row.ensures.cause)

pub take_rows-loop-row-preserved : goal.take_rows-loop-row-preserved
take_rows-loop-row-preserved g t c =
    let holder = c.args.holder.now in
    let before = c.args.reading.now in
    let here = c.loop-row.reading in
    let next = c.take_row.new.reading in
    let row = c.in-Some.row in
    let after = c.in-Some.after.now in
    let line : c.row.inside.line ≡ row.line = ap (λ (r : PlainRow). r.line) c.row.view_is in
    let cut : rows_at c.loop-row.line c.loop-row.rest.now ≡ row ∷ rows_at (row.line + 1) after = rw c.in-Some.is at c.in_ok-row.ensures.next in
    let numbered : row.line + 1 + length after ≤ c.loop-row.line + length c.loop-row.rest.now = rw c.in-Some.is at c.in_ok-row.ensures.numbered in
    let shorter : length after < length c.loop-row.rest.now = rw c.in-Some.is at c.in_ok-row.ensures.shorter in
    record {
      told = c.in_ok-take_row.ensures.told ∙ c.loop-row.invariant.told;
      writes = c.in_ok-take_row.ensures.writes ∙ c.loop-row.invariant.writes;
      reads = omega (arith, c.in_ok-take_row.ensures.reads, c.loop-row.invariant.reads);
      tables = λ sound. c.in_ok-take_row.ensures.tables (c.loop-row.invariant.tables sound);
      on = λ files is.
          leads_further files holder before (rows_of c.args.bytes.now) here next row (rows_at c.loop-row.line c.loop-row.rest.now) (rows_at (c.row.inside.line + 1) after)
          (cut ∙ ap (λ n. row ∷ rows_at (n + 1) after) (sym line))
          (c.loop-row.invariant.on files is) (c.in_ok-take_row.ensures.read files (c.loop-row.invariant.told ∙ is));
      small = omega (arith, shorter, c.loop-row.invariant.small);
      room = omega (arith, line, numbered, c.loop-row.invariant.room);
    }

pub take_rows-returns-clause-read : goal.take_rows-returns-clause-read
take_rows-returns-clause-read g t c = λ files is.
    leads_to_end files c.args.holder.now c.args.reading.now (rows_of c.args.bytes.now) c.loop-row.reading (rows_at c.loop-row.line c.loop-row.rest.now)
    (rw c.in_default.is at c.in_ok-row.ensures.next) (c.loop-row.invariant.on files is)

pub take_file-returns-in_err-bytes-clause-cause : goal.take_file-returns-in_err-bytes-clause-cause
take_file-returns-in_err-bytes-clause-cause g t c =
    let residual = err_from_is_err_and c.from_residual.result c.from_residual.ensures.1 in
    let told = g.D.Desk.told c.args.desk.now in
    let rose = g.D.Desk.reads c.args.desk.now < g.D.Desk.reads c.fetch.new.desk in
    let holder = c.args.holder.now in
    let file = ap (λ (h : PlainHolder). h.file) c.holder.view_is in
    rw (residual.1, residual.2) (cause_weaker told told rose rose (λ files. MeetsFile files c.holder.inside.file.now) (λ files. MeetsRowsFile files holder c.args.reading.now) c.in_err-bytes.field-0.0
    refl (λ r. r) (λ files is event met. of_file (subst (λ (name : List ℕ). MeetsFile files name event) file met)) c.in_err-bytes.ensures.cause)

pub take_file-returns-in_err-take_rows-clause-cause : goal.take_file-returns-in_err-take_rows-clause-cause
take_file-returns-in_err-take_rows-clause-cause g t c =
    let residual = err_from_is_err_and c.from_residual-in_err-take_rows.result c.from_residual-in_err-take_rows.ensures.1 in
    let told = g.D.Desk.told c.args.desk.now in
    let reads = g.D.Desk.reads in
    let holder = c.args.holder.now in
    let before = c.args.reading.now in
    let rows = rows_of c.deref.result.now in
    let file = ap (λ (h : PlainHolder). h.file) c.holder.view_is in
    let found : (files : Map) → told ≡ Some files → handed_out files holder.file ≡ Ok c.deref.result.now = λ files is.
    subst (λ (name : List ℕ). handed_out files name ≡ Ok c.deref.result.now) file (rw c.deref.ensures.value (c.in_ok-bytes.ensures.found files is)) in
    rw (residual.1, residual.2) (cause_weaker (g.D.Desk.told c.fetch.new.desk) told (reads c.fetch.new.desk < reads c.take_rows.new.desk) (reads c.args.desk.now < reads c.take_rows.new.desk)
    (λ files. MeetsRows files holder before rows) (λ files. MeetsRowsFile files holder before) c.in_err-take_rows.field-0.0
    c.in_ok-bytes.ensures.told (λ r. omega (arith, r, c.in_ok-bytes.ensures.reads)) (λ files is event met. of_rows (found files is) met) c.in_err-take_rows.ensures.cause)

pub take_file-returns-then-is_left_open-clause-cause : goal.take_file-returns-then-is_left_open-clause-cause
take_file-returns-then-is_left_open-clause-cause g t c =
    let told = g.D.Desk.told c.args.desk.now in
    let rose = g.D.Desk.reads c.args.desk.now < g.D.Desk.reads c.take_rows.new.desk in
    let holder = c.args.holder.now in
    let before = c.args.reading.now in
    let bytes = c.deref.result.now in
    let problem = problems.Malformed reasons.EndOfFile in
    let file : c.holder.inside.file.now ≡ holder.file = ap (λ (h : PlainHolder). h.file) c.holder.view_is in
    let last : c.last_line-last.result ≡ last_line bytes = c.last_line-last.ensures ∙ ap last_line (c.deref-2.ensures.value ∙ sym c.deref.ensures.value) in
    let found : (files : Map) → told ≡ Some files → handed_out files holder.file ≡ Ok bytes = λ files is.
    subst (λ (name : List ℕ). handed_out files name ≡ Ok bytes) file (rw c.deref.ensures.value (c.in_ok-bytes.ensures.found files is)) in
    let still : is_left_open holder c.take_rows.new.reading ≡ true = sym c.is_left_open.ensures ∙ c.if-is_left_open.true in
    let place : IsFaultOr c.at.result (fault_at holder.file (last_line bytes) problem) =
    subst (λ (n : ℕ). IsFaultOr c.at.result (fault_at holder.file n problem)) last (subst (λ (name : List ℕ). IsFaultOr c.at.result (fault_at name c.last_line-last.result problem)) file c.at.ensures) in
    placed_cause told rose (λ files. MeetsRowsFile files holder before) holder.file (last_line bytes) problem c.at.result
    (λ files is. of_end (found files is) (c.in_ok-take_rows.ensures.read files (c.in_ok-bytes.ensures.told ∙ is)) still) place

pub take_row-returns-in_err-take_file-in-Includes-clause-cause : goal.take_row-returns-in_err-take_file-in-Includes-clause-cause
take_row-returns-in_err-take_file-in-Includes-clause-cause g t c =
    let residual = err_from_is_err_and c.from_residual.result c.from_residual.ensures.1 in
    let told = g.D.Desk.told c.args.desk.now in
    let rose = g.D.Desk.reads c.args.desk.now < g.D.Desk.reads c.take_file.new.desk in
    let holder = c.args.holder.now in
    let next = c.take.new.reading in
    let inside = c.holder.inside in
    let other : PlainHolder = record { file = c.in-Includes.file; is_fabric = inside.is_fabric; is_own = not c.is_open.result; left = inside.left - 1 } in
    let opened = opened_included holder next c.in-Includes.file inside.is_fabric c.is_open.result inside.left (ap (λ (h : PlainHolder). h.is_fabric) c.holder.view_is) c.is_open.ensures (ap (λ (h : PlainHolder). h.left) c.holder.view_is) in
    rw (residual.1, residual.2) (cause_weaker told told rose rose (λ files. MeetsRowsFile files other next) (λ files. MeetsRow files holder c.args.reading.now c.args.row.now) c.in_err-take_file-in-Includes.field-0.0
    refl (λ r. r) (λ files is event met. file_meets files holder c.args.reading.now c.args.row.now next (said.Includes c.in-Includes.file) other (rw c.in-Includes.is at c.in-Ok.ensures.said) opened event met)
    c.in_err-take_file-in-Includes.ensures.cause)

pub take_row-returns-in_err-take_file-in-NamesTiles-clause-cause : goal.take_row-returns-in_err-take_file-in-NamesTiles-clause-cause
take_row-returns-in_err-take_file-in-NamesTiles-clause-cause g t c =
    let residual = err_from_is_err_and c.from_residual-in_err-take_file-in-NamesTiles.result c.from_residual-in_err-take_file-in-NamesTiles.ensures.1 in
    let told = g.D.Desk.told c.args.desk.now in
    let rose = g.D.Desk.reads c.args.desk.now < g.D.Desk.reads c.take_file-in-NamesTiles.new.desk in
    let holder = c.args.holder.now in
    let next = c.take.new.reading in
    let inside = c.holder.inside in
    let other : PlainHolder = record { file = c.in-NamesTiles.file; is_fabric = false; is_own = not c.is_open-in-NamesTiles.result; left = inside.left } in
    let opened = opened_named holder next c.in-NamesTiles.file c.is_open-in-NamesTiles.result inside.left c.is_open-in-NamesTiles.ensures (ap (λ (h : PlainHolder). h.left) c.holder.view_is) in
    rw (residual.1, residual.2) (cause_weaker told told rose rose (λ files. MeetsRowsFile files other next) (λ files. MeetsRow files holder c.args.reading.now c.args.row.now) c.in_err-take_file-in-NamesTiles.field-0.0
    refl (λ r. r) (λ files is event met. file_meets files holder c.args.reading.now c.args.row.now next (said.NamesTiles c.in-NamesTiles.file) other (rw c.in-NamesTiles.is at c.in-Ok.ensures.said) opened event met)
    c.in_err-take_file-in-NamesTiles.ensures.cause)

pub take_row-returns-in-Taken-clause-read : goal.take_row-returns-in-Taken-clause-read
take_row-returns-in-Taken-clause-read g t c = λ files is. taken_leads files c.args.holder.now c.args.reading.now c.args.row.now c.take.new.reading (rw c.in-Taken.is at c.in-Ok.ensures.said)

pub take_row-returns-in_ok-take_file-in-Includes-clause-read : goal.take_row-returns-in_ok-take_file-in-Includes-clause-read
take_row-returns-in_ok-take_file-in-Includes-clause-read g t c = λ files is.
    let holder = c.args.holder.now in
    let next = c.take.new.reading in
    let inside = c.holder.inside in
    let other : PlainHolder = record { file = c.in-Includes.file; is_fabric = inside.is_fabric; is_own = not c.is_open.result; left = inside.left - 1 } in
    let opened = opened_included holder next c.in-Includes.file inside.is_fabric c.is_open.result inside.left (ap (λ (h : PlainHolder). h.is_fabric) c.holder.view_is) c.is_open.ensures (ap (λ (h : PlainHolder). h.left) c.holder.view_is) in
    file_leads files holder c.args.reading.now c.args.row.now next c.take_file.new.reading (said.Includes c.in-Includes.file) other c.in_ok-take_file-in-Includes.field-0 (rw c.in-Includes.is at c.in-Ok.ensures.said) opened
    (c.in_ok-take_file-in-Includes.ensures.read files is)

pub take_row-returns-in_ok-take_file-in-NamesTiles-clause-read : goal.take_row-returns-in_ok-take_file-in-NamesTiles-clause-read
take_row-returns-in_ok-take_file-in-NamesTiles-clause-read g t c = λ files is.
    let holder = c.args.holder.now in
    let next = c.take.new.reading in
    let inside = c.holder.inside in
    let other : PlainHolder = record { file = c.in-NamesTiles.file; is_fabric = false; is_own = not c.is_open-in-NamesTiles.result; left = inside.left } in
    let opened = opened_named holder next c.in-NamesTiles.file c.is_open-in-NamesTiles.result inside.left c.is_open-in-NamesTiles.ensures (ap (λ (h : PlainHolder). h.left) c.holder.view_is) in
    file_leads files holder c.args.reading.now c.args.row.now next c.take_file-in-NamesTiles.new.reading (said.NamesTiles c.in-NamesTiles.file) other c.in_ok-take_file-in-NamesTiles.field-0
    (rw c.in-NamesTiles.is at c.in-Ok.ensures.said) opened (c.in_ok-take_file-in-NamesTiles.ensures.read files is)

pub take_row-returns-in-EndsTile-clause-read : goal.take_row-returns-in-EndsTile-clause-read
take_row-returns-in-EndsTile-clause-read g t c = λ files is.
    let holder = c.args.holder.now in
    let row = c.args.row.now in
    let next = c.take.new.reading in
    let block = c.in-EndsTile.block in
    let end : record { file = c.holder.inside.file.now; line = c.row.inside.line; left = c.holder.inside.left } ≡ end_at holder row = λ j. end_at (c.holder.view_is j) (c.row.view_is j) in
    IfOk-weaker c.end_tile.result _ _
    (λ _ ended. tile_leads files holder c.args.reading.now row next c.end_tile.new.reading block (rw c.in-EndsTile.is at c.in-Ok.ensures.said) (subst (λ (e : End). EndsTile files e block next c.end_tile.new.reading) end ended))
    (c.end_tile.ensures.read files is)

pub take_row-returns-in-EndsTile-clause-cause : goal.take_row-returns-in-EndsTile-clause-cause
take_row-returns-in-EndsTile-clause-cause g t c =
    let told = g.D.Desk.told c.args.desk.now in
    let rose = g.D.Desk.reads c.args.desk.now < g.D.Desk.reads c.end_tile.new.desk in
    let holder = c.args.holder.now in
    let row = c.args.row.now in
    let next = c.take.new.reading in
    let block = c.in-EndsTile.block in
    let here : End = record { file = c.holder.inside.file.now; line = c.row.inside.line; left = c.holder.inside.left } in
    let end : here ≡ end_at holder row = λ j. end_at (c.holder.view_is j) (c.row.view_is j) in
    IfErr-weaker c.end_tile.result _ _
    (λ fault cause. cause_weaker told told rose rose (λ files. MeetsTile files here block) (λ files. MeetsRow files holder c.args.reading.now row) fault
    refl (λ r. r)
    (λ files is event met. tile_meets files holder c.args.reading.now row next block (rw c.in-EndsTile.is at c.in-Ok.ensures.said) event (subst (λ (e : End). MeetsTile files e block event) end met)) cause)
    c.end_tile.ensures.cause

pub take_row-returns-in-Err-clause-cause : goal.take_row-returns-in-Err-clause-cause
take_row-returns-in-Err-clause-cause g t c =
    let holder = c.args.holder.now in
    let row = c.args.row.now in
    let before = c.args.reading.now in
    let problem = c.in-Err.problem in
    let end : record { file = c.holder.inside.file.now; line = c.row.inside.line; left = c.holder.inside.left } ≡ end_at holder row = λ j. end_at (c.holder.view_is j) (c.row.view_is j) in
    let place : IsFaultOr c.at.result (fault_at holder.file row.line problem) = subst (λ (e : End). IsFaultOr c.at.result (fault_at e.file e.line problem)) end c.at.ensures in
    cause_at (g.D.Desk.told c.args.desk.now) (g.D.Desk.reads c.args.desk.now < g.D.Desk.reads c.args.desk.now) (λ files. MeetsRow files holder before row) holder.file row.line problem c.at.result
    (said_of before holder row) (λ files why is. bad_meets files holder before row why is) c.in-Err.ensures.said place

pub take_row-returns-in-EndsTile-clause-tables : goal.take_row-returns-in-EndsTile-clause-tables
take_row-returns-in-EndsTile-clause-tables g t c =
    let said = rw c.in-EndsTile.is at c.in-Ok.ensures.fine in
    on_ok_weaker c.end_tile.result (λ kept sound. kept (subst (All HasTable) (sym said.0) sound)) c.end_tile.ensures.tables
