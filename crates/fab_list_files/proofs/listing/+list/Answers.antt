use Rattle.std.proofs.Common.{◌≡◌, ◌<◌, ◌≤◌, ◌-◌, ◌+◌, ◌∷◌, ◌∙◌, ℕ, length, Ok, Some, ap, sym, refl, subst, arith}
use Rattle.std.proofs.lemmas.Result.{IfOk-weaker, IfErr-weaker, err_from_is_err_and}
use Rattle.fab_base.specs.Reading.{IsFaultOr, fault_at}
use Rattle.fab_rows.specs.Rows.{PlainRow, rows_of, rows_at}
use Rattle.fab_files.specs.Files.{MeetsFile, handed_out}
use Rattle.fab_desk.specs.Files.{Map}
use Rattle.fab_list_files.specs.Lists.{deed_of, Knowledge, ReadsList, MeetsList, MeetsListFile, of_file, of_rows}
use Rattle.fab_list_files.specs.inner.Following.{RowLeads, MeetsRow}
use Rattle.fab_list_files.proofs.Rows.{cause_at, adds_lead, opens_lead, opens_meets, bad_meets, leads_further, leads_to_end, leads_to_event}
use Rattle.fab_files.proofs.Causes.{cause_weaker}
use Rattle.fab_list_files.proofs.Supported.{row_supported}
use Rattle.fab_list_files.proofs.listing.+list.Goals as goal

pub read_list_file-returns-in_err-bytes-clause-cause : goal.read_list_file-returns-in_err-bytes-clause-cause
read_list_file-returns-in_err-bytes-clause-cause g t c =
    let told = err_from_is_err_and c.from_residual.result c.from_residual.ensures.1 in
    let known = g.S.ListState.known c.args.state.now in
    let before = g.S.ListState.pairs c.args.state.now in
    let desk = g.D.Desk.told c.args.desk.now in
    let rose = g.D.Desk.reads c.args.desk.now < g.D.Desk.reads c.fetch.new.desk in
    rw (told.1, told.2) (cause_weaker desk desk rose rose (λ files. MeetsFile files c.args.file.now) (λ files. MeetsListFile files known c.args.left c.args.file.now before) c.in_err-bytes.field-0.0
    refl (λ r. r) (λ files is event met. of_file met) c.in_err-bytes.ensures.cause)

pub read_list_file-returns-clause-read : goal.read_list_file-returns-clause-read
read_list_file-returns-clause-read g t c = λ files is.
    IfOk-weaker c.take_rows.result _ _ (λ _ read. record {
      bytes = c.deref.result.now;
      found = rw c.deref.ensures.value (c.in_ok-bytes.ensures.found files is);
      reads = read;
    }) (c.take_rows.ensures.read files (c.in_ok-bytes.ensures.told ∙ is))

pub read_list_file-returns-clause-cause : goal.read_list_file-returns-clause-cause
read_list_file-returns-clause-cause g t c =
    let known = g.S.ListState.known c.args.state.now in
    let before = g.S.ListState.pairs c.args.state.now in
    let reads = g.D.Desk.reads in
    let found : (files : Map) → g.D.Desk.told c.args.desk.now ≡ Some files → handed_out files c.args.file.now ≡ Ok c.deref.result.now = λ files is. rw c.deref.ensures.value (c.in_ok-bytes.ensures.found files is) in
    IfErr-weaker c.take_rows.result _ _ (λ fault cause. cause_weaker (g.D.Desk.told c.fetch.new.desk) (g.D.Desk.told c.args.desk.now)
    (reads c.fetch.new.desk < reads c.take_rows.new.desk) (reads c.args.desk.now < reads c.take_rows.new.desk)
    (λ files. MeetsList files known c.args.left c.args.file.now before (rows_of c.deref.result.now)) (λ files. MeetsListFile files known c.args.left c.args.file.now before) fault
    c.in_ok-bytes.ensures.told (λ r. omega (arith, r, c.in_ok-bytes.ensures.reads)) (λ files is event met. of_rows (found files is) met) cause)
    c.take_rows.ensures.cause

pub take_row-overflow_sub-left : goal.take_row-overflow_sub-left
take_row-overflow_sub-left g t c = rw c.in-Opens.is at c.in-Ok.ensures.may

pub take_row-read_list_file-requires : goal.take_row-read_list_file-requires
take_row-read_list_file-requires g t c κs within =
    let some = rw c.in-Opens.is at c.in-Ok.ensures.may in
    search (arith, some)

pub take_row-returns-in_ok-add-in-Adds-clause-read : goal.take_row-returns-in_ok-add-in-Adds-clause-read
take_row-returns-in_ok-add-in-Adds-clause-read g t c = λ files is.
    adds_lead files (g.S.ListState.known c.args.state.now) c.args.left c.args.file.now (g.S.ListState.pairs c.args.state.now) c.args.row.now
    c.in-Adds.new.items (g.S.ListState.pairs c.add.new.self) (rw c.in-Adds.is at c.in-Ok.ensures.deed) c.in_ok-add-in-Adds.ensures.pairs

pub take_row-returns-in-Opens-clause-read : goal.take_row-returns-in-Opens-clause-read
take_row-returns-in-Opens-clause-read g t c = λ files is.
    IfOk-weaker c.read_list_file.result _ _ (λ _ read.
    opens_lead files (g.S.ListState.known c.args.state.now) c.args.left c.args.file.now (g.S.ListState.pairs c.args.state.now) c.args.row.now
    c.in-Opens.other (g.S.ListState.pairs c.read_list_file.new.state) (rw c.in-Opens.is at c.in-Ok.ensures.deed) read)
    (c.read_list_file.ensures.read files is)

pub take_row-returns-in-Opens-clause-cause : goal.take_row-returns-in-Opens-clause-cause
take_row-returns-in-Opens-clause-cause g t c =
    let known = g.S.ListState.known c.args.state.now in
    let before = g.S.ListState.pairs c.args.state.now in
    let desk = g.D.Desk.told c.args.desk.now in
    let rose = g.D.Desk.reads c.args.desk.now < g.D.Desk.reads c.read_list_file.new.desk in
    IfErr-weaker c.read_list_file.result _ _ (λ fault cause. cause_weaker desk desk rose rose
    (λ files. MeetsListFile files known (c.args.left - 1) c.in-Opens.other before) (λ files. MeetsRow files known c.args.left c.args.file.now before c.args.row.now) fault
    refl (λ r. r) (λ files is event met. opens_meets files known c.args.left c.args.file.now before c.args.row.now c.in-Opens.other (rw c.in-Opens.is at c.in-Ok.ensures.deed) event met) cause)
    c.read_list_file.ensures.cause

pub take_row-returns-in-Err-clause-cause : goal.take_row-returns-in-Err-clause-cause
take_row-returns-in-Err-clause-cause g t c =
    let known = g.S.ListState.known c.args.state.now in
    let before = g.S.ListState.pairs c.args.state.now in
    let row = c.args.row.now in
    let line : c.row.inside.line ≡ row.line = ap (λ (r : PlainRow). r.line) c.row.view_is in
    let which : IsFaultOr c.at.result (fault_at c.args.file.now row.line c.in-Err.problem) = subst (λ (n : ℕ). IsFaultOr c.at.result (fault_at c.args.file.now n c.in-Err.problem)) line c.at.ensures in
    cause_at (g.D.Desk.told c.args.desk.now) (g.D.Desk.reads c.args.desk.now < g.D.Desk.reads c.args.desk.now) (λ files. MeetsRow files known c.args.left c.args.file.now before row) c.args.file.now row.line c.in-Err.problem c.at.result
    (deed_of known c.args.left c.args.file.now before row.cells)
    (λ files why is. bad_meets files known c.args.left c.args.file.now before row why is) c.in-Err.ensures.deed which

pub take_rows-returns-in_err-take_row-clause-cause : goal.take_rows-returns-in_err-take_row-clause-cause
take_rows-returns-in_err-take_row-clause-cause g t c =
    let residual = err_from_is_err_and c.from_residual-in_err-take_row.result c.from_residual-in_err-take_row.ensures.1 in
    let known = g.S.ListState.known c.args.state.now in
    let here = g.S.ListState.known c.loop-row.state in
    let before = g.S.ListState.pairs c.args.state.now in
    let pairs = g.S.ListState.pairs c.loop-row.state in
    let told = g.D.Desk.told c.args.desk.now in
    let now_told = g.D.Desk.told c.loop-row.desk in
    let reads = g.D.Desk.reads in
    let rows = rows_of c.args.bytes.now in
    let file = c.args.file.now in
    let left = c.args.left in
    let row = c.in-Some.row in
    rw (residual.1, residual.2) (cause_weaker now_told told (reads c.loop-row.desk < reads c.take_row.new.desk) (reads c.args.desk.now < reads c.take_row.new.desk)
    (λ files. MeetsRow files here left file pairs row) (λ files. MeetsList files known left file before rows) c.in_err-take_row.field-0.0
    c.loop-row.invariant.told (λ r. omega (arith, r, c.loop-row.invariant.reads))
    (λ files is event met.
    leads_to_event files known left file before rows pairs row (rows_at c.loop-row.line c.loop-row.rest.now) (rows_at (row.line + 1) c.in-Some.after.now) event
    (rw c.in-Some.is at c.in_ok-row.ensures.next)
    (c.loop-row.invariant.on files is)
    (subst (λ (k : Knowledge). MeetsRow files k left file pairs row event) c.loop-row.invariant.known met))
    c.in_err-take_row.ensures.cause)

pub take_rows-loop-row-preserved : goal.take_rows-loop-row-preserved
take_rows-loop-row-preserved g t c =
    let known = g.S.ListState.known c.args.state.now in
    let before = g.S.ListState.pairs c.args.state.now in
    let pairs = g.S.ListState.pairs c.loop-row.state in
    let next = g.S.ListState.pairs c.take_row.new.state in
    let file = c.args.file.now in
    let left = c.args.left in
    let row = c.in-Some.row in
    let after = c.in-Some.after.now in
    let line : c.row.inside.line ≡ row.line = ap (λ (r : PlainRow). r.line) c.row.view_is in
    let cut : rows_at c.loop-row.line c.loop-row.rest.now ≡ row ∷ rows_at (row.line + 1) after = rw c.in-Some.is at c.in_ok-row.ensures.next in
    let numbered : row.line + 1 + length after ≤ c.loop-row.line + length c.loop-row.rest.now = rw c.in-Some.is at c.in_ok-row.ensures.numbered in
    let shorter : length after < length c.loop-row.rest.now = rw c.in-Some.is at c.in_ok-row.ensures.shorter in
    record {
      told = c.in_ok-take_row.ensures.told ∙ c.loop-row.invariant.told;
      writes = c.in_ok-take_row.ensures.writes ∙ c.loop-row.invariant.writes;
      reads = omega (arith, c.in_ok-take_row.ensures.reads, c.loop-row.invariant.reads);
      known = c.in_ok-take_row.ensures.known ∙ c.loop-row.invariant.known;
      on = λ files is.
          leads_further files known left file before (rows_of c.args.bytes.now) pairs next row (rows_at c.loop-row.line c.loop-row.rest.now) (rows_at (c.row.inside.line + 1) after)
          (cut ∙ ap (λ n. row ∷ rows_at (n + 1) after) (sym line))
          (c.loop-row.invariant.on files is)
          (subst (λ (k : Knowledge). RowLeads files k left file pairs row next) c.loop-row.invariant.known (c.in_ok-take_row.ensures.read files (c.loop-row.invariant.told ∙ is)));
      small = omega (arith, shorter, c.loop-row.invariant.small);
      room = omega (arith, line, numbered, c.loop-row.invariant.room);
    }

pub take_rows-returns-clause-read : goal.take_rows-returns-clause-read
take_rows-returns-clause-read g t c = λ files is.
    let known = g.S.ListState.known c.args.state.now in
    let before = g.S.ListState.pairs c.args.state.now in
    let pairs = g.S.ListState.pairs c.loop-row.state in
    leads_to_end files known c.args.left c.args.file.now before (rows_of c.args.bytes.now) pairs (rows_at c.loop-row.line c.loop-row.rest.now)
    (rw c.in_default.is at c.in_ok-row.ensures.next) (c.loop-row.invariant.on files is)

pub read_list_file-returns-in_err-bytes-clause-supported : goal.read_list_file-returns-in_err-bytes-clause-supported
read_list_file-returns-in_err-bytes-clause-supported g t c =
    let residual = err_from_is_err_and c.from_residual.result c.from_residual.ensures.1 in
    rw (residual.1, residual.2) c.in_err-bytes.ensures.supported

pub take_row-returns-in-Err-clause-supported : goal.take_row-returns-in-Err-clause-supported
take_row-returns-in-Err-clause-supported g t c =
    row_supported (g.S.ListState.known c.args.state.now) c.args.left c.args.file.now (g.S.ListState.pairs c.args.state.now) c.args.row.now.cells _ c.in-Err.problem c.at.result c.in-Err.ensures.deed c.at.ensures

pub take_rows-returns-in_err-take_row-clause-supported : goal.take_rows-returns-in_err-take_row-clause-supported
take_rows-returns-in_err-take_row-clause-supported g t c =
    let residual = err_from_is_err_and c.from_residual-in_err-take_row.result c.from_residual-in_err-take_row.ensures.1 in
    rw (residual.1, residual.2) c.in_err-take_row.ensures.supported
