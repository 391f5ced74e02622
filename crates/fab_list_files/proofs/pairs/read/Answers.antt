use Rattle.std.proofs.Common.{◌≡◌, ◌<◌, ◌∙◌, ℕ, List, [], Ok, Some, sym, ap, refl, subst, arith}
use Rattle.std.specs.Str.{bytes_eq}
use Rattle.std.proofs.lemmas.Result.{err_from_is_err_and}
use Rattle.fab_base.specs.declared.words.Quantity.TheVariants as quantities
use Rattle.fab_base.specs.Reading.{IsFaultOr, fault_at}
use Rattle.fab_desk.specs.Files.{Map}
use Rattle.fab_rows.specs.Rows.{rows_of}
use Rattle.fab_tables.specs.Lists.{Pair}
use Rattle.fab_lines.specs.Counts.{last_line}
use Rattle.fab_files.specs.Files.{MeetsFile, handed_out}
use Rattle.fab_list_files.specs.Lists.{most_open, ReadsList, MeetsList, ReadsListFile, of_file, of_rows}
use Rattle.fab_list_files.specs.Sides.{on_both_sides, crowd, crowd_limit, most_inputs, MeetsPairs, of_list, of_crowd}
use Rattle.fab_list_files.proofs.Rows.{limit_cause}
use Rattle.fab_files.proofs.Causes.{cause_weaker}
use Rattle.fab_list_files.proofs.Supported.{limit_supported}
use Rattle.fab_list_files.proofs.pairs.read.Goals as goal

pub returns-in_err-bytes-clause-cause : goal.returns-in_err-bytes-clause-cause
returns-in_err-bytes-clause-cause g c =
    let residual = err_from_is_err_and c.from_residual.result c.from_residual.ensures.1 in
    let told = g.D.Desk.told c.args.desk.now in
    let rose = g.D.Desk.reads c.args.desk.now < g.D.Desk.reads c.fetch.new.desk in
    rw (residual.1, residual.2) (cause_weaker told told rose rose (λ files. MeetsFile files c.args.name.now) (λ files. MeetsPairs files c.args.name.now) c.in_err-bytes.field-0.0
    refl (λ r. r) (λ files is event met. of_list (of_file met)) c.in_err-bytes.ensures.cause)

pub returns-in_err-take_rows-clause-cause : goal.returns-in_err-take_rows-clause-cause
returns-in_err-take_rows-clause-cause g c =
    let residual = err_from_is_err_and c.from_residual-in_err-take_rows.result c.from_residual-in_err-take_rows.ensures.1 in
    let reads = g.D.Desk.reads in
    let found : (files : Map) → g.D.Desk.told c.args.desk.now ≡ Some files → handed_out files c.args.name.now ≡ Ok c.deref.result.now = λ files is. rw c.deref.ensures.value (c.in_ok-bytes.ensures.found files is) in
    rw (residual.1, residual.2) (cause_weaker (g.D.Desk.told c.fetch.new.desk) (g.D.Desk.told c.args.desk.now)
    (reads c.fetch.new.desk < reads c.take_rows.new.desk) (reads c.args.desk.now < reads c.take_rows.new.desk)
    (λ files. MeetsList files on_both_sides most_open c.args.name.now c.new-matrix.result (rows_of c.deref.result.now)) (λ files. MeetsPairs files c.args.name.now) c.in_err-take_rows.field-0.0
    c.in_ok-bytes.ensures.told (λ r. omega (arith, r, c.in_ok-bytes.ensures.reads))
    (λ files is event met. of_list (of_rows (found files is) (subst (λ (pairs : List Pair). MeetsList files on_both_sides most_open c.args.name.now pairs (rows_of c.deref.result.now) event) c.new-matrix.ensures met)))
    c.in_err-take_rows.ensures.cause)

pub returns-in-Some-clause-cause : goal.returns-in-Some-clause-cause
returns-in-Some-clause-cause g c =
    let name = c.args.name.now in
    let found : (files : Map) → g.D.Desk.told c.args.desk.now ≡ Some files → handed_out files name ≡ Ok c.deref.result.now = λ files is. rw c.deref.ensures.value (c.in_ok-bytes.ensures.found files is) in
    let read : (files : Map) → g.D.Desk.told c.args.desk.now ≡ Some files → ReadsListFile files on_both_sides most_open name [] c.deref-2.result.now = λ files is. record {
      bytes = c.deref.result.now;
      found = found files is;
      reads =
          subst (λ (pairs : List Pair). ReadsList files on_both_sides most_open name [] (rows_of c.deref.result.now) pairs) (sym (c.deref-2.ensures.value ∙ c.in_ok-pairs.ensures))
          (subst (λ (pairs : List Pair). ReadsList files on_both_sides most_open name pairs (rows_of c.deref.result.now) c.take_rows.new.state) c.new-matrix.ensures
          (c.in_ok-take_rows.ensures.read files (c.in_ok-bytes.ensures.told ∙ is)));
    } in
    let last : c.last_line.result ≡ last_line c.deref.result.now = c.last_line.ensures ∙ ap last_line (c.deref-in-Some.ensures.value ∙ sym c.deref.ensures.value) in
    let crowded : crowd bytes_eq c.deref-2.result.now ≡ Some c.in-Some.inputs = sym c.in_ok-inputs.ensures ∙ c.in-Some.is in
    limit_cause (g.D.Desk.told c.args.desk.now) (g.D.Desk.reads c.args.desk.now < g.D.Desk.reads c.take_rows.new.desk) (λ files. MeetsPairs files name)
    name (last_line c.deref.result.now) quantities.InputsOfAnOutput c.in-Some.inputs most_inputs c.at.result
    (λ files is. of_crowd (found files is) (read files is) crowded)
    (subst (λ (n : ℕ). IsFaultOr c.at.result (fault_at name n (crowd_limit c.in-Some.inputs))) last c.at.ensures)

pub returns-in_err-bytes-clause-supported : goal.returns-in_err-bytes-clause-supported
returns-in_err-bytes-clause-supported g c =
    let residual = err_from_is_err_and c.from_residual.result c.from_residual.ensures.1 in
    rw (residual.1, residual.2) c.in_err-bytes.ensures.supported

pub returns-in_err-take_rows-clause-supported : goal.returns-in_err-take_rows-clause-supported
returns-in_err-take_rows-clause-supported g c =
    let residual = err_from_is_err_and c.from_residual-in_err-take_rows.result c.from_residual-in_err-take_rows.ensures.1 in
    rw (residual.1, residual.2) c.in_err-take_rows.ensures.supported

pub returns-in-Some-clause-supported : goal.returns-in-Some-clause-supported
returns-in-Some-clause-supported g c = limit_supported c.args.name.now c.last_line.result quantities.InputsOfAnOutput c.in-Some.inputs most_inputs c.at.result c.at.ensures
