use Rattle.std.proofs.Common.{All, length, ◌≤◌, sym, subst}
use Rattle.std.proofs.lemmas.Result.{err_from_is_err_and}
use Rattle.fab_netlist.specs.Wide.{PlainWide, PlainWideCover, tabled}
use Rattle.fab_netlist.specs.WellMade.{IsWellMade}
use Rattle.fab_blif.proofs.Excluded.{not_refused, reads_unless}
use Rattle.fab_blif.proofs.Netlists.{narrow_is_narrow, netlist_is_well_made}
use Rattle.fab_blif.proofs.reading.read_blif.Goals as goal

-- ---- the file is refused

pub returns-in_err-netlist-clause-refused : goal.returns-in_err-netlist-clause-refused
returns-in_err-netlist-clause-refused c =
    let told = err_from_is_err_and c.from_residual.result c.from_residual.ensures.1 in
    rw (told.1, told.2) c.in_err-netlist.ensures.refused

pub returns-in_err-netlist-clause-reads : goal.returns-in_err-netlist-clause-reads
returns-in_err-netlist-clause-reads c =
    let told = err_from_is_err_and c.from_residual.result c.from_residual.ensures.1 in
    rw (told.1, told.2) (reads_unless 4 c.args.file.now c.args.bytes.now c.in_err-netlist.field-0.0 c.in_err-netlist.ensures.refused)

-- ---- the file is read

pub with_tables-requires-clause-made : goal.with_tables-requires-clause-made
with_tables-requires-clause-made c =
    subst (λ (wide : PlainWide). IsWellMade (tabled wide)) (sym c.in_ok-netlist.ensures.netlist) (netlist_is_well_made c.args.bytes.now c.in_ok-netlist.ensures.fine)

pub with_tables-requires-clause-narrow : goal.with_tables-requires-clause-narrow
with_tables-requires-clause-narrow c =
    subst (λ (wide : PlainWide). All (λ (cover : PlainWideCover). length cover.inputs ≤ 4) wide.covers) (sym c.in_ok-netlist.ensures.netlist)
    (narrow_is_narrow c.args.bytes.now c.in_ok-netlist.ensures.fine)

pub returns-clause-refuses : goal.returns-clause-refuses
returns-clause-refuses c = λ fault refused. absurd (not_refused 4 c.args.file.now c.args.bytes.now fault c.in_ok-netlist.ensures.fine refused)
