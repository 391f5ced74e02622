use Rattle.std.proofs.Common.{◌≡◌, ◌<◌, ◌∙◌, arith}
use Rattle.std.specs.Option.{option_copied}
use Rattle.std.proofs.lemmas.Result.{err_from_is_err_and}
use Rattle.fab_files.proofs.Causes.{cause_weaker}
use Rattle.fab_read.specs.Tiles.{table_file, MeetsTable, MeetsTile}
use Rattle.fab_read.proofs.Paired.{reads_tile, meets_places}
use Rattle.fab_read.proofs.tile.read_tile.Goals as goal

pub returns-in_err-table-clause-cause : goal.returns-in_err-table-clause-cause
returns-in_err-table-clause-cause g c =
    let residual = err_from_is_err_and c.from_residual-in_err-table.result c.from_residual-in_err-table.ensures.1 in
    let told = g.D.Desk.told c.args.desk.now in
    let here = g.D.Desk.told c.read_paired.new.desk in
    let reads = g.D.Desk.reads in
    let end = c.args.end.now in
    let tile = c.in_ok-tile.tile in
    let file : option_copied c.as_ref.result ≡ table_file end.file c.args.block.name = c.as_ref.ensures.value ∙ c.in_ok-file.ensures ∙ (λ j. table_file (c.end.view_is j).file ((c.name.ensures ∙ c.in_ok-tile.ensures.name) j)) in
    rw (residual.1, residual.2) (cause_weaker here told (reads c.read_paired.new.desk < reads c.read_places.new.desk) (reads c.args.desk.now < reads c.read_places.new.desk)
    (λ files. MeetsTable files tile (option_copied c.as_ref.result)) (λ files. MeetsTile files end c.args.block) c.in_err-table.field-0.0
    c.in_ok-tile.ensures.told (λ r. omega (arith, r, c.in_ok-tile.ensures.reads))
    (λ files is event met. meets_places files end c.args.block tile (c.in_ok-tile.ensures.read files is) (option_copied c.as_ref.result) file event met) c.in_err-table.ensures.cause)

pub returns-clause-read : goal.returns-clause-read
returns-clause-read g c = λ files is.
    let end = c.args.end.now in
    let tile = c.in_ok-tile.tile in
    let file : option_copied c.as_ref.result ≡ table_file end.file c.args.block.name = c.as_ref.ensures.value ∙ c.in_ok-file.ensures ∙ (λ j. table_file (c.end.view_is j).file ((c.name.ensures ∙ c.in_ok-tile.ensures.name) j)) in
    reads_tile files end c.args.block tile (c.in_ok-tile.ensures.read files is) (option_copied c.as_ref.result) file c.in_ok-table.table c.set_table.new.self
    (c.in_ok-table.ensures.read files (c.in_ok-tile.ensures.told ∙ is)) c.set_table.ensures
