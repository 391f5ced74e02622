use Rattle.std.proofs.Common.{All, sym, ap, subst}
use Rattle.std.proofs.lemmas.List.Elements.{All-push}
use Rattle.fab_blocks.specs.Reading.{PlainReading}
use Rattle.fab_model.specs.Tables.{HasTable}
use Rattle.fab_read.proofs.rows.end_tile.Goals as goal

pub returns-clause-tables : goal.returns-clause-tables
returns-clause-tables g c = λ sound.
    subst (All HasTable) (sym (ap (λ (r : PlainReading). r.types) c.in_ok-push_tile.ensures)) (All-push HasTable c.args.reading.now.types c.in_ok-tile.tile sound c.in_ok-tile.ensures.table)

pub returns-clause-read : goal.returns-clause-read
returns-clause-read g c = λ files is. (c.in_ok-tile.tile, c.in_ok-tile.ensures.read files is, c.in_ok-push_tile.ensures)
