use Rattle.fab_read.proofs.Said.{takes_fine}
use Rattle.fab_read.proofs.rows.take.Goals as goal

pub returns-clause-fine : goal.returns-clause-fine
returns-clause-fine c = takes_fine c.args.reading.now c.args.holder.now c.args.row.now c.take_row.new.self c.take_row.result c.take_row.ensures.said c.take_row.ensures.room
