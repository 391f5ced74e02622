use Rattle.fab_read.proofs.Places.{default_fits}
use Rattle.fab_read.proofs.table.default_places.Goals as goal

pub returns-clause-table : goal.returns-clause-table
returns-clause-table c = default_fits c.args.tile.now c.bits.result c.default_table.result c.bits.ensures c.requires c.default_table.ensures.many c.default_table.ensures.places
