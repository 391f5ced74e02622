use Rattle.fab_ordering_laws.proofs.Cycles.{ordered_blocks_settle as they_settle}
use Rattle.fab_ordering_laws.proofs.ordered_blocks_settle.Goals as goal

pub returns : goal.returns
returns c = they_settle c.loaded_points_stay.ensures c.loading_is_known.ensures.known c.drivers_grow.ensures.grow c.drivers_grow.ensures.fit
