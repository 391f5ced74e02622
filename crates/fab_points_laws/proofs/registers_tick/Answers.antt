use Rattle.fab_points_laws.proofs.Laws.{registers_tick}
use Rattle.fab_points_laws.proofs.registers_tick.Goals as goal

pub returns : goal.returns
returns c = registers_tick
