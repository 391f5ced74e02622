use Rattle.std.proofs.Common.{length, rules}
use Rattle.fab_netlist.proofs.Turns.{small_power}
use Rattle.fab_netlist.proofs.cycle.cover_value.Goals as goal

pub overflow_shr-result : goal.overflow_shr-result
overflow_shr-result c = small_power c.spelled-place.result (length c.deref.result.now) c.spelled-place.ensures.small (search rules)
