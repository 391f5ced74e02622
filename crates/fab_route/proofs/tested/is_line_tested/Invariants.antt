use Rattle.fab_route.proofs.Testing.{LineTestedTo}
use Rattle.fab_route.proofs.tested.is_line_tested.Given as goal

abbrev pub invariant-loop-here : goal.invariant-loop-here
invariant-loop-here l = LineTestedTo l.entries l.rows l.from_line l.to_line l.down l.here
