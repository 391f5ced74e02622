use Rattle.fab_equations.proofs.Placing.{ArePointed}
use Rattle.fab_equations.proofs.placed.place_points.Given as goal

abbrev pub invariant-loop-here : goal.invariant-loop-here
invariant-loop-here l = ArePointed l.tables l.initial.placed l.placed l.here-index l.first
