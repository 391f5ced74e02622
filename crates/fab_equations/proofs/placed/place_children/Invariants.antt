use Rattle.fab_equations.proofs.Placing.{Kept, AreNoted}
use Rattle.fab_equations.proofs.placed.place_children.Given as goal

abbrev pub invariant-loop-number : goal.invariant-loop-number
invariant-loop-number l = record {
  kept : Kept l.initial.placed l.placed l.children l.parent;
  noted : AreNoted l.placed l.children l.parent l.number;
}
