use Rattle.fab_syntax.specs.Plain.{plain_text}
use Rattle.fab_equations.proofs.Filling.{IsFilled}
use Rattle.fab_equations.proofs.placed.placed_instances.Given as goal

abbrev pub invariant-loop-number : goal.invariant-loop-number
invariant-loop-number l = IsFilled (plain_text l.fn.text) l.number l.placed.items
