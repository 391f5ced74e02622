use Rattle.std.proofs.Common.{map}
use Rattle.fab_solutions_laws.specs.Laws.{AreUnder}
use Rattle.fab_ternary.specs.Terns.{plain_tern}
use Rattle.fab_compiled.specs.Evaluation.{value_seen}
use Rattle.fab_nodes.proofs.pointwise.settle.Given as goal

abbrev pub invariant-loop-next : goal.invariant-loop-next
invariant-loop-next l = AreUnder (map plain_tern l.own) (value_seen l.point.view.terns.now l.point.view.leads.now l.point.first l.tree)
