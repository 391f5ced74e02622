use Rattle.std.proofs.Common.{refl, ◌∙◌, arith, length-set}
use Rattle.fab_astar.specs.declared.tables.Node.{Node}
use Rattle.fab_astar.proofs.Reading.{same_part, zeroed, all_zero}
use Rattle.fab_astar.proofs.tables.clear_trees.Goals as goal

pub loop-at-preserved : goal.loop-at-preserved
loop-at-preserved c = record {
  count = length-set c.loop-at.nodes.items c.loop-at.at (record c.index_mut-note.result.now { tree = 0 }) ∙ c.loop-at.invariant.count;
  price = same_part (λ (n : Node). n.price) c.loop-at.nodes.items c.loop-at.at c.index_mut-note.result.now (record c.index_mut-note.result.now { tree = 0 }) c.index_mut-note.ensures.value refl ∙ c.loop-at.invariant.price;
  users = same_part (λ (n : Node). n.users) c.loop-at.nodes.items c.loop-at.at c.index_mut-note.result.now (record c.index_mut-note.result.now { tree = 0 }) c.index_mut-note.ensures.value refl ∙ c.loop-at.invariant.users;
  stamps = same_part (λ (n : Node). n.stamp) c.loop-at.nodes.items c.loop-at.at c.index_mut-note.result.now (record c.index_mut-note.result.now { tree = 0 }) c.index_mut-note.ensures.value refl ∙ c.loop-at.invariant.stamps;
  clear = λ k l. zeroed (λ (n : Node). n.tree) c.loop-at.nodes.items c.loop-at.at k (record c.index_mut-note.result.now { tree = 0 }) refl (omega (arith, c.loop-at.invariant.count)) c.loop-at.invariant.clear l;
}

pub returns-clause-clear : goal.returns-clause-clear
returns-clause-clear c = all_zero (λ (n : Node). n.tree) c.loop-at.nodes.items c.loop-at.at c.loop-at.invariant.clear (omega (arith, c.loop-at.invariant.count))
