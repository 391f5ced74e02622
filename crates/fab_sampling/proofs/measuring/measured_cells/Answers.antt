use Rattle.std.proofs.Common.{◌≡◌, ◌∙◌, ap, sym, subst, length, sum_by}
use Rattle.fab_legal.specs.WellMade.{IsWellMadePacked}
use Rattle.fab_sampling.specs.declared.run.Run.{Run}
use Rattle.fab_sampling.specs.Summary.{edge_count}
use Rattle.fab_sampling.proofs.Flowed.{packed_is_made, placed_there, priced_there}
use Rattle.fab_sampling.proofs.measuring.measured_cells.Goals as goal

pub cost-cost-requires-clause-made : goal.cost-cost-requires-clause-made
cost-cost-requires-clause-made c =
    subst IsWellMadePacked (sym c.requires.packed) (packed_is_made c.spelled_designs_are_sound.ensures c.args.run.now c.requires.flowed)

pub cost-cost-requires-clause-placed : goal.cost-cost-requires-clause-placed
cost-cost-requires-clause-placed c =
    placed_there c.args.run.now c.requires.flowed c.args.packed.now c.in_ok-implementation.implementation c.requires.packed (c.in_ok-implementation.ensures.mapped c.requires.flowed) _
    (ap (λ (r : Run). r.design.fabric) (c.run.view_is ∙ c.in_ok-implementation.ensures.same))

pub returns-clause-cost : goal.returns-clause-cost
returns-clause-cost c flowed =
    c.cost-cost.ensures
    ∙ priced_there c.args.run.now flowed c.args.packed.now c.in_ok-implementation.implementation c.requires.packed (c.in_ok-implementation.ensures.mapped flowed)

pub returns-clause-edges : goal.returns-clause-edges
returns-clause-edges c flowed =
    c.in_ok-edges.ensures ∙ ap (sum_by (λ tree. length tree.edges)) c.deref.ensures.value ∙ ap edge_count c.implementation.view_is
    ∙ ap edge_count (c.in_ok-implementation.ensures.mapped flowed)
