use Rattle.std.proofs.Common.{ap, arith, below_more}
use Rattle.fab_astar.proofs.Least.{place}
use Rattle.fab_astar.proofs.walks.guide_to.Goals as goal

pub rest-requires : goal.rest-requires
rest-requires g c = c.requires c.loop-goal.goal-index 0 (omega arith)

pub loop-goal-preserved : goal.loop-goal-preserved
loop-goal-preserved g c = below_more _ _ c.loop-goal.invariant (omega (arith, c.rest.ensures))

pub returns : goal.returns
returns g c = λ goal among. omega (arith, c.loop-goal.invariant among.0 (omega (arith, among.1)), ap (λ v. g.F.Field.rest c.args.field.now c.args.aim v) (place c.args.goals.now goal among))
