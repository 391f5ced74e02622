use Rattle.std.proofs.Common.{◌≡◌, false, sym, ◌∙◌, arith, below_more}
use Rattle.std.proofs.lemmas.List.Elements.{Contains-get_or, All-from_get_or}
use Rattle.fab_astar.specs.Tables.{is_held}
use Rattle.fab_astar.proofs.walks.goal_in_tree.Goals as goal

pub is_held-requires : goal.is_held-requires
is_held-requires c = c.requires c.loop-goal.goal-index 0 (omega arith)

pub loop-goal-preserved : goal.loop-goal-preserved
loop-goal-preserved c = below_more _ _ c.loop-goal.invariant (sym c.is_held.ensures ∙ c.if-is_held.false)

pub returns-then-is_held-clause-goal : goal.returns-then-is_held-clause-goal
returns-then-is_held-clause-goal c = Contains-get_or c.args.goals.now c.loop-goal.goal-index 0 (omega arith)

pub returns-then-is_held-clause-held : goal.returns-then-is_held-clause-held
returns-then-is_held-clause-held c = sym c.is_held.ensures ∙ c.if-is_held.true

pub returns-clause-none : goal.returns-clause-none
returns-clause-none c = All-from_get_or (λ goal. is_held c.args.tables.now goal ≡ false) c.args.goals.now 0 (λ k l. c.loop-goal.invariant k (omega arith))
