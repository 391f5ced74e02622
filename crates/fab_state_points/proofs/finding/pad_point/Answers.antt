use Rattle.std.proofs.Common.{[], List, ℕ, subst, ◌∙◌}
use Rattle.fab_syntax.specs.Plain.{plain_text}
use Rattle.fab_syntax.specs.declared.tree.Shape.TheVariants.{Scalar}
use Rattle.fab_state_points.specs.Finding.{IsFoundName}
use Rattle.fab_state_points.proofs.finding.pad_point.Goals as goal

pub returns : goal.returns
returns c =
    subst (λ (name : List ℕ). IsFoundName (plain_text c.args.equations.now) [] name Scalar c.args.role c.declared.result) (c.deref.ensures.value ∙ c.in_ok-name.ensures)
    (c.declared.ensures [] c.top.ensures)
