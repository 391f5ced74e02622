use Rattle.std.proofs.Common.{subst}
use Rattle.fab_syntax.specs.declared.tree.Text.{Text}
use Rattle.fab_syntax.specs.Plain.{plain_text}
use Rattle.fab_equations.specs.inner.Placed.{Keeps}
use Rattle.fab_equations.proofs.equations.Equations.text_is_sound.Goals as goal

pub returns-clause-sound : goal.returns-clause-sound
returns-clause-sound c =
    let kept = c.self.inside in
    let keeps = subst (λ (t : Text). Keeps (plain_text t) kept.tables.items kept.exprs.items kept.placed.items kept.points) c.self.view_is c.self.invariant in
    keeps.sound

pub returns-clause-narrow : goal.returns-clause-narrow
returns-clause-narrow c =
    let kept = c.self.inside in
    let keeps = subst (λ (t : Text). Keeps (plain_text t) kept.tables.items kept.exprs.items kept.placed.items kept.points) c.self.view_is c.self.invariant in
    keeps.narrow
