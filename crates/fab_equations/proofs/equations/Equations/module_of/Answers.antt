use Rattle.std.proofs.Common.{subst}
use Rattle.fab_syntax.specs.declared.tree.Text.{Text}
use Rattle.fab_syntax.specs.Plain.{plain_text}
use Rattle.fab_equations.specs.inner.Placed.{Keeps}
use Rattle.fab_equations.proofs.Keeping.{number_kept}
use Rattle.fab_equations.proofs.equations.Equations.module_of.Goals as goal

pub returns : goal.returns
returns c =
    let kept = c.self.inside in
    let text = plain_text c.args.self.now in
    let keeps = subst (λ (t : Text). Keeps (plain_text t) kept.tables.items kept.exprs.items kept.placed.items kept.points) c.self.view_is c.self.invariant in
    number_kept text kept.tables.items kept.exprs.items kept.placed.items kept.points keeps c.args.instance c.requires
    c.index.result.now c.index.ensures
