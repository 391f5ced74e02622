use Rattle.std.proofs.Common.{Result, IfOk, Ok, Err, subst, ◌∙◌, arith}
use Rattle.fab_syntax.specs.declared.tree.Text.{Text}
use Rattle.fab_syntax.specs.Plain.{plain_text}
use Rattle.fab_equations.specs.inner.Placed.{Keeps}
use Rattle.fab_equations.proofs.Keeping.{module_kept, names_kept}
use Rattle.fab_equations.proofs.equations.Equations.values.Goals as goal

if_ok : {T E : Type 0} (P Q : T → Type 0) → ((x : T) → P x → Q x) → (r : Result T E) → IfOk r P → IfOk r Q
if_ok P Q f (Ok x) p = f x p
if_ok P Q f (Err e) p = p

pub index-requires : goal.index-requires
index-requires c =
    let kept = c.self.inside in
    let text = plain_text c.args.self.now in
    let keeps = subst (λ (t : Text). Keeps (plain_text t) kept.tables.items kept.exprs.items kept.placed.items kept.points) c.self.view_is c.self.invariant in
    omega (
      arith,
      kept.tables.ok.0,
      module_kept text kept.tables.items kept.exprs.items kept.placed.items kept.points keeps c.args.instance c.requires
          c.index-here.result.now c.index-here.ensures,
    )

pub returns-clause-declarations : goal.returns-clause-declarations
returns-clause-declarations c =
    let kept = c.self.inside in
    let text = plain_text c.args.self.now in
    let keeps = subst (λ (t : Text). Keeps (plain_text t) kept.tables.items kept.exprs.items kept.placed.items kept.points) c.self.view_is c.self.invariant in
    if_ok _ _
    (λ values names i numbered. names ∙ names_kept text kept.tables.items kept.exprs.items kept.placed.items kept.points keeps c.args.instance c.requires
    c.index-here.result.now c.index-here.ensures c.index.result.now c.index.ensures i numbered)
    c.of.result c.of.ensures.declarations
