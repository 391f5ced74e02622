use Rattle.std.proofs.Common.{◌≡◌, map, refl, sym, ap, subst, ◌∙◌}
use Rattle.std.specs.Option.{IsSome}
use Rattle.std.proofs.lemmas.Option.{slice_get_within}
use Rattle.fab_syntax.specs.Plain.{plain_text, plain_expr}
use Rattle.fab_values.specs.Declarations.{number_of}
use Rattle.fab_equations.specs.Instances.{instances, expressions}
use Rattle.fab_equations.specs.Lookups.{IsName}
use Rattle.fab_equations.proofs.Numbering.{same_value}
use Rattle.fab_equations.proofs.Clocked.{names_var, var_numbered}
use Rattle.fab_equations.proofs.equations.Equations.named.Goals as goal

pub unreachable-requires : goal.unreachable-requires
unreachable-requires c =
    let are = subst (λ t. map (λ e. plain_expr e.now) c.self.inside.exprs.items ≡ expressions (plain_text t)) c.self.view_is c.self.invariant.exprs_are in
    c.in_default.not-Var c.requires.1.name
    (names_var (plain_text c.args.self.now) c.self.inside.exprs.items are c.args.source.expr c.requires.1.name c.requires.1.expression c.index.result.now c.index.ensures)

pub here-requires : goal.here-requires
here-requires c = slice_get_within (instances (plain_text c.args.self.now)) c.args.source.instance c.requires.1.i c.requires.1.is

pub unwrap-requires : goal.unwrap-requires
unwrap-requires c =
    let are = subst (λ t. map (λ e. plain_expr e.now) c.self.inside.exprs.items ≡ expressions (plain_text t)) c.self.view_is c.self.invariant.exprs_are in
    let number = var_numbered (plain_text c.args.self.now) c.self.inside.exprs.items are c.args.source c.requires.0 c.requires.1 c.index.result.now c.index.ensures c.in-Var.name c.in-Var.is
    c.here.result c.here.ensures in
    subst IsSome (sym (c.number.ensures ∙ ap (number_of c.here.result.table.now.names) c.bytes.ensures ∙ number)) refl

pub returns : goal.returns
returns c =
    let are = subst (λ t. map (λ e. plain_expr e.now) c.self.inside.exprs.items ≡ expressions (plain_text t)) c.self.view_is c.self.invariant.exprs_are in
    let number = var_numbered (plain_text c.args.self.now) c.self.inside.exprs.items are c.args.source c.requires.0 c.requires.1 c.index.result.now c.index.ensures c.in-Var.name c.in-Var.is
    c.here.result c.here.ensures in
    let same = same_value c.number.result c.requires.0 c.unwrap.result (c.number.ensures ∙ ap (number_of c.here.result.table.now.names) c.bytes.ensures ∙ number) c.unwrap.ensures in
    subst (λ n. IsName (plain_text c.args.self.now) c.args.source n) same c.requires.1
