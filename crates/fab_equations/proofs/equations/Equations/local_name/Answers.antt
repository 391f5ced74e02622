use Rattle.std.proofs.Common.{◌≢◌, length, sym, subst, refl, ◌∙◌, arith}
use Rattle.std.proofs.lemmas.Bool.{eq-eqb, eqb-true, false≢true}
use Rattle.std.proofs.lemmas.Option.{slice_get_within}
use Rattle.fab_syntax.specs.Plain.{plain_text}
use Rattle.fab_syntax.specs.Sound.{IsSound}
use Rattle.fab_equations.specs.Instances.{instances}
use Rattle.fab_equations.specs.inner.Placed.{ArePlaced, Keeps}
use Rattle.fab_equations.specs.Lookups.{IsLocalName}
use Rattle.fab_equations.proofs.Found.{read_start, nothing_read, read_more, read_fails, dot_parts, no_dots}
use Rattle.fab_equations.proofs.equations.Equations.local_name.Goals as goal

pub loop-dot-init : goal.loop-dot-init
loop-dot-init c =
    let inside = c.self.inside in
    let keeps = subst (λ t. Keeps (plain_text t) inside.tables.items inside.exprs.items inside.placed.items inside.points) c.self.view_is c.self.invariant in
    let some : length inside.placed.items ≢ 0 = λ none.
    false≢true (sym c.if-is_empty.false ∙ c.is_empty.ensures ∙ eq-eqb _ 0 (omega (arith, none, inside.placed.ok))) in
    read_start (plain_text c.args.self.now) inside.tables.items inside.exprs.items inside.placed.items inside.points keeps (omega (arith, some)) c.args.name.now

pub child-requires : goal.child-requires
child-requires c = slice_get_within (instances (plain_text c.args.self.now)) c.loop-dot.instance c.loop-dot.invariant.i c.loop-dot.invariant.is

pub returns-then-is_empty : goal.returns-then-is_empty
returns-then-is_empty c =
    let are = subst (λ t. ArePlaced (plain_text t) c.self.inside.placed.items) c.self.view_is c.self.invariant.placed_are in
    let none = eqb-true _ 0 (sym c.is_empty.ensures ∙ c.if-is_empty.true) in (
      subst (λ t. IsSound (plain_text t)) c.self.view_is c.self.invariant.sound,
      nothing_read (plain_text c.args.self.now) c.self.inside.placed.items are (omega (arith, none, c.self.inside.placed.ok)) c.args.name.now,
    )

pub returns-in_err-instance : goal.returns-in_err-instance
returns-in_err-instance c =
    let read = c.loop-dot.invariant in
    let parts = dot_parts c.loop-dot.rest.now c.in-Some.dot _ (sym c.in-Some.ensures.place) refl in
    subst (IsLocalName (plain_text c.args.self.now) c.args.name.now) (sym c.from_residual.ensures) (
      read.sound,
      read_fails (plain_text c.args.self.now) c.args.name.now c.loop-dot.instance c.loop-dot.rest.now read _ _ parts.0 parts.1 (c.in_err-instance.ensures read.i read.is),
    )

pub loop-dot-preserved : goal.loop-dot-preserved
loop-dot-preserved c =
    let read = c.loop-dot.invariant in
    let parts = dot_parts c.loop-dot.rest.now c.in-Some.dot _ (sym c.in-Some.ensures.place) refl in
    read_more (plain_text c.args.self.now) c.args.name.now c.loop-dot.instance c.loop-dot.rest.now read _ _ parts.0 parts.1 c.in_ok-instance.instance (c.in_ok-instance.ensures read.i read.is)

pub returns : goal.returns
returns c = (c.loop-dot.invariant, no_dots c.loop-dot.rest.now (sym c.in_default.ensures.place))
