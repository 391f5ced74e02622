use Rattle.std.proofs.Common.{get_or, nat_eq, sym, ◌∙◌, inl}
use Rattle.std.proofs.lemmas.Bool.Decides.{Decides-eqb}
use Rattle.fab_implementation.specs.Plain.{Edge}
use Rattle.fab_legal.specs.inner.Roots.{IsStart}
use Rattle.fab_legal.proofs.Lists.{at_default, right_more}
use Rattle.fab_legal.proofs.Sets.{any_in}
use Rattle.fab_legal.proofs.nets.wrong_start.Goals as goal

pub loop-place-preserved-then-contains : goal.loop-place-preserved-then-contains
loop-place-preserved-then-contains c =
    let none : Edge = (record { 0 = 0 }, record { 0 = 0 }) in
    let edge = get_or c.args.edges.now c.loop-place.place none in
    right_more (IsStart c.args.fabric.now c.args.root c.args.entered.now.keys) c.args.edges.now c.loop-place.place edge c.loop-place.invariant (at_default c.args.edges.now c.loop-place.place none c.loop-place-test.true)
    (inl (any_in nat_eq Decides-eqb c.args.entered.now.keys edge.0.0 (sym c.contains.ensures ∙ c.if-contains.true)))
