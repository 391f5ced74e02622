use Rattle.std.proofs.Common.{◌≡◌, ◌++◌, ◌∷◌, [], true, false, not, get_or, sym, ◌∙◌, ap, arith}
use Rattle.std.proofs.lemmas.Grind.{common_steps}
use Rattle.fab_place.specs.inner.Starts.{is_taken}
use Rattle.fab_place.proofs.Orders.{free_none, free_yes, free_no}
use Rattle.fab_place.proofs.start.free_pads.Goals as goal

pub loop-pad-init : goal.loop-pad-init
loop-pad-init c = c.new-free.ensures.items ∙ free_none (λ pad. not (is_taken c.args.constrained.now pad))

pub loop-pad-preserved-then-index : goal.loop-pad-preserved-then-index
loop-pad-preserved-then-index c =
    let n = c.loop-pad.pad in
    let read : get_or c.in_ok-taken.taken.items n false ≡ true = grind (arith, common_steps) in
    c.loop-pad.invariant ∙ sym (free_no (λ pad. not (is_taken c.args.constrained.now pad)) n (ap not (sym (c.in_ok-taken.ensures.taken n c.loop-pad-test.true) ∙ read)))

pub loop-pad-preserved : goal.loop-pad-preserved
loop-pad-preserved c =
    let n = c.loop-pad.pad in
    let read : get_or c.in_ok-taken.taken.items n false ≡ false = grind (arith, common_steps) in
    c.in_ok-push.ensures.items ∙ ap (λ front. front ++ n ∷ []) c.loop-pad.invariant ∙ sym (free_yes (λ pad. not (is_taken c.args.constrained.now pad)) n (ap not (sym (c.in_ok-taken.ensures.taken n c.loop-pad-test.true) ∙ read)))
