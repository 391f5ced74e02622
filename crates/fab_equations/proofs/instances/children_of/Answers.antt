use Rattle.std.proofs.Common.{◌≡◌, ◌<◌, ◌++◌, length, get_or, ap, subst, ◌∙◌}
use Rattle.fab_equations.specs.Numbers.{option_list}
use Rattle.fab_equations.proofs.Numbered.{child_push}
use Rattle.fab_equations.proofs.instances.children_of.Goals as goal

pub loop-item-preserved : goal.loop-item-preserved
loop-item-preserved c before are =
    let i = c.loop-item.item-index in
    let value = c.deref-item-items.ensures.value in
    c.in_ok-push_some.ensures
    ∙ ap (λ number. c.loop-item.children.items ++ option_list number) (c.child_number.ensures before are)
    ∙ child_push before c.args.definition.now.items.items i c.item-item.result c.loop-item.children.items
    (subst (λ items. i < length items) value c.loop-item-test.true) (subst (λ items. c.item-item.result ≡ get_or items i c.item-item.result) value c.item-item.is)
    (c.loop-item.invariant before are)
