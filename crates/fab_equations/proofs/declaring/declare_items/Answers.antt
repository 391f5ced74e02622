use Rattle.std.proofs.Common.{◌∙◌}
use Rattle.fab_equations.proofs.NamedOnce.{items_step}
use Rattle.fab_equations.proofs.declaring.declare_items.Goals as goal

pub declare_item-requires : goal.declare_item-requires
declare_item-requires c =
    (items_step c.args.items.now c.loop-item.item-index c.item-item.result c.args.declared.now.names c.loop-item.declared.names c.loop-item-test.true c.item-item.is
    c.loop-item.invariant.0 c.requires).0

pub loop-item-preserved : goal.loop-item-preserved
loop-item-preserved c = (
  c.in_ok-declare_item.ensures.names
      ∙ (items_step c.args.items.now c.loop-item.item-index c.item-item.result c.args.declared.now.names c.loop-item.declared.names c.loop-item-test.true c.item-item.is
      c.loop-item.invariant.0 c.requires).1,
  λ from. c.in_ok-declare_item.ensures.firsts (c.loop-item.invariant.1 from),
)
