use Rattle.std.proofs.Common.{◌≡◌, ◌++◌, ◌+◌, map, take, drop, ap, sym, subst, ◌∙◌, arith}
use Rattle.std.proofs.lemmas.List.{take_all}
use Rattle.std.specs.List.{flat_map}
use Rattle.fab_syntax.specs.Plain.{plain_item}
use Rattle.fab_syntax.specs.Sound.{item_expressions}
use Rattle.fab_equations.specs.Instances.{expressions}
use Rattle.fab_equations.specs.inner.Building.{listed, IsInside}
use Rattle.fab_equations.proofs.ListPlaces.{map_next, map_parts, flat_next, flat_rest}
use Rattle.fab_equations.proofs.driving.add_items.Goals as goal

pub loop-item-preserved : goal.loop-item-preserved
loop-item-preserved c =
    let items = c.args.items.now in
    let i = c.loop-item.item-index in
    let item = c.item-item.result in (
      flat_next item_expressions plain_item items i item c.loop-item-test.true c.item-item.is (listed c.args.exprs.now.items) (listed c.loop-item.exprs.items) (listed c.add_item.new.exprs.items)
          c.loop-item.invariant.0 c.in_ok-add_item.ensures.exprs,
      λ spot more names known is all start.
          subst (λ xs. IsInside spot xs c.add_item.new.inside) (sym (map_next plain_item items i item c.loop-item-test.true c.item-item.is))
          (c.in_ok-add_item.ensures.inside spot (map plain_item (take i items)) names known
          (record {
            rest = map plain_item (drop (i + 1) items);
            parts = is ∙ map_parts plain_item items i item c.loop-item-test.true c.item-item.is;
            more = flat_map item_expressions (map plain_item (drop (i + 1) items)) ++ more;
            all = flat_rest item_expressions plain_item items i item c.loop-item-test.true c.item-item.is (listed c.args.exprs.now.items) (listed c.loop-item.exprs.items) more (expressions spot.text)
                c.loop-item.invariant.0 (ap (λ xs. listed c.args.exprs.now.items ++ (flat_map item_expressions xs ++ more)) (sym is) ∙ all);
          })
          (c.loop-item.invariant.1 spot more names known is all start)),
    )

pub returns-clause-inside : goal.returns-clause-inside
returns-clause-inside c spot more names known is all start =
    let whole : map plain_item (take c.loop-item.item-index c.args.items.now) ≡ spot.here.items =
    ap (map plain_item) (take_all c.loop-item.item-index c.args.items.now (omega (arith, c.loop-item-test.false))) ∙ sym is in
    subst (λ xs. IsInside spot xs c.loop-item.inside) whole (c.loop-item.invariant.1 spot more names known is all start)
