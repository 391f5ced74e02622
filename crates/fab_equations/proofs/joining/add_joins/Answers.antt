use Rattle.std.proofs.Common.{◌≡◌, ◌++◌, ◌+◌, List, map, take, drop, ap, sym, subst, ◌∙◌, arith}
use Rattle.std.proofs.lemmas.List.{take_all}
use Rattle.std.specs.List.{flat_map}
use Rattle.fab_syntax.specs.Plain.{PlainExpr, PlainJoin, plain_join}
use Rattle.fab_syntax.specs.Sound.{joined_expressions}
use Rattle.fab_equations.specs.Instances.{expressions}
use Rattle.fab_equations.specs.inner.Building.{listed, AreJoinedSoFar}
use Rattle.fab_equations.proofs.ListPlaces.{map_next, map_parts, flat_next, flat_rest}
use Rattle.fab_equations.proofs.joining.add_joins.Goals as goal

pub loop-join-preserved : goal.loop-join-preserved
loop-join-preserved c =
    let joins = c.args.joins.now in
    let i = c.loop-join.join-index in
    let join = c.join-item.result in
    let own : PlainJoin → List PlainExpr = λ (j : PlainJoin). joined_expressions j.to in (
      flat_next own plain_join joins i join c.loop-join-test.true c.join-item.is (listed c.args.exprs.now.items) (listed c.loop-join.exprs.items) (listed c.add_join.new.exprs.items)
          c.loop-join.invariant.0 c.in_ok-add_join.ensures.exprs,
      λ spot items child below more names below_names here is all start.
          subst (λ js. AreJoinedSoFar spot items child below js c.add_join.new.drivers.items c.add_join.new.inputs.items) (sym (map_next plain_join joins i join c.loop-join-test.true c.join-item.is))
          (c.in_ok-add_join.ensures.joins spot items child below (map plain_join (take i joins)) names below_names here
          (record {
            rest = map plain_join (drop (i + 1) joins);
            parts = is ∙ map_parts plain_join joins i join c.loop-join-test.true c.join-item.is;
            more = flat_map own (map plain_join (drop (i + 1) joins)) ++ more;
            all = flat_rest own plain_join joins i join c.loop-join-test.true c.join-item.is (listed c.args.exprs.now.items) (listed c.loop-join.exprs.items) more (expressions spot.text)
                c.loop-join.invariant.0 (ap (λ js. listed c.args.exprs.now.items ++ (flat_map own js ++ more)) (sym is) ∙ all);
          })
          (c.loop-join.invariant.1 spot items child below more names below_names here is all start)),
    )

pub returns-clause-joins : goal.returns-clause-joins
returns-clause-joins c spot items child below more names below_names here is all start =
    let whole : map plain_join (take c.loop-join.join-index c.args.joins.now) ≡ child.joins =
    ap (map plain_join) (take_all c.loop-join.join-index c.args.joins.now (omega (arith, c.loop-join-test.false))) ∙ sym is in
    subst (λ js. AreJoinedSoFar spot items child below js c.loop-join.drivers.items c.loop-join.inputs.items) whole
    (c.loop-join.invariant.1 spot items child below more names below_names here is all start)
