use Rattle.std.proofs.Common.{◌≡◌, ◌<◌, ◌+◌, ◌-◌, ◌++◌, ◌∷◌, ℕ, List, map, take, drop, length, get_or, sym, ap, ◌∙◌, arith}
use Rattle.std.proofs.lemmas.List.{length-map}
use Rattle.fab_fabric.specs.declared.wire.Wire.{Wire}
use Rattle.fab_legal.proofs.Lists.{at_default}
use Rattle.fab_ways_laws.specs.Trees.{edges_along}
use Rattle.fab_nodes_laws.specs.Nets.{wires_along}
use Rattle.fab_nodes_laws.proofs.NetSinks.{mapped_at}
use Rattle.std.proofs.lemmas.List.{get_or_default}
use Rattle.fab_route.specs.Plain.{numbering_of}
use Rattle.fab_route.proofs.Growing.{walk_more, all_walks, sum_more}
use Rattle.fab_route.proofs.Wanting.{number}
use Rattle.fab_route.proofs.trees.tree_edges.Goals as goal

pub loop-number-preserved : goal.loop-number-preserved
loop-number-preserved c =
    let none : Wire = record { 0 = 0 } in
    let i = c.loop-number.number in
    let from = c.loop-number.from in
    let to = from + c.index.result.now in
    let lengths = c.args.tree.now.lengths.items in
    let sink = get_or c.args.sinks.now i none in
    let low : i < length c.args.sinks.now = omega (arith, c.loop-number-test.true, c.min-count.ensures) in
    let few : i < length lengths = omega (arith, c.loop-number-test.true, c.min-count.ensures, c.len.ensures) in
    let to_is : to ≡ from + get_or lengths i 0 = ap (λ n. from + n) (c.index.ensures ∙ get_or_default lengths i c.index.result.now 0 few) in
    record {
      from = sum_more lengths i from to few c.loop-number.invariant.from to_is;
      edges = walk_more (numbering_of c.args.nodes.now) (map number c.args.sinks.now) c.args.tree.now.nodes.items lengths i from to sink.0 c.loop-number.edges.items c.put_walk.new.edges.items
          (omega (arith, low, length-map c.args.sinks.now number)) few (sym (mapped_at number c.args.sinks.now i sink 0 (at_default c.args.sinks.now i none low))) c.loop-number.invariant.from to_is c.loop-number.invariant.edges
          (c.in_ok-put_walk.ensures ∙ ap (λ (ns : List ℕ). c.loop-number.edges.items ++ edges_along (sink.0 ∷ wires_along (numbering_of c.args.nodes.now) (take (to - from) (drop from ns)))) c.deref.ensures.value);
    }

pub returns : goal.returns
returns c =
    all_walks (numbering_of c.args.nodes.now) (map number c.args.sinks.now) c.args.tree.now.nodes.items c.args.tree.now.lengths.items c.loop-number.number c.loop-number.edges.items
    (omega (arith, c.loop-number-test.false, c.min-count.ensures, c.len.ensures, length-map c.args.sinks.now number)) c.loop-number.invariant.edges
