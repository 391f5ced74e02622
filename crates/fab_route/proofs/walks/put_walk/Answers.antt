use Rattle.std.proofs.Common.{◌++◌, ◌∷◌, [], ◌-◌, ◌∙◌, ap, refl, length, arith}
use Rattle.fab_fabric.specs.Wires.{numbered_wire}
use Rattle.fab_route.specs.Plain.{numbering_of}
use Rattle.fab_route.proofs.Along.{more_along, all_along}
use Rattle.fab_route.proofs.walks.put_walk.Goals as goal

pub loop-step-preserved : goal.loop-step-preserved
loop-step-preserved c = record {
  some = omega arith;
  edges = more_along (numbering_of c.args.nodes.now) c.args.path.now c.loop-step.step (length c.args.path.now - c.loop-step.step - 1) c.args.edges.now.items c.loop-step.edges.items c.put_hop.new.edges.items c.loop-step.invariant.some
      (omega (arith, c.loop-step-test.true)) refl c.loop-step.invariant.edges c.in_ok-put_hop.ensures;
}

pub returns-in_ok-push : goal.returns-in_ok-push
returns-in_ok-push c =
    all_along (numbering_of c.args.nodes.now) c.args.path.now c.loop-step.step c.args.sink.0 c.args.edges.now.items c.loop-step.edges.items c.push.new.self.items (omega (arith, c.loop-step-test.false)) (omega (arith, c.if-path-gt0.true))
    c.loop-step.invariant.edges (c.in_ok-push.ensures.items ∙ ap (λ n. c.loop-step.edges.items ++ (numbered_wire n, c.args.sink) ∷ []) c.wire.ensures)
