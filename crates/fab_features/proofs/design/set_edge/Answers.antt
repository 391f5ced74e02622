use Rattle.std.proofs.Common.{arith}
use Rattle.fab_fabric.specs.Bits.{plain_bits}
use Rattle.fab_features.proofs.Setting.{no_edge_x, no_edge_y, edge_adds}
use Rattle.fab_features.proofs.design.set_edge.Goals as goal
use Rattle.fab_features.proofs.design.set_edge.Goals.{then-from_x-x-via-then-from_x-x, then-from_x-x-via-else-from_x-x+then-from_y-y}

pub returns-then-from_x-x-clause-adds : goal.returns-then-from_x-x-clause-adds
returns-then-from_x-x-clause-adds c =
    let f = c.args.fabric.now in
    let from = c.spot-from_x in
    let to = c.spot-x in
    elim c.then-from_x-x.branch [
      | then-from_x-x-via-then-from_x-x w ↦
          no_edge_x f c.args.edge from.result.0 from.result.1 from.result.2 to.result.0 to.result.1 to.result.2 from.ensures.number from.ensures.index to.ensures.number to.ensures.index
          (plain_bits c.args.bits.now) (λ e. absurd (omega (arith, e, w.if-from_x-x.true)))
      | then-from_x-x-via-else-from_x-x+then-from_y-y w ↦
          no_edge_y f c.args.edge from.result.0 from.result.1 from.result.2 to.result.0 to.result.1 to.result.2 from.ensures.number from.ensures.index to.ensures.number to.ensures.index
          (plain_bits c.args.bits.now) (λ e. absurd (omega (arith, e, w.if-from_y-y.true)))
    ]

pub returns-clause-adds : goal.returns-clause-adds
returns-clause-adds c =
    let from = c.spot-from_x in
    let to = c.spot-x in
    edge_adds c.args.fabric.now c.args.edge from.result.0 from.result.1 from.result.2 to.result.0 to.result.1 to.result.2 from.ensures.number from.ensures.index to.ensures.number to.ensures.index
    (plain_bits c.args.bits.now) (plain_bits c.set_choice.new.bits) c.in-Some.tile.now (omega (arith, c.if-from_x-x.false)) (omega (arith, c.if-from_y-y.false)) c.in-Some.ensures.found.0 c.set_choice.ensures.adds
