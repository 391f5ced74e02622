use Rattle.std.proofs.Common.{arith}
use Rattle.fab_route.proofs.Undriven.{number_inside, input_told}
use Rattle.fab_route.proofs.driven.is_input.Goals as goal

pub index-requires-in-Some : goal.index-requires-in-Some
index-requires-in-Some c =
    omega (
      arith,
      number_inside c.args.fabric.now c.args.driven.now.items c.spot-x.result.0 c.spot-x.result.1 c.spot-x.result.2 c.in-Some.place c.spot-x.ensures.number c.requires.driven c.type_at.result c.is_well_made.ensures.is_fabric
          c.type_at.ensures c.in-Some.is c.index.result.now c.index.ensures,
      c.index.result.now.ok.0,
    )

pub returns : goal.returns
returns c =
    input_told c.args.fabric.now c.args.driven.now.items c.spot-x.result.0 c.spot-x.result.1 c.spot-x.result.2 c.in-Some.place c.spot-x.ensures.number c.requires.driven c.type_at.result c.is_well_made.ensures.is_fabric
    c.type_at.ensures c.in-Some.is c.index.result.now c.index.ensures c.args.wire c.spot-x.ensures.index c.index-in-Some.result.now c.index-in-Some.ensures
