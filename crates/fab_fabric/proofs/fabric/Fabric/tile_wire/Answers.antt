use Rattle.std.proofs.Common.{arith}
use Rattle.fab_fabric.proofs.Tiles.{wire_inside, wire_found}
use Rattle.fab_fabric.proofs.fabric.Fabric.tile_wire.Goals as goal

pub index-requires : goal.index-requires
index-requires c =
    let few = wire_inside c.args.self.now c.args.x c.args.y c.args.number c.in-Some.field-0-0.now c.in-Some.index.now c.in-Some.ensures.found.0 c.in-Some.ensures.found.1 c.requires in
    omega (arith, few, c.in-Some.index.now.wires.ok)

pub returns : goal.returns
returns c =
    wire_found c.args.self.now c.args.x c.args.y c.args.number c.in-Some.field-0-0.now c.in-Some.index.now c.index.result.now c.in-Some.ensures.found.0 c.in-Some.ensures.found.1 c.requires c.index.ensures
