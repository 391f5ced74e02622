use Rattle.std.proofs.Common.{sym, subst}
use Rattle.fab_model.specs.Wires.{HasWire, dest_of}
use Rattle.fab_fabric.specs.Wires.{wire_index, IsIndexOf}
use Rattle.fab_fabric.specs.inner.Index.{plain_wire}
use Rattle.fab_fabric.proofs.Stepped.{row_spot}
use Rattle.fab_fabric.proofs.Joined.{dest_stands, dest_found, no_dest_found}
use Rattle.fab_fabric.proofs.fabric.Fabric.dest_at.Goals as goal

pub returns-in-Dest-clause-dest : goal.returns-in-Dest-clause-dest
returns-in-Dest-clause-dest c =
    let spot = c.spot-x.result in
    let fabric = c.args.self.now in
    let found = subst (λ wire. IsIndexOf fabric (wire_index fabric spot.0 spot.1 spot.2) spot.0 spot.1 (plain_wire wire)) c.in-Dest.is c.tile_wire.ensures in
    dest_found fabric c.args.wire.0 (row_spot spot.0 spot.1 c.in-Dest.row) c.in-Dest.bit (subst (λ n. IsIndexOf fabric n spot.0 spot.1 (dest_of c.in-Dest.row c.in-Dest.bit)) (sym c.spot-x.ensures.index) found)

pub returns-in-Dest-clause-stands : goal.returns-in-Dest-clause-stands
returns-in-Dest-clause-stands c =
    let spot = c.spot-x.result in
    let fabric = c.args.self.now in
    dest_stands fabric (row_spot spot.0 spot.1 c.in-Dest.row) c.in-Dest.bit (subst (λ wire. HasWire fabric spot.0 spot.1 (plain_wire wire)) c.in-Dest.is c.tile_wire.ensures.is_wire)

pub returns-in_default : goal.returns-in_default
returns-in_default c =
    let spot = c.spot-x.result in
    let fabric = c.args.self.now in record {
      dest = no_dest_found fabric c.args.wire.0 spot.0 spot.1 c.tile_wire.result (subst (λ n. IsIndexOf fabric n spot.0 spot.1 (plain_wire c.tile_wire.result)) (sym c.spot-x.ensures.index) c.tile_wire.ensures) c.in_default.not-Dest;
      stands = tt;
    }
