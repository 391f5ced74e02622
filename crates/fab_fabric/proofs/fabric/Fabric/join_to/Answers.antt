use Rattle.std.proofs.Common.{◌∙◌, ap, sym, Some, option_map, subst}
use Rattle.fab_model.specs.Wires.{HasWire}
use Rattle.fab_fabric.specs.Wires.{wire_join_to, dest_wire}
use Rattle.fab_fabric.specs.inner.Index.{plain_wire}
use Rattle.fab_fabric.proofs.Stepped.{row_spot}
use Rattle.fab_fabric.proofs.Joined.{same_at, join_lands, no_to}
use Rattle.fab_fabric.proofs.fabric.Fabric.join_to.Goals as goal

pub returns-in_default-clause-join : goal.returns-in_default-clause-join
returns-in_default-clause-join c = λ x y plain is.
    let at = c.spot-x.result in
    let fabric = c.args.self.now in
    no_to fabric c.tile_wire.result at.0 at.1 c.in_default.not-Source
    ∙ same_at (wire_join_to fabric) fabric c.args.wire.0 _ at.0 at.1 x y (plain_wire c.tile_wire.result) plain c.spot-x.ensures.index c.tile_wire.ensures is

pub returns-in_err-there-clause-join : goal.returns-in_err-there-clause-join
returns-in_err-there-clause-join c = λ x y plain is.
    let at = c.spot-x.result in
    let fabric = c.args.self.now in
    c.from_residual.ensures
    ∙ ap (option_map (dest_wire fabric)) c.in_err-there.ensures.join
    ∙ sym (ap (λ wire. wire_join_to fabric at.0 at.1 (plain_wire wire)) c.in-Source.is)
    ∙ same_at (wire_join_to fabric) fabric c.args.wire.0 _ at.0 at.1 x y (plain_wire c.tile_wire.result) plain c.spot-x.ensures.index c.tile_wire.ensures is

pub dest_wire-requires : goal.dest_wire-requires
dest_wire-requires c =
    let at = c.spot-x.result in
    let fabric = c.args.self.now in
    let has = subst (λ wire. HasWire fabric at.0 at.1 (plain_wire wire)) c.in-Source.is c.tile_wire.ensures.is_wire in
    join_lands fabric (row_spot at.0 at.1 c.in-Source.row) c.in_ok-there.there c.in-Source.bit c.in_ok-there.dest c.row_join_to.ensures.are_tiles has (sym c.in_ok-there.ensures.join)

pub returns-clause-join : goal.returns-clause-join
returns-clause-join c = λ x y plain is.
    let at = c.spot-x.result in
    let fabric = c.args.self.now in
    ap Some c.dest_wire.ensures.index
    ∙ ap (option_map (dest_wire fabric)) c.in_ok-there.ensures.join
    ∙ sym (ap (λ wire. wire_join_to fabric at.0 at.1 (plain_wire wire)) c.in-Source.is)
    ∙ same_at (wire_join_to fabric) fabric c.args.wire.0 _ at.0 at.1 x y (plain_wire c.tile_wire.result) plain c.spot-x.ensures.index c.tile_wire.ensures is

pub returns-clause-within : goal.returns-clause-within
returns-clause-within c = c.dest_wire.ensures.within
