use Rattle.std.proofs.Common.{◌∙◌, ap, refl, sym, Some, option_map}
use Rattle.fab_model.specs.Wires.{dest_of}
use Rattle.fab_fabric.specs.Wires.{wire_join_from, source_wire}
use Rattle.fab_fabric.proofs.Joined.{same_at, join_departs, no_from}
use Rattle.fab_fabric.proofs.fabric.Fabric.join_from.Goals as goal

pub returns-in_err-there-clause-join : goal.returns-in_err-there-clause-join
returns-in_err-there-clause-join c = λ x y plain is. c.from_residual.ensures ∙ no_from c.args.self.now c.args.wire.0 x y plain c.in_err-there.ensures.dest is

pub returns-in_err-from-clause-join : goal.returns-in_err-from-clause-join
returns-in_err-from-clause-join c = λ x y plain is.
    let at = c.in_ok-there.there in
    let fabric = c.args.self.now in
    c.from_residual-in_err-from.ensures
    ∙ ap (option_map (source_wire fabric)) c.in_err-from.ensures.join
    ∙ same_at (wire_join_from fabric) fabric c.args.wire.0 c.args.wire.0 at.x at.y x y (dest_of at.row c.in_ok-there.bit) plain refl ((c.in_ok-there.ensures.dest at c.in_ok-there.bit).0 refl) is

pub source_wire-requires : goal.source_wire-requires
source_wire-requires c =
    let at = c.in_ok-there.there in
    join_departs c.args.self.now c.in_ok-from.from at c.in_ok-from.source c.in_ok-there.bit c.in_ok-from.ensures.are_tiles ((c.in_ok-there.ensures.dest at c.in_ok-there.bit).0 refl).is_wire
    (sym c.in_ok-from.ensures.join)

pub returns-clause-join : goal.returns-clause-join
returns-clause-join c = λ x y plain is.
    let at = c.in_ok-there.there in
    let fabric = c.args.self.now in
    ap Some c.source_wire.ensures.index
    ∙ ap (option_map (source_wire fabric)) c.in_ok-from.ensures.join
    ∙ same_at (wire_join_from fabric) fabric c.args.wire.0 c.args.wire.0 at.x at.y x y (dest_of at.row c.in_ok-there.bit) plain refl ((c.in_ok-there.ensures.dest at c.in_ok-there.bit).0 refl) is

pub returns-clause-within : goal.returns-clause-within
returns-clause-within c = c.source_wire.ensures.within
