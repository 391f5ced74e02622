use Rattle.fab_route.proofs.Joining.{node_low, is_either, least_of_both, least_alone}
use Rattle.fab_route.proofs.shared.least_wire.Goals as goal

pub join_from-requires : goal.join_from-requires
join_from-requires c =
    node_low c.args.fabric.now c.args.nodes.now c.requires.nodes c.args.node c.requires.node c.wire-wire.result c.wire-wire.ensures

pub returns-in-Some-clause-is : goal.returns-in-Some-clause-is
returns-in-Some-clause-is c =
    is_either c.args.fabric.now c.is_well_made.ensures.are_tiles c.args.nodes.now c.args.node c.wire-wire.result
    (node_low c.args.fabric.now c.args.nodes.now c.requires.nodes c.args.node c.requires.node c.wire-wire.result c.wire-wire.ensures) c.wire-wire.ensures c.join_from.result c.join_from.ensures.join c.in-Some.output c.lesser_wire.result
    c.in-Some.is c.lesser_wire.ensures.one

pub returns-in-Some-clause-least : goal.returns-in-Some-clause-least
returns-in-Some-clause-least c =
    least_of_both c.args.fabric.now c.is_well_made.ensures.are_tiles c.args.nodes.now c.args.node c.wire-wire.result
    (node_low c.args.fabric.now c.args.nodes.now c.requires.nodes c.args.node c.requires.node c.wire-wire.result c.wire-wire.ensures) c.wire-wire.ensures c.join_from.result c.join_from.ensures.join c.in-Some.output c.lesser_wire.result
    c.in-Some.is c.lesser_wire.ensures.below c.lesser_wire.ensures.low

pub returns-in-None-clause-least : goal.returns-in-None-clause-least
returns-in-None-clause-least c =
    least_alone c.args.fabric.now c.is_well_made.ensures.are_tiles c.args.nodes.now c.args.node c.wire-wire.result
    (node_low c.args.fabric.now c.args.nodes.now c.requires.nodes c.args.node c.requires.node c.wire-wire.result c.wire-wire.ensures) c.wire-wire.ensures c.join_from.result c.join_from.ensures.join c.in-None.is
