use Rattle.fab_map.proofs.There.{net_there, sink_there}
use Rattle.fab_map.proofs.reports.no_path.Goals as goal

pub net_name-requires : goal.net_name-requires
net_name-requires c =
    net_there c.args.fabric.now c.is_well_made.ensures.are_tiles c.args.packed.now c.args.placed c.requires.made c.requires.good.placed c.args.net c.requires.cut_off.place c.requires.cut_off.net_is

pub wire_text-requires : goal.wire_text-requires
wire_text-requires c =
    sink_there c.args.fabric.now c.is_well_made.ensures.are_tiles c.args.packed.now c.args.placed c.requires.made c.requires.good.placed c.args.net c.requires.cut_off.number c.args.sink.0 c.requires.cut_off.sink_is
