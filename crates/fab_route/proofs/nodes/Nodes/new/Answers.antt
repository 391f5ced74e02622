use Rattle.fab_route.proofs.Tabled.{before_of, flat_of, is_over}
use Rattle.fab_route.proofs.nodes.Nodes.new.Goals as goal

pub returns : goal.returns
returns c =
    is_over
    c.args.fabric.now c.is_well_made.ensures.is_fabric c.is_well_made.ensures.are_tiles c.in_ok-wires.wires.items c.in_ok-outputs.outputs.items c.in_ok-wires.nodes.items c.in_ok-starts.starts.items c.in_ok-starts.targets.items c.in_ok-wires.ensures
    (before_of c.args.fabric.now c.deref.result.now c.in_ok-wires.wires.items c.in_ok-outputs.outputs.items c.deref.ensures.value c.in_ok-outputs.ensures.before)
    (flat_of c.args.fabric.now c.deref-2.result.now c.in_ok-wires.wires.items c.deref-3.result.now c.in_ok-wires.nodes.items c.in_ok-starts.starts.items c.in_ok-starts.targets.items c.deref-2.ensures.value c.deref-3.ensures.value c.in_ok-starts.ensures)
