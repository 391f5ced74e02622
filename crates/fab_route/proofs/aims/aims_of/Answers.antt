use Rattle.fab_route.proofs.Guiding.{zero_aims}
use Rattle.fab_route.proofs.aims.aims_of.Goals as goal

pub loop-group-init : goal.loop-group-init
loop-group-init c =
    zero_aims c.args.fabric.now c.args.size c.wires.result c.in_ok-aims.aims.items c.is_well_made.ensures.is_fabric (c.in_ok-aims.ensures.items_if_clones_equal (λ y same. same))
