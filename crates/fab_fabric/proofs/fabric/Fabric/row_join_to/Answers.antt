use Rattle.fab_fabric.proofs.Joined.{source_stands}
use Rattle.fab_fabric.proofs.fabric.Fabric.row_join_to.Goals as goal

pub row-row-requires : goal.row-row-requires
row-row-requires c = source_stands c.args.self.now c.args.here c.args.source c.requires
