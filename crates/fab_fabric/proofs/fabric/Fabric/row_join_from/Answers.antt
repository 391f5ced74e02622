use Rattle.fab_fabric.proofs.Joined.{dest_stands}
use Rattle.fab_fabric.proofs.fabric.Fabric.row_join_from.Goals as goal

pub row-row-requires : goal.row-row-requires
row-row-requires c = dest_stands c.args.self.now c.args.there c.args.dest c.requires
