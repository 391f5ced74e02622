use Rattle.std.proofs.Common.{sym}
use Rattle.fab_fabric.proofs.Joined.{dest_stands, join_departs}
use Rattle.fab_fabric.proofs.fabric.Fabric.dest_drive.Goals as goal

pub row-row-requires : goal.row-row-requires
row-row-requires c = dest_stands c.args.self.now c.args.there c.args.bit c.requires

pub source_wire-requires : goal.source_wire-requires
source_wire-requires c = join_departs c.args.self.now c.in-Some.from c.args.there c.in-Some.source c.args.bit c.row_join_from.ensures.are_tiles c.requires (sym c.in-Some.ensures.join)

pub returns-then-is_none-clause-within : goal.returns-then-is_none-clause-within
returns-then-is_none-clause-within c = c.constant.ensures.within c.args.self.now
