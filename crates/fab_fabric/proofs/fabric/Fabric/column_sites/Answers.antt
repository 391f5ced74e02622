use Rattle.std.proofs.Common.{arith}
use Rattle.fab_model.specs.Grid.{tile_at}
use Rattle.fab_fabric.specs.Sites.{tile_sites}
use Rattle.fab_fabric.proofs.Counted.{pieces_count, no_count}
use Rattle.fab_fabric.proofs.fabric.Fabric.column_sites.Goals as goal

pub loop-y-init : goal.loop-y-init
loop-y-init c = (no_count (λ y. tile_sites c.args.kind c.args.x y (tile_at c.args.self.now c.args.x y)), omega arith)

pub loop-y-preserved : goal.loop-y-preserved
loop-y-preserved c = (
  pieces_count (λ y. tile_sites c.args.kind c.args.x y (tile_at c.args.self.now c.args.x y)) c.loop-y.y c.loop-y.count c.place_sites-count.result c.loop-y.invariant.0 c.place_sites-count.ensures.count,
  omega (arith, c.loop-y.invariant.1, c.place_sites-count.ensures.few),
)
