use Rattle.std.proofs.Common.{arith}
use Rattle.std.specs.List.{flat_map}
use Rattle.fab_model.specs.Tiles.{counted}
use Rattle.fab_model.specs.Grid.{tile_at}
use Rattle.fab_fabric.specs.Sites.{tile_sites}
use Rattle.fab_fabric.proofs.Counted.{pieces_count, no_count}
use Rattle.fab_fabric.proofs.fabric.Fabric.sites.Goals as goal

pub loop-x-init : goal.loop-x-init
loop-x-init c =
    let fabric = c.args.self.now in
    (no_count (λ x. flat_map (λ y. tile_sites c.args.kind x y (tile_at fabric x y)) (counted fabric.rows (λ y. y))), omega arith)

pub loop-x-preserved : goal.loop-x-preserved
loop-x-preserved c =
    let fabric = c.args.self.now in (
      pieces_count (λ x. flat_map (λ y. tile_sites c.args.kind x y (tile_at fabric x y)) (counted fabric.rows (λ y. y))) c.loop-x.x c.loop-x.count c.column_sites-count.result c.loop-x.invariant.0 c.column_sites-count.ensures.count,
      omega (arith, c.loop-x.invariant.1, c.column_sites-count.ensures.few),
    )
