use Rattle.std.proofs.Common.{◌≡◌, ◌≤◌, ◌*◌, length}
use Rattle.std.specs.List.{flat_map}
use Rattle.fab_model.specs.Tiles.{counted}
use Rattle.fab_model.specs.Grid.{tile_at}
use Rattle.fab_fabric.specs.Sites.{tile_sites}
use Rattle.fab_fabric.proofs.fabric.Fabric.column_sites.Given as goal

abbrev pub invariant-loop-y : goal.invariant-loop-y
invariant-loop-y l = (l.count ≡ length (flat_map (λ y. tile_sites l.kind l.x y (tile_at l.self l.x y)) (counted l.y (λ y. y)))) × (l.count ≤ l.y * 26)
