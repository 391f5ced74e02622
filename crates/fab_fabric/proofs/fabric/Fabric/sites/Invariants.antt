use Rattle.std.proofs.Common.{◌≡◌, ◌≤◌, ◌*◌, length}
use Rattle.std.specs.List.{flat_map}
use Rattle.fab_model.specs.Tiles.{counted}
use Rattle.fab_model.specs.Grid.{tile_at}
use Rattle.fab_fabric.specs.Sites.{tile_sites}
use Rattle.fab_fabric.proofs.fabric.Fabric.sites.Given as goal

abbrev pub invariant-loop-x : goal.invariant-loop-x
invariant-loop-x l =
    (l.count ≡ length (flat_map (λ x. flat_map (λ y. tile_sites l.kind x y (tile_at l.self x y)) (counted l.self.rows (λ y. y))) (counted l.x (λ x. x))))
    × (l.count ≤ l.x * 806)
