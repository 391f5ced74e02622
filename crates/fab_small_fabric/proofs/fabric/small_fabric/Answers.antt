use Rattle.std.proofs.Common.{List, ℕ, Option, sym, subst₂}
use Rattle.fab_model.specs.Tiles.{PlainTile}
use Rattle.fab_fabric.specs.Fabric.{fabric_of, IsFabric}
use Rattle.fab_fabric.proofs.Samples.{two_tiles_fabric}
use Rattle.fab_small_fabric.proofs.fabric.small_fabric.Goals as goal

pub new-requires : goal.new-requires
new-requires c =
    subst₂ (λ (types : List PlainTile) (grid : List (Option ℕ)). IsFabric (fabric_of types 3 grid)) (sym c.in_ok-types.ensures) (sym c.in_ok-grid.ensures) two_tiles_fabric
