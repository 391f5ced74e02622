-- The sites of a fabric by the kind of their BEL.
use Rattle.std.specs.Prelude.{ℕ, Bool, true, false, List, [], map, filter, Option, Some, None}
use Rattle.std.specs.List.{flat_map, enumerate_from}
use Rattle.fab_model.specs.fab_kinds.specs.declared.kind.Kind.{Kind}
use Rattle.fab_model.specs.fab_kinds.specs.declared.kind.Kind.TheVariants as kinds
use Rattle.fab_model.specs.Tiles.{PlainTile, counted}
use Rattle.fab_model.specs.Grid.{PlainFabric, tile_at}
use Rattle.fab_fabric.specs.declared.wire.Site.{Site}

abbrev pub same_kind : Kind → Kind → Bool
same_kind kinds.Lut4c kinds.Lut4c = true
same_kind kinds.Io kinds.Io = true
same_kind kinds.Mux8 kinds.Mux8 = true
same_kind _ _ = false

-- the sites of a tile that have a BEL of the kind, in the order of its BELs
abbrev pub tile_sites : Kind → (x y : ℕ) → Option PlainTile → List Site
tile_sites kind x y None = []
tile_sites kind x y (Some tile) =
    map (λ bel. record { x = x; y = y; bel = bel.0 }) (filter (λ bel. same_kind bel.1.kind kind) (enumerate_from 0 tile.bels))

-- the sites of a fabric that have a BEL of the kind: column by column, in a column from the top, in a tile by letter
abbrev pub sites_of_kind : PlainFabric → Kind → List Site
sites_of_kind fabric kind =
    flat_map (λ x. flat_map (λ y. tile_sites kind x y (tile_at fabric x y)) (counted fabric.rows (λ y. y))) (counted fabric.columns (λ x. x))
