-- Which sites and wires a fabric has, and which of them an implementation names.
use Rattle.std.specs.Prelude.{◌≡◌, ℕ, ◌<◌, List, All, Option, Some, slice_get}
use Rattle.std.specs.Option.{option_map, option_and_then}
use Rattle.fab_fabric.specs.fab_kinds.specs.declared.kind.Kind.{Kind}
use Rattle.fab_fabric.specs.fab_model.specs.Grid.{PlainFabric, tile_at}
use Rattle.fab_fabric.specs.Fabric.{wire_count}
use Rattle.fab_fabric.specs.declared.wire.Site.{Site}
use Rattle.fab_fabric.specs.declared.wire.Wire.{Wire}
use Rattle.fab_implementation.specs.Plain.{Edge, Pad, PlainTree, PlainImplementation}

-- the kind of the BEL at a site, if the fabric has the site
abbrev pub kind_at : PlainFabric → Site → Option Kind
kind_at fabric site = option_map (λ bel. bel.kind) (option_and_then (λ tile. slice_get tile.bels site.bel) (tile_at fabric site.x site.y))

-- a site of the fabric
abbrev pub IsSite : PlainFabric → Site → Type 0
IsSite fabric site = (kind : Kind) × (kind_at fabric site ≡ Some kind)

abbrev pub HasWires : PlainFabric → Edge → Type 0
HasWires fabric edge = (edge.0.0 < wire_count fabric) × (edge.1.0 < wire_count fabric)

abbrev pub HasSites : {X : Type 0} → PlainFabric → List (X × Site) → Type 0
HasSites fabric pads = All (λ pad. IsSite fabric pad.1) pads

-- an implementation that names no site and no wire which the fabric does not have
pub record IsOnFabric (fabric : PlainFabric) (implementation : PlainImplementation) : Type 0 where
  pub cells : HasSites fabric implementation.cells
  pub ins : HasSites fabric implementation.ins
  pub outs : HasSites fabric implementation.outs
  pub wires : All (λ tree. All (HasWires fabric) tree.edges) implementation.trees
