-- What is found at a place.
use Rattle.std.proofs.Common.{◌≡◌, ℕ, ◌+◌, ◌*◌, ◌<◌, ◌≤◌, List, length, get_or, slice_get, refl, sym, ap, ◌∙◌, arith, subst, Option, Some, option_map}
use Rattle.std.proofs.lemmas.Option.{get_or_from_slice_get, slice_get_read, slice_get-map}
use Rattle.std.proofs.lemmas.List.{length-map}
use Rattle.fab_model.specs.Tiles.{PlainTile}
use Rattle.fab_model.specs.Grid.{PlainFabric, tile_at}
use Rattle.fab_fabric.specs.declared.index.TileIndex.{TileIndex}
use Rattle.fab_model.specs.Wires.{plain_wires}
use Rattle.fab_fabric.specs.declared.index.TileWire.{TileWire}
use Rattle.fab_fabric.specs.Fabric.{wires_at}
use Rattle.fab_fabric.specs.Wires.{wire_index, IsIndexOf}
use Rattle.fab_fabric.specs.inner.Index.{HasIndex, IsIndexed, plain_wire}
use Rattle.fab_fabric.proofs.Numbered.{wires_of_tile, wires_are_named, wire_with_number}
use Rattle.fab_fabric.proofs.Firsts.{place_read, tile_read}

-- the tile that is found, and what is kept of it
pub tile_found : (fabric self : PlainFabric) (indexes : List TileIndex) (firsts : List ℕ) (wires : ℕ) (x y : ℕ) (item : Option ℕ) (number : ℕ) (tile : PlainTile) (index : TileIndex) →
    fabric ≡ self → IsIndexed fabric indexes firsts wires → x < fabric.columns → y < fabric.rows → item ≡ get_or fabric.grid (y * fabric.columns + x) item → item ≡ Some number →
    tile ≡ get_or fabric.types number tile → index ≡ get_or indexes number index → (tile_at self x y ≡ Some tile) × HasIndex tile index
tile_found fabric self indexes firsts wires x y item number tile index view is few low item_is number_is tile_is index_is =
    let read : get_or fabric.grid (y * fabric.columns + x) item ≡ Some number = sym item_is ∙ number_is in
    let at = tile_read fabric x y item number tile is.is_fabric few low read tile_is in
    let inside = (place_read fabric x y item (Some number) is.is_fabric few low read).1 in
    let typed : slice_get fabric.types number ≡ Some tile = slice_get_read fabric.types (length fabric.types) number tile refl inside tile_is in
    let kept = is.indexed number tile typed in
    let same : kept.0 ≡ index = sym (get_or_from_slice_get indexes number kept.0 index kept.1) ∙ sym index_is in
    (subst (λ (f : PlainFabric). tile_at f x y ≡ Some tile) view at, subst (λ (i : TileIndex). HasIndex tile i) same kept.2)

-- the tile has the wire of each number
pub wire_inside : (fabric : PlainFabric) (x y number : ℕ) (tile : PlainTile) (index : TileIndex) → tile_at fabric x y ≡ Some tile → HasIndex tile index → number < wires_at fabric x y → number < length index.wires.items
wire_inside fabric x y number tile index is kept few =
    omega (arith, few, wires_of_tile fabric x y tile is, wires_are_named tile, ap length kept.wires, length-map index.wires.items plain_wire)

pub wire_found : (fabric : PlainFabric) (x y number : ℕ) (tile : PlainTile) (index : TileIndex) (wire : TileWire) → tile_at fabric x y ≡ Some tile → HasIndex tile index → number < wires_at fabric x y →
    wire ≡ get_or index.wires.items number wire → IsIndexOf fabric (wire_index fabric x y number) x y (plain_wire wire)
wire_found fabric x y number tile index wire is kept few read =
    let inside = wire_inside fabric x y number tile index is kept few in
    let listed : slice_get index.wires.items number ≡ Some wire = slice_get_read index.wires.items (length index.wires.items) number wire refl inside read in
    let there : slice_get (plain_wires tile) number ≡ Some (plain_wire wire) =
    ap (λ ws. slice_get ws number) (sym kept.wires) ∙ slice_get-map plain_wire index.wires.items number ∙ ap (option_map plain_wire) listed in
    wire_with_number fabric x y number tile (plain_wire wire) is there

pub tile_few_bels : (fabric : PlainFabric) (indexes : List TileIndex) (firsts : List ℕ) (wires : ℕ) (x y : ℕ) (item : Option ℕ) (number : ℕ) (tile : PlainTile) → IsIndexed fabric indexes firsts wires →
    x < fabric.columns → y < fabric.rows → item ≡ get_or fabric.grid (y * fabric.columns + x) item → item ≡ Some number → tile ≡ get_or fabric.types number tile → length tile.bels ≤ 26
tile_few_bels fabric indexes firsts wires x y item number tile is few low item_is number_is tile_is =
    let inside = (place_read fabric x y item (Some number) is.is_fabric few low (sym item_is ∙ number_is)).1 in
    subst (λ (t : PlainTile). length t.bels ≤ 26) (sym tile_is) (is.is_fabric.few_bels number tile inside)
