-- The wires of pins by name.
use Rattle.std.proofs.Common.{◌≡◌, ℕ, ◌+◌, ◌*◌, ◌<◌, List, [], ◌++◌, length, get_or, Bool, Option, Some, None, slice_get, position, refl, sym, ap, ◌∙◌, subst, lt-ltb, arith}
use Rattle.std.specs.Option.{option_map, option_map_or, option_and_then}
use Rattle.std.specs.List.{position_or_len}
use Rattle.std.specs.Str.{bytes_eq}
use Rattle.std.proofs.lemmas.Option.{get_or_from_slice_get, slice_get-map, slice_get_within}
use Rattle.fab_kinds.specs.declared.kind.Kind.{Kind}
use Rattle.fab_kinds.specs.Pins.{pin_names}
use Rattle.fab_implementation.specs.fab_model.specs.declared.tiles.Bel.{Bel}
use Rattle.fab_implementation.specs.fab_model.specs.Tiles.{PlainTile, IsTile, TileWire, bel_pin, tile_wires, matrix_names, wire_name}
use Rattle.fab_implementation.specs.fab_model.specs.Wires.{PlainWire, pin_of, wire_of, plain_wires, pin_count, pins_at, wire_number}
use Rattle.fab_implementation.specs.fab_model.specs.Grid.{PlainFabric, numbered_type, tile_at}
use Rattle.fab_implementation.specs.fab_model.proofs.Wires.{wire_at_number, plain_wires_are_wires}
use Rattle.fab_implementation.specs.fab_fabric.specs.Wires.{wire_index, numbered_wire, index_of}
use Rattle.fab_implementation.specs.fab_fabric.specs.Fabric.{AreTiles, wires_at, wire_count}
use Rattle.fab_implementation.specs.fab_fabric.proofs.Numbered.{number_of_tile, tile_within, index_within, wires_of_tile}
use Rattle.fab_implementation.specs.fab_fabric.proofs.Placed.{tile_inside}
use Rattle.fab_implementation.specs.fab_fabric.specs.declared.wire.Site.{Site}
use Rattle.fab_implementation.specs.fab_fabric.specs.declared.wire.Wire.{Wire}
use Rattle.fab_implementation.specs.fab_netlist.specs.Plain.{IsAt}
use Rattle.fab_legal.specs.Steps.{pin_wire, HasPin}
use Rattle.fab_legal.specs.inner.Keeping.{port_number}
use Rattle.fab_legal.proofs.PortNumbers.{own_number}

same_some : {X : Type 0} (x y : X) → Some x ≡ Some y → x ≡ y
same_some x y e = cc

-- the BEL that has a pin
pub record PinParts (fabric : PlainFabric) (site : Site) (pin : ℕ) : Type 0 where
  pub tile : PlainTile
  pub tile_is : tile_at fabric site.x site.y ≡ Some tile
  pub bel : Bel
  pub bel_is : slice_get tile.bels site.bel ≡ Some bel
  pub few : pin < pin_count bel

bel_of_kind : (found : Option Bel) (kind : Kind) → option_map (λ (bel : Bel). bel.kind) found ≡ Some kind → (bel : Bel) × (found ≡ Some bel) × (bel.kind ≡ kind)
bel_of_kind None kind e = absurd (never kind e)
  where
    never : (k : Kind) → None ≡ Some k → ⊥
    never k e = cc
bel_of_kind (Some bel) kind e = (bel, refl, same_some bel.kind kind e)

pub tile_of_kind : (site : Site) (found : Option PlainTile) (kind : Kind) → option_map (λ (bel : Bel). bel.kind) (option_and_then (λ tile. slice_get tile.bels site.bel) found) ≡ Some kind →
    (tile : PlainTile) × (found ≡ Some tile) × ((bel : Bel) × (slice_get tile.bels site.bel ≡ Some bel) × (bel.kind ≡ kind))
tile_of_kind site None kind e = absurd (never kind e)
  where
    never : (k : Kind) → None ≡ Some k → ⊥
    never k e = cc
tile_of_kind site (Some tile) kind e = (tile, refl, bel_of_kind (slice_get tile.bels site.bel) kind e)

pub pin_parts : (fabric : PlainFabric) (site : Site) (pin : ℕ) → HasPin fabric site pin → PinParts fabric site pin
pin_parts fabric site pin has =
    let found = tile_of_kind site (tile_at fabric site.x site.y) has.0 has.1 in
    record {
      tile = found.0;
      tile_is = found.1;
      bel = found.2.0;
      bel_is = found.2.1;
      few = subst (λ (kind : Kind). pin < length (pin_names kind)) (sym found.2.2) has.2;
    }

module _ (tile : PlainTile) (bel_number pin : ℕ) (bel : Bel) (bel_is : slice_get tile.bels bel_number ≡ Some bel) (few : pin < pin_count bel) where
  pin_inside : pin < pins_at tile.bels bel_number
  pin_inside = subst (λ (found : Option Bel). pin < option_map_or pin_count found 0) (sym bel_is) few

  -- the matrix name at the number of a pin
  pin_name_at : slice_get (matrix_names tile) (wire_number tile (pin_of bel_number pin)) ≡ Some (wire_name (bel_pin bel pin))
  pin_name_at =
      let n = wire_number tile (pin_of bel_number pin) in
      let plain : slice_get (plain_wires tile) n ≡ Some (pin_of bel_number pin) = wire_at_number tile (pin_of bel_number pin) pin_inside in
      let here : wire_of tile (pin_of bel_number pin) ≡ Some (bel_pin bel pin) = ap (λ (found : Option Bel). option_map (λ b. bel_pin b pin) found) bel_is in
      let both : option_map (λ (w : TileWire). Some w) (slice_get (tile_wires tile) n) ≡ Some (Some (bel_pin bel pin)) =
      sym (slice_get-map (λ (w : TileWire). Some w) (tile_wires tile) n) ∙ ap (λ ws. slice_get ws n) (sym (plain_wires_are_wires tile))
      ∙ slice_get-map (wire_of tile) (plain_wires tile) n ∙ ap (λ (w : Option PlainWire). option_map (wire_of tile) w) plain ∙ ap (λ (w : Option TileWire). Some w) here in
      slice_get-map wire_name (tile_wires tile) n ∙ ap (λ (w : Option TileWire). option_map wire_name w) (inner (slice_get (tile_wires tile) n) (bel_pin bel pin) both)
    where
      inner : (found : Option TileWire) (w : TileWire) → option_map (λ (x : TileWire). Some x) found ≡ Some (Some w) → found ≡ Some w
      inner None w e = absurd (never w e)
        where
          never : (x : TileWire) → None ≡ Some (Some x) → ⊥
          never x e = cc
      inner (Some x) w e = cc

-- the wire that has the name of a pin is the wire of the pin
pub pin_found : (fabric : PlainFabric) (site : Site) (pin : ℕ) (name : List ℕ) (tile : PlainTile) (bel : Bel) → tile_at fabric site.x site.y ≡ Some tile → IsTile tile →
    slice_get tile.bels site.bel ≡ Some bel → pin < pin_count bel → name ≡ bel.prefix ++ get_or (pin_names bel.kind) pin [] →
    option_map (λ number. numbered_wire (wire_index fabric site.x site.y number)) (option_and_then (λ tile. position (bytes_eq name) (matrix_names tile)) (tile_at fabric site.x site.y)) ≡ Some (pin_wire fabric site pin)
pin_found fabric site pin name tile bel tile_is is_tile bel_is few name_is =
    let n = wire_number tile (pin_of site.bel pin) in
    let there : slice_get (matrix_names tile) n ≡ Some name = pin_name_at tile site.bel pin bel bel_is few ∙ ap (λ (m : List ℕ). Some m) (sym name_is) in
    let inside : n < length (matrix_names tile) = slice_get_within (matrix_names tile) n name there in
    let at : IsAt (matrix_names tile) n name = (inside, get_or_from_slice_get (matrix_names tile) n name name there) in
    let number : port_number (matrix_names tile) name ≡ n = own_number (matrix_names tile) name n is_tile.apart at in
    let place : position (bytes_eq name) (matrix_names tile) ≡ Some n = position_is (bytes_eq name) (matrix_names tile) n number inside in
    let index : index_of fabric site.x site.y (pin_of site.bel pin) ≡ wire_index fabric site.x site.y n = ap (λ (m : ℕ). wire_index fabric site.x site.y m) (number_of_tile fabric site.x site.y (pin_of site.bel pin) tile tile_is) in
    ap (λ (found : Option PlainTile). option_map (λ m. numbered_wire (wire_index fabric site.x site.y m)) (option_and_then (λ t. position (bytes_eq name) (matrix_names t)) found)) tile_is
    ∙ ap (λ (found : Option ℕ). option_map (λ m. numbered_wire (wire_index fabric site.x site.y m)) found) place
    ∙ ap (λ (m : ℕ). Some (numbered_wire m)) (sym index)
  where
    position_is : {X : Type 0} (p : X → Bool) (xs : List X) (n : ℕ) → position_or_len p xs ≡ n → n < length xs → position p xs ≡ Some n
    position_is p xs n same inside = rw (same, lt-ltb n (length xs) inside) refl

pub some_is_none : (wire : Wire) → Some wire ≡ None → ⊥
some_is_none wire e = cc

pub same_wire : (a b : Wire) → Some a ≡ Some b → a ≡ b
same_wire a b e = cc

typed : (types : List PlainTile) (place : Option (Option ℕ)) (tile : PlainTile) → numbered_type types place ≡ Some tile → (number : ℕ) × (slice_get types number ≡ Some tile)
typed types None tile e = absurd (never tile e)
  where
    never : (t : PlainTile) → None ≡ Some t → ⊥
    never t e = cc
typed types (Some None) tile e = absurd (never tile e)
  where
    never : (t : PlainTile) → None ≡ Some t → ⊥
    never t e = cc
typed types (Some (Some number)) tile e = (number, e)

-- the type of the tile at a place
pub tile_type : (fabric : PlainFabric) (x y : ℕ) (tile : PlainTile) → tile_at fabric x y ≡ Some tile → (number : ℕ) × (slice_get fabric.types number ≡ Some tile)
tile_type fabric x y tile is =
    let inside = tile_within fabric x y tile is in
    typed fabric.types (slice_get fabric.grid (y * fabric.columns + x)) tile (sym (tile_inside fabric x y inside.0 inside.1) ∙ is)

pub is_tile_at : (fabric : PlainFabric) (x y : ℕ) (tile : PlainTile) → tile_at fabric x y ≡ Some tile → AreTiles fabric → IsTile tile
is_tile_at fabric x y tile is tiles =
    let number = tile_type fabric x y tile is in
    subst (λ (t : PlainTile). IsTile t) (get_or_from_slice_get fabric.types number.0 tile tile number.1) (tiles number.0 tile (slice_get_within fabric.types number.0 tile number.1))

-- the same with the tile and the BEL that were read
pub found_pin : (fabric : PlainFabric) (site : Site) (pin : ℕ) (name : List ℕ) (tile : PlainTile) (bel : Bel) → HasPin fabric site pin → tile_at fabric site.x site.y ≡ Some tile → AreTiles fabric →
    bel ≡ get_or tile.bels site.bel bel → name ≡ bel.prefix ++ get_or (pin_names bel.kind) pin [] →
    option_map (λ number. numbered_wire (wire_index fabric site.x site.y number)) (option_and_then (λ tile. position (bytes_eq name) (matrix_names tile)) (tile_at fabric site.x site.y)) ≡ Some (pin_wire fabric site pin)
found_pin fabric site pin name tile bel has tile_is tiles read name_is =
    let parts = pin_parts fabric site pin has in
    let same : parts.tile ≡ tile = same_some parts.tile tile (sym parts.tile_is ∙ tile_is) in
    let there : slice_get tile.bels site.bel ≡ Some parts.bel = subst (λ (t : PlainTile). slice_get t.bels site.bel ≡ Some parts.bel) same parts.bel_is in
    let bel_is : parts.bel ≡ bel = sym (get_or_from_slice_get tile.bels site.bel parts.bel bel there) ∙ sym read in
    pin_found fabric site pin name tile bel tile_is (is_tile_at fabric site.x site.y tile tile_is tiles) (subst (λ (b : Bel). slice_get tile.bels site.bel ≡ Some b) bel_is there)
    (subst (λ (b : Bel). pin < pin_count b) bel_is parts.few) name_is

-- a pin's wire is a wire of the fabric
pub pin_within : (fabric : PlainFabric) (site : Site) (pin : ℕ) → HasPin fabric site pin → (pin_wire fabric site pin).0 < wire_count fabric
pin_within fabric site pin has =
    let parts = pin_parts fabric site pin has in
    let n = wire_number parts.tile (pin_of site.bel pin) in
    let inside = slice_get_within (matrix_names parts.tile) n (wire_name (bel_pin parts.bel pin)) (pin_name_at parts.tile site.bel pin parts.bel parts.bel_is parts.few) in
    let few : n < wires_at fabric site.x site.y = omega (arith, inside, wires_of_tile fabric site.x site.y parts.tile parts.tile_is) in
    let index : index_of fabric site.x site.y (pin_of site.bel pin) ≡ wire_index fabric site.x site.y n =
    ap (λ (m : ℕ). wire_index fabric site.x site.y m) (number_of_tile fabric site.x site.y (pin_of site.bel pin) parts.tile parts.tile_is) in
    omega (arith, index, index_within fabric site.x site.y n few)
