-- The maps of the tile types of a fabric, and the rows that they give.
use Rattle.std.proofs.Common.{◌≡◌, ℕ, zero, suc, ◌+◌, ◌*◌, ◌<◌, ◌≤◌, List, [], ◌∷◌, ◌++◌, true, false, ◌&&◌, nat_lt, if◌then◌else◌, Option, Some, None, length, get_or, slice_get, take, drop, replicate, refl, sym, ap, ◌∙◌, arith, subst, inl, inr, length-append}
use Rattle.std.specs.Option.{option_and_then, option_map_or}
use Rattle.std.proofs.lemmas.Bool.{cases_lt}
use Rattle.std.proofs.lemmas.List.{length-take-le, length-drop, length-replicate, get_or-take, get_or-drop, get_or-replicate}
use Rattle.std.proofs.lemmas.Option.{slice_get_within, slice_get_read, get_or_from_slice_get, same_Some}
use Rattle.fab_model.specs.Tiles.{PlainTile, tile_bits}
use Rattle.fab_model.specs.Tables.{HasTable}
use Rattle.fab_model.specs.Grid.{PlainFabric, tile_at, numbered_type}
use Rattle.fab_fabric.specs.Fabric.{IsFabric, IsPlace}
use Rattle.fab_fabric.specs.Bits.{bits_at}
use Rattle.fab_fabric.proofs.Placed.{tile_inside}
use Rattle.fab_frames.specs.Stream.{placed_bit, bit_placed_at}
use Rattle.fab_frames.specs.inner.Placing.{IsMap, HaveMaps, IsPlacedRow}
use Rattle.fab_frames.specs.declared.placing.FrameMap.{FrameMap}
use Rattle.fab_frames.proofs.Lists.{get_left, get_right}
use Rattle.fab_frames.proofs.Placed.{placed_below, placed_once, has_place}

-- ---- maps of types

-- there are maps of the first n types
pub record HaveMapsTo (types : List PlainTile) (maps : List FrameMap) (n : ℕ) : Type 0 where
  pub as_many : length maps ≡ n
  pub mapped : (number : ℕ) (tile : PlainTile) → number < n → slice_get types number ≡ Some tile → (map : FrameMap) × (slice_get maps number ≡ Some map) × IsMap tile map.placed.items

mapped_more : (types : List PlainTile) (maps : List FrameMap) (n : ℕ) (tile : PlainTile) (map : FrameMap) → slice_get types n ≡ Some tile → IsMap tile map.placed.items → HaveMapsTo types maps n →
    (number : ℕ) (other : PlainTile) → number < n + 1 → slice_get types number ≡ Some other → (found : FrameMap) × (slice_get (maps ++ map ∷ []) number ≡ Some found) × IsMap other found.placed.items
mapped_more types maps n tile map at is so_far number other few other_at =
    elim (cases_lt number n) [
      | inl less ↦ (
          let old = so_far.mapped number other less other_at in
          (old.0, get_left maps (map ∷ []) number (omega (arith, less, so_far.as_many)) ∙ old.1, old.2))
      | inr past ↦ (
          let last : number ≡ n = omega (arith, few, past) in
          let same : tile ≡ other = same_Some tile other (sym at ∙ ap (slice_get types) (sym last) ∙ other_at) in
          (map, get_right maps (map ∷ []) number 0 (omega (arith, last, so_far.as_many)), subst (λ (t : PlainTile). IsMap t map.placed.items) same is))
    ]

pub one_map_more : (types : List PlainTile) (maps new : List FrameMap) (n : ℕ) (tile : PlainTile) (map : FrameMap) → n < length types → tile ≡ get_or types n tile → new ≡ maps ++ map ∷ [] →
    IsMap tile map.placed.items → HaveMapsTo types maps n → HaveMapsTo types new (n + 1)
one_map_more types maps new n tile map within tile_is new_is is so_far =
    let at : slice_get types n ≡ Some tile = slice_get_read types (length types) n tile refl within tile_is in
    let made : HaveMapsTo types (maps ++ map ∷ []) (n + 1) = record {
      as_many = simp length-append (omega (arith, so_far.as_many));
      mapped = mapped_more types maps n tile map at is so_far;
    } in
    subst (λ (ms : List FrameMap). HaveMapsTo types ms (n + 1)) (sym new_is) made

pub all_maps : (fabric : PlainFabric) (types : List PlainTile) (maps : List FrameMap) (n : ℕ) → IsFabric fabric → types ≡ fabric.types → length types ≤ n → HaveMapsTo types maps n → HaveMaps fabric maps
all_maps fabric types maps n is types_are all have = record {
  is_fabric = is;
  mapped = λ number tile at. (
      let there : slice_get types number ≡ Some tile = ap (λ ts. slice_get ts number) types_are ∙ at in
      have.mapped number tile (omega (arith, all, slice_get_within types number tile there)) there);
}

-- ---- rows

some_item : {X : Type 0} (xs : List X) (i : ℕ) → i < length xs → (x : X) × (slice_get xs i ≡ Some x)
some_item [] i few = absurd (omega (arith, few))
some_item (x ∷ xs) zero few = (x, refl)
some_item (x ∷ xs) (suc i) few = some_item xs i (omega (arith, few))

abbrev no_bit : Option ℕ
no_bit = None

-- the map of the tile at a place
pub record HasMapAt (fabric : PlainFabric) (maps : List FrameMap) (x y number : ℕ) : Type 0 where
  pub tile : PlainTile
  pub map : FrameMap
  pub stands : tile_at fabric x y ≡ Some tile
  pub at : slice_get maps number ≡ Some map
  pub is : IsMap tile map.placed.items

typed_map : (fabric : PlainFabric) (maps : List FrameMap) (x y number : ℕ) → HaveMaps fabric maps → x < fabric.columns → y < fabric.rows →
    slice_get fabric.grid (y * fabric.columns + x) ≡ Some (Some number) → number < length fabric.types → HasMapAt fabric maps x y number
typed_map fabric maps x y number have few low there below =
    let typed = some_item fabric.types number below in
    let found = have.mapped number typed.0 typed.1 in
    record {
      tile = typed.0;
      map = found.0;
      stands = tile_inside fabric x y few low ∙ ap (numbered_type fabric.types) there ∙ typed.1;
      at = found.1;
      is = found.2;
    }

pub map_at : (fabric : PlainFabric) (maps : List FrameMap) (x y number : ℕ) (place : Option ℕ) → HaveMaps fabric maps → x < fabric.columns → y < fabric.rows →
    slice_get fabric.grid (y * fabric.columns + x) ≡ Some place → place ≡ Some number → HasMapAt fabric maps x y number
map_at fabric maps x y number place have few low at place_is =
    let there : slice_get fabric.grid (y * fabric.columns + x) ≡ Some (Some number) = at ∙ ap Some place_is in
    let inside : y * fabric.columns + x < length fabric.grid = slice_get_within fabric.grid (y * fabric.columns + x) (Some number) there in
    let read : get_or fabric.grid (y * fabric.columns + x) (Some number) ≡ Some number = get_or_from_slice_get fabric.grid (y * fabric.columns + x) (Some number) (Some number) there in
    let below : number < length fabric.types = subst (IsPlace fabric.types) read (have.is_fabric.numbers (y * fabric.columns + x) (Some number) inside) in
    typed_map fabric maps x y number have few low there below

-- where there is no tile, no configuration bit is placed
pub empty_row : (fabric : PlainFabric) (x y frame : ℕ) (place : Option ℕ) → x < fabric.columns → y < fabric.rows → slice_get fabric.grid (y * fabric.columns + x) ≡ Some place → place ≡ None →
    IsPlacedRow fabric x y frame (replicate 32 None)
empty_row fabric x y frame place few low at place_is =
    let none : tile_at fabric x y ≡ None = tile_inside fabric x y few low ∙ ap (numbered_type fabric.types) (at ∙ ap Some place_is) in
    record {
      long = length-replicate 32 no_bit;
      each = λ bit small. get_or-replicate 32 bit no_bit no_bit small ∙ sym (ap (option_and_then (placed_bit frame bit)) none);
    }

-- the row of a frame in the map of the tile
pub row_of_map : (fabric : PlainFabric) (x y frame width : ℕ) (tile : PlainTile) (placed : List (Option ℕ)) → tile_at fabric x y ≡ Some tile → IsMap tile placed → frame < 20 → width ≡ 32 →
    IsPlacedRow fabric x y frame (take width (drop (frame * 32) placed))
row_of_map fabric x y frame width tile placed stands is low width_is =
    let row : IsPlacedRow fabric x y frame (take 32 (drop (frame * 32) placed)) = record {
      long = length-take-le 32 (drop (frame * 32) placed) (simp length-drop (omega (arith, is.long, low)));
      each = λ bit small.
          get_or-take 32 (drop (frame * 32) placed) bit None small
          ∙ get_or-drop (frame * 32) placed bit None
          ∙ is.each frame bit low small
          ∙ sym (ap (option_and_then (placed_bit frame bit)) stands);
    } in
    subst (λ (n : ℕ). IsPlacedRow fabric x y frame (take n (drop (frame * 32) placed))) (sym width_is) row

-- the map as it is read
pub map_read : (fabric : PlainFabric) (maps : List FrameMap) (x y number : ℕ) (d : FrameMap) (placed : List (Option ℕ)) → (found : HasMapAt fabric maps x y number) → placed ≡ (get_or maps number d).placed.items →
    IsMap found.tile placed
map_read fabric maps x y number d placed found placed_is =
    let read : get_or maps number d ≡ found.map = get_or_from_slice_get maps number found.map d found.at in
    let same : found.map.placed.items ≡ placed = sym (placed_is ∙ ap (λ (map : FrameMap). map.placed.items) read) in
    subst (λ (items : List (Option ℕ)). IsMap found.tile items) same found.is

-- ---- configuration bits that are placed

numbered_has_table : (fabric : PlainFabric) (place : Option (Option ℕ)) (tile : PlainTile) → IsFabric fabric → numbered_type fabric.types place ≡ Some tile → HasTable tile
numbered_has_table fabric None tile is e = cc
numbered_has_table fabric (Some None) tile is e = cc
numbered_has_table fabric (Some (Some number)) tile is e =
    let few : number < length fabric.types = slice_get_within fabric.types number tile e in
    subst HasTable (get_or_from_slice_get fabric.types number tile tile e) (is.tables number tile few)

-- a tile that stands somewhere has a table
pub tile_has_table : (fabric : PlainFabric) (x y : ℕ) (tile : PlainTile) → IsFabric fabric → tile_at fabric x y ≡ Some tile → HasTable tile
tile_has_table fabric x y tile is stands =
    let k : ℕ = y * fabric.columns + x in
    elim (nat_lt x fabric.columns && nat_lt y fabric.rows) as (λ b. (if b then numbered_type fabric.types (slice_get fabric.grid k) else None) ≡ Some tile → HasTable tile) [
      | true ↦ numbered_has_table fabric (slice_get fabric.grid k) tile is
      | false ↦ λ e. cc
    ] stands

-- a bit of a row that is placed is a bit of the place
pub placed_within : (fabric : PlainFabric) (x y frame bit number : ℕ) → IsFabric fabric → bit_placed_at fabric x y frame bit ≡ Some number → number < bits_at fabric x y
placed_within fabric x y frame bit number is placed =
    let R : Option PlainTile → Type 0 = λ found. tile_at fabric x y ≡ found → option_and_then (placed_bit frame bit) found ≡ Some number → number < option_map_or tile_bits found 0 in
    elim (tile_at fabric x y) as R [
      | None ↦ λ stands e. cc
      | Some tile ↦ λ stands e. placed_below tile frame bit number (tile_has_table fabric x y tile is stands) e
    ] refl placed

-- a bit of a row that is placed is placed nowhere else
pub placed_nowhere_else : (fabric : PlainFabric) (x y frame bit frame2 bit2 number : ℕ) → bit_placed_at fabric x y frame bit ≡ Some number → bit_placed_at fabric x y frame2 bit2 ≡ Some number →
    (frame ≡ frame2) × (bit ≡ bit2)
placed_nowhere_else fabric x y frame bit frame2 bit2 number first second =
    let R : Option PlainTile → Type 0 = λ found. option_and_then (placed_bit frame bit) found ≡ Some number → option_and_then (placed_bit frame2 bit2) found ≡ Some number → (frame ≡ frame2) × (bit ≡ bit2) in
    elim (tile_at fabric x y) as R [
      | None ↦ λ e e2. cc
      | Some tile ↦ λ e e2. placed_once tile frame bit frame2 bit2 number e e2
    ] first second

-- each bit of a place is placed
pub placed_somewhere : (fabric : PlainFabric) (x y number : ℕ) → IsFabric fabric → number < bits_at fabric x y →
    (frame : ℕ) × (bit : ℕ) × (frame < 20) × (bit < 32) × (bit_placed_at fabric x y frame bit ≡ Some number)
placed_somewhere fabric x y number is few =
    let R : Option PlainTile → Type 0 = λ found. tile_at fabric x y ≡ found → number < option_map_or tile_bits found 0 →
    (frame : ℕ) × (bit : ℕ) × (frame < 20) × (bit < 32) × (option_and_then (placed_bit frame bit) found ≡ Some number) in
    elim (tile_at fabric x y) as R [
      | None ↦ λ stands low. absurd (omega (arith, low))
      | Some tile ↦ λ stands low. has_place tile number (tile_has_table fabric x y tile is stands) low
    ] refl few
