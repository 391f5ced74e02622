-- The places of a grid where tiles stand, and the types that stand somewhere.
use Rattle.std.proofs.Common.{◌≡◌, ℕ, ◌+◌, ◌*◌, ◌<◌, Bool, true, false, cond, List, [], ◌∷◌, ◌++◌, length, map, filter, take, Option, Some, None, slice_get, option_map, refl, sym, ap, ◌∙◌, arith, append_assoc, inl, inr, ◌==◌, eqb-true}
use Rattle.std.specs.List.{flat_map, filter_map, enumerate_from}
use Rattle.std.proofs.lemmas.List.{map-append, append-nil, length-map}
use Rattle.std.proofs.lemmas.List.Elements.{filter_map-append, filter-append}
use Rattle.std.proofs.lemmas.Option.{slice_get-get_or}
use Rattle.fab_syntax.specs.declared.tree.Module.{Module}
use Rattle.fab_syntax.specs.Plain.{PlainItem, plain_item, plain_module}
use Rattle.fab_model.specs.Tiles.{PlainTile, TileWire, bare_tile, counted, tile_wires, wire_name, is_matrix_output}
use Rattle.fab_model.specs.Grid.{PlainFabric, numbered_type}
use Rattle.fab_model.proofs.Inserts.{counted_more}
use Rattle.fab_model.proofs.Steps.{item_holds}
use Rattle.fab_fabric.specs.Fabric.{IsFabric, IsPlace}
use Rattle.fab_fabric.proofs.Placed.{tile_inside}
use Rattle.fab_gen_tile.specs.TileModule.{is_on_side, matrix_output_names}
use Rattle.fab_gen_tile.specs.MatrixModule.{numbered_outputs, matrix_module}
use Rattle.fab_gen_tile.proofs.Counted.{counted_none}
use Rattle.fab_gen_tile.proofs.Steps.{flat_last, placed_more}
use Rattle.fab_text_loads_laws.specs.fab_fabric_text_defs_Places.{PlacedTile, placed_at, column_tiles}
use Rattle.fab_text_loads_laws.specs.fab_fabric_text_defs_Text.{stands, matrix_modules}
use Rattle.fab_gen_top.specs.declared.places.Place.{Place}
use Rattle.fab_gen_top.specs.inner.Standing.{type_of, placed_of, IsPlaceOf}
use Rattle.std.proofs.lemmas.Bool.{cases_Bool}

-- ---- places

abbrev pub spot : (x y number : ℕ) → Place
spot x y number = record { x = x; y = y; number = number }

-- as the definition of places has it
abbrev placed : (x y : ℕ) → PlainTile → PlacedTile
placed x y tile = record { x = x; y = y; tile = tile }

pub stands_at : (fabric : PlainFabric) (x y number : ℕ) → IsFabric fabric → x < fabric.columns → y < fabric.rows → slice_get fabric.grid (y * fabric.columns + x) ≡ Some (Some number) →
    IsPlaceOf fabric (spot x y number)
stands_at fabric x y number is few low got =
    let known : number < length fabric.types = item_holds (IsPlace fabric.types) fabric.grid (y * fabric.columns + x) (Some number) is.numbers got in
    record {
      is_type = known;
      tile_is = tile_inside fabric x y few low ∙ ap (numbered_type fabric.types) got ∙ slice_get-get_or fabric.types number (bare_tile [] [] []) known;
    }

empty_at : (fabric : PlainFabric) (x y : ℕ) → x < fabric.columns → y < fabric.rows → slice_get fabric.grid (y * fabric.columns + x) ≡ Some None → placed_at fabric x y ≡ None
empty_at fabric x y few low got =
    ap (option_map (placed x y)) (tile_inside fabric x y few low ∙ ap (numbered_type fabric.types) got)

one_row : (fabric : PlainFabric) (x y : ℕ) → filter_map (placed_at fabric x) (counted (y + 1) (λ y. y)) ≡ filter_map (placed_at fabric x) (counted y (λ y. y)) ++ filter_map (placed_at fabric x) (y ∷ [])
one_row fabric x y =
    ap (filter_map (placed_at fabric x)) (counted_more y (λ y. y)) ∙ filter_map-append (placed_at fabric x) (counted y (λ y. y)) (y ∷ [])

single : {X Y : Type 0} (h : X → Option Y) (x : X) (y : Y) → h x ≡ Some y → filter_map h (x ∷ []) ≡ y ∷ []
single h x y is = rw is refl

nothing : {X Y : Type 0} (h : X → Option Y) (x : X) → h x ≡ None → filter_map h (x ∷ []) ≡ []
nothing h x is = rw is refl

pub no_rows : (fabric : PlainFabric) (x : ℕ) (front : List PlacedTile) → front ≡ front ++ filter_map (placed_at fabric x) (counted 0 (λ y. y))
no_rows fabric x front = sym (ap (λ rest. front ++ filter_map (placed_at fabric x) rest) (counted_none (λ y. y)) ∙ append-nil front)

-- a place more, where a tile stands
pub row_with : (fabric : PlainFabric) (x y number : ℕ) (places : List Place) (front : List PlacedTile) → IsPlaceOf fabric (spot x y number) →
    map (placed_of fabric) places ≡ front ++ filter_map (placed_at fabric x) (counted y (λ y. y)) →
    map (placed_of fabric) (places ++ spot x y number ∷ []) ≡ front ++ filter_map (placed_at fabric x) (counted (y + 1) (λ y. y))
row_with fabric x y number places front here so_far =
    let here_placed = placed_of fabric (spot x y number) in
    let is : placed_at fabric x y ≡ Some here_placed = ap (option_map (placed x y)) here.tile_is in
    map-append (placed_of fabric) places (spot x y number ∷ [])
    ∙ ap (λ xs. xs ++ here_placed ∷ []) so_far
    ∙ append_assoc front (filter_map (placed_at fabric x) (counted y (λ y. y))) (here_placed ∷ [])
    ∙ ap (λ xs. front ++ xs) (ap (λ xs. filter_map (placed_at fabric x) (counted y (λ y. y)) ++ xs) (sym (single (placed_at fabric x) y here_placed is)) ∙ sym (one_row fabric x y))

-- and an empty one
pub row_without : (fabric : PlainFabric) (x y : ℕ) (places : List Place) (front : List PlacedTile) → x < fabric.columns → y < fabric.rows →
    slice_get fabric.grid (y * fabric.columns + x) ≡ Some None → map (placed_of fabric) places ≡ front ++ filter_map (placed_at fabric x) (counted y (λ y. y)) →
    map (placed_of fabric) places ≡ front ++ filter_map (placed_at fabric x) (counted (y + 1) (λ y. y))
row_without fabric x y places front few low got so_far =
    so_far
    ∙ ap (λ xs. front ++ xs)
    (sym (one_row fabric x y ∙ ap (λ xs. filter_map (placed_at fabric x) (counted y (λ y. y)) ++ xs) (nothing (placed_at fabric x) y (empty_at fabric x y few low got))
    ∙ append-nil (filter_map (placed_at fabric x) (counted y (λ y. y)))))

pub column_more : (fabric : PlainFabric) (x : ℕ) → flat_map (column_tiles fabric) (counted (x + 1) (λ x. x)) ≡ flat_map (column_tiles fabric) (counted x (λ x. x)) ++ column_tiles fabric x
column_more fabric x = ap (flat_map (column_tiles fabric)) (counted_more x (λ x. x)) ∙ flat_last (column_tiles fabric) (counted x (λ x. x)) x

-- ---- types that stand

abbrev pub standing_of : PlainFabric → List PlainTile → List PlainTile
standing_of fabric types = map (λ (numbered : ℕ × PlainTile). numbered.1) (filter (λ (numbered : ℕ × PlainTile). stands fabric numbered.0) (enumerate_from 0 types))

standing_more : (fabric : PlainFabric) (i : ℕ) → i < length fabric.types →
    standing_of fabric (take (i + 1) fabric.types) ≡ standing_of fabric (take i fabric.types) ++ cond (stands fabric i) (type_of fabric i ∷ []) []
standing_more fabric i within =
    let p : ℕ × PlainTile → Bool = λ numbered. stands fabric numbered.0 in
    let second : ℕ × PlainTile → PlainTile = λ numbered. numbered.1 in
    let last : ℕ × PlainTile = (i, type_of fabric i) in
    ap (λ xs. map second (filter p xs)) (placed_more fabric.types i (bare_tile [] [] []) within)
    ∙ ap (map second) (filter-append p (enumerate_from 0 (take i fabric.types)) (last ∷ []))
    ∙ map-append second (filter p (enumerate_from 0 (take i fabric.types))) (filter p (last ∷ []))
    ∙ ap (λ xs. standing_of fabric (take i fabric.types) ++ xs) (one (stands fabric i))
  where
    one : (b : Bool) → map (λ (numbered : ℕ × PlainTile). numbered.1) (cond b ((i, type_of fabric i) ∷ []) []) ≡ cond b (type_of fabric i ∷ []) []
    one true = refl
    one false = refl

pub one_stands : (fabric : PlainFabric) (i : ℕ) (numbers : List ℕ) → i < length fabric.types → stands fabric i ≡ true → map (type_of fabric) numbers ≡ standing_of fabric (take i fabric.types) →
    map (type_of fabric) (numbers ++ i ∷ []) ≡ standing_of fabric (take (i + 1) fabric.types)
one_stands fabric i numbers within is so_far =
    map-append (type_of fabric) numbers (i ∷ [])
    ∙ ap (λ xs. xs ++ type_of fabric i ∷ []) so_far
    ∙ sym (standing_more fabric i within ∙ ap (λ b. standing_of fabric (take i fabric.types) ++ cond b (type_of fabric i ∷ []) []) is)

pub none_stands : (fabric : PlainFabric) (i : ℕ) (numbers : List ℕ) → i < length fabric.types → stands fabric i ≡ false → map (type_of fabric) numbers ≡ standing_of fabric (take i fabric.types) →
    map (type_of fabric) numbers ≡ standing_of fabric (take (i + 1) fabric.types)
none_stands fabric i numbers within is so_far =
    so_far
    ∙ sym (standing_more fabric i within
    ∙ ap (λ b. standing_of fabric (take i fabric.types) ++ cond b (type_of fabric i ∷ []) []) is
    ∙ append-nil (standing_of fabric (take i fabric.types)))

-- ---- whether a tile has a matrix

outputs_named : (k : ℕ) (ws : List TileWire) →
    map (λ (out : ℕ × List ℕ). out.1) (map (λ (placed : ℕ × TileWire). (placed.0, wire_name placed.1)) (filter (λ (placed : ℕ × TileWire). is_matrix_output placed.1) (enumerate_from k ws)))
    ≡ map wire_name (filter (is_on_side true) ws)
outputs_named k [] = refl
outputs_named k (w ∷ ws) =
    elim (cases_Bool (is_matrix_output w)) [
      | inl t ↦ rw t (ap (λ names. wire_name w ∷ names) (outputs_named (k + 1) ws))
      | inr f ↦ rw f (outputs_named (k + 1) ws)
    ]

as_many_items : (tile : PlainTile) (items : List PlainItem) → items ≡ (matrix_module tile).items → length items ≡ length (matrix_output_names tile)
as_many_items tile items are =
    ap length are
    ∙ length-map (numbered_outputs tile) _
    ∙ sym (length-map (numbered_outputs tile) (λ (out : ℕ × List ℕ). out.1))
    ∙ ap length (outputs_named 0 (tile_wires tile))

some_modules : (tile : PlainTile) (outputs : List (List ℕ)) → (length outputs == 0) ≡ false → matrix_modules tile outputs ≡ matrix_module tile ∷ []
some_modules tile [] none = let empty : (length {A = List ℕ} [] == 0) ≡ true = refl in cc
some_modules tile (output ∷ outputs) none = refl

no_modules : (tile : PlainTile) (outputs : List (List ℕ)) → (length outputs == 0) ≡ true → matrix_modules tile outputs ≡ []
no_modules tile [] none = refl
no_modules tile (output ∷ outputs) none = absurd (decide none)
  where
    decide : (length (output ∷ outputs) == 0) ≡ true → ⊥
    decide is = let zero_is : length (output ∷ outputs) ≡ 0 = eqb-true (length (output ∷ outputs)) 0 is in omega (arith, zero_is)

pub some_matrix : (tile : PlainTile) (m : Module) (empty : Bool) → plain_module m ≡ matrix_module tile → empty ≡ (length m.items.items == 0) → empty ≡ false →
    matrix_modules tile (matrix_output_names tile) ≡ matrix_module tile ∷ []
some_matrix tile m empty is tells none =
    some_modules tile (matrix_output_names tile)
    (ap (λ n. n == 0) (sym (as_many_items tile (map plain_item m.items.items) (ap (λ m. m.items) is)) ∙ length-map m.items.items plain_item) ∙ sym tells ∙ none)

pub no_matrix : (tile : PlainTile) (m : Module) (empty : Bool) → plain_module m ≡ matrix_module tile → empty ≡ (length m.items.items == 0) → empty ≡ true →
    matrix_modules tile (matrix_output_names tile) ≡ []
no_matrix tile m empty is tells none =
    no_modules tile (matrix_output_names tile)
    (ap (λ n. n == 0) (sym (as_many_items tile (map plain_item m.items.items) (ap (λ m. m.items) is)) ∙ length-map m.items.items plain_item) ∙ sym tells ∙ none)
