-- The names of wires by their numbers.
use Rattle.std.proofs.Common.{◌≡◌, ℕ, zero, suc, ◌+◌, ◌<◌, ◌≤◌, List, [], ◌∷◌, ◌++◌, map, length, get_or, Option, Some, None, refl, sym, ap, ◌∙◌, inl, inr, arith, length-append}
use Rattle.std.specs.Option.{option_map_or}
use Rattle.std.proofs.lemmas.Bool.{cases_lt}
use Rattle.std.proofs.lemmas.List.{get_or_append_left, get_or-append-add, length-map}
use Rattle.fab_model.specs.Tiles.{PlainTile, matrix_names}
use Rattle.fab_model.specs.Grid.{PlainFabric, tile_at}
use Rattle.fab_fabric.specs.Sums.{sum_to}
use Rattle.fab_fabric.specs.Fabric.{wires_at, column_wires, wire_count}
use Rattle.fab_fabric.specs.Wires.{wire_index, numbered_wire}
use Rattle.fab_fabric.specs.Names.{full_name, name_at}
use Rattle.fab_fabric.specs.declared.wire.Wire.{Wire}
use Rattle.fab_fabric.proofs.Numbered.{some_place}
use Rattle.fab_fabric.proofs.Placed.{no_tile_past, no_tile_below}
use Rattle.fab_impl.specs.Names.{list_to, place_wires, wire_names, wire_text}

length-list_to : {X : Type 0} (n : ℕ) (f : ℕ → List X) (count : ℕ → ℕ) → ((k : ℕ) → length (f k) ≡ count k) → length (list_to n f) ≡ sum_to n count
unfolding list_to sum_to
length-list_to zero f count same = refl
length-list_to (suc n) f count same =
    let front = length-list_to n f count same in
    let whole = length-append (list_to n f) (f n) in
    omega (arith, front, whole, same n)

sums_grow : (n : ℕ) (count : ℕ → ℕ) (k : ℕ) → k < n → sum_to k count + count k ≤ sum_to n count
unfolding sum_to
sums_grow zero count k below = absurd (omega arith)
sums_grow (suc n) count k below = elim (cases_lt k n) [
  | inl lt ↦ let rest = sums_grow n count k lt in omega (arith, rest)
  | inr le ↦
      let last : k ≡ n = omega arith in
      let same : sum_to k count + count k ≡ sum_to n count + count n = ap (λ (j : ℕ). sum_to j count + count j) last in
      omega (arith, same)
]

-- an item of the k-th list
item_of_list : {X : Type 0} (n : ℕ) (f : ℕ → List X) (count : ℕ → ℕ) (k i : ℕ) (d : X) → ((j : ℕ) → length (f j) ≡ count j) → k < n → i < count k → get_or (list_to n f) (sum_to k count + i) d ≡ get_or (f k) i d
unfolding list_to
item_of_list zero f count k i d same below within = absurd (omega arith)
item_of_list {X} (suc n) f count k i d same below within =
    let front : length (list_to n f) ≡ sum_to n count = length-list_to n f count same in
    elim (cases_lt k n) [
      | inl lt ↦
          let grown = sums_grow n count k lt in
          let inside : sum_to k count + i < length (list_to n f) = omega (arith, front, grown, within) in
          get_or_append_left (list_to n f) (f n) d (sum_to k count + i) inside ∙ item_of_list n f count k i d same lt within
      | inr le ↦
          let last : k ≡ n = omega arith in
          let place : sum_to k count + i ≡ length (list_to n f) + i = ap (λ (j : ℕ). sum_to j count + i) last ∙ ap (λ (j : ℕ). j + i) (sym front) in
          ap (λ (j : ℕ). get_or (list_to n f ++ f n) j d) place ∙ get_or-append-add (list_to n f) (f n) i d ∙ ap (λ (j : ℕ). get_or (f j) i d) (sym last)
    ]

mapped_at : (f : List ℕ → List ℕ) (names : List (List ℕ)) (i : ℕ) → i < length names → get_or (map f names) i [] ≡ f (get_or names i [])
mapped_at f [] i within = absurd (omega arith)
mapped_at f (name ∷ names) zero within = refl
mapped_at f (name ∷ names) (suc i) within = mapped_at f names i (omega arith)

length-place : (x y : ℕ) (tile : Option PlainTile) → length (option_map_or (λ (t : PlainTile). map (full_name x y) (matrix_names t)) tile []) ≡ option_map_or (λ (t : PlainTile). length (matrix_names t)) tile 0
length-place x y None = refl
length-place x y (Some tile) = length-map (matrix_names tile) (full_name x y)

name_in : (x y number : ℕ) (tile : Option PlainTile) → number < option_map_or (λ (t : PlainTile). length (matrix_names t)) tile 0
    → get_or (option_map_or (λ (t : PlainTile). map (full_name x y) (matrix_names t)) tile []) number [] ≡ full_name x y (option_map_or (λ (t : PlainTile). get_or (matrix_names t) number []) tile [])
name_in x y number None within = absurd (omega arith)
name_in x y number (Some tile) within = mapped_at (full_name x y) (matrix_names tile) number within

-- a place with wires lies in the grid
pub inside_grid : (fabric : PlainFabric) (x y number : ℕ) → number < wires_at fabric x y → (x < fabric.columns) × (y < fabric.rows)
inside_grid fabric x y number within = elim (cases_lt x fabric.columns) [
  | inr past ↦
      let none : wires_at fabric x y ≡ 0 = ap (λ (t : Option PlainTile). option_map_or (λ tile. length (matrix_names tile)) t 0) (no_tile_past fabric x y past) in
      absurd (omega (arith, none, within))
  | inl column ↦ elim (cases_lt y fabric.rows) [
    | inl row ↦ (column, row)
    | inr below ↦
        let none : wires_at fabric x y ≡ 0 = ap (λ (t : Option PlainTile). option_map_or (λ tile. length (matrix_names tile)) t 0) (no_tile_below fabric x y column below) in
        absurd (omega (arith, none, within))
  ]
]

-- the name of a wire is that of its place and its matrix name
pub wire_is : (fabric : PlainFabric) (x y number : ℕ) → number < wires_at fabric x y → wire_text fabric (numbered_wire (wire_index fabric x y number)) ≡ full_name x y (name_at fabric x y number)
wire_is fabric x y number within =
    let inside = inside_grid fabric x y number within in
    let in_column : sum_to y (wires_at fabric x) + number < column_wires fabric x = let grown = sums_grow fabric.rows (wires_at fabric x) y inside.1 in omega (arith, grown, within) in
    let grouped : wire_index fabric x y number ≡ sum_to x (column_wires fabric) + (sum_to y (wires_at fabric x) + number) = omega arith in
    ap (λ (j : ℕ). get_or (wire_names fabric) j []) grouped
    ∙ item_of_list fabric.columns (λ k. list_to fabric.rows (place_wires fabric k)) (column_wires fabric) x (sum_to y (wires_at fabric x) + number) []
    (λ k. length-list_to fabric.rows (place_wires fabric k) (wires_at fabric k) (λ j. length-place k j (tile_at fabric k j))) inside.0 in_column
    ∙ item_of_list fabric.rows (place_wires fabric x) (wires_at fabric x) y number [] (λ j. length-place x j (tile_at fabric x j)) inside.1 within
    ∙ name_in x y number (tile_at fabric x y) within

-- what is the name of each wire at its place is the name of a wire
pub wire_named : (fabric : PlainFabric) (wire : Wire) (name : List ℕ) → wire.0 < wire_count fabric
    → ((x y number : ℕ) → number < wires_at fabric x y → wire.0 ≡ wire_index fabric x y number → name ≡ full_name x y (name_at fabric x y number)) → name ≡ wire_text fabric wire
wire_named fabric wire name below named =
    let place = some_place fabric wire.0 below in
    let number_within = place.3 in
    let index = place.4 in
    named place.0 place.1 place.2 number_within index ∙ sym (wire_is fabric place.0 place.1 place.2 number_within) ∙ ap (λ (j : ℕ). get_or (wire_names fabric) j []) (sym index)
