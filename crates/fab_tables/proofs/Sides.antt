-- Sides of wires, and sets of names.
use Rattle.std.proofs.Common.{◌≡◌, ℕ, zero, suc, ◌+◌, ◌<◌, Bool, true, false, ◌||◌, List, [], ◌∷◌, ◌++◌, Vec, map, take, length, get_or, cond, refl, sym, ap, ◌∙◌, inl, inr, arith, append_assoc, append-nil, add-one}
use Rattle.std.specs.Prelude.{replicate}
use Rattle.std.specs.List.{list_any, filter, zip}
use Rattle.std.specs.Str.{bytes_eq}
use Rattle.std.proofs.lemmas.Bool.{cases_Bool}
use Rattle.std.proofs.lemmas.List.{map-append, map_push}
use Rattle.indexmap.specs.IndexSet.{insert_key}
use Rattle.fab_select.specs.declared.pair.Pair.{Pair}
use Rattle.fab_model.specs.declared.tiles.WireRow.{WireRow}
use Rattle.fab_model.specs.Rows.{source_bits, dest_bits}
use Rattle.fab_model.specs.Tiles.{TileWire, counted, source_bit, dest_bit, row_wires, is_matrix_output}
use Rattle.fab_bits.specs.Keys.{key_names}
use Rattle.fab_model.proofs.Inserts.{map_counted, counted_more}
use Rattle.fab_tables.specs.Matrix.{is_one, pair_with, pairs_with}

counted_same : {X : Type 0} (n : ℕ) (x : X) → counted n (λ _. x) ≡ replicate n x
unfolding counted
counted_same zero x = refl
counted_same (suc n) x = ap (λ rest. x ∷ rest) (counted_same n x)

-- the sides of a row
row_sides : (row : WireRow) → map is_matrix_output (row_wires row) ≡ replicate (source_bits row) true ++ replicate (dest_bits row) false
row_sides row =
    map-append is_matrix_output (counted (source_bits row) (source_bit row)) (counted (dest_bits row) (dest_bit row))
    ∙ (λ j. (map_counted is_matrix_output (source_bits row) (source_bit row) ∙ counted_same (source_bits row) true) j
    ++ (map_counted is_matrix_output (dest_bits row) (dest_bit row) ∙ counted_same (dest_bits row) false) j)

pub row_pushed : (row : WireRow) (old between new : List Bool) (sources dests : ℕ) → sources ≡ source_bits row → dests ≡ dest_bits row → between ≡ old ++ replicate sources true → new ≡ between ++ replicate dests false
    → new ≡ old ++ map is_matrix_output (row_wires row)
row_pushed row old between new sources dests source_is dest_is first second =
    second
    ∙ (λ j. first j ++ replicate (dest_is j) false)
    ∙ append_assoc old (replicate sources true) (replicate (dest_bits row) false)
    ∙ ap (λ n. old ++ (replicate n true ++ replicate (dest_bits row) false)) source_is
    ∙ ap (λ back. old ++ back) (sym (row_sides row))

-- one wire more
pub wires_none : {X Y : Type 0} (g : X → Y) (f : ℕ → X) (start : List Y) → start ≡ start ++ map g (counted 0 f)
unfolding counted
wires_none g f start = sym (append-nil start)

pub wires_push : {X Y : Type 0} (g : X → Y) (f : ℕ → X) (start so_far new : List Y) (n : ℕ) (y : Y) → so_far ≡ start ++ map g (counted n f) → new ≡ so_far ++ y ∷ [] → y ≡ g (f n) → new ≡ start ++ map g (counted (n + 1) f)
wires_push g f start so_far new n y before is value =
    is
    ∙ (λ j. before j ++ value j ∷ [])
    ∙ append_assoc start (map g (counted n f)) (g (f n) ∷ [])
    ∙ ap (λ back. start ++ back) (sym (ap (map g) (counted_more n f) ∙ map_push g (counted n f) (f n)))

-- ---- sets of names

pub any_name : {A : Type 0} (name : List ℕ) (keys : List (Vec ℕ A)) → list_any (λ key. bytes_eq name key.items) keys ≡ list_any (bytes_eq name) (key_names keys)
any_name name [] = refl
any_name name (key ∷ keys) = ap (λ rest. bytes_eq name key.items || rest) (any_name name keys)

pub new_last : (names : List (List ℕ)) (name : List ℕ) → list_any (bytes_eq name) names ≡ false → insert_key bytes_eq names name ≡ names ++ name ∷ []
new_last names name new = rw new refl

-- ---- pairs

abbrev pub pair_if : (output input : ℕ) → (cell : List ℕ) → List Pair
pair_if output input cell = cond (is_one cell) (pair_with output input ∷ []) []

pairs_take : (output : ℕ) (inputs : List ℕ) (cells : List (List ℕ)) (place : ℕ) → place < length inputs → length cells ≡ length inputs
    → pairs_with output (take (suc place) inputs) (take (suc place) cells) ≡ pairs_with output (take place inputs) (take place cells) ++ pair_if output (get_or inputs place 0) (get_or cells place [])
pairs_take output [] cells place below same = absurd (omega arith)
pairs_take output (input ∷ inputs) [] place below same = absurd (omega arith)
pairs_take output (input ∷ inputs) (cell ∷ cells) zero below same = elim (cases_Bool (is_one cell)) [ inl one ↦ rw one refl | inr none ↦ rw none refl ]
pairs_take output (input ∷ inputs) (cell ∷ cells) (suc place) below same =
    let rest = pairs_take output inputs cells place (omega arith) (omega arith) in
    elim (cases_Bool (is_one cell)) [ inl one ↦ rw one (ap (λ pairs. pair_with output input ∷ pairs) rest) | inr none ↦ rw none rest ]

pub pairs_push : (output : ℕ) (inputs : List ℕ) (cells : List (List ℕ)) (place : ℕ) (cell : List ℕ) (start so_far new : List Pair) → place < length inputs → length cells ≡ length inputs → cell ≡ get_or cells place cell
    → so_far ≡ start ++ pairs_with output (take place inputs) (take place cells) → new ≡ so_far ++ pair_if output (get_or inputs place 0) cell → new ≡ start ++ pairs_with output (take (place + 1) inputs) (take (place + 1) cells)
pairs_push output inputs cells place cell start so_far new below same cell_is before is =
    let known : cell ≡ get_or cells place [] = cell_is ∙ default cells place cell (omega arith) in
    is
    ∙ (λ j. before j ++ pair_if output (get_or inputs place 0) (known j))
    ∙ append_assoc start (pairs_with output (take place inputs) (take place cells)) (pair_if output (get_or inputs place 0) (get_or cells place []))
    ∙ ap (λ back. start ++ back) (sym (ap (λ n. pairs_with output (take n inputs) (take n cells)) (add-one place) ∙ pairs_take output inputs cells place below same))
  where
    default : (xs : List (List ℕ)) (k : ℕ) (d : List ℕ) → k < length xs → get_or xs k d ≡ get_or xs k []
    default [] k d inside = absurd (omega arith)
    default (x ∷ xs) zero d inside = refl
    default (x ∷ xs) (suc k) d inside = default xs k d (omega arith)
