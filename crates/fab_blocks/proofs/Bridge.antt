-- The names of a block of at most 4096 names are the matrix names of its tile.
use Rattle.std.proofs.Common.{◌≡◌, ◌≢◌, ℕ, zero, suc, ◌<◌, ◌≤◌, ◌^◌, Option, Some, None, List, [], ◌∷◌, ◌++◌, map, length, get_or, decimal, refl, sym, ap, ◌∙◌, subst, arith, length-append, append-nil}
use Rattle.std.specs.Prelude.{AllPairs}
use Rattle.std.specs.List.{flat_map}
use Rattle.std.proofs.lemmas.List.{map-append}
use Rattle.std.proofs.lemmas.Fmt.{decimal_digit, decimal-digits_of}
use Rattle.std.proofs.lemmas.Map.Made.{AllPairs-from_IsDistinct}
use Rattle.std.proofs.lemmas.Slice.Eq.{bytes_eq-Decides}
use Rattle.fab_kinds.specs.Pins.{pin_names}
use Rattle.fab_model.specs.declared.tiles.WireRow.{WireRow}
use Rattle.fab_model.specs.declared.tiles.Bel.{Bel}
use Rattle.fab_model.specs.Rows.{source_bits, dest_bits, side_bits, bit_name}
use Rattle.fab_model.specs.Tiles.{source_bit, dest_bit, bel_pin, counted, row_wires, bel_wires, wire_name, matrix_names, IsTile}
use Rattle.fab_names.specs.Names.{text_of, numbered_names, names_of, side_families, all_names}
use Rattle.fab_names.proofs.Texts.{text_of_zero, text_of_some}
use Rattle.fab_names.proofs.Twice.{names_of_append, length_numbered}
use Rattle.fab_blocks.specs.Blocks.{PlainBlock, IsBlock, bare, names, side_of, row_families, bel_names}

decimal_text : (n : ℕ) → n < 2 ^ 64 → decimal n ≡ text_of n
decimal_text zero small = decimal_digit 0 (omega arith) ∙ sym text_of_zero
decimal_text (suc n) small = decimal-digits_of (suc n) (omega arith) small ∙ sym (text_of_some (suc n) (omega arith))

map_counted : {X Y : Type 0} (g : X → Y) (n : ℕ) (f : ℕ → X) → map g (counted n f) ≡ counted n (λ (i : ℕ). g (f i))
unfolding counted
map_counted g zero f = refl
map_counted {Y = Y} g (suc n) f = ap (λ (rest : List Y). g (f 0) ∷ rest) (map_counted g n (λ (i : ℕ). f (suc i)))

counted_same : {X : Type 0} (n : ℕ) (f g : ℕ → X) → ((i : ℕ) → i < n → f i ≡ g i) → counted n f ≡ counted n g
unfolding counted
counted_same zero f g same = refl
counted_same {X = X} (suc n) f g same =
    ap (λ (x : X). x ∷ counted n (λ (i : ℕ). f (suc i))) (same 0 (omega arith))
    ∙ ap (λ (rest : List X). g 0 ∷ rest) (counted_same n (λ (i : ℕ). f (suc i)) (λ (i : ℕ). g (suc i)) (λ i within. same (suc i) (omega arith)))

-- one side of a row, which has no bits where it is missing
none_counted : {X : Type 0} (bits : ℕ) (f : ℕ → X) → bits ≡ 0 → counted bits f ≡ []
unfolding counted
none_counted zero f is = refl
none_counted (suc bits) f is = absurd (omega arith)

side_names : (side : Option (List ℕ)) (bits : ℕ) → (side ≡ None → bits ≡ 0) → bits ≤ 4096 → counted bits (λ (bit : ℕ). bit_name side bit) ≡ names_of (side_families (side_of side bits))
side_names None bits none small = none_counted bits (λ (bit : ℕ). bit_name None bit) (none refl)
side_names (Some name) bits none small =
    counted_same bits (λ (bit : ℕ). name ++ decimal bit) (λ (bit : ℕ). name ++ text_of bit) (λ i within. ap (λ (text : List ℕ). name ++ text) (decimal_text i (omega arith)))
    ∙ sym (append-nil (numbered_names (record { base = name; bits = bits })))

side_none : (row : WireRow) (side other : Option (List ℕ)) → side ≡ None → side_bits row side other ≡ 0
side_none row side other none = ap (λ (s : Option (List ℕ)). side_bits row s other) none

no_source : (row : WireRow) (side : Option (List ℕ)) → row.source ≡ side → side ≡ None → source_bits row ≡ 0
no_source row side is none = side_none row row.source row.dest (is ∙ none)

no_dest : (row : WireRow) (side : Option (List ℕ)) → row.dest ≡ side → side ≡ None → dest_bits row ≡ 0
no_dest row side is none = side_none row row.dest row.source (is ∙ none)

length_side : (side : Option (List ℕ)) (bits : ℕ) → (side ≡ None → bits ≡ 0) → length (names_of (side_families (side_of side bits))) ≡ bits
length_side None bits none = sym (none refl)
length_side (Some name) bits none = omega (arith, length_numbered (record { base = name; bits = bits }), length-append (numbered_names (record { base = name; bits = bits })) [])

row_names_are : (row : WireRow) → length (names_of (row_families row)) ≤ 4096 → map wire_name (row_wires row) ≡ names_of (row_families row)
row_names_are row small =
    let first = names_of_append (side_families (side_of row.source (source_bits row))) (side_families (side_of row.dest (dest_bits row))) in
    let long = length-append (names_of (side_families (side_of row.source (source_bits row)))) (names_of (side_families (side_of row.dest (dest_bits row)))) in
    let sources = length_side row.source (source_bits row) (no_source row row.source refl) in
    let dests = length_side row.dest (dest_bits row) (no_dest row row.dest refl) in
    let whole = ap length first in
    map-append wire_name (counted (source_bits row) (source_bit row)) (counted (dest_bits row) (dest_bit row))
    ∙ ap (λ (l : List (List ℕ)). l ++ map wire_name (counted (dest_bits row) (dest_bit row))) (map_counted wire_name (source_bits row) (source_bit row) ∙ side_names row.source (source_bits row) (no_source row row.source refl) (omega arith))
    ∙ ap (λ (l : List (List ℕ)). names_of (side_families (side_of row.source (source_bits row))) ++ l) (map_counted wire_name (dest_bits row) (dest_bit row) ∙ side_names row.dest (dest_bits row) (no_dest row row.dest refl) (omega arith))
    ∙ sym first

rows_names_are : (rows : List WireRow) → length (names_of (flat_map row_families rows)) ≤ 4096 → map wire_name (flat_map row_wires rows) ≡ names_of (flat_map row_families rows)
rows_names_are [] small = refl
rows_names_are (row ∷ rows) small =
    let first = names_of_append (row_families row) (flat_map row_families rows) in
    let long = length-append (names_of (row_families row)) (names_of (flat_map row_families rows)) in
    let whole = ap length first in
    map-append wire_name (row_wires row) (flat_map row_wires rows)
    ∙ ap (λ (l : List (List ℕ)). l ++ map wire_name (flat_map row_wires rows)) (row_names_are row (omega arith))
    ∙ ap (λ (l : List (List ℕ)). names_of (row_families row) ++ l) (rows_names_are rows (omega arith))
    ∙ sym first

counted_map : (xs : List (List ℕ)) (f : List ℕ → List ℕ) → counted (length xs) (λ (i : ℕ). f (get_or xs i [])) ≡ map f xs
unfolding counted
counted_map [] f = refl
counted_map (x ∷ xs) f = ap (λ (rest : List (List ℕ)). f x ∷ rest) (counted_map xs f)

bel_names_are : (bel : Bel) → map wire_name (bel_wires bel) ≡ bel_names bel
bel_names_are bel = map_counted wire_name (length (pin_names bel.kind)) (bel_pin bel) ∙ counted_map (pin_names bel.kind) (λ (pin : List ℕ). bel.prefix ++ pin)

bels_names_are : (bels : List Bel) → map wire_name (flat_map bel_wires bels) ≡ flat_map bel_names bels
bels_names_are [] = refl
bels_names_are (bel ∷ bels) =
    map-append wire_name (bel_wires bel) (flat_map bel_wires bels)
    ∙ ap (λ (l : List (List ℕ)). l ++ map wire_name (flat_map bel_wires bels)) (bel_names_are bel)
    ∙ ap (λ (l : List (List ℕ)). bel_names bel ++ l) (bels_names_are bels)

-- the names of a block are those of its tile
pub tile_names_are : (block : PlainBlock) → length (names block) ≤ 4096 → matrix_names (bare block) ≡ names block
unfolding names all_names
tile_names_are block small =
    let long = length-append (names_of (flat_map row_families block.rows)) (flat_map bel_names block.bels) in
    map-append wire_name (flat_map row_wires block.rows) (flat_map bel_wires block.bels)
    ∙ ap (λ (l : List (List ℕ)). l ++ map wire_name (flat_map bel_wires block.bels)) (rows_names_are block.rows (omega arith))
    ∙ ap (λ (l : List (List ℕ)). names_of (flat_map row_families block.rows) ++ l) (bels_names_are block.bels)

-- so a block becomes a tile
pub is_tile : (block : PlainBlock) → IsBlock block → length (names block) ≤ 4096 → IsTile (bare block)
is_tile block is small =
    let same = tile_names_are block small in
    record {
      rows = is.rows;
      apart = subst (AllPairs (λ (first second : List ℕ). first ≢ second)) (sym same) (AllPairs-from_IsDistinct bytes_eq-Decides (names block) is.apart);
      few = subst (λ (l : List (List ℕ)). length l ≤ 4096) (sym same) small;
      pairs = λ k d within. absurd (omega arith);
    }
