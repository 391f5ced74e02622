-- Words of names, numbers and signs can stand in lines, also at their ends.
use Rattle.std.proofs.Common.{◌≡◌, ℕ, zero, suc, ◌-◌, ◌<◌, ◌==◌, ◌&&◌, Bool, true, not, All, List, [], ◌∷◌, ◌++◌, length, get_or, decimal, Option, Some, None, refl, ap, subst, ◌∙◌, arith}
use Rattle.std.specs.List.{AllByRecursion as Each, list_all}
use Rattle.std.specs.Option.{option_map_or}
use Rattle.std.proofs.lemmas.Bool.{and_from, and_parts}
use Rattle.std.proofs.lemmas.Bool.Decides.{nat_tests}
use Rattle.std.proofs.lemmas.Option.{get_or_from_slice_get, slice_get_within}
use Rattle.fab_lines.specs.Names.{begins_name, is_identifier, is_of_name}
use Rattle.fab_model.specs.Grid.{PlainFabric, tile_at}
use Rattle.fab_model.specs.Tiles.{PlainTile, matrix_names}
use Rattle.fab_fabric.specs.Fabric.{wire_count, wires_at}
use Rattle.fab_fabric.specs.Names.{full_name, name_at, place_name}
use Rattle.fab_fabric.specs.declared.wire.Wire.{Wire}
use Rattle.fab_fabric.proofs.Numbered.{some_place}
use Rattle.fab_designs.specs.fab_impl_Names.{cell_text, wire_names, wire_text}
use Rattle.fab_designs.proofs.fab_impl_WireNames.{wire_is}
use Rattle.fab_legal.proofs.Pins.{tile_type}
use Rattle.fab_spelled_fabrics_laws.proofs.Words.{decimal_named}
use Rattle.fab_texts.specs.Printed.{ends_line, is_last_word, is_row, is_word, is_word_byte}
use Rattle.fab_texts.specs.Rows.{Word}
use Rattle.fab_lines.specs.Items.{is_filled}
use Rattle.fab_texts.proofs.PrintedRows.{all_append}

-- ---- bytes

-- a byte of a word that may stand at its end
abbrev pub is_plain : ℕ → Bool
is_plain byte = is_word_byte byte && not (byte == 13)

name_plain : (byte : ℕ) → is_of_name byte ≡ true → is_plain byte ≡ true
name_plain byte is = grind (arith, nat_tests)

pub all_weaker : (test other : ℕ → Bool) → ((byte : ℕ) → test byte ≡ true → other byte ≡ true) → (word : Word) → list_all test word ≡ true → list_all other word ≡ true
all_weaker test other weaker [] all = refl
all_weaker test other weaker (byte ∷ word) all =
    let parts = and_parts (test byte) (list_all test word) all in
    and_from (other byte) (list_all other word) (weaker byte parts.0) (all_weaker test other weaker word parts.1)

tested_or : (test : ℕ → Bool) (word : Word) (place : ℕ) → test 0 ≡ true → list_all test word ≡ true → test (get_or word place 0) ≡ true
tested_or test [] place none all = none
tested_or test (byte ∷ word) zero none all = (and_parts (test byte) (list_all test word) all).0
tested_or test (byte ∷ word) (suc place) none all = tested_or test word place none (and_parts (test byte) (list_all test word) all).1

filled : (word : Word) → 0 < length word → is_filled word ≡ true
filled word some = grind (arith, nat_tests)

pub plain_word : (word : Word) → 0 < length word → list_all is_plain word ≡ true → is_last_word word ≡ true
plain_word word some all =
    let bytes = all_weaker is_plain is_word_byte (λ byte both. (and_parts (is_word_byte byte) (not (byte == 13)) both).0) word all in
    let others = all_weaker is_plain (λ byte. not (byte == 13)) (λ byte both. (and_parts (is_word_byte byte) (not (byte == 13)) both).1) word all in
    let last : ends_line word ≡ true = tested_or (λ byte. not (byte == 13)) word (length word - 1) refl others in
    and_from (is_word word) (ends_line word) (and_from (is_filled word) (list_all is_word_byte word) (filled word some) bytes) last

decimal_plain : (n : ℕ) → list_all is_plain (decimal n) ≡ true
decimal_plain n = all_weaker is_of_name is_plain name_plain (decimal n) (decimal_named n)

identifier_plain : (name : Word) → is_identifier name ≡ true → list_all is_plain name ≡ true
identifier_plain [] is = refl
identifier_plain (byte ∷ name) is = all_weaker is_of_name is_plain name_plain (byte ∷ name) (and_parts (begins_name byte) (list_all is_of_name (byte ∷ name)) is).1

-- ---- cells and wires

pub cell_word : (cell : ℕ) → is_last_word (cell_text cell) ≡ true
cell_word cell = plain_word (99 ∷ decimal cell) (omega arith) (decimal_plain cell)

place_plain : (x y : ℕ) → list_all is_plain (place_name x y) ≡ true
place_plain x y = all_append is_plain (decimal x ++ 89 ∷ []) (decimal y) (all_append is_plain (decimal x) (89 ∷ []) (decimal_plain x) refl) (decimal_plain y)

full_word : (x y : ℕ) (name : Word) → is_identifier name ≡ true → is_last_word (full_name x y name) ≡ true
full_word x y name is =
    plain_word (full_name x y name) (omega arith)
    (all_append is_plain (place_name x y ++ 47 ∷ []) name (all_append is_plain (place_name x y) (47 ∷ []) (place_plain x y) refl) (identifier_plain name is))

-- what holds of all types holds of the tile at a place
pub of_tile : (P : PlainTile → Type 0) (fabric : PlainFabric) (x y : ℕ) (tile : PlainTile) → All P fabric.types → tile_at fabric x y ≡ Some tile → P tile
of_tile P fabric x y tile all is =
    let number = tile_type fabric x y tile is in
    subst P (get_or_from_slice_get fabric.types number.0 tile tile number.1) (all number.0 tile (slice_get_within fabric.types number.0 tile number.1))

-- each matrix name is an identifier
abbrev pub HasWords : PlainTile → Type 0
HasWords tile = All (λ wire. is_identifier wire ≡ true) (matrix_names tile)

found_named : (found : Option PlainTile) (number : ℕ) → ((tile : PlainTile) → found ≡ Some tile → HasWords tile) → number < option_map_or (λ tile. length (matrix_names tile)) found 0 →
    is_identifier (option_map_or (λ tile. get_or (matrix_names tile) number []) found []) ≡ true
found_named None number words few = absurd (omega (arith, few))
found_named (Some tile) number words few = words tile refl number [] few

module _ (fabric : PlainFabric) (words : All HasWords fabric.types) where
  pub name_named : (x y number : ℕ) → number < wires_at fabric x y → is_identifier (name_at fabric x y number) ≡ true
  name_named x y number few = found_named (tile_at fabric x y) number (λ tile is. of_tile HasWords fabric x y tile words is) few

  pub wire_word : (wire : Wire) → wire.0 < wire_count fabric → is_last_word (wire_text fabric wire) ≡ true
  wire_word wire few =
      let place = some_place fabric wire.0 few in
      let text : wire_text fabric wire ≡ full_name place.0 place.1 (name_at fabric place.0 place.1 place.2) =
      ap (λ (index : ℕ). get_or (wire_names fabric) index []) place.4 ∙ wire_is fabric place.0 place.1 place.2 place.3 in
      ap is_last_word text ∙ full_word place.0 place.1 (name_at fabric place.0 place.1 place.2) (name_named place.0 place.1 place.2 place.3)

-- ---- rows

pub row_of : (line : List Word) → 0 < length line → Each (λ word. is_last_word word ≡ true) line → is_row line ≡ true
row_of [] some all = absurd (omega (arith, some))
row_of (word ∷ []) some all = all.0
row_of (word ∷ next ∷ more) some all =
    and_from (is_word word) (is_row (next ∷ more)) (and_parts (is_word word) (ends_line word) all.0).0 (row_of (next ∷ more) (omega arith) all.1)
