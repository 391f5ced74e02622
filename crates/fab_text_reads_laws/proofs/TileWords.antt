-- The names of a tile are identifiers.
use Rattle.std.proofs.Common.{◌≡◌, ◌⊎◌, ℕ, ◌<◌, true, List, [], ◌∷◌, ◌++◌, length, get_or, refl, sym, subst, inl, inr, arith, codes, Option, Some, None, All, slice_index_or}
use Rattle.std.specs.Fmt.{decimal}
use Rattle.std.specs.List.{flat_map, list_all, list_any}
use Rattle.std.specs.Option.{ForSome}
use Rattle.std.proofs.lemmas.Bool.Decides.{nat_tests}
use Rattle.std.proofs.lemmas.List.Elements.{All-append, All-map}
use Rattle.fab_kinds.specs.declared.kind.Kind.{Kind}
use Rattle.fab_kinds.specs.declared.kind.Kind.TheVariants.{Lut4c, Io, Mux8}
use Rattle.fab_kinds.specs.Pins.{pin_names}
use Rattle.fab_lines.specs.Names.{is_identifier}
use Rattle.fab_meaning.proofs.Modules.{Each, each_all}
use Rattle.fab_model.specs.declared.tiles.WireRow.{WireRow}
use Rattle.fab_model.specs.declared.tiles.Bel.{Bel}
use Rattle.fab_model.specs.Rows.{source_bits, dest_bits, side_bits, bit_name}
use Rattle.fab_model.specs.Tiles.{PlainTile, TileWire, source_bit, dest_bit, bel_pin, counted, row_wires, bel_wires, tile_wires, wire_name, matrix_names}
use Rattle.fab_gen_tile.specs.Words.{IsFreeName, IsNamed}
use Rattle.fab_gen_tile.specs.Names.{bel_instance_name, border_name, pad_name, letter}
use Rattle.fab_tile_drives_laws.proofs.Endings.{all_counted, all_flat_map}
use Rattle.fab_tokens.specs.Literals.{is_word_byte}
use Rattle.fab_tokens.specs.Tokens.{IsIdentifier, keyword_of}
use Rattle.fab_text_reads_laws.proofs.Words.{IsWord, word_is, begins, marked, marked_behind, marked_before, decimal_bytes, decimal_marked, all_both, both_true}
use Rattle.fab_text_reads_laws.proofs.Tested.{is_name, name_of}

free_word : (name : List ℕ) → IsFreeName name → IsWord name
free_word name free = word_is name free.identifier

-- ---- matrix names

abbrev IsNamedWire : TileWire → Type 0
IsNamedWire wire = IsIdentifier (wire_name wire)

pub bit_identifier : (word : List ℕ) (bit : ℕ) → IsFreeName word → IsIdentifier (word ++ decimal bit)
bit_identifier word bit free = let is = free_word word free in marked_behind word (decimal bit) is.bytes is.first (decimal_bytes bit) (decimal_marked bit)

side_identifier : (row : WireRow) (side other : Option (List ℕ)) (bit : ℕ) → ForSome side IsFreeName → bit < side_bits row side other → IsIdentifier (bit_name side bit)
side_identifier row None other bit free few = absurd (omega arith)
side_identifier row (Some word) other bit free few = bit_identifier word bit (free word refl)

row_identifiers : (row : WireRow) → ForSome row.source IsFreeName → ForSome row.dest IsFreeName → All IsNamedWire (row_wires row)
row_identifiers row source dest =
    All-append IsNamedWire (counted (source_bits row) (source_bit row)) (counted (dest_bits row) (dest_bit row))
    (all_counted IsNamedWire (source_bits row) (source_bit row) (λ bit few. side_identifier row row.source row.dest bit source few))
    (all_counted IsNamedWire (dest_bits row) (dest_bit row) (λ bit few. side_identifier row row.dest row.source bit dest few))

-- what a pin's name is, whatever stands before it
abbrev pub IsPin : List ℕ → Type 0
IsPin pin = (list_all is_word_byte pin ≡ true) × (list_any marked pin ≡ true) × IsIdentifier pin

pin_is : (pin : List ℕ) → list_all is_word_byte pin ≡ true → list_any marked pin ≡ true → is_name pin ≡ true → IsPin pin
pin_is pin bytes some name = (bytes, some, name_of pin name)

pub pins : (kind : Kind) → Each IsPin (pin_names kind)
unfolding keyword_of
pins Lut4c = (
  pin_is (codes "I0") refl refl refl,
  (
    pin_is (codes "I1") refl refl refl,
    (
      pin_is (codes "I2") refl refl refl,
      (
        pin_is (codes "I3") refl refl refl,
        (
          pin_is (codes "Ci") refl refl refl,
          (pin_is (codes "SR") refl refl refl, (pin_is (codes "EN") refl refl refl, (pin_is (codes "O") refl refl refl, (pin_is (codes "Co") refl refl refl, tt)))),
        ),
      ),
    ),
  ),
)
pins Io = (pin_is (codes "I") refl refl refl, (pin_is (codes "T") refl refl refl, (pin_is (codes "O") refl refl refl, (pin_is (codes "Q") refl refl refl, tt))))
pins Mux8 = (
  pin_is (codes "A") refl refl refl,
  (
    pin_is (codes "B") refl refl refl,
    (
      pin_is (codes "C") refl refl refl,
      (
        pin_is (codes "D") refl refl refl,
        (
          pin_is (codes "E") refl refl refl,
          (
            pin_is (codes "F") refl refl refl,
            (
              pin_is (codes "G") refl refl refl,
              (
                pin_is (codes "H") refl refl refl,
                (
                  pin_is (codes "S0") refl refl refl,
                  (
                    pin_is (codes "S1") refl refl refl,
                    (
                      pin_is (codes "S2") refl refl refl,
                      (
                        pin_is (codes "S3") refl refl refl,
                        (pin_is (codes "M_AB") refl refl refl, (pin_is (codes "M_AD") refl refl refl, (pin_is (codes "M_AH") refl refl refl, (pin_is (codes "M_EF") refl refl refl, tt)))),
                      ),
                    ),
                  ),
                ),
              ),
            ),
          ),
        ),
      ),
    ),
  ),
)

pub pin_identifier : (prefix pin : List ℕ) → (prefix ≡ []) ⊎ IsFreeName prefix → IsPin pin → IsIdentifier (prefix ++ pin)
pin_identifier prefix pin (inl none) is = subst (λ (p : List ℕ). IsIdentifier (p ++ pin)) (sym none) is.2
pin_identifier prefix pin (inr free) is = let word = free_word prefix free in marked_behind prefix pin word.bytes word.first is.0 is.1

bel_identifiers : (bel : Bel) → (bel.prefix ≡ []) ⊎ IsFreeName bel.prefix → All IsNamedWire (bel_wires bel)
bel_identifiers bel free =
    all_counted IsNamedWire (length (pin_names bel.kind)) (bel_pin bel)
    (λ pin few. pin_identifier bel.prefix (slice_index_or (pin_names bel.kind) pin []) free (each_all IsPin (pin_names bel.kind) (pins bel.kind) pin [] few))

-- all wires of a tile have identifiers as names
pub wires_named : (tile : PlainTile) → IsNamed tile → All IsNamedWire (tile_wires tile)
wires_named tile named =
    All-append IsNamedWire (flat_map row_wires tile.rows) (flat_map bel_wires tile.bels)
    (all_flat_map IsNamedWire row_wires tile.rows (λ k d few. row_identifiers (get_or tile.rows k d) (named.sources k d few) (named.dests k d few)))
    (all_flat_map IsNamedWire bel_wires tile.bels (λ k d few. bel_identifiers (get_or tile.bels k d) (named.prefixes k d few)))

pub matrix_named : (tile : PlainTile) → IsNamed tile → All IsIdentifier (matrix_names tile)
matrix_named tile named = All-map IsIdentifier wire_name (tile_wires tile) (wires_named tile named)

-- ---- names that the generator makes

pub module_named : (front name : List ℕ) → list_all is_word_byte front ≡ true → begins front ≡ true → list_any marked front ≡ true → is_identifier name ≡ true → IsIdentifier (front ++ name)
module_named front name bytes first some is = marked_before front name bytes first some (word_is name is).bytes

pub numbered_name : (front : List ℕ) (number : ℕ) → list_all is_word_byte front ≡ true → begins front ≡ true → IsIdentifier (front ++ decimal number)
numbered_name front number bytes first = marked_behind front (decimal number) bytes first (decimal_bytes number) (decimal_marked number)

pub letter_byte : (place : ℕ) → place < 26 → is_word_byte (letter place) ≡ true
letter_byte place few = grind (arith, nat_tests)

pub bel_named : (place : ℕ) → place < 26 → IsIdentifier (bel_instance_name place)
bel_named place few = marked_before (codes "fab_bel_") (letter place ∷ []) refl refl refl (both_true (is_word_byte (letter place)) true (letter_byte place few) refl)

pub pad_named : (place : ℕ) (port : List ℕ) → place < 26 → list_all is_word_byte port ≡ true → IsIdentifier (pad_name place port)
pad_named place port few bytes =
    marked_before (codes "fab_p_") (letter place ∷ (codes "_" ++ port)) refl refl refl
    (both_true (is_word_byte (letter place)) (list_all is_word_byte (codes "_" ++ port)) (letter_byte place few) (all_both is_word_byte (codes "_") port refl bytes))

pub border_bytes : (side : Option (List ℕ)) (bit : ℕ) → ForSome side IsFreeName → list_all is_word_byte (border_name side bit) ≡ true
border_bytes None bit free = all_both is_word_byte (codes "_") (decimal bit) refl (decimal_bytes bit)
border_bytes (Some word) bit free = all_both is_word_byte word (codes "_" ++ decimal bit) (free_word word (free word refl)).bytes (all_both is_word_byte (codes "_") (decimal bit) refl (decimal_bytes bit))

pub border_named : (front : List ℕ) (side : Option (List ℕ)) (bit : ℕ) → list_all is_word_byte front ≡ true → begins front ≡ true → list_any marked front ≡ true → ForSome side IsFreeName → IsIdentifier (front ++ border_name side bit)
border_named front side bit bytes first some free = marked_before front (border_name side bit) bytes first some (border_bytes side bit free)
