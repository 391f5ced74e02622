-- No matrix name is one that the generator makes.
use Rattle.std.proofs.Common.{◌≡◌, ◌⊎◌, ℕ, ◌<◌, true, false, Bool, ◌||◌, List, [], ◌++◌, get_or, length, refl, ap, ◌∙◌, inl, inr, arith, rules, Option, Some, None, All, slice_index_or}
use Rattle.std.specs.List.{flat_map}
use Rattle.std.specs.Option.{ForSome}
use Rattle.std.proofs.lemmas.List.Elements.{All-append, All-map}
use Rattle.fab_kinds.specs.declared.kind.Kind.{Kind}
use Rattle.fab_kinds.specs.declared.kind.Kind.TheVariants.{Lut4c, Io, Mux8}
use Rattle.fab_kinds.specs.Pins.{pin_names}
use Rattle.fab_meaning.proofs.Modules.{Each, each_all}
use Rattle.fab_model.specs.declared.tiles.WireRow.{WireRow}
use Rattle.fab_model.specs.declared.tiles.Bel.{Bel}
use Rattle.fab_model.specs.Rows.{source_bits, dest_bits, side_bits, bit_name}
use Rattle.fab_model.specs.Tiles.{PlainTile, TileWire, source_bit, dest_bit, bel_pin, counted, row_wires, bel_wires, tile_wires, wire_name, matrix_names}
use Rattle.std.specs.Fmt.{decimal}
use Rattle.fab_parts_sound_laws.specs.fab_gen_tile_Words.{IsFreeName, IsNamed}
use Rattle.fab_parts_sound_laws.proofs.Lists.{all_counted, all_flat_map}
use Rattle.fab_parts_sound_laws.proofs.fab_tile_drives_laws_Endings.{last_byte, last_append}
use Rattle.fab_tiles_sound_laws.proofs.Digits.{first_byte, first_digit, last_digit, decimal_digits}
use Rattle.fab_tiles_sound_laws.proofs.Ranks.{is_made, plain_rank, rank, free_joined, plain_is, low_plain}

abbrev pub IsPlain : List ℕ → Type 0
IsPlain name = rank name ≡ 7

abbrev IsPlainWire : TileWire → Type 0
IsPlainWire wire = IsPlain (wire_name wire)

left_false : (a b : Bool) → (a || b) ≡ false → a ≡ false
left_false true b e = e
left_false false b e = refl

unmade : (word : List ℕ) → IsFreeName word → is_made word ≡ false
unmade word is = left_false (is_made word) _ is.free

-- ---- bits of rows

plain_bit : (word : List ℕ) (bit : ℕ) → IsFreeName word → IsPlain (word ++ decimal bit)
plain_bit word bit is =
    let are = decimal_digits bit in
    let low : first_byte (decimal bit) < 58 = first_digit (decimal bit) are in
    plain_is (word ++ decimal bit) (free_joined word (decimal bit) (unmade word is) (omega arith))
    (ap plain_rank (last_append word (decimal bit) 0) ∙ low_plain (last_byte (decimal bit) (last_byte word 0)) (last_digit (decimal bit) (last_byte word 0) are))

plain_side : (row : WireRow) (side other : Option (List ℕ)) (bit : ℕ) → ForSome side IsFreeName → bit < side_bits row side other → IsPlain (bit_name side bit)
plain_side row None other bit free few = absurd (omega arith)
plain_side row (Some word) other bit free few = plain_bit word bit (free word refl)

plain_row : (row : WireRow) → ForSome row.source IsFreeName → ForSome row.dest IsFreeName → All IsPlainWire (row_wires row)
plain_row row source dest =
    All-append IsPlainWire (counted (source_bits row) (source_bit row)) (counted (dest_bits row) (dest_bit row))
    (all_counted IsPlainWire (source_bits row) (source_bit row) (λ bit few. plain_side row row.source row.dest bit source few))
    (all_counted IsPlainWire (dest_bits row) (dest_bit row) (λ bit few. plain_side row row.dest row.source bit dest few))

-- ---- pins

-- what a pin's name begins and ends with, whatever stands before it
abbrev IsPin : List ℕ → Type 0
IsPin pin = (first_byte pin < 95) × ((before : ℕ) → plain_rank (last_byte pin before) ≡ 7)

pins : (kind : Kind) → Each IsPin (pin_names kind)
pins Lut4c = search rules
pins Io = search rules
pins Mux8 = search rules

plain_pin : (prefix pin : List ℕ) → (prefix ≡ []) ⊎ IsFreeName prefix → IsPin pin → IsPlain (prefix ++ pin)
plain_pin prefix pin free is =
    let word : is_made prefix ≡ false = elim free [ inl empty ↦ ap is_made empty | inr named ↦ unmade prefix named ] in
    plain_is (prefix ++ pin) (free_joined prefix pin word is.0) (ap plain_rank (last_append prefix pin 0) ∙ is.1 (last_byte prefix 0))

plain_bel : (bel : Bel) → (bel.prefix ≡ []) ⊎ IsFreeName bel.prefix → All IsPlainWire (bel_wires bel)
plain_bel bel free =
    all_counted IsPlainWire (length (pin_names bel.kind)) (bel_pin bel)
    (λ pin few. plain_pin bel.prefix (slice_index_or (pin_names bel.kind) pin []) free (each_all IsPin (pin_names bel.kind) (pins bel.kind) pin [] few))

-- ---- all of them

pub plain_names : (tile : PlainTile) → IsNamed tile → All IsPlain (matrix_names tile)
plain_names tile named =
    All-map IsPlain wire_name (tile_wires tile)
    (All-append IsPlainWire (flat_map row_wires tile.rows) (flat_map bel_wires tile.bels)
    (all_flat_map IsPlainWire row_wires tile.rows (λ k d few. plain_row (get_or tile.rows k d) (named.sources k d few) (named.dests k d few)))
    (all_flat_map IsPlainWire bel_wires tile.bels (λ k d few. plain_bel (get_or tile.bels k d) (named.prefixes k d few))))
