-- A word that is read as a cell, a site or a wire is the word that is written for it.
use Rattle.std.proofs.Common.{◌≡◌, ℕ, ◌<◌, ◌≤◌, Bool, true, false, cond, ◌&&◌, ◌||◌, List, [], ◌∷◌, ◌++◌, length, get_or, position, Option, Some, None, refl, sym, ap, subst, ◌∙◌, arith, inl, inr, decimal, append_assoc}
use Rattle.std.specs.Prelude.{◌==◌, not, is_some, nat_le}
use Rattle.std.specs.Option.{option_map, option_map_or, option_and_then}
use Rattle.std.specs.List.{list_all}
use Rattle.std.specs.Int.{IsInRange}
use Rattle.std.specs.Str.{bytes_eq}
use Rattle.std.specs.Str.Parse.{digits_value}
use Rattle.std.proofs.lemmas.Bool.{and_parts, and_from, or_cases, not-true, eqb-true, eq-eqb, leb-true}
use Rattle.std.proofs.lemmas.Bool.Decides.{nat_tests}
use Rattle.std.proofs.lemmas.Fmt.{decimal-digits_value}
use Rattle.std.proofs.lemmas.List.Quantifiers.{position-Some}
use Rattle.std.proofs.lemmas.Slice.Eq.{bytes_eq-Decides}
use Rattle.std.proofs.lemmas.Str.Parse.{IsDigitsTest, IsNumeralModel, numerals_by_value}
use Rattle.fab_kinds.specs.declared.kind.Kind.{Kind as BelKind}
use Rattle.fab_lines.specs.Numbers.{is_digit, is_number, number_of}
use Rattle.fab_model.specs.Tiles.{PlainTile, matrix_names}
use Rattle.fab_model.specs.Grid.{PlainFabric, tile_at}
use Rattle.fab_fabric.specs.Fabric.{wires_at}
use Rattle.fab_fabric.specs.Names.{place_name, full_name, name_at, site_text}
use Rattle.fab_fabric.specs.Wires.{wire_index, numbered_wire}
use Rattle.fab_fabric.specs.declared.wire.Site.{Site}
use Rattle.fab_fabric.specs.declared.wire.Wire.{Wire}
use Rattle.fab_implementation.specs.OnFabric.{kind_at}
use Rattle.fab_texts.specs.Rows.{Word}
use Rattle.fab_texts.specs.Places.{place_at, site_of, after_byte, ◌>>=◌}
use Rattle.fab_texts.proofs.SiteLaws.{byte_takes, place_takes, site_takes}
use Rattle.fab_impl.specs.Names.{cell_of, cell_number, cell_text, most_cell, on_fabric, site_in, wire_of, wire_text, named_wire}
use Rattle.fab_impl.proofs.Stands.{then_some}
use Rattle.fab_impl.proofs.WireNames.{wire_is}

-- ---- cells

digit_range : (byte : ℕ) → is_digit byte ≡ true → IsInRange 48 57 byte
digit_range byte is = grind (arith, nat_tests)

digit_test : (byte : ℕ) → IsInRange 48 57 byte → is_digit byte ≡ true
digit_test byte range = grind (arith, nat_tests)

digits_test : IsDigitsTest (λ digits. list_all is_digit digits ≡ true)
digits_test = record {
  empty = refl;
  parts = λ byte digits all. let both = and_parts (is_digit byte) (list_all is_digit digits) all in (digit_range byte both.0, both.1);
  more = λ byte digits range all. and_from (is_digit byte) (list_all is_digit digits) (digit_test byte range) all;
}

numerals : IsNumeralModel (λ digits. list_all is_digit digits ≡ true) (digits_value 10)
numerals = numerals_by_value (λ digits. list_all is_digit digits ≡ true) digits_test

-- a number without a leading zero is what is written of its value
decimal_again : (digits : List ℕ) → is_number digits ≡ true → number_of digits ≤ most_cell → decimal (number_of digits) ≡ digits
decimal_again digits is few =
    let filled = not (length digits == 0) in
    let outer = and_parts (filled && list_all is_digit digits) (not (get_or digits 0 0 == 48) || (length digits == 1)) is in
    let inner = and_parts filled (list_all is_digit digits) outer.0 in
    let some : 0 < length digits = let test = inner.0 in grind (arith, nat_tests) in
    let alone : get_or digits 0 0 ≡ 48 → length digits ≡ 1 = λ zero. elim (or_cases (not (get_or digits 0 0 == 48)) (length digits == 1) outer.1) [
      | inl other ↦ let no : (get_or digits 0 0 == 48) ≡ false = not-true (get_or digits 0 0 == 48) other in let yes : (get_or digits 0 0 == 48) ≡ true = eq-eqb (get_or digits 0 0) 48 zero in absurd cc
      | inr one ↦ eqb-true (length digits) 1 one
    ] in
    decimal-digits_value numerals digits inner.1 some alone (omega (arith, few))

cell_by : (digits : Word) (cell : ℕ) (test : Bool) → (is_number digits && nat_le (number_of digits) most_cell) ≡ test → cond test (Some (number_of digits)) None ≡ Some cell → (digits ≡ decimal cell) × (cell ≤ most_cell)
cell_by digits cell false is so = absurd cc
cell_by digits cell true is so =
    let both = and_parts (is_number digits) (nat_le (number_of digits) most_cell) is in
    let few = leb-true (number_of digits) most_cell both.1 in
    let same : number_of digits ≡ cell = cc in
    subst (λ (c : ℕ). (digits ≡ decimal c) × (c ≤ most_cell)) same (sym (decimal_again digits both.0 few), few)

pub cell_read : (word : Word) (cell : ℕ) → cell_of word ≡ Some cell → (word ≡ cell_text cell) × (cell ≤ most_cell)
cell_read word cell so =
    let digits = then_some (after_byte 99 word) cell_number cell so in
    let number = cell_by digits.0 cell (is_number digits.0 && nat_le (number_of digits.0) most_cell) refl digits.2 in
    (byte_takes 99 word digits.0 digits.1 ∙ ap (λ (d : Word). 99 ∷ d) number.0, number.1)

-- ---- sites

site_by : (fabric : PlainFabric) (found site : Site) (kind : Option BelKind) → cond (is_some kind) (Some found) None ≡ Some site → found ≡ site
site_by fabric found site None so = absurd cc
site_by fabric found site (Some kind) so = cc

pub site_read : (fabric : PlainFabric) (word : Word) (site : Site) → site_in fabric word ≡ Some site → word ≡ site_text site
site_read fabric word site so =
    let found = then_some (site_of word) (on_fabric fabric) site so in
    let same = site_by fabric found.0 site (kind_at fabric found.0) found.2 in
    (site_takes word found.0 found.1).0 ∙ ap site_text same

-- ---- wires

wire_by : (fabric : PlainFabric) (x y : ℕ) (name : Word) (wire : Wire) (tile : Option PlainTile) → tile_at fabric x y ≡ tile
    → option_map (λ (number : ℕ). numbered_wire (wire_index fabric x y number)) (option_and_then (λ (t : PlainTile). position (bytes_eq name) (matrix_names t)) tile) ≡ Some wire → wire_text fabric wire ≡ full_name x y name
wire_by fabric x y name wire None is so = absurd cc
wire_by fabric x y name wire (Some tile) is so = at_number (position (bytes_eq name) (matrix_names tile)) refl so
  where
    at_number : (found : Option ℕ) → position (bytes_eq name) (matrix_names tile) ≡ found → option_map (λ (number : ℕ). numbered_wire (wire_index fabric x y number)) found ≡ Some wire → wire_text fabric wire ≡ full_name x y name
    at_number None read given = absurd cc
    at_number (Some number) read given =
        let same : numbered_wire (wire_index fabric x y number) ≡ wire = cc in
        let here : wires_at fabric x y ≡ length (matrix_names tile) = ap (λ (t : Option PlainTile). option_map_or (λ p. length (matrix_names p)) t 0) is in
        let stands = position-Some (bytes_eq name) (matrix_names tile) number [] read in
        let within : number < wires_at fabric x y = omega (arith, here, stands.0) in
        let named : name_at fabric x y number ≡ name = ap (λ (t : Option PlainTile). option_map_or (λ p. get_or (matrix_names p) number []) t []) is ∙ sym ((bytes_eq-Decides name (get_or (matrix_names tile) number [])).0 stands.1) in
        ap (wire_text fabric) (sym same) ∙ wire_is fabric x y number within ∙ ap (full_name x y) named

pub wire_read : (fabric : PlainFabric) (word : Word) (wire : Wire) → wire_of fabric word ≡ Some wire → word ≡ wire_text fabric wire
unfolding wire_of
wire_read fabric word wire so =
    let place = then_some (place_at word) (λ p. after_byte 47 p.rest >>= λ name. named_wire fabric p.x p.y name) wire so in
    let name = then_some (after_byte 47 place.0.rest) (λ n. named_wire fabric place.0.x place.0.y n) wire place.2 in
    let reads = place_takes word place.0 place.1 in
    let text : word ≡ place_name place.0.x place.0.y ++ 47 ∷ name.0 = reads.text ∙ ap (λ (rest : Word). place_name place.0.x place.0.y ++ rest) (byte_takes 47 place.0.rest name.0 name.1) in
    text ∙ sym (append_assoc (place_name place.0.x place.0.y) (47 ∷ []) name.0) ∙ sym (wire_by fabric place.0.x place.0.y name.0 wire (tile_at fabric place.0.x place.0.y) refl name.2)
