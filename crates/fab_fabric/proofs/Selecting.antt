-- What select bits pick.
use Rattle.std.proofs.Common.{◌≡◌, ℕ, zero, suc, ◌+◌, ◌-◌, ◌*◌, ◌^◌, ◌<◌, ◌≤◌, Bool, true, false, List, [], ◌∷◌, All, length, map, get_or, slice_get, refl, sym, ap, ap₂, ◌∙◌, arith, Option, Some, None, Vec, option_map, option_and_then, nat_eq, nat_le, nat_lt, inl, inr, pow-suc, pow_mono}
use Rattle.std.proofs.lemmas.Bool.{cases_Bool, cases_lt}
use Rattle.std.proofs.lemmas.Bool.Decides.{nat_tests}
use Rattle.std.proofs.lemmas.List.{nil_from_length, get_or_past}
use Rattle.std.proofs.lemmas.List.Elements.{All-head, All-tail}
use Rattle.std.proofs.lemmas.Grind.{get_or_default_zero}
use Rattle.fab_model.specs.fab_bits.specs.Bits.{bit_number, number, first_bits}
use Rattle.fab_model.specs.fab_bits.specs.Widths.{width_from, select_width}
use Rattle.fab_model.specs.fab_bits.proofs.Numbers.{first_bits_same}
use Rattle.fab_model.specs.fab_select.specs.declared.pair.Pair.{Pair}
use Rattle.fab_model.specs.fab_select.specs.Selection.{inputs_of, field_width}
use Rattle.fab_model.specs.Tiles.{PlainTile, IsTile, pair_numbers, numbered_pairs, matrix_names, output_field, source_bit, bel_pin, is_matrix_output}
use Rattle.fab_model.specs.Grid.{PlainFabric, tile_at}
use Rattle.fab_model.specs.declared.tiles.WireRow.{WireRow}
use Rattle.fab_model.specs.declared.tiles.Bel.{Bel}
use Rattle.std.specs.Option.{option_map_or}
use Rattle.std.proofs.lemmas.Option.{slice_get_within}
use Rattle.fab_model.specs.fab_kinds.specs.Pins.{input_count}
use Rattle.fab_model.specs.Rows.{source_bits}
use Rattle.fab_model.specs.Wires.{PlainWire, plain_wires, source_of, pin_of, pin_count, pins_at, IsWire, IsMatrixOutput, wire_number}
use Rattle.fab_model.proofs.Drives.{matrix_drive_at}
use Rattle.fab_model.specs.fab_bits.specs.Keys.{group_at}
use Rattle.fab_model.specs.Drive.{matrix_inputs, select_value, input_at, copy_or_zero, matrix_drive, PlainBits, drive}
use Rattle.fab_fabric.specs.Wires.{wire_index, numbered_wire, IsIndexOf}
use Rattle.fab_fabric.specs.declared.wire.Drive.{Drive}
use Rattle.fab_fabric.specs.declared.wire.Drive.TheVariants as drives
use Rattle.fab_fabric.specs.Drive.{numbered_drive}
use Rattle.fab_fabric.proofs.Pairs.{inputs_named}
use Rattle.fab_fabric.proofs.Numbered.{wire_with_number, wires_are_named, some_item, number_of_tile}

-- ---- select values

abbrev pub last_bits : (bits : List Bool) (low width taken : ℕ) → ℕ → Bool
last_bits bits low width taken = λ place. get_or bits (low + (width - taken + place)) false

pub bit_more : (bits : List Bool) (low width taken value : ℕ) (bit : Bool) → taken < width → value ≡ number (first_bits taken (last_bits bits low width taken)) →
    bit ≡ get_or bits (low + (width - 1 - taken)) false → 2 * value + bit_number bit ≡ number (first_bits (taken + 1) (last_bits bits low width (taken + 1)))
bit_more bits low width taken value bit few value_is bit_is =
    let next : taken + 1 ≡ suc taken = omega arith in
    let f = last_bits bits low width (taken + 1) in
    let same : first_bits taken (last_bits bits low width taken) ≡ first_bits taken (λ place. f (suc place)) =
    first_bits_same taken (last_bits bits low width taken) (λ place. f (suc place)) (λ i l. ap (λ k. get_or bits k false) (let e : low + (width - taken + i) ≡ low + (width - (taken + 1) + suc i) = omega (arith, few) in e)) in
    let here : bit ≡ f 0 = bit_is ∙ ap (λ k. get_or bits k false) (let e : low + (width - 1 - taken) ≡ low + (width - (taken + 1) + 0) = omega (arith, few) in e) in
    let rest : value ≡ number (first_bits taken (λ place. f (suc place))) = value_is ∙ ap number same in
    let sum : 2 * value + bit_number bit ≡ bit_number (f 0) + 2 * number (first_bits taken (λ place. f (suc place))) = omega (arith, rest, ap bit_number here) in
    sum ∙ sym (ap (λ n. number (first_bits n f)) next)

pub all_bits : (bits : List Bool) (low width taken value : ℕ) → taken ≡ width → value ≡ number (first_bits taken (last_bits bits low width taken)) →
    value ≡ number (first_bits width (λ place. get_or bits (low + place) false))
all_bits bits low width taken value all value_is =
    value_is
    ∙ ap (λ n. number (first_bits n (last_bits bits low width taken))) all
    ∙ ap number (first_bits_same width (last_bits bits low width taken) (λ place. get_or bits (low + place) false)
    (λ i l. ap (λ k. get_or bits k false) (let e : low + (width - taken + i) ≡ low + i = omega (arith, all) in e)))

bit_small : (bit : Bool) → bit_number bit ≤ 1
bit_small true = omega arith
bit_small false = omega arith

pub value_small : (taken value : ℕ) (bit : Bool) → value < 2 ^ taken → 2 * value + bit_number bit < 2 ^ (taken + 1)
value_small taken value bit small =
    let next : taken + 1 ≡ suc taken = omega arith in
    omega (arith, small, bit_small bit, pow-suc 2 taken, ap (λ n. 2 ^ n) next)

pub value_fits : (taken width value : ℕ) → taken ≤ width → width ≤ 64 → value < 2 ^ taken → value < 2 ^ 64
value_fits taken width value few narrow small = omega (arith, small, pow_mono {i = taken} {j = 64} (omega (arith, few, narrow)))

-- ---- widths

width_at_most : (tries width n other : ℕ) → n ≤ 2 ^ other → width ≤ other → width_from tries width n ≤ other
width_at_most zero width n other enough low = low
width_at_most (suc tries) width n other enough low =
    elim (cases_Bool (nat_le n (2 ^ width))) [
      | inl t ↦ rw t low
      | inr f ↦ rw f (
          let short : 2 ^ width < n = grind (arith, nat_tests) in
          let below : width + 1 ≤ other = elim (cases_lt width other) [
            | inl less ↦ omega (arith, less)
            | inr past ↦ absurd (omega (arith, short, enough, pow_mono {i = other} {j = width} past))
          ] in
          width_at_most tries (width + 1) n other enough below)
    ]

pub select_narrow : (n : ℕ) → n < 2 ^ 64 → select_width n ≤ 64
unfolding select_width
select_narrow n few = width_at_most n 0 n 64 (omega (arith, few)) (omega arith)

pub field_narrow : (tile : PlainTile) (output width : ℕ) → length (matrix_inputs tile output) < 2 ^ 64 → width ≡ (output_field tile output).1 → width ≤ 64
field_narrow tile output width few is =
    let whole = field_width nat_eq (numbered_pairs tile) output in
    elim (cases_Bool (nat_eq whole 0)) [
      | inl none ↦ (let zero_is : (output_field tile output).1 ≡ 0 = rw none refl in omega (arith, is, zero_is))
      | inr some ↦ (let same : (output_field tile output).1 ≡ whole = rw some refl in omega (arith, is, same, select_narrow (length (matrix_inputs tile output)) few))
    ]

-- ---- inputs

groups_within : (n : ℕ) (pairs : List Pair) (output : ℕ) → All (λ pair. pair.input < n) pairs → (k d : ℕ) → k < length (inputs_of nat_eq (map pair_numbers pairs) output) →
    get_or (inputs_of nat_eq (map pair_numbers pairs) output) k d < n
groups_within n [] output all k d few = absurd (omega (arith, few))
groups_within n (pair ∷ pairs) output all zero d few =
    elim (cases_Bool (nat_eq pair.output output)) [
      | inl t ↦ rw t (All-head (λ (p : Pair). p.input < n) pair pairs all)
      | inr f ↦ (
          let fewer : zero < length (inputs_of nat_eq (map pair_numbers pairs) output) = rw f at few in
          rw f (groups_within n pairs output (All-tail (λ (p : Pair). p.input < n) pair pairs all) zero d fewer))
    ]
groups_within n (pair ∷ pairs) output all (suc k) d few =
    elim (cases_Bool (nat_eq pair.output output)) [
      | inl t ↦ (
          let longer : suc k < suc (length (inputs_of nat_eq (map pair_numbers pairs) output)) = rw t at few in
          rw t (groups_within n pairs output (All-tail (λ (p : Pair). p.input < n) pair pairs all) k d (omega (arith, longer))))
      | inr f ↦ (
          let fewer : suc k < length (inputs_of nat_eq (map pair_numbers pairs) output) = rw f at few in
          rw f (groups_within n pairs output (All-tail (λ (p : Pair). p.input < n) pair pairs all) (suc k) d fewer))
    ]

pub input_named : (tile : PlainTile) → IsTile tile → (output : ℕ) (inputs : List ℕ) (k d : ℕ) → inputs ≡ matrix_inputs tile output → k < length inputs → get_or inputs k d < length (matrix_names tile)
input_named tile is output inputs k d inputs_are few =
    let within : k < length (matrix_inputs tile output) = omega (arith, few, ap length inputs_are) in
    let there = groups_within (length (matrix_names tile)) tile.pairs output (λ i e l. inputs_named tile is i e l) k d within in
    omega (arith, there, ap (λ xs. get_or xs k d) inputs_are)

-- ---- drives of matrix outputs

pub driven_by_none : (fabric : PlainFabric) (bits : ℕ → Bool) (x y : ℕ) (tile : PlainTile) (output : ℕ) (inputs : List ℕ) → inputs ≡ matrix_inputs tile output → length inputs ≡ 0 →
    drives.Zero ≡ numbered_drive fabric (matrix_drive bits x y tile output)
driven_by_none fabric bits x y tile output inputs inputs_are none =
    let empty : matrix_inputs tile output ≡ [] = nil_from_length (matrix_inputs tile output) (ap length (sym inputs_are) ∙ none) in
    sym (ap (λ inputs. numbered_drive fabric (copy_or_zero x y (option_and_then (slice_get (plain_wires tile)) (input_at inputs (select_value tile bits output))))) empty)

-- the input that is picked
picked_is : (inputs : List ℕ) (value input : ℕ) → (length inputs ≡ 0 → ⊥) → (value < length inputs → input ≡ get_or inputs value 0) → (length inputs ≤ value → input ≡ get_or inputs 0 0) → input_at inputs value ≡ Some input
picked_is [] value input some early late = absurd (some refl)
picked_is (first ∷ inputs) value input some early late =
    elim (cases_lt value (length (first ∷ inputs))) [
      | inl few ↦ ap Some (get_or_default_zero (first ∷ inputs) value first few ∙ sym (early few))
      | inr past ↦ ap Some (get_or_past (first ∷ inputs) value first past ∙ sym (late past))
    ]

pub picked_named : (tile : PlainTile) → IsTile tile → (output : ℕ) (inputs : List ℕ) (value input : ℕ) → inputs ≡ matrix_inputs tile output → (length inputs ≡ 0 → ⊥) →
    (value < length inputs → input ≡ get_or inputs value 0) → (length inputs ≤ value → input ≡ get_or inputs 0 0) → input < length (matrix_names tile)
picked_named tile is output inputs value input inputs_are some early late =
    elim (cases_lt value (length inputs)) [
      | inl few ↦ omega (arith, early few, input_named tile is output inputs value 0 inputs_are few)
      | inr past ↦ omega (arith, late past, input_named tile is output inputs 0 0 inputs_are (omega (arith, some)))
    ]

pub driven_by_input : (fabric : PlainFabric) (bits : ℕ → Bool) (x y : ℕ) (tile : PlainTile) (output : ℕ) (inputs : List ℕ) (value input : ℕ) → tile_at fabric x y ≡ Some tile → IsTile tile →
    inputs ≡ matrix_inputs tile output → (length inputs ≡ 0 → ⊥) → value ≡ select_value tile bits output → (value < length inputs → input ≡ get_or inputs value 0) → (length inputs ≤ value → input ≡ get_or inputs 0 0) →
    drives.Copy (numbered_wire (wire_index fabric x y input)) ≡ numbered_drive fabric (matrix_drive bits x y tile output)
driven_by_input fabric bits x y tile output inputs value input tile_is is inputs_are some value_is early late =
    let named = picked_named tile is output inputs value input inputs_are some early late in
    let wire = some_item (plain_wires tile) input (omega (arith, named, wires_are_named tile)) in
    let numbered = wire_with_number fabric x y input tile wire.0 tile_is wire.1 in
    ap (λ n. drives.Copy (numbered_wire n)) numbered.is_index
    ∙ sym (ap₂ (λ inputs value. numbered_drive fabric (copy_or_zero x y (option_and_then (slice_get (plain_wires tile)) (input_at inputs value)))) (sym inputs_are) (sym value_is)
    ∙ ap (λ found. numbered_drive fabric (copy_or_zero x y (option_and_then (slice_get (plain_wires tile)) found))) (picked_is inputs value input some early late)
    ∙ ap (λ found. numbered_drive fabric (copy_or_zero x y found)) wire.1)

source_there : (found : Option WireRow) (bit : ℕ) → bit < option_map_or source_bits found 0 → option_map_or is_matrix_output (option_map (λ row. source_bit row bit) found) false ≡ true
source_there None bit few = absurd (omega (arith, few))
source_there (Some row) bit few = refl

pin_there : (bels : List Bel) (bel pin : ℕ) (found : Option Bel) → slice_get bels bel ≡ found → pin < option_map_or pin_count found 0 → bel < length bels
pin_there bels bel pin None is few = absurd (omega (arith, few))
pin_there bels bel pin (Some there) is few = slice_get_within bels bel there is

-- groups are no longer than memory
pub group_small : {A : Type 0} (groups : List (Vec ℕ A)) (output : ℕ) → length (group_at groups output) < 2 ^ 64
group_small [] output = omega arith
group_small (group ∷ groups) zero = omega (arith, group.ok, group.small)
group_small (group ∷ groups) (suc output) = group_small groups output

-- ---- drives of wires by number

pub matrix_driven : (fabric : PlainFabric) (bits : PlainBits) (x y number : ℕ) (plain : PlainWire) (result : Drive) → (is : IsIndexOf fabric (wire_index fabric x y number) x y plain) → IsMatrixOutput is.is_wire.tile plain →
    ((tile : PlainTile) → tile_at fabric x y ≡ Some tile → result ≡ numbered_drive fabric (matrix_drive (bits x y) x y tile number)) → result ≡ numbered_drive fabric (drive fabric bits x y plain)
matrix_driven fabric bits x y number plain result is output driven =
    let has = is.is_wire in
    let same : number ≡ wire_number has.tile plain = omega (arith, is.is_index, number_of_tile fabric x y plain has.tile has.tile_is) in
    driven has.tile has.tile_is
    ∙ ap (λ n. numbered_drive fabric (matrix_drive (bits x y) x y has.tile n)) same
    ∙ sym (ap (numbered_drive fabric) (matrix_drive_at fabric bits x y has.tile plain has.tile_is output))

pub source_is_output : (tile : PlainTile) (row bit : ℕ) → IsWire tile (source_of row bit) → IsMatrixOutput tile (source_of row bit)
source_is_output tile row bit few = source_there (slice_get tile.rows row) bit few

pub pin_inside : (bels : List Bel) (bel pin : ℕ) → pin < pins_at bels bel → bel < length bels
pin_inside bels bel pin few = pin_there bels bel pin (slice_get bels bel) refl few

pub pin_is_output : (tile : PlainTile) (bel pin : ℕ) (found : Bel) → slice_get tile.bels bel ≡ Some found → pin < input_count found.kind → IsMatrixOutput tile (pin_of bel pin)
pin_is_output tile bel pin found is few =
    let test : nat_lt pin (input_count found.kind) ≡ true = grind (arith, nat_tests) in
    ap (λ found. option_map_or is_matrix_output (option_map (λ found. bel_pin found pin) found) false) is ∙ test

pub nonempty : (n : ℕ) (empty : Bool) → empty ≡ nat_eq n 0 → empty ≡ false → n ≡ 0 → ⊥
nonempty n empty empty_is full none = let test : nat_eq n 0 ≡ false = sym empty_is ∙ full in grind (arith, nat_tests)
