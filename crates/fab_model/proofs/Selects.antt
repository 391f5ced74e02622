-- Matrix outputs copy the input that their select bits spell.
use Rattle.std.proofs.Common.{◌≡◌, ℕ, zero, suc, ◌+◌, ◌*◌, ◌/◌, ◌%◌, ◌^◌, ◌<◌, ◌≤◌, Bool, List, [], ◌∷◌, length, slice_get, refl, sym, ap, ◌∙◌, arith, Some, option_and_then, nat_eq, inl, inr, pow-suc}
use Rattle.std.proofs.lemmas.Bool.{cases_Bool, eqb-true}
use Rattle.std.proofs.lemmas.Bool.Decides.{nat_tests}
use Rattle.std.proofs.lemmas.Option.{get_or_from_slice_get}
use Rattle.std.proofs.lemmas.List.{get_or_past}
use Rattle.fab_kinds.specs.fab_bits.specs.Bits.{number, digits, bit_number}
use Rattle.fab_kinds.specs.fab_bits.proofs.Least.{select_enough}
use Rattle.fab_select.specs.Selection.{field_width}
use Rattle.fab_model.specs.Tiles.{PlainTile, numbered_pairs, output_field}
use Rattle.fab_model.specs.Grid.{PlainFabric, tile_at}
use Rattle.fab_model.specs.Wires.{PlainWire, IsMatrixOutput, IsWire, plain_wires, wire_number}
use Rattle.fab_model.specs.Drive.{PlainBits, zero_bit, copy, select_value, select_field, matrix_inputs, input_at, copy_or_zero, matrix_drive, drive}
use Rattle.fab_model.proofs.Wires.{wire_at_number}
use Rattle.fab_model.proofs.Drives.{matrix_drive_at}

-- a bit and the rest of a number
bit_of_number : (n : ℕ) → bit_number (nat_eq (n % 2) 1) + 2 * (n / 2) ≡ n
bit_of_number n =
    elim (cases_Bool (nat_eq (n % 2) 1)) [
      | inl odd ↦ (let is : n % 2 ≡ 1 = eqb-true (n % 2) 1 odd in rw odd (omega (arith, is)))
      | inr even ↦ (let is : n % 2 ≡ 0 = grind (arith, nat_tests) in rw even (omega (arith, is)))
    ]

-- the digits of a number stand for it
number_of_digits : (width n : ℕ) → n < 2 ^ width → number (digits width n) ≡ n
number_of_digits zero n few = (let small : n < 1 = few in omega (arith, small))
number_of_digits (suc width) n few =
    let power : 2 ^ suc width ≡ 2 * 2 ^ width = pow-suc 2 width ∙ omega arith in
    let half : n / 2 < 2 ^ width = omega (arith, few, power) in
    ap (λ rest. bit_number (nat_eq (n % 2) 1) + 2 * rest) (number_of_digits width (n / 2) half) ∙ bit_of_number n

-- the field of an output is as wide as its inputs ask
field_has_width : (tile : PlainTile) (output : ℕ) → (output_field tile output).1 ≡ field_width nat_eq (numbered_pairs tile) output
field_has_width tile output =
    elim (cases_Bool (nat_eq (field_width nat_eq (numbered_pairs tile) output) 0)) [
      | inl none ↦ (let is = eqb-true (field_width nat_eq (numbered_pairs tile) output) 0 none in rw none (sym is))
      | inr some ↦ rw some refl
    ]

-- the number that the select bits spell is the value
pub spelled_is_selected : (tile : PlainTile) (bits : ℕ → Bool) (output k : ℕ) → k < length (matrix_inputs tile output) → select_field tile bits output ≡ digits (output_field tile output).1 k → select_value tile bits output ≡ k
spelled_is_selected tile bits output k few spelled =
    let inputs = matrix_inputs tile output in
    let width = (output_field tile output).1 in
    let enough : length inputs ≤ 2 ^ field_width nat_eq (numbered_pairs tile) output = select_enough (length inputs) in
    let fits : k < 2 ^ width = rw (field_has_width tile output) (omega (arith, few, enough)) in
    ap number spelled ∙ number_of_digits width k fits

-- the input at a number that there is
input_at_number : (inputs : List ℕ) (k input : ℕ) → slice_get inputs k ≡ Some input → input_at inputs k ≡ Some input
input_at_number [] k input h = cc
input_at_number (first ∷ inputs) k input h = ap Some (get_or_from_slice_get (first ∷ inputs) k input first h)

-- past the last input it is the first
first_input : (inputs : List ℕ) (k input : ℕ) → length inputs ≤ k → slice_get inputs 0 ≡ Some input → input_at inputs k ≡ Some input
first_input [] k input past h = cc
first_input (first ∷ inputs) k input past h = ap Some (get_or_past (first ∷ inputs) k first past) ∙ h

-- a matrix output copies the wire of the input that is picked
matrix_copies : (bits : ℕ → Bool) (x y : ℕ) (tile : PlainTile) (output : ℕ) (to : PlainWire) → IsWire tile to → input_at (matrix_inputs tile output) (select_value tile bits output) ≡ Some (wire_number tile to) → matrix_drive bits x y tile output ≡ copy x y to
matrix_copies bits x y tile output to exists picked =
    ap (λ input. copy_or_zero x y (option_and_then (slice_get (plain_wires tile)) input)) picked
    ∙ ap (copy_or_zero x y) (wire_at_number tile to exists)

-- a matrix output copies the input that is selected
pub output_copies_selected : (fabric : PlainFabric) (bits : PlainBits) (x y : ℕ) (tile : PlainTile) (wire to : PlainWire) → tile_at fabric x y ≡ Some tile → IsMatrixOutput tile wire → IsWire tile to → slice_get (matrix_inputs tile (wire_number tile wire)) (select_value tile (bits x y) (wire_number tile wire)) ≡ Some (wire_number tile to) → drive fabric bits x y wire ≡ copy x y to
output_copies_selected fabric bits x y tile wire to is output exists selected =
    let number = wire_number tile wire in
    matrix_drive_at fabric bits x y tile wire is output
    ∙ matrix_copies (bits x y) x y tile number to exists (input_at_number (matrix_inputs tile number) (select_value tile (bits x y) number) (wire_number tile to) selected)

-- behind the last input it copies the first
pub output_copies_first : (fabric : PlainFabric) (bits : PlainBits) (x y : ℕ) (tile : PlainTile) (wire to : PlainWire) → tile_at fabric x y ≡ Some tile → IsMatrixOutput tile wire → IsWire tile to → length (matrix_inputs tile (wire_number tile wire)) ≤ select_value tile (bits x y) (wire_number tile wire) → slice_get (matrix_inputs tile (wire_number tile wire)) 0 ≡ Some (wire_number tile to) → drive fabric bits x y wire ≡ copy x y to
output_copies_first fabric bits x y tile wire to is output exists past first =
    let number = wire_number tile wire in
    matrix_drive_at fabric bits x y tile wire is output
    ∙ matrix_copies (bits x y) x y tile number to exists (first_input (matrix_inputs tile number) (select_value tile (bits x y) number) (wire_number tile to) past first)

-- without inputs it is 0
pub output_without_inputs : (fabric : PlainFabric) (bits : PlainBits) (x y : ℕ) (tile : PlainTile) (wire : PlainWire) → tile_at fabric x y ≡ Some tile → IsMatrixOutput tile wire → matrix_inputs tile (wire_number tile wire) ≡ [] → drive fabric bits x y wire ≡ zero_bit
output_without_inputs fabric bits x y tile wire is output none =
    matrix_drive_at fabric bits x y tile wire is output
    ∙ ap (λ inputs. copy_or_zero x y (option_and_then (slice_get (plain_wires tile)) (input_at inputs (select_value tile (bits x y) (wire_number tile wire))))) none
