-- Tables are filled row by row.
use Rattle.std.proofs.Common.{◌≡◌, ℕ, zero, suc, ◌+◌, ◌-◌, ◌*◌, ◌/◌, ◌^◌, ◌<◌, ◌≤◌, Bool, true, false, List, [], ◌∷◌, ◌++◌, map, take, drop, length, get_or, max, replicate, if◌then◌else◌, nat_eq, bit_and, refl, sym, ap, ◌∙◌, inl, inr, arith}
use Rattle.std.specs.Int.{from_bool}
use Rattle.std.specs.Int.Bits.{bit_or}
use Rattle.std.proofs.lemmas.Bool.{cases_Bool}
use Rattle.std.proofs.lemmas.Nat.{and_le_r, and_shr, or_disjoint}
use Rattle.std.proofs.Math.Nat.{pow-le-pow_right}
use Rattle.std.proofs.Math.Seq.{take-append_seam}
use Rattle.fab_bits.specs.Bits.{bit_number, number, first_bits}
use Rattle.fab_netlist.specs.declared.wide.Cube.{Cube}
use Rattle.fab_netlist.specs.Wide.{IsFineRow, rows_say}
use Rattle.fab_netlist.proofs.Rows.{asks_lower, asks_upper, row_above, row_none, rows_bits, rows_step, word_off, word_on}
use Rattle.fab_wide.specs.inner.Words.{IsRowOf, covered_words, marked, marked_by}
use Rattle.fab_wide.proofs.Joined.{table_bits, words_by}

-- ---- a bit as a number

pub from_bool-bit : (bit : Bool) → from_bool bit ≡ bit_number bit
from_bool-bit true = refl
from_bool-bit false = refl

pub bit_small : (bit : Bool) → bit_number bit ≤ 1
bit_small true = omega arith
bit_small false = omega arith

-- ---- what a row asks of a place

abbrev pub asks : (care value place : ℕ) → Bool
asks care value place = nat_eq (bit_and place care) value

pub marked-append : (care value bits place : ℕ) (xs ys : List ℕ) →
    marked care value bits place (xs ++ ys) ≡ marked care value bits place xs ++ marked care value bits (length xs + place) ys
marked-append care value bits place [] ys = ap (λ p. marked care value bits p ys) (omega arith)
marked-append care value bits place (x ∷ xs) ys =
    let word = if asks care value place then bit_or x bits else x in
    ap (λ rest. word ∷ rest) (marked-append care value bits (suc place) xs ys
    ∙ ap (λ p. marked care value bits (suc place) xs ++ marked care value bits p ys) (omega arith))

-- rows that ask the same of these places
pub marked_alike : (care value care_too value_too bits place other : ℕ) (words : List ℕ) →
    ((i : ℕ) → i < length words → asks care value (i + place) ≡ asks care_too value_too (i + other)) →
    marked care value bits place words ≡ marked care_too value_too bits other words
marked_alike care value care_too value_too bits place other [] same = refl
marked_alike care value care_too value_too bits place other (word ∷ words) same =
    let here : asks care value place ≡ asks care_too value_too other =
    ap (asks care value) (omega arith) ∙ same 0 (omega arith) ∙ ap (asks care_too value_too) (omega arith) in
    let rest = marked_alike care value care_too value_too bits (suc place) (suc other) words
    (λ i small. ap (asks care value) (omega arith) ∙ same (suc i) (omega (arith, small)) ∙ ap (asks care_too value_too) (omega arith)) in
    λ j. (if here j then bit_or word bits else word) ∷ rest j

-- a row that matches none of these places
pub marked_none : (care value bits place : ℕ) (words : List ℕ) → ((i : ℕ) → i < length words → asks care value (i + place) ≡ false) →
    marked care value bits place words ≡ words
marked_none care value bits place [] none = refl
marked_none care value bits place (word ∷ words) none =
    let here : asks care value place ≡ false = ap (asks care value) (omega arith) ∙ none 0 (omega arith) in
    let rest = marked_none care value bits (suc place) words (λ i small. ap (asks care value) (omega arith) ∙ none (suc i) (omega (arith, small))) in
    λ j. (if here j then bit_or word bits else word) ∷ rest j

-- ---- one row more

pub none_or : (n : ℕ) → bit_or n 0 ≡ n
none_or n =
    let none : bit_and n 0 ≡ 0 = omega (arith, and_le_r n 0) in
    or_disjoint n 0 none ∙ omega arith

-- a word of some rows, with the row behind them
word_marked : (rows : List Cube) (turn place : ℕ) (d : Cube) → turn < length rows →
    (if asks_upper (get_or rows turn d) place then bit_or (rows_bits (take turn rows) place) (number (first_bits 16 (asks_lower (get_or rows turn d))))
    else rows_bits (take turn rows) place)
    ≡ rows_bits (take (turn + 1) rows) place
word_marked rows turn place d small =
    let row = get_or rows turn d in
    let before = rows_bits (take turn rows) place in
    let lower = number (first_bits 16 (asks_lower row)) in
    elim (cases_Bool (asks_upper row place)) [
      | inl asked ↦ rw asked (rows_step rows rows place turn before lower d refl small refl (row_above row place asked))
      | inr other ↦ rw other (sym (none_or before) ∙ rows_step rows rows place turn before 0 d refl small refl (row_none row place other))
    ]

-- the table of some rows, with the row behind them
pub rows_marked : (rows : List Cube) (turn place count : ℕ) (d : Cube) → turn < length rows →
    marked_by (get_or rows turn d) place (covered_words (take turn rows) place count) ≡ covered_words (take (turn + 1) rows) place count
rows_marked rows turn place zero d small = refl
rows_marked rows turn place (suc count) d small =
    let here = word_marked rows turn place d small in
    let rest = rows_marked rows turn (suc place) count d small in
    λ j. here j ∷ rest j

-- no row
pub covered_none : (place count : ℕ) → covered_words [] place count ≡ replicate count 0
covered_none place zero = refl
covered_none place (suc count) = ap (λ words. 0 ∷ words) (covered_none (suc place) count)

pub many_covered : (rows : List Cube) (place count : ℕ) → length (covered_words rows place count) ≡ count
many_covered rows place zero = refl
many_covered rows place (suc count) = ap suc (many_covered rows (suc place) count)

-- words that were written back in their place
pub written_back : (len : ℕ) (old new : List ℕ) → length old ≡ len → length new ≡ length old → take len (new ++ drop (length new) old) ≡ new
written_back len old new many same =
    let all : len ≡ length new = omega (arith, many, same) in
    ap (λ n. take n (new ++ drop (length new) old)) all ∙ take-append_seam new (drop (length new) old)

-- a row of a cover is a row of its table
pub row_fits : (inputs count : ℕ) (cube : Cube) → IsFineRow inputs cube → count ≡ 2 ^ (inputs - 4) → IsRowOf count (cube.care / 16) (cube.value / 16)
row_fits inputs count cube fine many =
    let bits : 16 * count ≡ 2 ^ max 4 inputs = ap (λ k. 16 * k) many ∙ table_bits inputs in
    let more : 2 ^ inputs ≤ 2 ^ max 4 inputs = pow-le-pow_right {n = 2} (omega arith) {i = inputs} {j = max 4 inputs} (omega arith) in
    record {
      low = omega (arith, fine.low, bits, more);
      cared = sym (and_shr cube.value cube.care 4) ∙ ap (λ k. k / 16) fine.cared;
    }

-- ---- what rows say

-- of an on-set
said_on : (on : Bool) (rows : List Cube) (place count : ℕ) → on ≡ true →
    covered_words rows place count ≡ words_by count (λ p. rows_say on rows (16 * place + p))
said_on on rows place zero is = refl
said_on on rows place (suc count) is =
    let at : (p : ℕ) → 16 * suc place + p ≡ 16 * place + (16 + p) = λ p. omega arith in
    let rest = said_on on rows (suc place) count is ∙ (λ j. words_by count (λ p. rows_say on rows (at p j))) in
    λ j. word_on on rows place is j ∷ rest j

-- of an off-set
said_off : (on : Bool) (rows : List Cube) (place count : ℕ) → on ≡ false →
    map (λ word. 65535 - word) (covered_words rows place count) ≡ words_by count (λ p. rows_say on rows (16 * place + p))
said_off on rows place zero is = refl
said_off on rows place (suc count) is =
    let at : (p : ℕ) → 16 * suc place + p ≡ 16 * place + (16 + p) = λ p. omega arith in
    let rest = said_off on rows (suc place) count is ∙ (λ j. words_by count (λ p. rows_say on rows (at p j))) in
    λ j. word_off on rows place is j ∷ rest j

from_first : (on : Bool) (rows : List Cube) (count : ℕ) → words_by count (λ p. rows_say on rows (16 * 0 + p)) ≡ words_by count (rows_say on rows)
from_first on rows count =
    let at : (p : ℕ) → 16 * 0 + p ≡ p = λ p. omega arith in
    λ j. words_by count (λ p. rows_say on rows (at p j))

pub table_on : (on : Bool) (rows : List Cube) (count : ℕ) → on ≡ true → covered_words rows 0 count ≡ words_by count (rows_say on rows)
table_on on rows count is = said_on on rows 0 count is ∙ from_first on rows count

pub table_off : (on : Bool) (rows : List Cube) (count : ℕ) → on ≡ false →
    map (λ word. 65535 - word) (covered_words rows 0 count) ≡ words_by count (rows_say on rows)
table_off on rows count is = said_off on rows 0 count is ∙ from_first on rows count
