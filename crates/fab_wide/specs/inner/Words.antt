-- Tables as words of 16 bits.
use Rattle.std.specs.Prelude.{◌≡◌, ℕ, zero, suc, ◌+◌, ◌-◌, ◌*◌, ◌/◌, ◌%◌, ◌^◌, ◌<◌, List, [], ◌∷◌, length, nat_eq, if◌then◌else◌, bit_and, bit_or}
use Rattle.std.specs.List.{All, list_any}
use Rattle.fab_bits.specs.Bits.{number, first_bits}
use Rattle.fab_netlist.specs.declared.wide.Cube.{Cube}
use Rattle.fab_netlist.specs.Wide.{matches}

-- the number that words spell, the first as least significant
abbrev pub number_of_words : List ℕ → ℕ
number_of_words [] = 0
number_of_words (word ∷ words) = word + 65536 * number_of_words words

-- words for a table over so many inputs: one where these are at most four
pub record AreWords (inputs : ℕ) (words : List ℕ) : Type 0 where
  pub many : length words ≡ 2 ^ (inputs - 4)
  pub small : All (λ word. word < 65536) words

-- so many words from a place on, of the table that has 1 where a row matches
abbrev pub covered_words : (rows : List Cube) → (place count : ℕ) → List ℕ
covered_words rows place zero = []
covered_words rows place (suc count) =
    number (first_bits 16 (λ low. list_any (λ cube. matches cube (16 * place + low)) rows)) ∷ covered_words rows (suc place) count

-- ---- rows

abbrev pub IsPower : ℕ → Type 0
IsPower count = (k : ℕ) × (count ≡ 2 ^ k)

-- A row looks at no bit of the places of so many words past the last, and has 0 for those that it does not look at.
pub record IsRowOf (count care value : ℕ) : Type 0 where
  pub low : care < count
  pub cared : bit_and value care ≡ value

-- words from a place on, with the bits of a word in those where the place has a value at the bits of `care`
abbrev pub marked : (care value bits place : ℕ) → List ℕ → List ℕ
marked care value bits place [] = []
marked care value bits place (word ∷ words) =
    (if nat_eq (bit_and place care) value then bit_or word bits else word) ∷ marked care value bits (suc place) words

-- words with the bits of others put into them
abbrev pub joined : (words others : List ℕ) → List ℕ
joined words [] = words
joined [] (other ∷ others) = []
joined (word ∷ words) (other ∷ others) = bit_or word other ∷ joined words others

-- with the bits that a row matches
abbrev pub marked_by : Cube → (place : ℕ) → List ℕ → List ℕ
marked_by cube place words =
    marked (cube.care / 16) (cube.value / 16) (number (first_bits 16 (λ low. nat_eq (bit_and low (cube.care % 16)) (cube.value % 16)))) place words
