-- When bytes are an identifier.
use Rattle.std.proofs.Common.{◌≡◌, ℕ, zero, suc, ◌<◌, ◌≤◌, ◌/◌, ◌%◌, Bool, true, false, ◌||◌, ◌&&◌, List, [], ◌∷◌, ◌++◌, length, refl, ap, inl, inr, arith, codes, get_or, nat_eq, None, All}
use Rattle.std.specs.Prelude.{◌==◌, not, nat_le}
use Rattle.std.specs.Fmt.{decimal, digits, digits_onto, digit_glyph}
use Rattle.std.specs.List.{list_all, list_any}
use Rattle.std.specs.Str.{bytes_eq}
use Rattle.std.proofs.lemmas.Bool.{cases_Bool, lt-ltb}
use Rattle.std.proofs.lemmas.Bool.Decides.{nat_tests}
use Rattle.std.proofs.lemmas.List.Elements.{All-nil, All-cons, All-head}
use Rattle.std.proofs.lemmas.List.Sums.{list_all-from_AllPass}
use Rattle.std.proofs.lemmas.Slice.Eq.{bytes_eq-Decides}
use Rattle.fab_lines.specs.Names.{is_identifier, begins_name, is_of_name}
use Rattle.fab_tokens.specs.Literals.{is_digit, is_word_byte}
use Rattle.fab_tokens.specs.Tokens.{IsIdentifier, begins_with_digit, keyword_of}

-- no keyword has such a byte: each is of small letters
abbrev pub marked : ℕ → Bool
marked byte = not (nat_le 97 byte && nat_le byte 122)

-- ---- words that are no keyword

unlike : (word keyword : List ℕ) → list_any marked word ≡ true → list_any marked keyword ≡ false → bytes_eq word keyword ≡ false
unlike word keyword some none = elim (cases_Bool (bytes_eq word keyword)) [
  | inl same ↦ (let is : list_any marked word ≡ list_any marked keyword = ap (λ (w : List ℕ). list_any marked w) ((bytes_eq-Decides word keyword).0 same) in absurd cc)
  | inr other ↦ other
]

no_keyword : (word : List ℕ) → list_any marked word ≡ true → keyword_of word ≡ None
unfolding keyword_of
no_keyword word some =
    rw (
      unlike word (codes "module") some refl,
      unlike word (codes "endmodule") some refl,
      unlike word (codes "input") some refl,
      unlike word (codes "output") some refl,
      unlike word (codes "wire") some refl,
      unlike word (codes "reg") some refl,
      unlike word (codes "assign") some refl,
      unlike word (codes "always") some refl,
      unlike word (codes "if") some refl,
      unlike word (codes "posedge") some refl,
    ) refl

some_byte : (word : List ℕ) → list_any marked word ≡ true → 0 < length word
some_byte [] some = absurd cc
some_byte (byte ∷ word) some = omega arith

pub marked_word : (word : List ℕ) → list_all is_word_byte word ≡ true → begins_with_digit word ≡ false → list_any marked word ≡ true → IsIdentifier word
marked_word word bytes first some = record { some = some_byte word some; bytes = bytes; first = first; free = no_keyword word some }

-- ---- words that are put together

pub all_both : (test : ℕ → Bool) (front rest : List ℕ) → list_all test front ≡ true → list_all test rest ≡ true → list_all test (front ++ rest) ≡ true
all_both test [] rest first second = second
all_both test (byte ∷ front) rest first second = by (test byte) (λ all. all_both test front rest all second) first where
  by : (b : Bool) → (list_all test front ≡ true → list_all test (front ++ rest) ≡ true) → (b && list_all test front) ≡ true → (b && list_all test (front ++ rest)) ≡ true
  by true more both = more both
  by false more both = both

pub any_first : (test : ℕ → Bool) (front rest : List ℕ) → list_any test front ≡ true → list_any test (front ++ rest) ≡ true
any_first test [] rest some = absurd cc
any_first test (byte ∷ front) rest some = by (test byte) (λ any. any_first test front rest any) some where
  by : (b : Bool) → (list_any test front ≡ true → list_any test (front ++ rest) ≡ true) → (b || list_any test front) ≡ true → (b || list_any test (front ++ rest)) ≡ true
  by true more is = refl
  by false more is = more is

pub any_rest : (test : ℕ → Bool) (front rest : List ℕ) → list_any test rest ≡ true → list_any test (front ++ rest) ≡ true
any_rest test [] rest some = some
any_rest test (byte ∷ front) rest some = by (test byte) (any_rest test front rest some) where
  by : (b : Bool) → list_any test (front ++ rest) ≡ true → (b || list_any test (front ++ rest)) ≡ true
  by true more = refl
  by false more = more

-- how a name begins: with a byte that is no digit
abbrev pub begins : List ℕ → Bool
begins [] = false
begins (byte ∷ bytes) = not (is_digit byte)

begun : (front rest : List ℕ) → begins front ≡ true → begins_with_digit (front ++ rest) ≡ false
begun [] rest is = absurd cc
begun (byte ∷ front) rest is = by (is_digit byte) is where
  by : (b : Bool) → not b ≡ true → b ≡ false
  by true is = absurd cc
  by false is = refl

-- bytes of words, the first no digit, and behind it bytes of words of which one is marked
pub marked_behind : (front rest : List ℕ) → list_all is_word_byte front ≡ true → begins front ≡ true → list_all is_word_byte rest ≡ true → list_any marked rest ≡ true → IsIdentifier (front ++ rest)
marked_behind front rest bytes first more some = marked_word (front ++ rest) (all_both is_word_byte front rest bytes more) (begun front rest first) (any_rest marked front rest some)

-- the same, where one of the first is marked
pub marked_before : (front rest : List ℕ) → list_all is_word_byte front ≡ true → begins front ≡ true → list_any marked front ≡ true → list_all is_word_byte rest ≡ true → IsIdentifier (front ++ rest)
marked_before front rest bytes first some more = marked_word (front ++ rest) (all_both is_word_byte front rest bytes more) (begun front rest first) (any_first marked front rest some)

-- ---- numbers

digit_byte : (byte : ℕ) → 48 ≤ byte → byte ≤ 57 → (is_word_byte byte ≡ true) × (marked byte ≡ true)
digit_byte byte low high = (grind (arith, nat_tests), grind (arith, nat_tests))

-- some bytes, each a digit
record AreDigits (bytes : List ℕ) : Type 0 where
  all : All (λ byte. (48 ≤ byte) × (byte ≤ 57)) bytes
  some : 0 < length bytes

glyph : (n : ℕ) → (48 ≤ digit_glyph false (n % 10)) × (digit_glyph false (n % 10) ≤ 57)
glyph n =
    let small : n % 10 < 10 = omega arith in
    (rw (lt-ltb (n % 10) 10 small) (omega arith), rw (lt-ltb (n % 10) 10 small) (omega arith))

one_more : (byte : ℕ) (rest : List ℕ) → (48 ≤ byte) × (byte ≤ 57) → All (λ b. (48 ≤ b) × (b ≤ 57)) rest → AreDigits (byte ∷ rest)
one_more byte rest is all = record { all = All-cons (λ b. (48 ≤ b) × (b ≤ 57)) byte rest is all; some = omega arith }

digits_before : (k n : ℕ) (rest : List ℕ) → AreDigits rest → AreDigits (digits_onto k 10 false n rest)
digits_before zero n rest are = are
digits_before (suc k) n rest are =
    let more : AreDigits (digit_glyph false (n % 10) ∷ rest) = one_more (digit_glyph false (n % 10)) rest (glyph n) are.all in
    elim (cases_Bool (nat_eq (n / 10) 0)) [
      | inl t ↦ rw t more
      | inr f ↦ rw f (digits_before k (n / 10) (digit_glyph false (n % 10) ∷ rest) more)
    ]

some_digits : (k n : ℕ) → 0 < k → AreDigits (digits_onto k 10 false n [])
some_digits zero n some = absurd (omega arith)
some_digits (suc k) n some =
    let one : AreDigits (digit_glyph false (n % 10) ∷ []) = one_more (digit_glyph false (n % 10)) [] (glyph n) (All-nil (λ b. (48 ≤ b) × (b ≤ 57))) in
    elim (cases_Bool (nat_eq (n / 10) 0)) [
      | inl t ↦ rw t one
      | inr f ↦ rw f (digits_before k (n / 10) (digit_glyph false (n % 10) ∷ []) one)
    ]

are_digits : (n : ℕ) → AreDigits (decimal n)
unfolding digits
are_digits n = some_digits 64 n (omega arith)

pub decimal_bytes : (n : ℕ) → list_all is_word_byte (decimal n) ≡ true
decimal_bytes n = list_all-from_AllPass is_word_byte (decimal n) (λ k d below. let is = (are_digits n).all k d below in (digit_byte (get_or (decimal n) k d) is.0 is.1).0)

first_marked : (bytes : List ℕ) → AreDigits bytes → list_any marked bytes ≡ true
first_marked [] are = absurd (omega (arith, are.some))
first_marked (byte ∷ bytes) are =
    let is = All-head (λ b. (48 ≤ b) × (b ≤ 57)) byte bytes are.all in
    let here : marked byte ≡ true = (digit_byte byte is.0 is.1).1 in
    rw here refl

pub decimal_marked : (n : ℕ) → list_any marked (decimal n) ≡ true
decimal_marked n = first_marked (decimal n) (are_digits n)

-- ---- two tests

pub both_true : (a b : Bool) → a ≡ true → b ≡ true → (a && b) ≡ true
both_true true b first second = second
both_true false b first second = first

pub parts_true : (a b : Bool) → (a && b) ≡ true → (a ≡ true) × (b ≡ true)
parts_true true b given = (refl, given)
parts_true false b given = absurd cc

-- ---- names of tables

name_byte : (small upper digit line : Bool) → (((small || upper) || line) || digit) ≡ true → (((upper || small) || digit) || line) ≡ true
name_byte true true digit line is = refl
name_byte true false digit line is = refl
name_byte false true digit line is = refl
name_byte false false true true is = refl
name_byte false false true false is = refl
name_byte false false false true is = refl
name_byte false false false false is = absurd cc

of_name : (byte : ℕ) → is_of_name byte ≡ true → is_word_byte byte ≡ true
of_name byte is = name_byte (nat_le 97 byte && nat_le byte 122) (nat_le 65 byte && nat_le byte 90) (nat_le 48 byte && nat_le byte 57) (byte == 95) is

all_of_name : (bytes : List ℕ) → list_all is_of_name bytes ≡ true → list_all is_word_byte bytes ≡ true
all_of_name [] all = refl
all_of_name (byte ∷ bytes) all =
    let parts = parts_true (is_of_name byte) (list_all is_of_name bytes) all in
    both_true (is_word_byte byte) (list_all is_word_byte bytes) (of_name byte parts.0) (all_of_name bytes parts.1)

not_digit : (byte : ℕ) → begins_name byte ≡ true → not (is_digit byte) ≡ true
not_digit byte is = grind (arith, nat_tests)

-- what is asked of a name of a table
pub record IsWord (name : List ℕ) : Type 0 where
  pub bytes : list_all is_word_byte name ≡ true
  pub first : begins name ≡ true

pub word_is : (name : List ℕ) → is_identifier name ≡ true → IsWord name
word_is [] is = absurd cc
word_is (byte ∷ bytes) is =
    let parts = parts_true (begins_name byte) (list_all is_of_name (byte ∷ bytes)) is in
    record { bytes = all_of_name (byte ∷ bytes) parts.1; first = not_digit byte parts.0 }
