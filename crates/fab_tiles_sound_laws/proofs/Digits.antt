-- Decimal numbers behind names: their bytes, and how a name is told from the number behind its last `_`.
use Rattle.std.proofs.Common.{◌≡◌, ◌≢◌, ℕ, zero, suc, ◌/◌, ◌%◌, ◌<◌, ◌^◌, Bool, true, false, ◌||◌, List, [], ◌∷◌, ◌++◌, length, refl, sym, ap, ◌∙◌, inl, inr, arith, All, nat_eq, if◌then◌else◌}
use Rattle.std.specs.Fmt.{decimal, digits, digits_onto, digit_glyph}
use Rattle.std.proofs.lemmas.Bool.{cases_Bool, eqb-true, lt-ltb}
use Rattle.std.proofs.lemmas.List.{append_cancel_left}
use Rattle.std.proofs.lemmas.List.Elements.{All-nil, All-cons, All-head, All-tail}
use Rattle.std.proofs.lemmas.Fmt.{decimal_injective}
use Rattle.fab_parts_sound_laws.proofs.fab_tile_drives_laws_Endings.{last_byte}

-- ---- the bytes of a number

-- some bytes, each no greater than a digit
pub record AreDigits (bytes : List ℕ) : Type 0 where
  pub low : All (λ byte. byte < 58) bytes
  pub some : 0 < length bytes

low_glyph : (n : ℕ) → digit_glyph false (n % 10) < 58
low_glyph n =
    let small : n % 10 < 10 = omega arith in
    rw (lt-ltb (n % 10) 10 small) (omega arith)

one_more : (byte : ℕ) (rest : List ℕ) → byte < 58 → All (λ b. b < 58) rest → AreDigits (byte ∷ rest)
one_more byte rest low all = record { low = All-cons (λ b. b < 58) byte rest low all; some = omega arith }

digits_before : (k n : ℕ) (rest : List ℕ) → AreDigits rest → AreDigits (digits_onto k 10 false n rest)
digits_before zero n rest are = are
digits_before (suc k) n rest are =
    let more : AreDigits (digit_glyph false (n % 10) ∷ rest) = one_more (digit_glyph false (n % 10)) rest (low_glyph n) are.low in
    elim (cases_Bool (nat_eq (n / 10) 0)) [
      | inl t ↦ rw t more
      | inr f ↦ rw f (digits_before k (n / 10) (digit_glyph false (n % 10) ∷ rest) more)
    ]

some_digits : (k n : ℕ) → 0 < k → AreDigits (digits_onto k 10 false n [])
some_digits zero n some = absurd (omega arith)
some_digits (suc k) n some =
    let one : AreDigits (digit_glyph false (n % 10) ∷ []) = one_more (digit_glyph false (n % 10)) [] (low_glyph n) (All-nil (λ b. b < 58)) in
    elim (cases_Bool (nat_eq (n / 10) 0)) [
      | inl t ↦ rw t one
      | inr f ↦ rw f (digits_before k (n / 10) (digit_glyph false (n % 10) ∷ []) one)
    ]

pub decimal_digits : (n : ℕ) → AreDigits (decimal n)
unfolding digits
decimal_digits n = some_digits 64 n (omega arith)

pub last_digit : (bytes : List ℕ) (before : ℕ) → AreDigits bytes → last_byte bytes before < 58
last_digit [] before are = absurd (omega (arith, are.some))
last_digit (byte ∷ []) before are = All-head (λ b. b < 58) byte [] are.low
last_digit (byte ∷ next ∷ bytes) before are =
    last_digit (next ∷ bytes) byte (record { low = All-tail (λ b. b < 58) byte (next ∷ bytes) are.low; some = omega arith })

abbrev pub first_byte : List ℕ → ℕ
first_byte [] = 0
first_byte (byte ∷ bytes) = byte

pub first_digit : (bytes : List ℕ) → AreDigits bytes → first_byte bytes < 58
first_digit [] are = omega arith
first_digit (byte ∷ bytes) are = All-head (λ b. b < 58) byte bytes are.low

-- ---- what stands before the last `_`

abbrev has_line : List ℕ → Bool
has_line [] = false
has_line (byte ∷ bytes) = nat_eq byte 95 || has_line bytes

abbrev before_line : List ℕ → List ℕ
before_line [] = []
before_line (byte ∷ bytes) = if has_line bytes then byte ∷ before_line bytes else []

pub byte_apart : (a b : ℕ) → a ≢ b → nat_eq a b ≡ false
byte_apart a b differ =
    elim (cases_Bool (nat_eq a b)) [
      | inl t ↦ absurd (differ (eqb-true a b t))
      | inr f ↦ f
    ]

no_line : (bytes : List ℕ) → All (λ b. b < 58) bytes → has_line bytes ≡ false
no_line [] low = refl
no_line (byte ∷ bytes) low =
    let here : byte < 58 = All-head (λ b. b < 58) byte bytes low in
    let other : nat_eq byte 95 ≡ false = byte_apart byte 95 (λ same. (let equal : byte ≡ 95 = same in omega arith)) in
    rw other (no_line bytes (All-tail (λ b. b < 58) byte bytes low))

or_right : (a b : Bool) → b ≡ true → (a || b) ≡ true
or_right true b e = refl
or_right false b e = e

has_one : (front bytes : List ℕ) → has_line (front ++ 95 ∷ bytes) ≡ true
has_one [] bytes = refl
has_one (byte ∷ front) bytes = or_right (nat_eq byte 95) (has_line (front ++ 95 ∷ bytes)) (has_one front bytes)

before_is : (front bytes : List ℕ) → All (λ b. b < 58) bytes → before_line (front ++ 95 ∷ bytes) ≡ front
before_is [] bytes low = let none : has_line bytes ≡ false = no_line bytes low in rw none refl
before_is (byte ∷ front) bytes low =
    let one : has_line (front ++ 95 ∷ bytes) ≡ true = has_one front bytes in
    rw one (ap (λ rest. byte ∷ rest) (before_is front bytes low))

-- Of a word with a number behind it the word is known.
pub same_word : (word other : List ℕ) (i j : ℕ) → word ++ 95 ∷ decimal i ≡ other ++ 95 ∷ decimal j → word ≡ other
same_word word other i j same =
    sym (before_is word (decimal i) (decimal_digits i).low) ∙ ap before_line same ∙ before_is other (decimal j) (decimal_digits j).low

tail_of : List ℕ → List ℕ
tail_of [] = []
tail_of (byte ∷ bytes) = bytes

-- and so is the number
pub same_number : (word : List ℕ) (i j : ℕ) → i < 2 ^ 64 → j < 2 ^ 64 → word ++ 95 ∷ decimal i ≡ word ++ 95 ∷ decimal j → i ≡ j
unfolding tail_of
same_number word i j few_i few_j same =
    decimal_injective i j few_i few_j (ap tail_of (append_cancel_left word (95 ∷ decimal i) (95 ∷ decimal j) same))
