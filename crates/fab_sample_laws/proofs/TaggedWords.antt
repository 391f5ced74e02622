-- Names of a letter and a number: they are words, and no two of them are the same.
use Rattle.std.proofs.Common.{◌≡◌, ℕ, zero, suc, ◌+◌, ◌%◌, ◌^◌, ◌≤◌, ◌<◌, Bool, true, false, cond, List, [], ◌∷◌, map, decimal, nat_eq, nat_le, refl, sym, ap, ◌∙◌, inl, inr, arith}
use Rattle.std.specs.Prelude.{◌==◌}
use Rattle.std.specs.List.{count_by, list_all, range_with_len}
use Rattle.std.specs.Str.{bytes_eq}
use Rattle.std.proofs.lemmas.Bool.{cases_Bool, cases_lt, false≢true}
use Rattle.std.proofs.lemmas.Bool.Decides.{nat_tests}
use Rattle.std.proofs.lemmas.Fmt.{decimal_injective, decimal_by_steps}
use Rattle.fab_blif_models.specs.Words.{Word}
use Rattle.fab_lines.specs.Items.{is_among, is_filled}
use Rattle.fab_sample_laws.proofs.TextLines.{is_plain, is_word, all_joined}
use Rattle.fab_sample_laws.proofs.Sameness.{same_bytes, bytes_same, not_same, nat_same, same_nat, count_first}

-- a letter, and a number in decimal
abbrev pub tagged : (letter number : ℕ) → Word
tagged letter number = letter ∷ decimal number

-- ---- they are words

plain_digit : (digit : ℕ) → digit < 10 → is_plain (48 + digit) ≡ true
plain_digit digit below =
    let low : nat_le 33 (48 + digit) ≡ true = grind (arith, nat_tests) in
    let high : nat_le (48 + digit) 126 ≡ true = grind (arith, nat_tests) in
    let no_comment : ((48 + digit) == 35) ≡ false = grind (arith, nat_tests) in
    let no_join : ((48 + digit) == 92) ≡ false = grind (arith, nat_tests) in
    rw (low, high, no_comment, no_join) refl

one_plain : (byte : ℕ) → is_plain byte ≡ true → list_all is_plain (byte ∷ []) ≡ true
one_plain byte h = rw h refl

plain_decimal : (number : ℕ) → number < 2 ^ 64 → list_all is_plain (decimal number) ≡ true
plain_decimal number below =
    decimal_by_steps (λ n digits. list_all is_plain digits ≡ true) (λ n small. one_plain (48 + n) (plain_digit n small))
    (λ n digits large before. all_joined is_plain digits ((48 + n % 10) ∷ []) before (one_plain (48 + n % 10) (plain_digit (n % 10) (omega arith)))) number below

pub tagged_word : (letter number : ℕ) → is_plain letter ≡ true → number < 2 ^ 64 → is_word (tagged letter number) ≡ true
tagged_word letter number plain below =
    let some : is_filled (tagged letter number) ≡ true = filled_cons letter (decimal number) in
    rw (some, plain, plain_decimal number below) refl
  where
    filled_cons : (byte : ℕ) (bytes : List ℕ) → is_filled (byte ∷ bytes) ≡ true
    filled_cons byte bytes = grind (arith, nat_tests)

-- ---- no two are the same

pub tagged_one : (letter other number more : ℕ) → number < 2 ^ 64 → more < 2 ^ 64 → tagged letter number ≡ tagged other more → (letter ≡ other) × (number ≡ more)
tagged_one letter other number more below also same =
    let digits : decimal number ≡ decimal more = cc in
    let first : letter ≡ other = cc in
    (first, decimal_injective number more below also digits)

-- all numbers from one on
abbrev pub run : (letter first count : ℕ) → List Word
run letter first count = map (tagged letter) (range_with_len first count)

begins_with : Word → (letter : ℕ) → Bool
begins_with [] letter = false
begins_with (byte ∷ bytes) letter = nat_eq byte letter

-- names of another letter are not counted, and of one letter one is
none_counted : (name : Word) (letter first count : ℕ) → begins_with name letter ≡ false → count_by (bytes_eq name) (run letter first count) ≤ 0
unfolding begins_with
none_counted name letter first zero other = omega arith
none_counted name letter first (suc count) other =
    omega (
      arith,
      count_first (bytes_eq name) (tagged letter first) (run letter (first + 1) count),
      none_counted name letter (first + 1) count other,
      ap (λ (b : Bool). cond {A = ℕ} b 1 0) (not_here name other),
    )
  where
    not_here : (word : Word) → begins_with word letter ≡ false → bytes_eq word (tagged letter first) ≡ false
    not_here [] h = refl
    not_here (byte ∷ bytes) h =
        not_same (byte ∷ bytes) (tagged letter first) (λ same. let head : byte ≡ letter = cc in false≢true (sym h ∙ same_nat byte letter head))

none_before : (name : Word) (letter first count : ℕ) → first + count ≤ 2 ^ 64 → ((number : ℕ) → first ≤ number → number < 2 ^ 64 → name ≡ tagged letter number → ⊥) → count_by (bytes_eq name) (run letter first count) ≤ 0
none_before name letter first zero below none = omega arith
none_before name letter first (suc count) below none =
    omega (
      arith,
      count_first (bytes_eq name) (tagged letter first) (run letter (first + 1) count),
      none_before name letter (first + 1) count (omega (arith, below)) (λ number after within. none number (omega (arith, after)) within),
      ap (λ (b : Bool). cond {A = ℕ} b 1 0) (not_same name (tagged letter first) (none first (omega arith) (omega (arith, below)))),
    )

pub one_counted : (name : Word) (letter first count : ℕ) → first + count ≤ 2 ^ 64 → count_by (bytes_eq name) (run letter first count) ≤ 1
one_counted name letter first zero below = omega arith
one_counted name letter first (suc count) below =
    let step = count_first (bytes_eq name) (tagged letter first) (run letter (first + 1) count) in
    elim (cases_Bool (bytes_eq name (tagged letter first))) [
      | inl t ↦ (
          let is = same_bytes name (tagged letter first) t in
          let later = none_before name letter (first + 1) count (omega (arith, below))
          (λ number after within same. let both = tagged_one letter letter first number (omega (arith, below)) within (sym is ∙ same) in omega (arith, both.1, after)) in
          omega (arith, step, later, ap (λ (b : Bool). cond {A = ℕ} b 1 0) t))
      | inr f ↦ omega (arith, step, one_counted name letter (first + 1) count (omega (arith, below)), ap (λ (b : Bool). cond {A = ℕ} b 1 0) f)
    ]

counted_by_letter : (name : Word) (letter first count : ℕ) → first + count ≤ 2 ^ 64 → count_by (bytes_eq name) (run letter first count) ≤ cond (begins_with name letter) 1 0
counted_by_letter name letter first count below = elim (cases_Bool (begins_with name letter)) [
  | inl t ↦ rw t (one_counted name letter first count below)
  | inr f ↦ rw f (none_counted name letter first count f)
]

one_letter : (name : Word) → cond (begins_with name 110) 1 0 + cond (begins_with name 111) 1 0 + cond (begins_with name 113) 1 0 + cond (begins_with name 105) 1 0 ≤ 1
unfolding begins_with
one_letter [] = omega arith
one_letter (byte ∷ bytes) = elim (cases_Bool (nat_eq byte 110)) [
  | inl t ↦ rw (nat_same byte 110 t) (omega arith)
  | inr f ↦ elim (cases_Bool (nat_eq byte 111)) [
    | inl t ↦ rw (nat_same byte 111 t) (omega arith)
    | inr g ↦ elim (cases_Bool (nat_eq byte 113)) [
      | inl t ↦ rw (nat_same byte 113 t) (omega arith)
      | inr h ↦ elim (cases_Bool (nat_eq byte 105)) [
        | inl t ↦ rw (nat_same byte 105 t) (omega arith)
        | inr k ↦ rw (f, g, h, k) (omega arith)
      ]
    ]
  ]
]

-- of names of four letters each comes once
pub counted_once : (name : Word) (covers outputs latches inputs : ℕ) → covers ≤ 2 ^ 64 → outputs ≤ 2 ^ 64 → latches ≤ 2 ^ 64 → inputs ≤ 2 ^ 64
    → count_by (bytes_eq name) (run 110 0 covers) + count_by (bytes_eq name) (run 111 0 outputs) + count_by (bytes_eq name) (run 113 0 latches) + count_by (bytes_eq name) (run 105 0 inputs) ≤ 1
counted_once name covers outputs latches inputs a b c d =
    omega (
      arith,
      one_letter name,
      counted_by_letter name 110 0 covers (omega (arith, a)),
      counted_by_letter name 111 0 outputs (omega (arith, b)),
      counted_by_letter name 113 0 latches (omega (arith, c)),
      counted_by_letter name 105 0 inputs (omega (arith, d)),
    )

-- ---- which stand in a run

pub in_run : (letter first count number : ℕ) → first ≤ number → number < first + count → is_among (run letter first count) (tagged letter number) ≡ true
in_run letter first zero number least most = absurd (omega (arith, least, most))
in_run letter first (suc count) number least most = elim (cases_Bool (bytes_eq (tagged letter number) (tagged letter first))) [
  | inl t ↦ rw t refl
  | inr f ↦ elim (cases_lt first number) [
    | inl less ↦ rw f (in_run letter (first + 1) count number (omega (arith, less)) (omega (arith, most)))
    | inr at ↦ (
        let same : number ≡ first = omega (arith, at, least) in
        absurd (false≢true (sym f ∙ bytes_same (tagged letter number) (tagged letter first) (ap (tagged letter) same))))
  ]
]
