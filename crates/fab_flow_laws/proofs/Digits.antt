-- Words that have the same bytes have the same digits.
use Rattle.std.proofs.Common.{◌≡◌, ℕ, ◌/◌, ◌%◌, List, [], ◌∷◌, ◌++◌, map, nat_eq, refl, ap, ◌∙◌, sym, arith}
use Rattle.std.specs.List.{flat_map}
use Rattle.fab_bits.specs.Bits.{digits}
use Rattle.fab_frames.specs.Bytes.{word_bytes}

-- the eight digits of a byte
byte_digits : (a b : ℕ) → a % 256 ≡ b % 256 → digits 8 a ≡ digits 8 b
byte_digits a b same =
    let zeroth : a % 2 ≡ b % 2 = omega (arith, same) in
    let first : a / 2 % 2 ≡ b / 2 % 2 = omega (arith, same) in
    let second : a / 2 / 2 % 2 ≡ b / 2 / 2 % 2 = omega (arith, same) in
    let third : a / 2 / 2 / 2 % 2 ≡ b / 2 / 2 / 2 % 2 = omega (arith, same) in
    let fourth : a / 2 / 2 / 2 / 2 % 2 ≡ b / 2 / 2 / 2 / 2 % 2 = omega (arith, same) in
    let fifth : a / 2 / 2 / 2 / 2 / 2 % 2 ≡ b / 2 / 2 / 2 / 2 / 2 % 2 = omega (arith, same) in
    let sixth : a / 2 / 2 / 2 / 2 / 2 / 2 % 2 ≡ b / 2 / 2 / 2 / 2 / 2 / 2 % 2 = omega (arith, same) in
    let seventh : a / 2 / 2 / 2 / 2 / 2 / 2 / 2 % 2 ≡ b / 2 / 2 / 2 / 2 / 2 / 2 / 2 % 2 = omega (arith, same) in
    λ j.
    nat_eq (zeroth j) 1 ∷ nat_eq (first j) 1 ∷ nat_eq (second j) 1 ∷ nat_eq (third j) 1
    ∷ nat_eq (fourth j) 1 ∷ nat_eq (fifth j) 1 ∷ nat_eq (sixth j) 1 ∷ nat_eq (seventh j) 1 ∷ []

-- eight digits, and those of the number without its last byte
past_byte : (n : ℕ) → n / 2 / 2 / 2 / 2 / 2 / 2 / 2 / 2 ≡ n / 256
past_byte n = omega arith

digits_by_bytes : (n : ℕ) → digits 32 n ≡ digits 8 n ++ (digits 8 (n / 256) ++ (digits 8 (n / 256 / 256) ++ digits 8 (n / 256 / 256 / 256)))
digits_by_bytes n =
    ap (λ m. digits 8 n ++ digits 24 m) (past_byte n)
    ∙ ap (λ m. digits 8 n ++ (digits 8 (n / 256) ++ digits 16 m)) (past_byte (n / 256))
    ∙ ap (λ m. digits 8 n ++ (digits 8 (n / 256) ++ (digits 8 (n / 256 / 256) ++ digits 8 m))) (past_byte (n / 256 / 256))

word_digits : (a b : ℕ) → word_bytes a ≡ word_bytes b → digits 32 a ≡ digits 32 b
word_digits a b same =
    let high : a / 16777216 % 256 ≡ b / 16777216 % 256 = cc in
    let next : a / 65536 % 256 ≡ b / 65536 % 256 = cc in
    let third : a / 256 % 256 ≡ b / 256 % 256 = cc in
    let low : a % 256 ≡ b % 256 = cc in
    let zero_is = byte_digits a b low in
    let one_is = byte_digits (a / 256) (b / 256) third in
    let two_is = byte_digits (a / 256 / 256) (b / 256 / 256) (omega (arith, next)) in
    let three_is = byte_digits (a / 256 / 256 / 256) (b / 256 / 256 / 256) (omega (arith, high)) in
    digits_by_bytes a ∙ (λ j. zero_is j ++ (one_is j ++ (two_is j ++ three_is j))) ∙ sym (digits_by_bytes b)

-- lists of words with the same bytes
pub same_digits : (words others : List ℕ) → flat_map word_bytes words ≡ flat_map word_bytes others → map (digits 32) words ≡ map (digits 32) others
same_digits [] [] same = refl
same_digits [] (other ∷ others) same = absurd cc
same_digits (word ∷ words) [] same = absurd cc
same_digits (word ∷ words) (other ∷ others) same =
    let first : word_bytes word ≡ word_bytes other = cc in
    let rest : flat_map word_bytes words ≡ flat_map word_bytes others = cc in
    let here = word_digits word other first in
    let later = same_digits words others rest in
    λ j. here j ∷ later j
