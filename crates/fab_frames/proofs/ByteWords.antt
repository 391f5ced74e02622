-- Words as bytes.
use Rattle.std.proofs.Common.{◌≡◌, ℕ, suc, ◌+◌, ◌*◌, ◌/◌, ◌%◌, ◌^◌, ◌<◌, List, [], ◌∷◌, ◌++◌, All, length, get_or, take, drop, refl, sym, ap, ◌∙◌, arith, subst, slice_index, inl, inr}
use Rattle.std.specs.List.{flat_map}
use Rattle.std.proofs.lemmas.Bool.{cases_lt}
use Rattle.std.proofs.lemmas.List.{take_at, get_or-drop, get_or_past}
use Rattle.byteorder.specs.Numbers.{big_from-lt}
use Rattle.byteorder.specs.Endian.{big_number, IsRead}
use Rattle.fab_frames.specs.Bytes.{word_bytes}

-- how many bytes words have
pub length_bytes : (words : List ℕ) → length (flat_map word_bytes words) ≡ 4 * length words
length_bytes [] = refl
length_bytes (word ∷ words) = omega (arith, length_bytes words)

-- the word of four bytes
abbrev word_of_bytes : (first second third fourth : ℕ) → ℕ
word_of_bytes first second third fourth = first * 16777216 + second * 65536 + third * 256 + fourth

bytes_of_word : (first second third fourth : ℕ) → first < 256 → second < 256 → third < 256 → fourth < 256 → word_bytes (word_of_bytes first second third fourth) ≡ first ∷ second ∷ third ∷ fourth ∷ []
bytes_of_word first second third fourth a b c d =
    let word : ℕ = word_of_bytes first second third fourth in
    let e1 : word / 2 ^ 24 % 256 ≡ first = omega (arith, a, b, c, d) in
    let e2 : word / 2 ^ 16 % 256 ≡ second = omega (arith, a, b, c, d) in
    let e3 : word / 2 ^ 8 % 256 ≡ third = omega (arith, a, b, c, d) in
    let e4 : word % 256 ≡ fourth = omega (arith, a, b, c, d) in
    λ i. e1 i ∷ e2 i ∷ e3 i ∷ e4 i ∷ []

word_of_its_bytes : (word : ℕ) → word < 4294967296 → word ≡ word_of_bytes (word / 2 ^ 24 % 256) (word / 2 ^ 16 % 256) (word / 2 ^ 8 % 256) (word % 256)
word_of_its_bytes word small = omega (arith, small)

number_is : (first second third fourth : ℕ) (rest : List ℕ) → big_number 4 (first ∷ second ∷ third ∷ fourth ∷ rest) ≡ word_of_bytes first second third fourth
number_is first second third fourth rest = omega arith

next : (k : ℕ) → 4 * suc k ≡ suc (suc (suc (suc (4 * k))))
next k = omega arith

-- the bytes of the words that are read from bytes are these bytes
pub bytes_read : (words bytes : List ℕ) → ((k : ℕ) → get_or bytes k 0 < 256) → length bytes ≡ 4 * length words → IsRead big_number 4 bytes words → bytes ≡ flat_map word_bytes words
bytes_read [] [] fits long is = refl
bytes_read [] (a ∷ bytes) fits long is = absurd (omega (arith, long))
bytes_read (word ∷ words) [] fits long is = absurd (omega (arith, long))
bytes_read (word ∷ words) (a ∷ []) fits long is = absurd (omega (arith, long))
bytes_read (word ∷ words) (a ∷ b ∷ []) fits long is = absurd (omega (arith, long))
bytes_read (word ∷ words) (a ∷ b ∷ c ∷ []) fits long is = absurd (omega (arith, long))
bytes_read (word ∷ words) (a ∷ b ∷ c ∷ d ∷ bytes) fits long is =
    let here : word ≡ word_of_bytes a b c d = is 0 (omega arith) ∙ number_is a b c d bytes in
    let later : IsRead big_number 4 bytes words = λ k few. is (suc k) (omega (arith, few)) ∙ ap (λ n. big_number 4 (drop n (a ∷ b ∷ c ∷ d ∷ bytes))) (next k) in
    let rest : bytes ≡ flat_map word_bytes words = bytes_read words bytes (λ k. fits (suc (suc (suc (suc k))))) (omega (arith, long)) later in
    let front : a ∷ b ∷ c ∷ d ∷ [] ≡ word_bytes word = sym (ap word_bytes here ∙ bytes_of_word a b c d (fits 0) (fits 1) (fits 2) (fits 3)) in
    λ i. front i ++ rest i

-- words of 32 bits are told by their bytes
pub bytes_tell_words : (first second : List ℕ) → ((k : ℕ) → get_or first k 0 < 4294967296) → ((k : ℕ) → get_or second k 0 < 4294967296) → flat_map word_bytes first ≡ flat_map word_bytes second → first ≡ second
bytes_tell_words [] [] fits fits2 same = refl
bytes_tell_words [] (word ∷ second) fits fits2 same = cc
bytes_tell_words (word ∷ first) [] fits fits2 same = cc
bytes_tell_words (word ∷ first) (word2 ∷ second) fits fits2 same =
    let e1 : word / 2 ^ 24 % 256 ≡ word2 / 2 ^ 24 % 256 = cc in
    let e2 : word / 2 ^ 16 % 256 ≡ word2 / 2 ^ 16 % 256 = cc in
    let e3 : word / 2 ^ 8 % 256 ≡ word2 / 2 ^ 8 % 256 = cc in
    let e4 : word % 256 ≡ word2 % 256 = cc in
    let rest : flat_map word_bytes first ≡ flat_map word_bytes second = cc in
    let here : word ≡ word2 = word_of_its_bytes word (fits 0) ∙ (λ i. word_of_bytes (e1 i) (e2 i) (e3 i) (e4 i)) ∙ sym (word_of_its_bytes word2 (fits2 0)) in
    let later : first ≡ second = bytes_tell_words first second (λ k. fits (suc k)) (λ k. fits2 (suc k)) rest in
    λ i. here i ∷ later i

-- ---- words that are read

-- words that are read fit 32 bits
pub words_fit : (words bytes : List ℕ) → ((k : ℕ) → get_or bytes k 0 < 256) → IsRead big_number 4 bytes words → (k : ℕ) → get_or words k 0 < 4294967296
words_fit words bytes fits is k =
    elim (cases_lt k (length words)) [
      | inl few ↦ (
          let small : (j : ℕ) → slice_index (drop (4 * k) bytes) j < 256 = λ j. rw (get_or-drop (4 * k) bytes j 0) (fits (4 * k + j)) in
          let below : big_number 4 (drop (4 * k) bytes) < 4294967296 = big_from-lt 0 4 (drop (4 * k) bytes) small in
          subst (λ (n : ℕ). n < 4294967296) (sym (is k few)) below)
      | inr past ↦ subst (λ (n : ℕ). n < 4294967296) (sym (get_or_past words k 0 past)) (omega arith)
    ]

pub all_fit : (words : List ℕ) → All (λ word. word < 4294967296) words → (k : ℕ) → get_or words k 0 < 4294967296
all_fit words small k =
    elim (cases_lt k (length words)) [
      | inl few ↦ small k 0 few
      | inr past ↦ subst (λ (n : ℕ). n < 4294967296) (sym (get_or_past words k 0 past)) (omega arith)
    ]

-- the words as the code has them
pub all_read : (found words : List ℕ) (behind : List ℕ) (n : ℕ) (bytes : List ℕ) → found ≡ take n (words ++ behind) → length words ≡ n → ((k : ℕ) → get_or bytes k 0 < 256) → length bytes ≡ 4 * n → IsRead big_number 4 bytes words →
    (found ≡ words) × (bytes ≡ flat_map word_bytes found)
all_read found words behind n bytes found_is as_many fits long is =
    let same : found ≡ words = found_is ∙ take_at words behind n as_many in
    (same, bytes_read words bytes fits (omega (arith, long, as_many)) is ∙ ap (flat_map word_bytes) (sym same))

pub read_back : (found words behind more : List ℕ) (n : ℕ) (bytes : List ℕ) → found ≡ take n (words ++ behind) → length words ≡ n → ((k : ℕ) → get_or bytes k 0 < 256) → length bytes ≡ 4 * n → IsRead big_number 4 bytes words →
    All (λ word. word < 4294967296) more → bytes ≡ flat_map word_bytes more → found ≡ more
read_back found words behind more n bytes found_is as_many fits long is small same =
    let read = all_read found words behind n bytes found_is as_many fits long is in
    read.0 ∙ bytes_tell_words words more (words_fit words bytes fits is) (all_fit more small) (ap (flat_map word_bytes) (sym read.0) ∙ sym read.1 ∙ same)
