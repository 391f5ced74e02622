-- Bytes are those of words, or they end within one.
use Rattle.std.proofs.Common.{◌≡◌, ◌<◌, ◌+◌, ◌*◌, ◌/◌, ◌%◌, ◌^◌, ℕ, zero, suc, List, [], ◌∷◌, ◌++◌, All, length, refl, arith, inl, inr}
use Rattle.std.proofs.lemmas.List.Elements.{All-cons, All-head, All-nil, All-tail}
use Rattle.fab_base.specs.Reading.{fault_at}
use Rattle.fab_base.specs.declared.problem.Problem.TheVariants as problems
use Rattle.fab_base.specs.declared.words.Reason.TheVariants as reasons
use Rattle.fab_frames.specs.Bytes.{word_bytes}
use Rattle.fab_frames.specs.Refusals.{IsCut}
use Rattle.fab_outputs.specs.Bitstreams.{AreBytesOf}
use Rattle.fab_judged_laws.specs.Judged.{IsSpelledOrRefused}

abbrev IsByte : ℕ → Type 0
IsByte byte = byte < 256

abbrev IsWord : ℕ → Type 0
IsWord word = word < 2 ^ 32

-- ---- four bytes

module _ (a b c d : ℕ) (a_byte : IsByte a) (b_byte : IsByte b) (c_byte : IsByte c) (d_byte : IsByte d) where
  abbrev word : ℕ
  word = a * 16777216 + b * 65536 + c * 256 + d

  word_fits : IsWord word
  word_fits = omega (arith, a_byte, b_byte, c_byte, d_byte)

  word_is : a ∷ b ∷ c ∷ d ∷ [] ≡ word_bytes word
  word_is =
      let first : a ≡ word / 2 ^ 24 % 256 = omega (arith, a_byte, b_byte, c_byte, d_byte) in
      let second : b ≡ word / 2 ^ 16 % 256 = omega (arith, a_byte, b_byte, c_byte, d_byte) in
      let third : c ≡ word / 2 ^ 8 % 256 = omega (arith, a_byte, b_byte, c_byte, d_byte) in
      let fourth : d ≡ word % 256 = omega (arith, a_byte, b_byte, c_byte, d_byte) in
      λ i. first i ∷ second i ∷ third i ∷ fourth i ∷ []

  more_words : (words rest : List ℕ) → AreBytesOf words rest → AreBytesOf (word ∷ words) (a ∷ b ∷ c ∷ d ∷ rest)
  more_words words rest are = record {
    fit = All-cons IsWord word words word_fits are.fit;
    bytes_are = λ i. word_is i ++ are.bytes_are i;
  }

-- ---- all bytes

words_of : (bytes : List ℕ) → All IsByte bytes → length bytes % 4 ≡ 0 → (words : List ℕ) × AreBytesOf words bytes
words_of [] are whole = ([], record { fit = All-nil IsWord; bytes_are = refl })
words_of (a ∷ []) are whole = absurd (omega (arith, whole))
words_of (a ∷ b ∷ []) are whole = absurd (omega (arith, whole))
words_of (a ∷ b ∷ c ∷ []) are whole = absurd (omega (arith, whole))
words_of (a ∷ b ∷ c ∷ d ∷ rest) are whole =
    let behind_a = All-tail IsByte a (b ∷ c ∷ d ∷ rest) are in
    let behind_b = All-tail IsByte b (c ∷ d ∷ rest) behind_a in
    let behind_c = All-tail IsByte c (d ∷ rest) behind_b in
    let more = words_of rest (All-tail IsByte d rest behind_c) (omega (arith, whole)) in (
      word a b c d (All-head IsByte a (b ∷ c ∷ d ∷ rest) are) (All-head IsByte b (c ∷ d ∷ rest) behind_a) (All-head IsByte c (d ∷ rest) behind_b) (All-head IsByte d rest behind_c) ∷ more.0,
      more_words a b c d (All-head IsByte a (b ∷ c ∷ d ∷ rest) are) (All-head IsByte b (c ∷ d ∷ rest) behind_a) (All-head IsByte c (d ∷ rest) behind_b) (All-head IsByte d rest behind_c) more.0 rest more.1,
    )

pub bytes_judged : (file bytes : List ℕ) → All (λ byte. byte < 256) bytes → IsSpelledOrRefused (λ words. AreBytesOf words bytes) (IsCut file bytes)
bytes_judged file bytes are = by_rest (length bytes % 4) refl
  where
    by_rest : (rest : ℕ) → length bytes % 4 ≡ rest → IsSpelledOrRefused (λ words. AreBytesOf words bytes) (IsCut file bytes)
    by_rest zero is = inl (words_of bytes are is)
    by_rest (suc rest) is =
        inr (fault_at file (length bytes / 4 + 1) (problems.Malformed reasons.Word), record { rest = λ whole. absurd (omega (arith, is, whole)); told = refl })
