-- What clap takes the words of a form for.
use Rattle.std.proofs.Common.{◌≡◌, ◌∙◌, ◌==◌, ◌&&◌, not, ℕ, true, false, List, [], ◌∷◌, ◌++◌, Option, Some, None, length, take, drop, refl, sym, ap, ap₂, arith}
use Rattle.std.specs.List.{list_any, position_or_len}
use Rattle.std.specs.Str.{bytes_eq}
use Rattle.std.proofs.lemmas.Bool.{false≢true, and_parts, ne_eqb, not-true}
use Rattle.std.proofs.lemmas.List.{take_all, take-append-drop}
use Rattle.std.proofs.lemmas.Slice.Eq.{bytes_eq-Decides}
use Rattle.clap.specs.Lexer.{long_of, short_of, name_and_value}
use Rattle.fab_words.proofs.Values.{neither}
use Rattle.fab_words.specs.Arguments.{is_positional, is_equals, is_option, is_setting, is_option_name, option_text, name_in, value_in}

-- ---- a positional word

-- it is not `--`, and neither a long nor a short option
pub record IsPlainWord (word : List ℕ) : Type 0 where
  pub dashes : bytes_eq word (45 ∷ 45 ∷ []) ≡ false
  pub long : long_of word ≡ None
  pub short : short_of word ≡ None

pub positional_plain : (word : List ℕ) → is_positional word ≡ true → IsPlainWord word
positional_plain [] is = absurd (false≢true is)
positional_plain (first ∷ more) is =
    let parts = and_parts (not (length (first ∷ more) == 0)) (not (first == 45)) is in
    let starts : (first == 45) ≡ false = not-true (first == 45) parts.1 in
    record { dashes = rw starts; long = rw starts; short = rw starts }

-- ---- an option

-- what it is made of
option_is : (word : List ℕ) → is_option word ≡ true → word ≡ 45 ∷ 45 ∷ option_text word
option_is word is =
    let front : 45 ∷ 45 ∷ [] ≡ take 2 word = (bytes_eq-Decides (45 ∷ 45 ∷ []) (take 2 word)).0 is in
    sym (take-append-drop 2 word) ∙ ap (λ (front : List ℕ). front ++ drop 2 word) (sym front)

-- `--NAME` and `--NAME=VALUE`, where something stands behind the dashes
pub record IsLongWord (word name : List ℕ) (value : Option (List ℕ)) : Type 0 where
  pub dashes : bytes_eq word (45 ∷ 45 ∷ []) ≡ false
  pub long : long_of word ≡ Some (name, value)

long_word : (text : List ℕ) → (length text == 0) ≡ false → IsLongWord (45 ∷ 45 ∷ text) (name_and_value text).0 (name_and_value text).1
long_word [] filled = absurd (false≢true (sym filled))
long_word (first ∷ text) filled = record { dashes = refl; long = refl }

-- an option with its value
pub setting_long : (word : List ℕ) → is_setting word ≡ true → IsLongWord word (name_in word) (Some (value_in word))
setting_long word is =
    let outer = and_parts (is_option word && list_any is_equals (option_text word)) (not (length (value_in word) == 0)) is in
    let inner = and_parts (is_option word) (list_any is_equals (option_text word)) outer.0 in
    let whole = option_is word inner.0 in
    let filled : (length (option_text word) == 0) ≡ false = some_pass (option_text word) inner.1 in
    let value : (name_and_value (option_text word)).1 ≡ Some (value_in word) = rw inner.1 in
    let long = long_word (option_text word) filled in
    record {
      dashes = ap (λ (w : List ℕ). bytes_eq w (45 ∷ 45 ∷ [])) whole ∙ long.dashes;
      long = ap long_of whole ∙ long.long ∙ ap (λ (v : Option (List ℕ)). Some (name_in word, v)) value;
    }
  where
    some_pass : (text : List ℕ) → list_any is_equals text ≡ true → (length text == 0) ≡ false
    some_pass [] any = absurd (false≢true any)
    some_pass (first ∷ text) any = ne_eqb (length (first ∷ text)) 0 (λ e. absurd (omega arith))

-- an option whose value is the next word
pub option_long : (word : List ℕ) → is_option_name word ≡ true → (length (option_text word) == 0) ≡ false → IsLongWord word (option_text word) None
option_long word is filled =
    let parts = and_parts (is_option word) (not (list_any is_equals (option_text word))) is in
    let whole = option_is word parts.0 in
    let none = not-true (list_any is_equals (option_text word)) parts.1 in
    let name : (name_and_value (option_text word)).0 ≡ option_text word = ap (λ n. take n (option_text word)) (all_fail (option_text word) none)
    ∙ take_all (length (option_text word)) (option_text word) (omega arith) in
    let value : (name_and_value (option_text word)).1 ≡ None = rw none in
    let long = long_word (option_text word) filled in
    record {
      dashes = ap (λ (w : List ℕ). bytes_eq w (45 ∷ 45 ∷ [])) whole ∙ long.dashes;
      long = ap long_of whole ∙ long.long ∙ ap₂ (λ (n : List ℕ) (v : Option (List ℕ)). Some (n, v)) name value;
    }
  where
    all_fail : (text : List ℕ) → list_any is_equals text ≡ false → position_or_len is_equals text ≡ length text
    all_fail [] none = refl
    all_fail (byte ∷ text) none =
        let parts = neither (is_equals byte) (list_any is_equals text) none in
        let rest = all_fail text parts.1 in
        rw parts.0 (omega arith)
