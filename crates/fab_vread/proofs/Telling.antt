-- Bytes that give no unknown token spell the tokens that they give.
use Rattle.std.proofs.Common.{◌≡◌, ℕ, ◌^◌, ◌<◌, ◌≤◌, ◌+◌, ◌-◌, ◌*◌, Bool, true, false, ◌==◌, ◌&&◌, ◌||◌, List, [], ◌∷◌, ◌++◌, length, get_or, map, reverse, codes, decimal, refl, ap, ◌∙◌, subst, sym, arith, Option, Some, None, if◌then◌else◌, nat_le}
use Rattle.std.specs.List.{list_all}
use Rattle.std.specs.Option.{option_and_then}
use Rattle.std.specs.Str.{bytes_eq}
use Rattle.std.proofs.lemmas.Bool.{eqb-true}
use Rattle.std.proofs.lemmas.Bool.Decides.{nat_tests}
use Rattle.std.proofs.lemmas.Slice.Eq.{bytes_eq-Decides}
use Rattle.std.proofs.lemmas.List.{length-reverse, reverse-reverse, reverse-append, map_push, length-map}
use Rattle.std.proofs.lemmas.Str.Parse.{IsNumeralModel, IsDigitsTest, numerals_by_fold}
use Rattle.std.proofs.lemmas.Fmt.{decimal-digits_value}
use Rattle.fab_syntax.specs.Spelling.{digit}
use Rattle.fab_tokens.specs.declared.token.Keyword.{Keyword}
use Rattle.fab_tokens.specs.declared.token.Keyword.TheVariants as keywords
use Rattle.fab_tokens.specs.declared.token.Token.{Token}
use Rattle.fab_tokens.specs.declared.token.Token.TheVariants as tokens
use Rattle.fab_tokens.specs.Literals.{is_digit, is_binary, is_one, is_word_byte, max_number, number_from, number_of, is_number, is_written, constant_of, shifted}
use Rattle.fab_tokens.specs.Tokens.{keyword_text, keyword_of, begins_with_digit}
use Rattle.fab_tokens.specs.Scanning.{word_token, number_token, name_token, constant_token}
use Rattle.fab_tokens.specs.Spelled.{token_text, IsToken, joins_words, continues}
use Rattle.fab_tokens.proofs.Words.{both}

-- ---- numbers

-- the number that digits write after those of a value
abbrev fold : ℕ → List ℕ → ℕ
fold value [] = value
fold value (byte ∷ bytes) = fold (value * 10 + (byte - 48)) bytes

digit_range : (byte : ℕ) → is_digit byte ≡ true → (48 ≤ byte) × (byte ≤ 57)
digit_range byte h = let p = both (nat_le 48 byte) (nat_le byte 57) h in let a = p.0 in let b = p.1 in (grind (arith, nat_tests), grind (arith, nat_tests))

digit_test : (byte : ℕ) → 48 ≤ byte → byte ≤ 57 → is_digit byte ≡ true
digit_test byte a b =
    let low : nat_le 48 byte ≡ true = grind (arith, nat_tests) in
    let high : nat_le byte 57 ≡ true = grind (arith, nat_tests) in
    rw (low, high) refl

all_head : (p : ℕ → Bool) (x : ℕ) (xs : List ℕ) → p x ≡ true → list_all p xs ≡ true → list_all p (x ∷ xs) ≡ true
all_head p x xs a b = rw (a, b) refl

digits_test : IsDigitsTest (λ ds. list_all is_digit ds ≡ true)
digits_test = record {
  empty = refl;
  parts = λ c cs h. let k = both (is_digit c) (list_all is_digit cs) h in (digit_range c k.0, k.1);
  more = λ c cs r h. all_head is_digit c cs (digit_test c r.0 r.1) h;
}

numerals : IsNumeralModel (λ ds. list_all is_digit ds ≡ true) (fold 0)
numerals = numerals_by_fold (λ ds. list_all is_digit ds ≡ true) digits_test fold (record { empty = λ n. refl; more = λ n c cs r. refl })

record Written (value : ℕ) (ds : List ℕ) (n : ℕ) : Type 0 where
  digits : list_all is_digit ds ≡ true
  folded : fold value ds ≡ n
  few : n ≤ max_number

one_written : (value byte : ℕ) (ds : List ℕ) (n : ℕ) (b : Bool) → (is_digit byte && nat_le (shifted value byte) max_number) ≡ b →
    ((next : ℕ) → next ≤ max_number → number_from next ds ≡ Some n → Written next ds n) →
    option_and_then (λ next. number_from next ds) (if b then Some (shifted value byte) else None) ≡ Some n → Written value (byte ∷ ds) n
one_written value byte ds n true is back e =
    let k = both (is_digit byte) (nat_le (shifted value byte) max_number) is in
    let fits = k.1 in
    let few : shifted value byte ≤ max_number = grind (arith, nat_tests) in
    let w = back (shifted value byte) few e in
    record { digits = all_head is_digit byte ds k.0 w.digits; folded = w.folded; few = w.few }
one_written value byte ds n false is back e = absurd (cc)

number_from_written : (ds : List ℕ) (value n : ℕ) → value ≤ max_number → number_from value ds ≡ Some n → Written value ds n
number_from_written [] value n few e = let same : value ≡ n = cc in record { digits = refl; folded = same; few = omega (arith, same) }
number_from_written (byte ∷ ds) value n few e =
    one_written value byte ds n (is_digit byte && nat_le (shifted value byte) max_number) refl (λ next h k. number_from_written ds next n h k) e

record IsNumberText (word : List ℕ) (n : ℕ) : Type 0 where
  text : decimal n ≡ word
  few : n ≤ max_number

number_text : (word : List ℕ) (n : ℕ) → 0 < length word → (get_or word 0 0 ≡ 48 → length word ≡ 1) → number_from 0 word ≡ Some n → IsNumberText word n
number_text word n some plain e =
    let w = number_from_written word 0 n (omega arith) e in
    let few = w.few in
    let small : fold 0 word < 2 ^ 64 = omega (arith, w.folded) in
    record { text = ap decimal (sym w.folded) ∙ decimal-digits_value numerals word w.digits some plain small; few = w.few }

unzeroed : (byte next : ℕ) (ds : List ℕ) (n : ℕ) (b : Bool) → (byte == 48) ≡ b → (if b then None else number_from 0 (byte ∷ next ∷ ds)) ≡ Some n → IsNumberText (byte ∷ next ∷ ds) n
unzeroed byte next ds n true is e = absurd (cc)
unzeroed byte next ds n false is e = number_text (byte ∷ next ∷ ds) n (omega arith) (λ zero. absurd (not_zero zero)) e where
  not_zero : byte ≡ 48 → ⊥
  not_zero zero = let same : (48 == 48) ≡ false = subst (λ b. (b == 48) ≡ false) zero is in absurd (cc)

number_of_text : (word : List ℕ) (n : ℕ) → number_of word ≡ Some n → IsNumberText word n
number_of_text [] n e = absurd (cc)
number_of_text (byte ∷ []) n e = number_text (byte ∷ []) n (omega arith) (λ zero. refl) e
number_of_text (byte ∷ next ∷ ds) n e = unzeroed byte next ds n (byte == 48) refl e

-- ---- words

-- a word is a token, and so it is spelled; or it is unknown
pub record IsSpelledAs (bytes : List ℕ) (t : Token) : Type 0 where
  pub text : token_text t ≡ bytes
  pub is_one : IsToken t
  pub word : (byte : ℕ) → continues t byte ≡ joins_words byte

abbrev pub Known : Token → Type 0
Known tokens.Unknown = ⊥
Known _ = Unit {0}

abbrev KeywordIs : List ℕ → Option Keyword → Type 0
KeywordIs word None = Unit {0}
KeywordIs word (Some keyword) = keyword_text keyword ≡ word

keyword_if : (word text : List ℕ) (keyword : Keyword) (other : Option Keyword) (b : Bool) → bytes_eq word text ≡ b → keyword_text keyword ≡ text → KeywordIs word other →
    KeywordIs word (if b then Some keyword else other)
keyword_if word text keyword other true is same h = same ∙ sym ((bytes_eq-Decides word text).0 is)
keyword_if word text keyword other false is same h = h

keyword_is : (word : List ℕ) → KeywordIs word (keyword_of word)
unfolding keyword_of
keyword_is word =
    keyword_if word (codes "module") keywords.Module _ _ refl refl (keyword_if word (codes "endmodule") keywords.Endmodule _ _ refl refl
    (keyword_if word (codes "input") keywords.Input _ _ refl refl (keyword_if word (codes "output") keywords.Output _ _ refl refl
    (keyword_if word (codes "wire") keywords.Wire _ _ refl refl (keyword_if word (codes "reg") keywords.Reg _ _ refl refl
    (keyword_if word (codes "assign") keywords.Assign _ _ refl refl (keyword_if word (codes "always") keywords.Always _ _ refl refl
    (keyword_if word (codes "if") keywords.If _ _ refl refl (keyword_if word (codes "posedge") keywords.Posedge _ _ refl refl tt)))))))))

name_spelled : (word : List ℕ) (o : Option Keyword) → keyword_of word ≡ o → KeywordIs word o → 0 < length word → list_all is_word_byte word ≡ true →
    begins_with_digit word ≡ false → IsSpelledAs word (name_token word o)
name_spelled word None is h some bytes first =
    record { text = refl; is_one = record { some = some; bytes = bytes; first = first; free = is }; word = λ byte. refl }
name_spelled word (Some keyword) is h some bytes first = record { text = h; is_one = tt; word = λ byte. refl }

number_spelled : (word : List ℕ) (o : Option ℕ) → number_of word ≡ o → Known (number_token o) → IsSpelledAs word (number_token o)
number_spelled word None is known = absurd known
number_spelled word (Some n) is known = let x = number_of_text word n is in record { text = x.text; is_one = x.few; word = λ byte. refl }

word_if : (word : List ℕ) (b : Bool) → begins_with_digit word ≡ b → 0 < length word → list_all is_word_byte word ≡ true →
    Known (if b then number_token (number_of word) else name_token word (keyword_of word)) →
    IsSpelledAs word (if b then number_token (number_of word) else name_token word (keyword_of word))
word_if word true is some bytes known = number_spelled word (number_of word) refl known
word_if word false is some bytes known = name_spelled word (keyword_of word) refl (keyword_is word) some bytes is

pub word_spelled : (word : List ℕ) → 0 < length word → list_all is_word_byte word ≡ true → Known (word_token word) → IsSpelledAs word (word_token word)
word_spelled word some bytes known = word_if word (begins_with_digit word) refl some bytes known

-- ---- constants

digits_back : (ds : List ℕ) → list_all is_binary ds ≡ true → map digit (map is_one ds) ≡ ds
unfolding is_one
digits_back [] h = refl
digits_back (byte ∷ ds) h =
    let k = both (is_binary byte) (list_all is_binary ds) h in
    digit_back byte (byte == 48) (byte == 49) refl refl k.0 ds (digits_back ds k.1) where
      digit_back : (byte : ℕ) (zero one : Bool) → (byte == 48) ≡ zero → (byte == 49) ≡ one → (zero || one) ≡ true → (ds : List ℕ) → map digit (map is_one ds) ≡ ds →
          digit (byte == 49) ∷ map digit (map is_one ds) ≡ byte ∷ ds
      digit_back byte zero true is_zero is_one_byte h ds back = rw is_one_byte (let e = eqb-true byte 49 is_one_byte in cc)
      digit_back byte true false is_zero is_one_byte h ds back = rw is_one_byte (let e = eqb-true byte 48 is_zero in cc)
      digit_back byte false false is_zero is_one_byte h ds back = absurd (cc)

map-reverse : {X Y : Type 0} (f : X → Y) (xs : List X) → map f (reverse xs) ≡ reverse (map f xs)
map-reverse f [] = refl
map-reverse f (x ∷ xs) =
    ap (map f) (reverse-append (x ∷ []) xs) ∙ map_push f (reverse xs) x ∙ ap (λ ys. ys ++ f x ∷ []) (map-reverse f xs)
    ∙ sym (reverse-append (f x ∷ []) (map f xs))

constant_read : (width : List ℕ) (digit' : ℕ) (digits : List ℕ) (o : Option ℕ) → number_of width ≡ o → list_all is_binary (digit' ∷ digits) ≡ true →
    is_number (length (digit' ∷ digits)) o ≡ true → IsSpelledAs (width ++ 39 ∷ 98 ∷ digit' ∷ digits) (tokens.Constant (reverse (map is_one (digit' ∷ digits))))
constant_read width d ds None is binary counted = absurd (cc)
constant_read width d ds (Some m) is binary counted =
    let x = number_of_text width m is in
    let few = x.few in
    let digits = d ∷ ds in
    let count : length (reverse (map is_one digits)) ≡ length digits = length-reverse (map is_one digits) ∙ length-map digits is_one in
    let same : length digits ≡ m = eqb-true (length digits) m counted in
    let back : reverse (map digit (reverse (map is_one digits))) ≡ digits =
    ap reverse (map-reverse digit (map is_one digits)) ∙ reverse-reverse (map digit (map is_one digits)) ∙ digits_back digits binary in
    let some : 0 < length digits = omega arith in
    record {
      text = ap (λ n. decimal n ++ (39 ∷ 98 ∷ reverse (map digit (reverse (map is_one digits))))) (count ∙ same)
          ∙ ap (λ bs. decimal m ++ (39 ∷ 98 ∷ bs)) back ∙ ap (λ bs. bs ++ (39 ∷ 98 ∷ digits)) x.text;
      is_one = (omega (arith, count), omega (arith, count, same));
      word = λ byte. refl;
    }

constant_if : (width : List ℕ) (base : ℕ) (digits : List ℕ) (b : Bool) → ((base == 98) && is_written width digits) ≡ b →
    Known (constant_token (if b then Some (reverse (map is_one digits)) else None)) →
    IsSpelledAs (width ++ 39 ∷ base ∷ digits) (constant_token (if b then Some (reverse (map is_one digits)) else None))
constant_if width base digits false is known = absurd known
constant_if width base [] true is known = let k = both (base == 98) false is in absurd (cc)
constant_if width base (d ∷ ds) true is known =
    let k = both (base == 98) (is_written width (d ∷ ds)) is in
    let h = both (list_all is_binary (d ∷ ds)) (is_number (length (d ∷ ds)) (number_of width)) k.1 in
    subst (λ b. IsSpelledAs (width ++ 39 ∷ b ∷ d ∷ ds) (tokens.Constant (reverse (map is_one (d ∷ ds))))) (sym (eqb-true base 98 k.0))
    (constant_read width d ds (number_of width) refl h.0 h.1)

pub constant_spelled : (width rest : List ℕ) → Known (constant_token (constant_of width rest)) → IsSpelledAs (width ++ 39 ∷ rest) (constant_token (constant_of width rest))
constant_spelled width [] known = absurd known
constant_spelled width (base ∷ digits) known = constant_if width base digits ((base == 98) && is_written width digits) refl known
