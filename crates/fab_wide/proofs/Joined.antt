-- Words of 16 bits, and the table that they spell.
use Rattle.std.proofs.Common.{◌≡◌, ℕ, zero, suc, ◌+◌, ◌-◌, ◌*◌, ◌/◌, ◌%◌, ◌^◌, ◌<◌, ◌≤◌, Bool, ◌&&◌, List, [], ◌∷◌, ◌++◌, max, take, drop, length, nat_eq, refl, sym, ap, ◌∙◌, subst, inl, inr, arith, pow-suc, eqb-true, eq-eqb}
use Rattle.std.specs.Cmp.Lexicographic.{pointwise}
use Rattle.std.specs.List.{All}
use Rattle.std.proofs.lemmas.Bool.{cases_Bool, eqb-false, ne_eqb}
use Rattle.std.proofs.lemmas.List.{get_or-take, get_or-drop, length-drop, length-take-le, take-append-drop}
use Rattle.std.proofs.lemmas.Nat.{div-mul-add, mod-mul-add, pow-add}
use Rattle.std.proofs.Math.Nat.{mul_assoc, mul_left_comm, pow-le-pow_right}
use Rattle.fab_bits.specs.Bits.{number, first_bits}
use Rattle.fab_bits.proofs.Numbers.{drop_first_bits, take_first_bits}
use Rattle.fab_wide.specs.Split.{low_half, high_half}
use Rattle.fab_wide.specs.inner.Words.{number_of_words, AreWords}
use Rattle.fab_wide.proofs.Halves.{number_small}

-- ---- words of a function

-- each 16 bits of a function as a word
abbrev pub words_by : (count : ℕ) → (ℕ → Bool) → List ℕ
words_by zero f = []
words_by (suc count) f = number (first_bits 16 f) ∷ words_by count (λ place. f (16 + place))

number_joined : (xs ys : List Bool) → number (xs ++ ys) ≡ number xs + 2 ^ length xs * number ys
number_joined [] ys = omega arith
number_joined (x ∷ xs) ys =
    let power : 2 ^ suc (length xs) ≡ 2 * 2 ^ length xs = omega (arith, pow-suc 2 (length xs)) in
    let product : 2 ^ suc (length xs) * number ys ≡ 2 * (2 ^ length xs * number ys) = ap (λ k. k * number ys) power ∙ mul_assoc 2 (2 ^ length xs) (number ys) in
    omega (arith, number_joined xs ys, product)

bits_joined : (a b : ℕ) (f : ℕ → Bool) → first_bits (a + b) f ≡ first_bits a f ++ first_bits b (λ place. f (a + place))
bits_joined a b f = sym (take-append-drop a (first_bits (a + b) f)) ∙ (λ j. take_first_bits a (a + b) f (omega arith) j ++ drop_first_bits a b f j)

-- they spell its bits
words_spell : (count : ℕ) (f : ℕ → Bool) → number_of_words (words_by count f) ≡ number (first_bits (16 * count) f)
words_spell zero f = refl
words_spell (suc count) f =
    let more : 16 * suc count ≡ 16 + 16 * count = omega arith in
    sym (ap (λ n. number (first_bits n f)) more
    ∙ ap number (bits_joined 16 (16 * count) f)
    ∙ number_joined (first_bits 16 f) (first_bits (16 * count) (λ place. f (16 + place)))
    ∙ ap (λ rest. number (first_bits 16 f) + 65536 * rest) (sym (words_spell count (λ place. f (16 + place)))))

many_words : (count : ℕ) (f : ℕ → Bool) → length (words_by count f) ≡ count
many_words zero f = refl
many_words (suc count) f = ap suc (many_words count (λ place. f (16 + place)))

small_words : (count : ℕ) (f : ℕ → Bool) → All (λ word. word < 65536) (words_by count f)
small_words zero f k d within = absurd (omega (arith, within))
small_words (suc count) f zero d within = number_small (first_bits 16 f)
small_words (suc count) f (suc k) d within = small_words count (λ place. f (16 + place)) k d (omega (arith, within))

-- at most 16 inputs
pub few_words : (inputs : ℕ) → inputs ≤ 16 → 2 ^ (inputs - 4) ≤ 4096
few_words inputs few = pow-le-pow_right {n = 2} (omega arith) {i = inputs - 4} {j = 12} (omega (arith, few))

-- a table over so many inputs has 16 bits for each word
pub table_bits : (inputs : ℕ) → 16 * 2 ^ (inputs - 4) ≡ 2 ^ max 4 inputs
table_bits inputs =
    let whole : max 4 inputs ≡ 4 + (inputs - 4) = omega arith in
    sym (ap (λ k. 2 ^ k) whole ∙ pow-add 2 4 (inputs - 4))

-- all words of a table
pub all_words : (inputs count : ℕ) (f : ℕ → Bool) (words : List ℕ) → words ≡ words_by count f → count ≡ 2 ^ (inputs - 4) → AreWords inputs words
all_words inputs count f words is many = record {
  many = ap length is ∙ many_words count f ∙ many;
  small = subst (λ (list : List ℕ). All (λ word. word < 65536) list) (sym is) (small_words count f);
}

pub all_spell : (inputs count : ℕ) (f : ℕ → Bool) (words : List ℕ) → words ≡ words_by count f → count ≡ 2 ^ (inputs - 4) →
    number_of_words words ≡ number (first_bits (2 ^ max 4 inputs) f)
all_spell inputs count f words is many =
    let bits : 16 * count ≡ 2 ^ max 4 inputs = ap (λ k. 16 * k) many ∙ table_bits inputs in
    ap number_of_words is ∙ words_spell count f ∙ ap (λ n. number (first_bits n f)) bits

-- ---- halves

joined_words : (xs ys : List ℕ) → number_of_words (xs ++ ys) ≡ number_of_words ys * 2 ^ (16 * length xs) + number_of_words xs
joined_words [] ys = omega arith
joined_words (word ∷ xs) ys =
    let power : 2 ^ (16 * suc (length xs)) ≡ 65536 * 2 ^ (16 * length xs) = ap (λ k. 2 ^ k) (omega arith) ∙ pow-add 2 16 (16 * length xs) in
    let product : number_of_words ys * 2 ^ (16 * suc (length xs)) ≡ 65536 * (number_of_words ys * 2 ^ (16 * length xs)) =
    ap (λ k. number_of_words ys * k) power ∙ mul_left_comm (number_of_words ys) 65536 (2 ^ (16 * length xs)) in
    omega (arith, joined_words xs ys, product)

small_first : (word : ℕ) (words : List ℕ) → All (λ w. w < 65536) (word ∷ words) → word < 65536
small_first word words small = small 0 0 (omega arith)

small_rest : (word : ℕ) (words : List ℕ) → All (λ w. w < 65536) (word ∷ words) → All (λ w. w < 65536) words
small_rest word words small k d within = small (suc k) d (omega (arith, within))

words_small : (words : List ℕ) → All (λ w. w < 65536) words → number_of_words words < 2 ^ (16 * length words)
words_small [] small = omega arith
words_small (word ∷ words) small =
    let power : 2 ^ (16 * suc (length words)) ≡ 65536 * 2 ^ (16 * length words) = ap (λ k. 2 ^ k) (omega arith) ∙ pow-add 2 16 (16 * length words) in
    omega (arith, power, small_first word words small, words_small words (small_rest word words small))

module _ (n : ℕ) (above : 4 ≤ n) (words : List ℕ) (table : AreWords (suc n) words) where
  abbrev half : ℕ
  half = 2 ^ (n - 4)

  pub twice : length words ≡ 2 * half
  twice =
      let one_more : suc n - 4 ≡ suc (n - 4) = omega (arith, above) in
      table.many ∙ ap (λ k. 2 ^ k) one_more ∙ omega (arith, pow-suc 2 (n - 4))

  abbrev first : List ℕ
  first = take half words

  abbrev second : List ℕ
  second = drop half words

  many_first : length first ≡ half
  many_first = length-take-le half words (omega (arith, twice))

  pub first_words : AreWords n first
  first_words = record {
    many = many_first;
    small = λ k d within. subst (λ w. w < 65536) (sym (get_or-take half words k d (omega (arith, within, many_first))))
        (table.small k d (omega (arith, within, many_first, twice)));
  }

  pub second_words : AreWords n second
  second_words = record {
    many = omega (arith, length-drop half words, twice);
    small = λ k d within. subst (λ w. w < 65536) (sym (get_or-drop half words k d))
        (table.small (half + k) d (omega (arith, within, length-drop half words, twice)));
  }

  bits_half : 2 ^ (16 * length first) ≡ 2 ^ 2 ^ n
  bits_half =
      let whole : n ≡ 4 + (n - 4) = omega (arith, above) in
      ap (λ k. 2 ^ (16 * k)) many_first ∙ ap (λ k. 2 ^ k) (sym (ap (λ k. 2 ^ k) whole ∙ pow-add 2 4 (n - 4)))

  parted : number_of_words words ≡ number_of_words second * 2 ^ 2 ^ n + number_of_words first
  parted = ap number_of_words (sym (take-append-drop half words)) ∙ joined_words first second ∙ ap (λ k. number_of_words second * k + number_of_words first)
      bits_half

  first_small : number_of_words first < 2 ^ 2 ^ n
  first_small = subst (λ k. number_of_words first < k) bits_half (words_small first first_words.small)

  -- they spell the halves of the table
  pub first_half : number_of_words first ≡ low_half n (number_of_words words)
  first_half = sym (ap (λ k. k % 2 ^ 2 ^ n) parted ∙ mod-mul-add (number_of_words second) (2 ^ 2 ^ n) (number_of_words first) first_small)

  pub second_half : number_of_words second ≡ high_half n (number_of_words words)
  second_half = sym (ap (λ k. k / 2 ^ 2 ^ n) parted ∙ div-mul-add (number_of_words second) (2 ^ 2 ^ n) (number_of_words first) first_small)

-- as many words are equal where they spell one table
pub same_words : (xs ys : List ℕ) → length xs ≡ length ys → All (λ w. w < 65536) xs → All (λ w. w < 65536) ys →
    pointwise nat_eq xs ys ≡ nat_eq (number_of_words xs) (number_of_words ys)
same_words [] [] many small_x small_y = refl
same_words [] (y ∷ ys) many small_x small_y = absurd (omega (arith, many))
same_words (x ∷ xs) [] many small_x small_y = absurd (omega (arith, many))
same_words (x ∷ xs) (y ∷ ys) many small_x small_y =
    let rest = same_words xs ys (omega (arith, many)) (small_rest x xs small_x) (small_rest y ys small_y) in
    ap (λ (b : Bool). nat_eq x y && b) rest ∙ both_same (small_first x xs small_x) (small_first y ys small_y)
  where
    both_same : x < 65536 → y < 65536 → (nat_eq x y && nat_eq (number_of_words xs) (number_of_words ys)) ≡ nat_eq (x + 65536 * number_of_words xs)
        (y + 65536 * number_of_words ys)
    both_same less_x less_y =
        elim (cases_Bool (nat_eq x y)) [
          | inl same ↦ (
              let equal : x ≡ y = eqb-true x y same in
              elim (cases_Bool (nat_eq (number_of_words xs) (number_of_words ys))) [
                | inl later ↦ rw (same, later) (sym (eq-eqb (x + 65536 * number_of_words xs) (y + 65536 * number_of_words ys)
                    (omega (arith, equal, eqb-true (number_of_words xs) (number_of_words ys) later))))
                | inr later ↦ rw (same, later) (sym (ne_eqb (x + 65536 * number_of_words xs) (y + 65536 * number_of_words ys)
                    (λ e. eqb-false (number_of_words xs) (number_of_words ys) later (omega (arith, e, equal)))))
              ])
          | inr other ↦ rw other (sym (ne_eqb (x + 65536 * number_of_words xs) (y + 65536 * number_of_words ys)
              (λ e. eqb-false x y other (omega (arith, e, less_x, less_y)))))
        ]
