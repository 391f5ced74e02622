-- The bits of a word, one after the other.
use Rattle.std.proofs.Common.{◌≡◌, ◌⊎◌, ℕ, zero, suc, ◌+◌, ◌-◌, ◌/◌, ◌%◌, ◌^◌, ◌<◌, ◌≤◌, Bool, false, nat_eq, List, [], ◌∷◌, ◌++◌, length, reverse, take, get_or, refl, sym, ap, ◌∙◌, inl, inr, arith, slice_set}
use Rattle.std.proofs.Math.Nat.{div-one}
use Rattle.std.proofs.lemmas.Bool.{cases_eq}
use Rattle.std.proofs.lemmas.List.{get_or-map, get_or-reverse, length-map, length-reverse, take_all, take_more}
use Rattle.std.proofs.lemmas.Nat.{shr-shr}
use Rattle.fab_meaning.specs.Loading.{single_bits}
use Rattle.fab_bits.specs.Bits.{digits}
use Rattle.fab_meaning.specs.Value.{bit_at}
use Rattle.fab_systems_laws.specs.Ternary.{known}
use Rattle.fab_ternary.specs.declared.Tern.{Tern}
use Rattle.fab_ternary.specs.Terns.{plain_tern}
use Rattle.fab_compiled.specs.Leading.{PointTerns}
use Rattle.fab_network.specs.Passes.{kept_tern}
use Rattle.fab_network.proofs.Kept.{kept_same, kept_other}
use Rattle.fab_phases.specs.Words.{IsOffered, word_bits}

-- a bit of what is left of a word
unfoldable pub rest_bit : (width rest place : ℕ) → Bool
rest_bit width rest place = bit_at (digits width rest) place

rest_first : (width rest : ℕ) → rest_bit (suc width) rest 0 ≡ nat_eq (rest % 2) 1
unfolding rest_bit
rest_first width rest = refl

rest_next : (width rest place : ℕ) → rest_bit width (rest / 2) place ≡ rest_bit (suc width) rest (suc place)
unfolding rest_bit
rest_next width rest place = refl

digits_long : (width n : ℕ) → length (digits width n) ≡ width
digits_long zero n = refl
digits_long (suc width) n = ap suc (digits_long width (n / 2))

pub word_long : (word : ℕ) → length (word_bits word) ≡ 32
unfolding word_bits
word_long word = digits_long 32 word

-- the first bits of a word are given, and the others are left
pub record IsOfferedSoFar (first word bit rest : ℕ) (old : PointTerns) (now : List Tern) : Type 0 where
  pub bits : (k : ℕ) → k < bit → kept_tern now (first + k) ≡ known (bit_at (word_bits word) k)
  pub others : (point : ℕ) → (point < first) ⊎ (first + 32 ≤ point) → kept_tern now point ≡ old point
  pub left : (k : ℕ) → rest_bit (32 - bit) rest k ≡ bit_at (word_bits word) (bit + k)

whole_word : (word k : ℕ) → rest_bit 32 word k ≡ bit_at (word_bits word) k
unfolding rest_bit word_bits
whole_word word k = refl

pub offered_none : (first word : ℕ) (now : List Tern) → IsOfferedSoFar first word 0 word (kept_tern now) now
offered_none first word now = record {
  bits = λ k less. absurd (omega arith);
  others = λ point outside. refl;
  left = λ k. let none : 0 + k ≡ k = omega arith in whole_word word k ∙ ap (bit_at (word_bits word)) (sym none);
}

pub offered_more : (first word bit rest : ℕ) (old : PointTerns) (now : List Tern) (t : Tern) → bit < 32 → first + 32 ≤ length now → IsOfferedSoFar first word bit rest old now →
    plain_tern t ≡ known (nat_eq (rest % 2) 1) → IsOfferedSoFar first word (bit + 1) (rest / 2) old (slice_set now (first + bit) t)
offered_more first word bit rest old now t less room so_far value =
    let width : 32 - bit ≡ suc (32 - (bit + 1)) = omega arith in
    let here : nat_eq (rest % 2) 1 ≡ bit_at (word_bits word) bit =
    let none : bit + 0 ≡ bit = omega arith in
    sym (rest_first (32 - (bit + 1)) rest) ∙ ap (λ (w : ℕ). rest_bit w rest 0) (sym width) ∙ so_far.left 0 ∙ ap (bit_at (word_bits word)) none in
    let within : first + bit < length now = omega arith in
    record {
      bits = λ k l.
          elim (cases_eq k bit) [
            | inl e ↦
                ap (λ (n : ℕ). kept_tern (slice_set now (first + bit) t) (first + n)) e ∙ kept_same now (first + bit) t within ∙ value ∙ ap known (here ∙ ap (bit_at (word_bits word)) (sym e))
            | inr apart ↦
                let other : first + k ≡ first + bit → ⊥ = λ e. apart (omega arith) in
                kept_other now (first + bit) t (first + k) other ∙ so_far.bits k (omega (arith, apart))
          ];
      others = λ point outside.
          let other : point ≡ first + bit → ⊥ = λ e. elim outside [ inl l ↦ omega arith | inr g ↦ omega arith ] in
          kept_other now (first + bit) t point other ∙ so_far.others point outside;
      left = λ k.
          let next : bit + suc k ≡ bit + 1 + k = omega arith in
          rest_next (32 - (bit + 1)) rest k ∙ ap (λ (w : ℕ). rest_bit w rest (suc k)) (sym width) ∙ so_far.left (suc k) ∙ ap (bit_at (word_bits word)) next;
    }

pub offered_all : (first word bit rest : ℕ) (old : PointTerns) (now : List Tern) → 32 ≤ bit → IsOfferedSoFar first word bit rest old now →
    IsOffered first (word_bits word) old (kept_tern now)
offered_all first word bit rest old now all so_far =
    let long = word_long word in
    record {
      bits = λ k less. so_far.bits k (omega (arith, long, less));
      others = λ point outside. so_far.others point (elim outside [ inl l ↦ inl l | inr g ↦ inr (omega (arith, long, g)) ]);
    }

-- one bit alone
pub bit_offered : (point : ℕ) (bit : Bool) (now : List Tern) (t : Tern) → point < length now → plain_tern t ≡ known bit →
    IsOffered point (bit ∷ []) (kept_tern now) (kept_tern (slice_set now point t))
bit_offered point bit now t within value = record {
  bits = λ k less.
      let none : k ≡ 0 = omega (arith, less) in
      let here : point + k ≡ point = omega arith in
      ap (kept_tern (slice_set now point t)) here ∙ kept_same now point t within ∙ value ∙ ap (λ (n : ℕ). known (bit_at (bit ∷ []) n)) (sym none);
  others = λ p outside. kept_other now point t p (λ e. elim outside [ inl l ↦ omega (arith, l, e) | inr g ↦ omega (arith, g, e) ]);
}

-- ---- the bits of a word one by one, the last first

one_more : (i : ℕ) → 1 + i ≡ suc i
one_more i = omega arith

-- a digit of a number
digit_at : (width n i : ℕ) → i < width → bit_at (digits width n) i ≡ nat_eq (n / 2 ^ i % 2) 1
digit_at zero n i few = absurd (omega (arith, few))
digit_at (suc width) n zero few = ap (λ k. nat_eq (k % 2) 1) (sym (div-one n))
digit_at (suc width) n (suc i) few =
    digit_at width (n / 2) i (omega (arith, few)) ∙ ap (λ k. nat_eq (k % 2) 1) (shr-shr n 1 i ∙ ap (λ k. n / 2 ^ k) (one_more i))

pub word_digit : (word i : ℕ) → i < 32 → bit_at (word_bits word) i ≡ nat_eq (word / 2 ^ i % 2) 1
unfolding word_bits
word_digit word i few = digit_at 32 word i few

abbrev single : Bool → List Bool
single bit = bit ∷ []

singles_long : (word : ℕ) → length (single_bits (word_bits word)) ≡ 32
singles_long word = length-map (reverse (word_bits word)) single ∙ length-reverse (word_bits word) ∙ word_long word

-- the piece at a place
single_at : (word place : ℕ) → place < 32 → get_or (single_bits (word_bits word)) place [] ≡ single (nat_eq (word / 2 ^ (31 - place) % 2) 1)
single_at word place less =
    let bits = word_bits word in
    let long = word_long word in
    let reversed = length-reverse bits in
    let there : length bits - 1 - place ≡ 31 - place = omega (arith, long) in
    get_or-map single (reverse bits) place false [] (omega (arith, less, long, reversed))
    ∙ ap single (get_or-reverse bits place false (omega (arith, less, long)) ∙ ap (bit_at bits) there ∙ word_digit word (31 - place) (omega arith))

-- one piece more
pub one_bit_more : (word place : ℕ) (bit : Bool) → place < 32 → bit ≡ nat_eq (word / 2 ^ (31 - place) % 2) 1 →
    take (place + 1) (single_bits (word_bits word)) ≡ take place (single_bits (word_bits word)) ++ (bit ∷ []) ∷ []
one_bit_more word place bit less is =
    let pieces = single_bits (word_bits word) in
    let long = singles_long word in
    take_more pieces place [] (omega (arith, less, long)) ∙ ap (λ (piece : List Bool). take place pieces ++ piece ∷ []) (single_at word place less ∙ ap single (sym is))

-- all of them
pub all_bits_taken : (word place : ℕ) → 32 ≤ place → take place (single_bits (word_bits word)) ≡ single_bits (word_bits word)
all_bits_taken word place all = let long = singles_long word in take_all place (single_bits (word_bits word)) (omega (arith, all, long))
