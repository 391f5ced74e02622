-- Rows as cubes.
use Rattle.std.proofs.Common.{◌≡◌, ℕ, zero, suc, ◌+◌, ◌-◌, ◌*◌, ◌/◌, ◌%◌, ◌^◌, ◌<◌, ◌≤◌, Bool, true, false, not, ◌&&◌, ◌==◌, List, [], ◌∷◌, ◌++◌, length, map, min, drop, get_or, Some, unwrap_or, refl, sym, ap, subst, ◌∙◌, inl, inr, arith, pow-suc, drop-cons}
use Rattle.std.proofs.lemmas.Bool.{cases_Bool, eqb-true}
use Rattle.std.proofs.Math.Pow.{pow_mono}
use Rattle.std.specs.Int.Bits.{bit_and, and_step}
use Rattle.fab_bits.specs.Bits.{bit_number, number}
use Rattle.fab_netlist.specs.Wide.{IsFineRow}
use Rattle.fab_blif_models.specs.Covers.{cube_of, is_asked, is_on, is_one, rows_on}

-- ---- bits of signs

-- the bits from one place before on
pub signs_before : (test : ℕ → Bool) (pattern : List ℕ) (place so_far bit : ℕ) → 0 < place → place ≤ length pattern → so_far ≡ number (map test (drop place pattern))
    → bit ≡ bit_number (test (get_or pattern (place - 1) 0)) → 2 * so_far + bit ≡ number (map test (drop (place - 1) pattern))
signs_before test pattern place so_far bit some within rest is =
    let next : suc (place - 1) ≡ place = omega arith in
    let parted : drop (place - 1) pattern ≡ get_or pattern (place - 1) 0 ∷ drop place pattern =
    drop-cons pattern (place - 1) 0 (omega arith) ∙ ap (λ (n : ℕ). get_or pattern (place - 1) 0 ∷ drop n pattern) next in
    let whole : 2 * so_far + bit ≡ bit_number (test (get_or pattern (place - 1) 0)) + 2 * number (map test (drop place pattern)) = omega (arith, rest, is) in
    whole ∙ sym (ap (λ (signs : List ℕ). number (map test signs)) parted)

pub bits_small : (place so_far bit : ℕ) → 0 < place → place ≤ 16 → so_far < 2 ^ (16 - place) → bit ≤ 1 → 2 * so_far + bit < 2 ^ (16 - (place - 1))
bits_small place so_far bit some within small low =
    let more : 16 - (place - 1) ≡ suc (16 - place) = omega arith in
    rw more (omega (arith, pow-suc 2 (16 - place)))

-- ---- what holds of a row

signs_low : (test : ℕ → Bool) (pattern : List ℕ) → number (map test pattern) < 2 ^ length pattern
signs_low test [] = omega arith
signs_low test (sign ∷ pattern) = low (test sign) (number (map test pattern)) (length pattern) (signs_low test pattern)
  where
    low : (b : Bool) (k n : ℕ) → k < 2 ^ n → bit_number b + 2 * k < 2 ^ suc n
    low true k n small = omega (arith, pow-suc 2 n)
    low false k n small = omega (arith, pow-suc 2 n)

-- a bit in front of two numbers
and_bits : (a b : Bool) (x y : ℕ) → bit_and (bit_number a + 2 * x) (bit_number b + 2 * y) ≡ bit_number (a && b) + 2 * bit_and x y
and_bits a b x y =
    let high_x : (bit_number a + 2 * x) / 2 ≡ x = halves a x in
    let high_y : (bit_number b + 2 * y) / 2 ≡ y = halves b y in
    let low_x : (bit_number a + 2 * x) % 2 ≡ bit_number a = lowest a x in
    let low_y : (bit_number b + 2 * y) % 2 ≡ bit_number b = lowest b y in
    and_step (bit_number a + 2 * x) (bit_number b + 2 * y) ∙ rw (high_x, high_y, low_x, low_y) (joined a b (bit_and x y))
  where
    halves : (a : Bool) (x : ℕ) → (bit_number a + 2 * x) / 2 ≡ x
    halves true x = omega arith
    halves false x = omega arith

    lowest : (a : Bool) (x : ℕ) → (bit_number a + 2 * x) % 2 ≡ bit_number a
    lowest true x = omega arith
    lowest false x = omega arith

    joined : (a b : Bool) (z : ℕ) → z * 2 + min (bit_number a) (bit_number b) ≡ bit_number (a && b) + 2 * z
    joined true true z = omega arith
    joined true false z = omega arith
    joined false true z = omega arith
    joined false false z = omega arith

-- an input that a pattern wants to be 1 is one that it looks at
one_is_asked : (sign : ℕ) → (is_one sign && is_asked sign) ≡ is_one sign
one_is_asked sign = elim (cases_Bool (is_one sign)) [
  | inl t ↦ (let same : sign ≡ 49 = eqb-true sign 49 t in subst (λ (s : ℕ). (is_one s && is_asked s) ≡ is_one s) (sym same) refl)
  | inr f ↦ rw f refl
]

signs_asked : (pattern : List ℕ) → bit_and (number (map is_one pattern)) (number (map is_asked pattern)) ≡ number (map is_one pattern)
signs_asked [] = refl
signs_asked (sign ∷ pattern) =
    and_bits (is_one sign) (is_asked sign) (number (map is_one pattern)) (number (map is_asked pattern))
    ∙ (λ j. bit_number (one_is_asked sign j) + 2 * signs_asked pattern j)

-- a pattern of no more signs than a cover has inputs
pub fine_row : (count : ℕ) (pattern : List ℕ) → length pattern ≤ count → IsFineRow count (cube_of pattern)
fine_row count pattern short = record {
  low = omega (arith, signs_low is_asked pattern, pow_mono short);
  cared = signs_asked pattern;
}

-- ---- rows of an on-set

-- whether rows are of an on-set, with one row more
pub rows_on-push : (rows : List (List (List ℕ))) (row : List (List ℕ)) → rows_on (rows ++ row ∷ []) ≡ Some (unwrap_or (rows_on rows) (is_on row))
rows_on-push [] row = refl
rows_on-push (first ∷ rows) row = refl
