-- Bits of the values of operators.
use Rattle.std.proofs.Common.{◌≡◌, ℕ, zero, suc, ◌+◌, ◌-◌, ◌*◌, ◌/◌, ◌%◌, ◌^◌, ◌<◌, ◌≤◌, Bool, true, false, not, cond, ◌&&◌, ◌||◌, List, [], ◌∷◌, ◌++◌, length, get_or, take, drop, map, Option, Some, None, refl, sym, ap, ◌∙◌, inl, inr, arith, slice_range, nat_eq, add-one, pow-suc, if◌then◌else◌, pow_mono}
use mathlib.Core.Bool.{beq}
use Rattle.std.proofs.lemmas.Bool.{cases_Bool, false≢true}
use Rattle.std.proofs.lemmas.Bool.Decides.{eqb_tells, nat_tests}
use Rattle.std.proofs.lemmas.List.{get_or-take, get_or-drop, get_or_past, get_or_append_left, get_or-append_right, length-take, length-drop, length-map, length-append, drop_more}
use Rattle.fab_bits.specs.Bits.{bit_number, number, digits, each_bit, other_bit, same_bit, same_bits}
use Rattle.fab_meaning.specs.Value.{bit_at}

pub bit_each : (f : Bool → Bool → Bool) (xs ys : List Bool) (i : ℕ) → i < length xs → length xs ≡ length ys → bit_at (each_bit f xs ys) i ≡ f (bit_at xs i) (bit_at ys i)
bit_each f [] ys i l e = absurd (omega arith)
bit_each f (x ∷ xs) [] i l e = absurd (omega (arith, e))
bit_each f (x ∷ xs) (y ∷ ys) zero l e = refl
bit_each f (x ∷ xs) (y ∷ ys) (suc i) l e = bit_each f xs ys i (omega arith) (omega (arith, e))

pub bit_not : (xs : List Bool) (i : ℕ) → i < length xs → bit_at (map not xs) i ≡ not (bit_at xs i)
bit_not [] i l = absurd (omega arith)
bit_not (x ∷ xs) zero l = refl
bit_not (x ∷ xs) (suc i) l = bit_not xs i (omega arith)

-- lists agree where their bits do
pub agree : (xs ys : List Bool) → length xs ≡ length ys → ((k : ℕ) → k < length xs → bit_at xs k ≡ bit_at ys k) → true ≡ same_bits xs ys
agree [] [] e all = refl
agree [] (y ∷ ys) e all = absurd (omega (arith, e))
agree (x ∷ xs) [] e all = absurd (omega (arith, e))
agree (x ∷ xs) (y ∷ ys) e all =
    let rest : true ≡ same_bits xs ys = agree xs ys (omega (arith, e)) (λ k l. all (suc k) (omega arith)) in
    let here : x ≡ y = all 0 (omega arith) in
    same x y here ∙ (λ j. same_bit x y && rest j)
  where
    same : (x y : Bool) → x ≡ y → true ≡ same_bit x y && true
    same x y h = rw h (self y)
      where
        self : (y : Bool) → true ≡ same_bit y y && true
        self true = refl
        self false = refl

pub differ : (xs ys : List Bool) (k : ℕ) → length xs ≡ length ys → k < length xs → (bit_at xs k ≡ bit_at ys k → ⊥) → false ≡ same_bits xs ys
differ [] ys k e l ne = absurd (omega arith)
differ (x ∷ xs) [] k e l ne = absurd (omega (arith, e))
differ (true ∷ xs) (true ∷ ys) zero e l ne = absurd (ne refl)
differ (true ∷ xs) (false ∷ ys) zero e l ne = refl
differ (false ∷ xs) (true ∷ ys) zero e l ne = refl
differ (false ∷ xs) (false ∷ ys) zero e l ne = absurd (ne refl)
differ (x ∷ xs) (y ∷ ys) (suc k) e l ne =
    let rest : false ≡ same_bits xs ys = differ xs ys k (omega (arith, e)) (omega arith) ne in
    no (same_bit x y) ∙ (λ j. same_bit x y && rest j)
  where
    no : (b : Bool) → false ≡ b && false
    no true = refl
    no false = refl

-- what a place borrows from the next
abbrev pub borrowed : (x y borrow : Bool) → Bool
borrowed x y borrow = if other_bit x y then y else borrow

-- what the first places borrow
abbrev pub borrow_at : (borrow : Bool) → List Bool → List Bool → ℕ → Bool
borrow_at borrow xs ys zero = borrow
borrow_at borrow [] ys (suc i) = borrow
borrow_at borrow (x ∷ xs) [] (suc i) = borrow
borrow_at borrow (x ∷ xs) (y ∷ ys) (suc i) = borrow_at (borrowed x y borrow) xs ys i

pub borrow_more : (borrow : Bool) (xs ys : List Bool) (i : ℕ) → i < length xs → length xs ≡ length ys → borrow_at borrow xs ys (i + 1) ≡ borrowed (bit_at xs i) (bit_at ys i) (borrow_at borrow xs ys i)
borrow_more borrow [] ys i l e = absurd (omega arith)
borrow_more borrow (x ∷ xs) [] i l e = absurd (omega (arith, e))
borrow_more borrow (x ∷ xs) (y ∷ ys) zero l e = refl
borrow_more borrow (x ∷ xs) (y ∷ ys) (suc i) l e = rw add-one (let rest = borrow_more (borrowed x y borrow) xs ys i (omega arith) (omega (arith, e)) in rw add-one at rest)

pub number_lt : (bits : List Bool) → number bits < 2 ^ length bits
number_lt [] = omega arith
number_lt (true ∷ bits) = omega (arith, number_lt bits, pow-suc 2 (length bits))
number_lt (false ∷ bits) = omega (arith, number_lt bits, pow-suc 2 (length bits))

even : (n k : ℕ) → n ≡ 2 * k → (nat_eq (n % 2) 1 ≡ false) × (n / 2 ≡ k)
even n k e = (let d : (n % 2 ≡ 1) → ⊥ = omega arith in grind (arith, eqb_tells (n % 2) 1), omega arith)

odd : (n k : ℕ) → n ≡ 1 + 2 * k → (nat_eq (n % 2) 1 ≡ true) × (n / 2 ≡ k)
odd n k e = (let d : n % 2 ≡ 1 = omega arith in grind (arith, eqb_tells (n % 2) 1), omega arith)

-- one place of a difference
place_of : (x y borrow : Bool) (p a b : ℕ) → b < p →
    (nat_eq ((bit_number x + 2 * a + 2 * p - (bit_number y + 2 * b) - bit_number borrow) % 2) 1 ≡ other_bit (other_bit x y) borrow)
    × ((bit_number x + 2 * a + 2 * p - (bit_number y + 2 * b) - bit_number borrow) / 2 ≡ a + p - b - bit_number (borrowed x y borrow))
place_of true true true p a b h = odd _ (a + p - b - 1) (omega arith)
place_of true true false p a b h = even _ (a + p - b - 0) (omega arith)
place_of true false true p a b h = even _ (a + p - b - 0) (omega arith)
place_of true false false p a b h = odd _ (a + p - b - 0) (omega arith)
place_of false true true p a b h = even _ (a + p - b - 1) (omega arith)
place_of false true false p a b h = odd _ (a + p - b - 1) (omega arith)
place_of false false true p a b h = odd _ (a + p - b - 1) (omega arith)
place_of false false false p a b h = even _ (a + p - b - 0) (omega arith)

pub bit_difference : (borrow : Bool) (xs ys : List Bool) (i : ℕ) → i < length xs → length xs ≡ length ys →
    other_bit (other_bit (bit_at xs i) (bit_at ys i)) (borrow_at borrow xs ys i) ≡ bit_at (digits (length xs) (number xs + 2 ^ length xs - number ys - bit_number borrow)) i
bit_difference borrow [] ys i l e = absurd (omega arith)
bit_difference borrow (x ∷ xs) [] i l e = absurd (omega (arith, e))
bit_difference borrow (x ∷ xs) (y ∷ ys) zero l e =
    let same : length xs ≡ length ys = omega (arith, e) in
    let low : number ys < 2 ^ length xs = rw same (number_lt ys) in
    let double : 2 ^ suc (length xs) ≡ 2 * 2 ^ length xs = omega (arith, pow-suc 2 (length xs)) in
    rw double (sym (place_of x y borrow (2 ^ length xs) (number xs) (number ys) low).0)
bit_difference borrow (x ∷ xs) (y ∷ ys) (suc i) l e =
    let same : length xs ≡ length ys = omega (arith, e) in
    let low : number ys < 2 ^ length xs = rw same (number_lt ys) in
    let double : 2 ^ suc (length xs) ≡ 2 * 2 ^ length xs = omega (arith, pow-suc 2 (length xs)) in
    rw double (bit_difference (borrowed x y borrow) xs ys i (omega arith) same
    ∙ ap (λ n. bit_at (digits (length xs) n) i) (sym (place_of x y borrow (2 ^ length xs) (number xs) (number ys) low).1))

-- a bit of a range
pub bit_range : (xs : List Bool) (low high i : ℕ) → i < high + 1 - low → bit_at xs (low + i) ≡ bit_at (slice_range xs low (high + 1)) i
bit_range xs low high i l = sym (get_or-take (high + 1 - low) (drop low xs) i false l ∙ get_or-drop low xs i false)

-- the number of the bits from a place on
pub number_step : (bits : List Bool) (place : ℕ) → place < length bits → number (drop place bits) ≡ bit_number (bit_at bits place) + 2 * number (drop (place + 1) bits)
number_step bits place l = ap number (drop_more bits place false l)

pub index_fits : (bits : List Bool) (place : ℕ) → length bits < 32 → number (drop place bits) < 2 ^ 32
index_fits bits place small =
    let low = number_lt (drop place bits) in
    let high : 2 ^ length (drop place bits) ≤ 2 ^ 32 = pow_mono {i = length (drop place bits)} {j = 32} (omega (arith, length-drop place bits)) in
    omega arith

-- ---- what the code's tests say

pub unequal : (a b : Bool) → not (beq a b) ≡ true → a ≡ b → ⊥
unequal true true t e = absurd (false≢true t)
unequal true false t e = false≢true (sym e)
unequal false true t e = false≢true e
unequal false false t e = absurd (false≢true t)

pub taken : (x y borrow : Bool) → not (beq x y) ≡ true → y ≡ borrowed x y borrow
taken true true borrow t = absurd (false≢true t)
taken true false borrow t = refl
taken false true borrow t = refl
taken false false borrow t = absurd (false≢true t)

pub kept : (x y borrow : Bool) → not (beq x y) ≡ false → borrow ≡ borrowed x y borrow
kept true true borrow t = refl
kept true false borrow t = absurd (false≢true (sym t))
kept false true borrow t = absurd (false≢true (sym t))
kept false false borrow t = refl

pub xor_is : (a b : Bool) → not (beq a b) ≡ other_bit a b
xor_is true true = refl
xor_is true false = refl
xor_is false true = refl
xor_is false false = refl
