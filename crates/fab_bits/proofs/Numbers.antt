-- Laws of bits and numbers.
use Rattle.std.proofs.Common.{◌≡◌, ℕ, zero, suc, ◌+◌, ◌-◌, ◌*◌, ◌/◌, ◌%◌, ◌^◌, ◌<◌, ◌≤◌, Bool, true, false, ◌&&◌, List, [], ◌∷◌, ◌++◌, length, get_or, take, drop, eqb, refl, ap, ◌∙◌, arith, pow-suc, nat_eq, zero-add, suc-add, slice_range, append_assoc}
use Rattle.std.proofs.lemmas.Bool.Decides.{eqb_tells}
use Rattle.fab_bits.specs.Bits.{bit_number, number, digits, first_bits, same_bit, same_bits}

pub length_first_bits : (n : ℕ) (f : ℕ → Bool) → length (first_bits n f) ≡ n
length_first_bits zero f = refl
length_first_bits (suc n) f = ap suc (length_first_bits n (λ place. f (suc place)))

pub get_first_bits : (n : ℕ) (f : ℕ → Bool) (i : ℕ) (d : Bool) → i < n → get_or (first_bits n f) i d ≡ f i
get_first_bits zero f i d h = absurd (omega arith)
get_first_bits (suc n) f zero d h = refl
get_first_bits (suc n) f (suc i) d h = get_first_bits n (λ place. f (suc place)) i d (omega arith)

pub first_bits_same : (n : ℕ) (f g : ℕ → Bool) → ((i : ℕ) → i < n → f i ≡ g i) → first_bits n f ≡ first_bits n g
first_bits_same zero f g h = refl
first_bits_same (suc n) f g h =
    let rest : first_bits n (λ i. f (suc i)) ≡ first_bits n (λ i. g (suc i)) = first_bits_same n (λ i. f (suc i)) (λ i. g (suc i)) (λ i l. h (suc i) (omega arith)) in
    let here : f 0 ≡ g 0 = h 0 (omega arith) in
    cc

pub take_first_bits : (n m : ℕ) (f : ℕ → Bool) → n ≤ m → take n (first_bits m f) ≡ first_bits n f
take_first_bits zero m f h = refl
take_first_bits (suc n) zero f h = absurd (omega arith)
take_first_bits (suc n) (suc m) f h = ap (λ bits. f 0 ∷ bits) (take_first_bits n m (λ i. f (suc i)) (omega arith))

pub drop_first_bits : (k n : ℕ) (f : ℕ → Bool) → drop k (first_bits (k + n) f) ≡ first_bits n (λ i. f (k + i))
drop_first_bits zero n f = rw zero-add (first_bits_same n f (λ i. f (0 + i)) (λ i l. ap f (omega arith)))
drop_first_bits (suc k) n f =
    rw suc-add (drop_first_bits k n (λ i. f (suc i)) ∙ first_bits_same n (λ i. f (suc (k + i))) (λ i. f (suc k + i)) (λ i l. ap f (omega arith)))

-- the bits of a field that lies within a vector
pub range_first_bits : (m low width : ℕ) (f : ℕ → Bool) → 0 < width → low + width ≤ m →
    slice_range (first_bits m f) low (low + width - 1 + 1) ≡ first_bits width (λ i. f (low + i))
range_first_bits m low width f some within =
    let high : low + width - 1 + 1 - low ≡ width = omega arith in
    let parted : m ≡ low + (m - low) = omega arith in
    rw high (ap (λ k. take width (drop low (first_bits k f))) parted ∙ ap (take width) (drop_first_bits low (m - low) f) ∙ take_first_bits width (m - low) (λ i. f (low + i)) (omega arith))

-- the first bit and the rest of a number
by_halves : (bit : Bool) (k n : ℕ) (rest : Bool) → rest ≡ eqb k (n / 2) → same_bit bit (eqb (n % 2) 1) && rest ≡ eqb (bit_number bit + 2 * k) n
by_halves true k n rest h = grind (arith, eqb_tells (n % 2) 1, eqb_tells k (n / 2), eqb_tells (1 + 2 * k) n)
by_halves false k n rest h = grind (arith, eqb_tells (n % 2) 1, eqb_tells k (n / 2), eqb_tells (0 + 2 * k) n)

-- bits are those of a number exactly where they stand for it
pub same_bits_digits : (bits : List Bool) (n : ℕ) → n < 2 ^ length bits → same_bits bits (digits (length bits) n) ≡ nat_eq (number bits) n
same_bits_digits [] n h = grind (arith, eqb_tells 0 n)
same_bits_digits (bit ∷ bits) n h =
    let low : n / 2 < 2 ^ length bits = omega (arith, pow-suc 2 (length bits)) in
    by_halves bit (number bits) n (same_bits bits (digits (length bits) (n / 2))) (same_bits_digits bits (n / 2) low)

-- one digit more
pub digit_more : (bits : List Bool) (width i n : ℕ) → i < width → (bits ++ nat_eq (n % 2) 1 ∷ []) ++ digits (width - (i + 1)) (n / 2) ≡ bits ++ digits (width - i) n
digit_more bits width i n h =
    let e : width - i ≡ suc (width - (i + 1)) = omega arith in
    rw (e, append_assoc) refl
