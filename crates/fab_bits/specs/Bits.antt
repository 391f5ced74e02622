-- Bits as lists, the least significant first.
use Rattle.std.specs.Prelude.{ℕ, zero, suc, ◌+◌, ◌*◌, ◌/◌, ◌%◌, Bool, true, false, cond, not, ◌&&◌, List, [], ◌∷◌, if◌then◌else◌, nat_eq}

abbrev pub bit_number : Bool → ℕ
bit_number bit = if bit then 1 else 0

-- the number that bits stand for
abbrev pub number : List Bool → ℕ
number [] = 0
number (bit ∷ bits) = bit_number bit + 2 * number bits

-- the bits of a number at a width
abbrev pub digits : (width n : ℕ) → List Bool
digits zero n = []
digits (suc width) n = nat_eq (n % 2) 1 ∷ digits width (n / 2)

-- the bits that a function has at the places 0 to n - 1
abbrev pub first_bits : (n : ℕ) → (ℕ → Bool) → List Bool
first_bits zero f = []
first_bits (suc n) f = f 0 ∷ first_bits n (λ place. f (suc place))

abbrev pub same_bit : Bool → Bool → Bool
same_bit a b = cond a b (not b)

abbrev pub other_bit : Bool → Bool → Bool
other_bit a b = cond a (not b) b

-- an operator at each place, as far as both lists go
abbrev pub each_bit : (Bool → Bool → Bool) → List Bool → List Bool → List Bool
each_bit f [] bs = []
each_bit f (a ∷ more) [] = []
each_bit f (a ∷ more) (b ∷ bs) = f a b ∷ each_bit f more bs

-- whether two lists agree at all places
abbrev pub same_bits : List Bool → List Bool → Bool
same_bits [] [] = true
same_bits [] (b ∷ bs) = false
same_bits (a ∷ more) [] = false
same_bits (a ∷ more) (b ∷ bs) = same_bit a b && same_bits more bs
