-- A table is read at its last input: the halves have its bits.
use Rattle.std.proofs.Common.{◌≡◌, ℕ, suc, ◌+◌, ◌-◌, ◌*◌, ◌/◌, ◌%◌, ◌^◌, ◌<◌, Bool, true, false, List, [], ◌∷◌, ◌++◌, length, nat_eq, if◌then◌else◌, refl, sym, ap, ◌∙◌, arith, pow-suc}
use Rattle.std.proofs.lemmas.Nat.{shr-shr, field_of}
use Rattle.std.proofs.Math.Pow.{mod-mod-pow}
use Rattle.fab_bits.specs.Bits.{bit_number, number}
use Rattle.fab_netlist.specs.WellMade.{table_bit}
use Rattle.fab_wide.specs.Split.{low_half, high_half, chooser}

-- the bits of what is left of a number
low_bits : (t p j : ℕ) → table_bit (t % 2 ^ (suc j + p)) p ≡ table_bit t p
low_bits t p j =
    let one : suc j ≡ j + 1 = omega arith in
    ap (λ x. nat_eq (x % 2) 1) (field_of t (suc j) p)
    ∙ ap (λ k. nat_eq (t / 2 ^ p % 2 ^ k % 2) 1) one
    ∙ ap (λ x. nat_eq x 1) (mod-mod-pow (t / 2 ^ p) j 1)

-- the first bits, and those behind them
pub low_bit : (n t p : ℕ) → p < 2 ^ n → table_bit (low_half n t) p ≡ table_bit t p
low_bit n t p small =
    let split : 2 ^ n ≡ suc (2 ^ n - p - 1) + p = omega (arith, small) in
    ap (λ m. table_bit (t % 2 ^ m) p) split ∙ low_bits t p (2 ^ n - p - 1)

pub high_bit : (n t p : ℕ) → table_bit (high_half n t) p ≡ table_bit t (2 ^ n + p)
high_bit n t p = ap (λ x. nat_eq (x % 2) 1) (shr-shr t (2 ^ n) p)

-- a number of so many bits
pub number_small : (bits : List Bool) → number bits < 2 ^ length bits
number_small [] = omega arith
number_small (true ∷ bits) = omega (arith, number_small bits, pow-suc 2 (length bits))
number_small (false ∷ bits) = omega (arith, number_small bits, pow-suc 2 (length bits))

-- with one bit more
number_push : (bits : List Bool) (last : Bool) → number (bits ++ last ∷ []) ≡ number bits + bit_number last * 2 ^ length bits
number_push [] true = refl
number_push [] false = refl
number_push (bit ∷ bits) true = omega (arith, number_push bits true, pow-suc 2 (length bits))
number_push (bit ∷ bits) false = omega (arith, number_push bits false)

-- a table where one input more stands last
pub table_push : (table : ℕ) (bits : List Bool) (last : Bool) →
    table_bit table (number (bits ++ last ∷ [])) ≡ (if last then table_bit (high_half (length bits) table) (number bits) else table_bit
    (low_half (length bits) table) (number bits))
table_push table bits true =
    let at : number bits + 1 * 2 ^ length bits ≡ 2 ^ length bits + number bits = omega arith in
    ap (table_bit table) (number_push bits true ∙ at) ∙ sym (high_bit (length bits) table (number bits))
table_push table bits false =
    let at : number bits + 0 * 2 ^ length bits ≡ number bits = omega arith in
    ap (table_bit table) (number_push bits false ∙ at) ∙ sym (low_bit (length bits) table (number bits) (number_small bits))

-- what the chooser gives
pub chooses : (a b last : Bool) → table_bit chooser (number (a ∷ b ∷ last ∷ [])) ≡ (if last then b else a)
chooses true true true = refl
chooses true true false = refl
chooses true false true = refl
chooses true false false = refl
chooses false true true = refl
chooses false true false = refl
chooses false false true = refl
chooses false false false = refl
