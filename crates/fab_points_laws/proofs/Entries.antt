-- The entry of a table that repeats depends on the first bits of its index alone.
use Rattle.std.proofs.Common.{◌≡◌, ℕ, zero, suc, ◌+◌, ◌*◌, ◌^◌, ◌%◌, ◌<◌, ◌≤◌, Bool, true, false, List, [], ◌∷◌, ◌++◌, length, map, take, refl, sym, ap, ap₂, ◌∙◌, subst, arith}
use Rattle.std.proofs.Math.Nat.{pow-suc}
use Rattle.fab_bits.specs.Bits.{number, first_bits}
use Rattle.fab_bits.proofs.Numbers.{get_first_bits}
use Rattle.fab_meaning.specs.Value.{bit_at}
use Rattle.fab_systems_laws.specs.Ternary.{Tern, no, yes, unknown, known}
use Rattle.fab_ternary_laws.specs.Operators.{agreed, evens, odds, entry}
use Rattle.fab_ternary_laws.specs.Laws.{Fits}
use Rattle.fab_ternary_laws.proofs.Known.{known_at, evens_map, odds_map, even_at, odd_at}
use Rattle.fab_ternary_laws.proofs.Picks.{agreed_entry}

-- bits that are allowed are as many
fits_long : (index : List Tern) (choice : List Bool) → Fits index choice → length choice ≡ length index
fits_long [] [] fits = refl
fits_long [] (b ∷ choice) fits = absurd fits
fits_long (u ∷ index) [] fits = absurd fits
fits_long (u ∷ index) (b ∷ choice) fits = ap suc (fits_long index choice fits.1)

pub number_small : (bits : List Bool) → number bits < 2 ^ length bits
number_small [] = omega arith
number_small (true ∷ bits) = omega (arith, number_small bits, pow-suc 2 (length bits))
number_small (false ∷ bits) = omega (arith, number_small bits, pow-suc 2 (length bits))

-- the table has the same bits again behind its first ones
abbrev Repeats : List Bool → (size times : ℕ) → Type 0
Repeats bits size times = (k place : ℕ) → place < size → k < times → bit_at bits (place + size * k) ≡ bit_at bits place

even_repeats : (bits : List Bool) (size times : ℕ) → Repeats bits (2 * size) times → Repeats (evens bits) size times
even_repeats bits size times all k place few low =
    let e : 2 * (place + size * k) ≡ 2 * place + 2 * size * k = search (arith) in
    even_at bits (place + size * k) ∙ ap (bit_at bits) e ∙ all k (2 * place) (omega arith) low ∙ sym (even_at bits place)

odd_repeats : (bits : List Bool) (size times : ℕ) → Repeats bits (2 * size) times → Repeats (odds bits) size times
odd_repeats bits size times all k place few low =
    let e : 1 + 2 * (place + size * k) ≡ 1 + 2 * place + 2 * size * k = search (arith) in
    odd_at bits (place + size * k) ∙ ap (bit_at bits) e ∙ all k (1 + 2 * place) (omega arith) low ∙ sym (odd_at bits place)

-- of a longer index
halved : (bits : List Bool) (index rest : List Tern) → Repeats bits (2 ^ suc (length index)) (2 ^ length rest) → Repeats bits (2 * 2 ^ length index) (2 ^ length rest)
halved bits index rest all =
    let e : 2 ^ suc (length index) ≡ 2 * 2 ^ length index = omega (arith, pow-suc 2 (length index)) in
    subst (λ n. Repeats bits n (2 ^ length rest)) e all

pub entry_drops : (bits : List Bool) (index rest : List Tern) → Repeats bits (2 ^ length index) (2 ^ length rest) →
    entry (map known bits) (index ++ rest) ≡ entry (map known bits) index
entry_drops bits [] rest all =
    agreed_entry bits rest (bit_at bits 0) (λ choice fits.
    let small : number choice < 2 ^ length choice = number_small choice in
    let long : length choice ≡ length rest = fits_long rest choice fits in
    let few : number choice < 2 ^ length rest = rw long at small in
    let e : number choice ≡ 0 + 1 * number choice = omega arith in
    ap (bit_at bits) e ∙ all (number choice) 0 (omega arith) few)
    ∙ sym (known_at bits 0)
entry_drops bits (no ∷ index) rest all =
    ap (λ ts. entry ts (index ++ rest)) (evens_map bits)
    ∙ entry_drops (evens bits) index rest (even_repeats bits (2 ^ length index) (2 ^ length rest) (halved bits index rest all))
    ∙ sym (ap (λ ts. entry ts index) (evens_map bits))
entry_drops bits (yes ∷ index) rest all =
    ap (λ ts. entry ts (index ++ rest)) (odds_map bits)
    ∙ entry_drops (odds bits) index rest (odd_repeats bits (2 ^ length index) (2 ^ length rest) (halved bits index rest all))
    ∙ sym (ap (λ ts. entry ts index) (odds_map bits))
entry_drops bits (unknown ∷ index) rest all =
    ap₂ agreed
    (ap (λ ts. entry ts (index ++ rest)) (evens_map bits)
    ∙ entry_drops (evens bits) index rest (even_repeats bits (2 ^ length index) (2 ^ length rest) (halved bits index rest all))
    ∙ sym (ap (λ ts. entry ts index) (evens_map bits)))
    (ap (λ ts. entry ts (index ++ rest)) (odds_map bits)
    ∙ entry_drops (odds bits) index rest (odd_repeats bits (2 ^ length index) (2 ^ length rest) (halved bits index rest all))
    ∙ sym (ap (λ ts. entry ts index) (odds_map bits)))

-- ---- tables of 16 bits

module _ (f : ℕ → Bool) where
  at_place : (place : ℕ) → place < 16 → bit_at (first_bits 16 f) place ≡ f place
  at_place place few = get_first_bits 16 f place false few

  abbrev IsRepeated : ℕ → Type 0
  IsRepeated size = (place : ℕ) → place < 16 → f place ≡ f (place % size)

  repeats_1 : IsRepeated 1 → Repeats (first_bits 16 f) 1 16
  repeats_1 all k place few low =
      let a : (place + 1 * k) % 1 ≡ place % 1 = omega arith in
      at_place (place + 1 * k) (omega arith) ∙ all (place + 1 * k) (omega arith) ∙ ap f a ∙ sym (all place (omega arith)) ∙ sym (at_place place (omega arith))

  repeats_2 : IsRepeated 2 → Repeats (first_bits 16 f) 2 8
  repeats_2 all k place few low =
      let a : (place + 2 * k) % 2 ≡ place % 2 = omega arith in
      at_place (place + 2 * k) (omega arith) ∙ all (place + 2 * k) (omega arith) ∙ ap f a ∙ sym (all place (omega arith)) ∙ sym (at_place place (omega arith))

  repeats_4 : IsRepeated 4 → Repeats (first_bits 16 f) 4 4
  repeats_4 all k place few low =
      let a : (place + 4 * k) % 4 ≡ place % 4 = omega arith in
      at_place (place + 4 * k) (omega arith) ∙ all (place + 4 * k) (omega arith) ∙ ap f a ∙ sym (all place (omega arith)) ∙ sym (at_place place (omega arith))

  repeats_8 : IsRepeated 8 → Repeats (first_bits 16 f) 8 2
  repeats_8 all k place few low =
      let a : (place + 8 * k) % 8 ≡ place % 8 = omega arith in
      at_place (place + 8 * k) (omega arith) ∙ all (place + 8 * k) (omega arith) ∙ ap f a ∙ sym (all place (omega arith)) ∙ sym (at_place place (omega arith))

  -- of four bits of the index the first so many decide
  pub index_drops : (n : ℕ) (a b c d : Tern) → n ≤ 4 → IsRepeated (2 ^ n) →
      entry (map known (first_bits 16 f)) (a ∷ b ∷ c ∷ d ∷ []) ≡ entry (map known (first_bits 16 f)) (take n (a ∷ b ∷ c ∷ d ∷ []))
  index_drops zero a b c d few all = entry_drops (first_bits 16 f) [] (a ∷ b ∷ c ∷ d ∷ []) (repeats_1 all)
  index_drops (suc zero) a b c d few all = entry_drops (first_bits 16 f) (a ∷ []) (b ∷ c ∷ d ∷ []) (repeats_2 all)
  index_drops (suc (suc zero)) a b c d few all = entry_drops (first_bits 16 f) (a ∷ b ∷ []) (c ∷ d ∷ []) (repeats_4 all)
  index_drops (suc (suc (suc zero))) a b c d few all = entry_drops (first_bits 16 f) (a ∷ b ∷ c ∷ []) (d ∷ []) (repeats_8 all)
  index_drops (suc (suc (suc (suc zero)))) a b c d few all = refl
  index_drops (suc (suc (suc (suc (suc n))))) a b c d few all = absurd (omega (arith, few))
