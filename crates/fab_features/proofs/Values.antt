-- The numbers that bits spell, from their most significant bit on, and the inputs that they pick.
use Rattle.std.proofs.Common.{◌⊎◌, [], ◌∷◌, length, get_or, slice_get, Some, None, nat_eq, inl, inr, eq-eqb, eqb-true, ◌≡◌, ℕ, zero, suc, ◌+◌, ◌-◌, ◌*◌, ◌^◌, ◌<◌, ◌≤◌, Bool, true, false, min, List, ap, ◌∙◌, sym, refl, arith, add-one, pow-suc}
use Rattle.std.proofs.lemmas.Bool.{false≢true, cases_Bool}
use Rattle.fab_bits.specs.Bits.{bit_number, number, first_bits}
use Rattle.fab_bits.proofs.Numbers.{first_bits_same}
use Rattle.fab_lines.specs.Numbers.{capped}
use Rattle.fab_model.specs.Tiles.{PlainTile}
use Rattle.fab_model.specs.Drive.{select_value, matrix_inputs}
use Rattle.fab_features.specs.Spelled.{picked_input}

bit_small : (bit : Bool) → bit_number bit ≤ 1
bit_small true = omega arith
bit_small false = omega arith

-- what so many bits spell is below the power of two
pub number_below : (width : ℕ) (f : ℕ → Bool) → number (first_bits width f) < 2 ^ width
number_below zero f = (let one : 2 ^ zero ≡ 1 = refl in omega (arith, one))
number_below (suc width) f = omega (arith, number_below width (λ place. f (suc place)), bit_small (f 0), pow-suc 2 width)

-- the bits from a lower one on
pub one_lower : (f : ℕ → Bool) (low width place : ℕ) → place < width →
    number (first_bits (place + 1) (λ k. f (low + (width - (place + 1)) + k))) ≡ bit_number (f (low + (width - 1 - place))) + 2 * number (first_bits place (λ k. f (low + (width - place) + k)))
one_lower f low width place few =
    let first : low + (width - (place + 1)) + 0 ≡ low + (width - 1 - place) = omega arith in
    let rest : first_bits place (λ k. f (low + (width - (place + 1)) + suc k)) ≡ first_bits place (λ k. f (low + (width - place) + k)) =
    first_bits_same place (λ k. f (low + (width - (place + 1)) + suc k)) (λ k. f (low + (width - place) + k)) (λ k small. ap f (omega (arith, few))) in
    ap (λ n. number (first_bits n (λ k. f (low + (width - (place + 1)) + k)))) (add-one place)
    ∙ ap (λ n. bit_number (f n) + 2 * number (first_bits place (λ k. f (low + (width - (place + 1)) + suc k)))) first
    ∙ ap (λ (bits : List Bool). bit_number (f (low + (width - 1 - place))) + 2 * number bits) rest

least_step : (most n bit : ℕ) → min (min (min n most * 2) most + bit) most ≡ min (bit + 2 * n) most
least_step most n bit = omega arith

pub capped_step : (n bit : ℕ) → capped (capped (capped n * 2) + bit) ≡ capped (bit + 2 * n)
capped_step n bit = least_step (2 ^ 64 - 1) n bit

pub capped_small : (n : ℕ) → n < 2 ^ 16 → capped n ≡ n
capped_small n small = omega (arith, small)

-- ---- what select bits pick

get_past : (xs : List ℕ) (n : ℕ) → length xs ≤ n → slice_get xs n ≡ None
get_past [] n past = refl
get_past (x ∷ xs) zero past = absurd (omega (arith, past))
get_past (x ∷ xs) (suc n) past = get_past xs n (omega (arith, past))

get_there : (xs : List ℕ) (n d : ℕ) → n < length xs → slice_get xs n ≡ Some (get_or xs n d)
get_there [] n d few = absurd (omega (arith, few))
get_there (x ∷ xs) zero d few = refl
get_there (x ∷ xs) (suc n) d few = get_there xs n d (omega (arith, few))

module _ (tile : PlainTile) (bits : ℕ → Bool) (output value : ℕ) (inputs : List ℕ) (value_is : value ≡ capped (select_value tile bits output)) (inputs_are : inputs ≡ matrix_inputs tile output) where
  pub picked_none : (value ≡ 0) ⊎ ((value ≡ 0 → ⊥) × (length inputs ≤ value)) → None ≡ picked_input tile bits output
  picked_none either =
      let picked = select_value tile bits output in
      elim (cases_Bool (nat_eq picked 0)) [
        | inl t ↦ rw t refl
        | inr f ↦ (
            let past : length (matrix_inputs tile output) ≤ picked =
            elim either [
              | inl zero_is ↦ (let none : picked ≡ 0 = omega (arith, zero_is, value_is) in absurd (false≢true (sym f ∙ eq-eqb picked 0 none)))
              | inr some ↦ omega (arith, some.1, value_is, ap length inputs_are)
            ] in
            rw f (sym (get_past (matrix_inputs tile output) picked past)))
      ]

  pub picked_some : (value ≡ 0 → ⊥) → value < length inputs → length inputs < 2 ^ 64 → Some (get_or inputs value 0) ≡ picked_input tile bits output
  picked_some some few fits =
      let picked = select_value tile bits output in
      let same : value ≡ picked = omega (arith, value_is, few, fits) in
      elim (cases_Bool (nat_eq picked 0)) [
        | inl t ↦ absurd (some (same ∙ eqb-true picked 0 t))
        | inr f ↦ rw f (sym (ap (λ (xs : List ℕ). slice_get xs picked) (sym inputs_are) ∙ ap (slice_get inputs) (sym same) ∙ get_there inputs value 0 few))
      ]
