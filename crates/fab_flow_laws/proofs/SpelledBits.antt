-- The bits of spelled numbers, and the inputs that select values pick.
use Rattle.std.proofs.Common.{◌≡◌, ◌≢◌, ◌⊎◌, ℕ, zero, suc, ◌+◌, ◌*◌, ◌/◌, ◌%◌, ◌^◌, ◌<◌, Bool, true, false, cond, List, [], ◌∷◌, get_or, AllPairs, Some, None, nat_eq, slice_get, sym, refl, ap, ap₂, ◌∙◌, inl, inr, arith, eqb-true, eq-eqb}
use Rattle.std.specs.List.{list_any}
use Rattle.std.proofs.lemmas.Bool.{false≢true, cases_Bool}
use Rattle.std.proofs.lemmas.Bool.Decides.{eqb_tells}
use Rattle.std.proofs.lemmas.List.Sums.{passes_at_first}
use Rattle.std.proofs.lemmas.Nat.{shr-shr}
use Rattle.std.proofs.lemmas.Option.{slice_get_within, get_or_from_slice_get}
use Rattle.std.proofs.Math.Nat.{zero-div}
use Rattle.fab_bits.specs.Bits.{bit_number, number, first_bits}
use Rattle.fab_select.specs.Selection.{inputs_of}
use Rattle.fab_model.specs.Tiles.{PlainTile}
use Rattle.fab_model.specs.Drive.{matrix_inputs, select_value, input_at}
use Rattle.fab_netlist.specs.WellMade.{table_bit}
use Rattle.fab_netlist.proofs.Members.{any_by}
use Rattle.fab_legal.proofs.PortNumbers.{place_in}
use Rattle.fab_use_defs.proofs.fab_tile_drives_laws_Members.{contains_at}
use Rattle.fab_features.specs.Features.{place_among}
use Rattle.fab_features.specs.Spelled.{picked_input}

-- ---- numbers

lowest : (b : Bool) (k : ℕ) → table_bit (bit_number b + 2 * k) 0 ≡ b
lowest true k = let one : (1 + 2 * k) / 1 % 2 ≡ 1 = omega arith in rw one refl
lowest false k = let none : (0 + 2 * k) / 1 % 2 ≡ 0 = omega arith in rw none refl

halved : (b : Bool) (k : ℕ) → (bit_number b + 2 * k) / 2 ≡ k
halved true k = omega arith
halved false k = omega arith

higher : (b : Bool) (k place : ℕ) → (bit_number b + 2 * k) / 2 ^ suc place ≡ k / 2 ^ place
higher b k place =
    let more : suc place ≡ 1 + place = omega arith in
    ap (λ (p : ℕ). (bit_number b + 2 * k) / 2 ^ p) more ∙ sym (shr-shr (bit_number b + 2 * k) 1 place) ∙ ap (λ (n : ℕ). n / 2 ^ place) (halved b k)

-- the bits of the number that bits spell are these bits
pub spelled_bit : (width : ℕ) (f : ℕ → Bool) (place : ℕ) → place < width → table_bit (number (first_bits width f)) place ≡ f place
spelled_bit zero f place few = absurd (omega (arith, few))
spelled_bit (suc width) f zero few = lowest (f 0) (number (first_bits width (λ i. f (suc i))))
spelled_bit (suc width) f (suc place) few =
    ap (λ (k : ℕ). nat_eq (k % 2) 1) (higher (f 0) (number (first_bits width (λ i. f (suc i)))) place)
    ∙ spelled_bit width (λ i. f (suc i)) place (omega (arith, few))

-- 0 has no bit that is 1
pub none_set : (place : ℕ) → table_bit 0 place ≡ true → ⊥
none_set place one = false≢true (ap (λ n. nat_eq (n % 2) 1) (sym (zero-div (2 ^ place))) ∙ one)

-- ---- picked inputs

-- the input at the place of an input
pub input_there : (inputs : List ℕ) (input : ℕ) → list_any (λ other. nat_eq other input) inputs ≡ true → input_at inputs (place_among inputs input) ≡ Some input
input_there [] input there = absurd (false≢true there)
input_there (first ∷ inputs) input there =
    let k = place_among (first ∷ inputs) input in
    let few = place_in (λ other. nat_eq other input) (first ∷ inputs) there in
    ap (λ n. Some n) (eqb-true (get_or (first ∷ inputs) k first) input (passes_at_first (λ other. nat_eq other input) (first ∷ inputs) first few))

input_at_number : (inputs : List ℕ) (k input : ℕ) → slice_get inputs k ≡ Some input → input_at inputs k ≡ Some input
input_at_number [] k input is = absurd cc
input_at_number (first ∷ inputs) k input is = ap (λ n. Some n) (get_or_from_slice_get (first ∷ inputs) k input first is)

none_there : (xs : List ℕ) (k d : ℕ) → slice_get xs k ≡ None → get_or xs k d ≡ d
none_there [] k d none = refl
none_there (x ∷ xs) zero d none = absurd cc
none_there (x ∷ xs) (suc k) d none = none_there xs k d none

first_input : (inputs : List ℕ) (k : ℕ) → slice_get inputs k ≡ None → input_at inputs k ≡ input_at inputs 0
first_input [] k none = refl
first_input (first ∷ inputs) k none = ap (λ n. Some n) (none_there (first ∷ inputs) k first none)

module _ (tile : PlainTile) (bits : ℕ → Bool) (output : ℕ) where
  abbrev inputs : List ℕ
  inputs = matrix_inputs tile output

  abbrev value : ℕ
  value = select_value tile bits output

  -- a picked input stands at the value
  pub picked_at : (input : ℕ) → picked_input tile bits output ≡ Some input → slice_get inputs value ≡ Some input
  picked_at input is = by (nat_eq value 0) is
    where
      by : (b : Bool) → cond b None (slice_get inputs value) ≡ Some input → slice_get inputs value ≡ Some input
      by true e = absurd cc
      by false e = e

  pub picked_listed : (input : ℕ) → picked_input tile bits output ≡ Some input → list_any (λ other. nat_eq other input) inputs ≡ true
  picked_listed input is = any_by (λ other. nat_eq other input) inputs input (contains_at inputs value input (picked_at input is)) (eq-eqb input input refl)

  pub picked_drives : (input : ℕ) → picked_input tile bits output ≡ Some input → input_at inputs value ≡ Some input
  picked_drives input is = input_at_number inputs value input (picked_at input is)

  -- where none is picked, the value is 0, or no input stands there
  pub none_picked : picked_input tile bits output ≡ None → (value ≡ 0) ⊎ (slice_get inputs value ≡ None)
  none_picked is = elim (cases_Bool (nat_eq value 0)) [ inl t ↦ inl (eqb-true value 0 t) | inr f ↦ inr (rw f at is) ]

  pub none_drives : picked_input tile bits output ≡ None → input_at inputs value ≡ input_at inputs 0
  none_drives is = elim (none_picked is) [ inl zero_is ↦ ap (input_at inputs) zero_is | inr none ↦ first_input inputs value none ]

-- ---- inputs that stand once

abbrev PairsDiffer : List (ℕ × ℕ) → Type 0
PairsDiffer pairs = AllPairs (λ first second. first ≢ second) pairs

differ_tail : (pair : ℕ × ℕ) (pairs : List (ℕ × ℕ)) → PairsDiffer (pair ∷ pairs) → PairsDiffer pairs
differ_tail pair pairs differ i j d less inside = differ (suc i) (suc j) d (omega (arith, less)) (omega (arith, inside))

differ_head : (pair : ℕ × ℕ) (pairs : List (ℕ × ℕ)) (k : ℕ) (other : ℕ × ℕ) → PairsDiffer (pair ∷ pairs) → slice_get pairs k ≡ Some other → pair ≢ other
differ_head pair pairs k other differ is same =
    let inside = slice_get_within pairs k other is in
    differ 0 (suc k) pair (omega arith) (omega (arith, inside)) (same ∙ sym (get_or_from_slice_get pairs k other pair is))

same_number : (a b : ℕ) → Some a ≡ Some b → a ≡ b
same_number a b e = cc

-- the pair of an input
pair_at : (pairs : List (ℕ × ℕ)) (output k input : ℕ) → slice_get (inputs_of nat_eq pairs output) k ≡ Some input →
    (place : ℕ) × (slice_get pairs place ≡ Some (output, input))
pair_at [] output k input is = absurd cc
pair_at (pair ∷ pairs) output k input is =
    let later : (n : ℕ) → slice_get (inputs_of nat_eq pairs output) n ≡ Some input → (place : ℕ) × (slice_get pairs place ≡ Some (output, input)) =
    λ n e. pair_at pairs output n input e in
    elim (cases_Bool (nat_eq pair.0 output)) [
      | inl t ↦ here later (eqb-true pair.0 output t) k (rw t at is)
      | inr f ↦ (let more = later k (rw f at is) in (suc more.0, more.1))
    ]
  where
    here : ((n : ℕ) → slice_get (inputs_of nat_eq pairs output) n ≡ Some input → (place : ℕ) × (slice_get pairs place ≡ Some (output, input))) →
        pair.0 ≡ output →
        (k : ℕ) → slice_get (pair.1 ∷ inputs_of nat_eq pairs output) k ≡ Some input → (place : ℕ) × (slice_get (pair ∷ pairs) place ≡ Some (output, input))
    here later same zero e = (0, ap₂ (λ (a b : ℕ). Some (a, b)) same (same_number pair.1 input e))
    here later same (suc k) e = (let more = later k e in (suc more.0, more.1))

-- where no pair stands twice, the place of an input is where it stands
pub own_place : (pairs : List (ℕ × ℕ)) (output k input : ℕ) → PairsDiffer pairs → slice_get (inputs_of nat_eq pairs output) k ≡ Some input →
    place_among (inputs_of nat_eq pairs output) input ≡ k
own_place [] output k input differ is = absurd cc
own_place (pair ∷ pairs) output k input differ is =
    let later : (n : ℕ) → slice_get (inputs_of nat_eq pairs output) n ≡ Some input → place_among (inputs_of nat_eq pairs output) input ≡ n =
    λ n e. own_place pairs output n input (differ_tail pair pairs differ) e in
    elim (cases_Bool (nat_eq pair.0 output)) [
      | inl t ↦ (let at : slice_get (pair.1 ∷ inputs_of nat_eq pairs output) k ≡ Some input = rw t at is in rw t (here later (eqb-true pair.0 output t) k at))
      | inr f ↦ (let at : slice_get (inputs_of nat_eq pairs output) k ≡ Some input = rw f at is in rw f (later k at))
    ]
  where
    here : ((n : ℕ) → slice_get (inputs_of nat_eq pairs output) n ≡ Some input → place_among (inputs_of nat_eq pairs output) input ≡ n) → pair.0 ≡ output →
        (k : ℕ) → slice_get (pair.1 ∷ inputs_of nat_eq pairs output) k ≡ Some input → place_among (pair.1 ∷ inputs_of nat_eq pairs output) input ≡ k
    here later same zero e = (let first : nat_eq pair.1 input ≡ true = eq-eqb pair.1 input (same_number pair.1 input e) in rw first refl)
    here later same (suc k) e =
        let found = pair_at pairs output k input e in
        let other : nat_eq pair.1 input ≡ false =
        elim (eqb_tells pair.1 input) [
          | inl t ↦ absurd (differ_head pair pairs found.0 (output, input) differ found.1 (ap₂ (λ (a b : ℕ). let p : ℕ × ℕ = (a, b) in p) same t.1))
          | inr f ↦ f.0
        ] in
        rw other (omega (arith, later k e))
