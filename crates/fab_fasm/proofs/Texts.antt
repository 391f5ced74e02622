-- The texts of an address and of a value, by cases.
use Rattle.std.proofs.Common.{◌≡◌, ℕ, eqb, List, [], ◌∷◌, ◌++◌, refl, ap, inl, inr, append_assoc, ◌&&◌}
use Rattle.std.specs.Prelude.{decimal}
use Rattle.std.proofs.lemmas.Bool.{cases_Bool, and_parts, eqb-true}
use Rattle.fab_fasm.specs.Printing.{address_text, value_text, binary}

-- bit 0, another bit, or several
pub data AddressText (high low : ℕ) : Type 0 where
  Left : (text : address_text high low ≡ []) → high ≡ 0 → low ≡ 0 → AddressText high low
  One : (text : address_text high low ≡ 91 ∷ (decimal high ++ 93 ∷ [])) → high ≡ low → AddressText high low
  Two : (text : address_text high low ≡ 91 ∷ ((decimal high ++ 58 ∷ decimal low) ++ 93 ∷ [])) → AddressText high low

pub address_cases : (high low : ℕ) → AddressText high low
unfolding address_text
address_cases high low = elim (cases_Bool (eqb high 0 && eqb low 0)) [
  | inl none ↦ let both = and_parts (eqb high 0) (eqb low 0) none in Left (rw none refl) (eqb-true high 0 both.0) (eqb-true low 0 both.1)
  | inr some ↦ elim (cases_Bool (eqb high low)) [
    | inl same ↦ One (rw (some, same) refl) (eqb-true high low same)
    | inr other ↦ Two (rw (some, other) (ap (λ (l : List ℕ). 91 ∷ (l ++ 93 ∷ [])) (append_assoc (decimal high) (58 ∷ []) (decimal low))))
  ]
]

-- one bit that is 1, or any other value
pub data ValueText (width value : ℕ) : Type 0 where
  LeftOut : (text : value_text width value ≡ []) → width ≡ 1 → value ≡ 1 → ValueText width value
  Spelt : (text : value_text width value ≡ 32 ∷ 61 ∷ 32 ∷ (decimal width ++ 39 ∷ 98 ∷ binary width value)) → ValueText width value

pub value_cases : (width value : ℕ) → ValueText width value
unfolding value_text
value_cases width value = elim (cases_Bool (eqb width 1 && eqb value 1)) [
  | inl none ↦ let both = and_parts (eqb width 1) (eqb value 1) none in LeftOut (rw none refl) (eqb-true width 1 both.0) (eqb-true value 1 both.1)
  | inr some ↦ Spelt (rw some (ap (λ (l : List ℕ). 32 ∷ 61 ∷ 32 ∷ l) (append_assoc (decimal width) (39 ∷ 98 ∷ []) (binary width value))))
]
