-- What a chain of tests selects.
use Rattle.std.proofs.Common.{◌≡◌, ◌≢◌, ℕ, zero, suc, ◌+◌, ◌-◌, ◌^◌, ◌<◌, ◌≤◌, Bool, List, [], ◌∷◌, length, get_or, refl, ap, ◌∙◌, inl, inr, arith, nat_eq, nat_lt, if◌then◌else◌, lt-ltb, le-ltb, subst}
use Rattle.std.proofs.lemmas.Bool.Decides.{eqb_tells}
use Rattle.std.proofs.lemmas.Bool.{cases_Bool, cases_lt}
use Rattle.fab_bits.specs.Bits.{number, digits, same_bits}
use Rattle.fab_bits.proofs.Numbers.{same_bits_digits}
use Rattle.fab_meaning.specs.Value.{value}
use Rattle.fab_matrix.specs.Names.{Name}
use Rattle.fab_matrix.specs.Matrix.{field, chain, selection}

-- the input at a select value, counted from i on
abbrev at_from : (i select : ℕ) → (first : Name) → List Name → Name
at_from i select first inputs = if nat_lt select i then first else get_or inputs (select - i) first

-- the number i itself is passed over
passed : (select i : ℕ) (first input : Name) (inputs : List Name) → select ≢ i → at_from (i + 1) select first inputs ≡ at_from i select first (input ∷ inputs)
passed select i first input inputs apart =
    elim (cases_lt select i) [
      | inl l ↦ (let below : select < i + 1 = omega arith in rw (lt-ltb select i l, lt-ltb select (i + 1) below) refl)
      | inr g ↦ (
          let above : i + 1 ≤ select = omega arith in
          let next : select - i ≡ suc (select - (i + 1)) = omega arith in
          rw (le-ltb select i g, le-ltb select (i + 1) above, next) refl)
    ]

pub one_only : {X : Type 0} (x : X) (k : ℕ) → x ≡ get_or (x ∷ []) k x
one_only x zero = refl
one_only x (suc k) = refl

from_one : (select : ℕ) (first : Name) (inputs : List Name) → at_from 1 select first inputs ≡ get_or (first ∷ inputs) select first
from_one zero first inputs = refl
from_one (suc select) first inputs =
    let above : 1 ≤ suc select = omega arith in
    let next : suc select - 1 ≡ select = omega arith in
    rw (le-ltb (suc select) 1 above, next) refl

chain_value : (names : Name → List Bool) (low width i : ℕ) (first : Name) (inputs : List Name) →
    length (value names (field low width)) ≡ width → i + length inputs ≤ 2 ^ width →
    value names (chain low width i first inputs) ≡ names (at_from i (number (value names (field low width))) first inputs)
chain_value names low width i first [] long room =
    ap names (elim (cases_Bool (nat_lt (number (value names (field low width))) i)) [ inl t ↦ rw t refl | inr f ↦ rw f refl ])
chain_value names low width i first (input ∷ inputs) long room =
    let bits = value names (field low width) in
    let select = number bits in
    let small : i < 2 ^ length bits = rw long (omega arith) in
    let test : same_bits bits (digits width i) ≡ nat_eq select i = subst (λ k. same_bits bits (digits k i) ≡ nat_eq select i) long (same_bits_digits bits i small) in
    elim (eqb_tells select i) [
      | inl e ↦ (
          let above : i ≤ select = omega arith in
          let here : select - i ≡ 0 = omega arith in
          rw (test, e.0, le-ltb select i above, here) refl)
      | inr e ↦ rw (test, e.0) (chain_value names low width (i + 1) first inputs long (omega arith) ∙ ap names (passed select i first input inputs e.1))
    ]

-- the input at the value of the field
pub selection_value : (names : Name → List Bool) (low width : ℕ) (first second : Name) (inputs : List Name) →
    length (value names (field low width)) ≡ width → 2 + length inputs ≤ 2 ^ width →
    value names (selection low width (first ∷ second ∷ inputs))
    ≡ names (get_or (first ∷ second ∷ inputs) (number (value names (field low width))) first)
selection_value names low width first second inputs long room =
    chain_value names low width 1 first (second ∷ inputs) long (omega arith)
    ∙ ap names (from_one (number (value names (field low width))) first (second ∷ inputs))
