-- The bits of a name among all bits.
use Rattle.std.proofs.Common.{◌≡◌, ℕ, ◌+◌, ◌<◌, ◌≤◌, Bool, true, false, cond, List, [], ◌∷◌, length, get_or, take, drop, Option, Some, None, refl, sym, ap, ◌∙◌, inl, inr, arith}
use Rattle.std.proofs.lemmas.Bool.{cases_Bool}
use Rattle.std.proofs.lemmas.List.{get_or-take, get_or-drop, get_or_past, length-take, length-drop, drop-drop}
use Rattle.std.specs.Str.{bytes_eq}
use Rattle.fab_meaning.specs.Value.{bit_at}
use Rattle.fab_values.specs.Declarations.{Declaration, width, bits_of, found_from, found_in, bits_named}
use Rattle.fab_values.specs.declared.names.Local.{Local}

-- a name has the bits from its place on
record IsNamed (ds : List Declaration) (bits : List Bool) (first : ℕ) (name : List ℕ) (local : Local) : Type 0 where
  place : ℕ
  starts : local.first ≡ first + place
  are : bits_named ds bits name ≡ take (width local.shape) (drop place bits)
  within : place + width local.shape ≤ bits_of ds

pub told : {X : Type 0} (a b : X) → Some a ≡ Some b → a ≡ b
told a b e = cc

named_at : (ds : List Declaration) (bits : List Bool) (first : ℕ) (name : List ℕ) (local : Local) → found_from first ds name ≡ Some local → IsNamed ds bits first name local
named_at [] bits first name local e = cc
named_at (d ∷ ds) bits first name local e =
    elim (cases_Bool (bytes_eq name d.name)) [
      | inl t ↦ (
          let here : Local = record { first = first; shape = d.shape; role = d.role } in
          let same : here ≡ local = told here local (rw t at e) in
          let wide : width d.shape ≡ width local.shape = ap (λ (l : Local). width l.shape) same in
          let begins : first ≡ local.first = ap (λ (l : Local). l.first) same in
          record {
            place = 0;
            starts = omega arith;
            are = rw t (ap (λ n. take n bits) wide);
            within = omega arith;
          })
      | inr f ↦ (
          let rest = named_at ds (drop (width d.shape) bits) (first + width d.shape) name local (rw f at e) in
          record {
            place = width d.shape + rest.place;
            starts = omega (arith, rest.starts);
            are = rw f (rest.are ∙ ap (take (width local.shape)) (drop-drop rest.place (width d.shape) bits));
            within = omega (arith, rest.within);
          })
    ]

pub not_named : (ds : List Declaration) (bits : List Bool) (first : ℕ) (name : List ℕ) → found_from first ds name ≡ None → bits_named ds bits name ≡ []
not_named [] bits first name e = refl
not_named (d ∷ ds) bits first name e =
    elim (cases_Bool (bytes_eq name d.name)) [
      | inl t ↦ (let is = rw t at e in cc)
      | inr f ↦ rw f (not_named ds (drop (width d.shape) bits) (first + width d.shape) name (rw f at e))
    ]

-- a bit of a name stands among all bits
pub bit_named : (ds : List Declaration) (bits : List Bool) (name : List ℕ) (local : Local) (bit : ℕ) → found_in ds name ≡ Some local → length bits ≡ bits_of ds → bit < width local.shape →
    (local.first + bit < length bits) × (get_or bits (local.first + bit) false ≡ bit_at (bits_named ds bits name) bit)
bit_named ds bits name local bit e whole within =
    let at = named_at ds bits 0 name local e in
    let starts : local.first ≡ at.place = omega (arith, at.starts) in (
      omega (arith, at.within),
      ap (λ n. get_or bits (n + bit) false) starts ∙ sym (get_or-drop at.place bits bit false) ∙ sym (get_or-take (width local.shape) (drop at.place bits) bit false within)
          ∙ ap (λ xs. get_or xs bit false) (sym at.are),
    )

pub bit_past : (ds : List Declaration) (bits : List Bool) (name : List ℕ) (local : Local) (bit : ℕ) → found_in ds name ≡ Some local → width local.shape ≤ bit →
    false ≡ bit_at (bits_named ds bits name) bit
bit_past ds bits name local bit e past =
    let at = named_at ds bits 0 name local e in
    sym (ap (λ xs. get_or xs bit false) at.are ∙ get_or_past (take (width local.shape) (drop at.place bits)) bit false (omega (arith, length-take (width local.shape) (drop at.place bits))))

pub bits_length : (ds : List Declaration) (bits : List Bool) (name : List ℕ) (local : Local) → found_in ds name ≡ Some local → length bits ≡ bits_of ds →
    length (bits_named ds bits name) ≡ width local.shape
bits_length ds bits name local e whole =
    let at = named_at ds bits 0 name local e in
    ap length at.are ∙ length-take (width local.shape) (drop at.place bits) ∙ omega (arith, at.within, length-drop at.place bits)
