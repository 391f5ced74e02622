-- The bytes of a feature's names.
use Rattle.std.proofs.Common.{◌≡◌, ℕ, Bool, true, false, not, eqb, List, [], ◌∷◌, length, refl, sym, inl, inr, arith, ◌&&◌}
use Rattle.std.specs.Prelude.{slice_index}
use Rattle.std.specs.List.{list_all, slice_split, onto_first}
use Rattle.std.proofs.lemmas.Bool.{cases_Bool, and_parts, and_from, or_left, or_right}
use Rattle.std.proofs.lemmas.Bool.Decides.{nat_tests}
use Rattle.fab_lines.specs.Names.{is_identifier, is_of_name, begins_name}
use Rattle.fab_lines.specs.Parts.{is_blank}
use Rattle.fab_fasm.specs.Parts.{is_of_feature, is_feature}
use Rattle.fab_fasm.proofs.Cutting.{list_all_weaker}

-- a part of bytes that names have
abbrev has_name_bytes : List ℕ → Bool
has_name_bytes part = list_all is_of_name part

onto_parts : (byte : ℕ) (parts : List (List ℕ)) → list_all has_name_bytes (onto_first byte parts) ≡ true → (is_of_name byte ≡ true) × (list_all has_name_bytes parts ≡ true)
onto_parts byte [] all = (all_of all, refl)
  where
    all_of : {b : Bool} → ((b && true) && true) ≡ true → b ≡ true
    all_of {b = true} is = refl
    all_of {b = false} is = is
onto_parts byte (part ∷ parts) all =
    let both = and_parts (is_of_name byte && list_all is_of_name part) (list_all has_name_bytes parts) all in
    let first = and_parts (is_of_name byte) (list_all is_of_name part) both.0 in
    (first.0, and_from (list_all is_of_name part) (list_all has_name_bytes parts) first.1 both.1)

joined_bytes : (word : List ℕ) → list_all has_name_bytes (slice_split (λ byte. eqb byte 46) word) ≡ true → list_all is_of_feature word ≡ true
joined_bytes [] all = refl
joined_bytes (byte ∷ word) all = elim (cases_Bool (eqb byte 46)) [
  | inl dot ↦ and_from (is_of_feature byte) (list_all is_of_feature word) (or_right (is_of_name byte) (eqb byte 46) dot) (joined_bytes word (rw dot at all))
  | inr other ↦
      let both = onto_parts byte (slice_split (λ b. eqb b 46) word) (rw other at all) in
      and_from (is_of_feature byte) (list_all is_of_feature word) (or_left (is_of_name byte) (eqb byte 46) both.0) (joined_bytes word both.1)
]

-- the bytes of names and dots
pub feature_bytes : (word : List ℕ) → is_feature word ≡ true → list_all is_of_feature word ≡ true
feature_bytes word named =
    joined_bytes word (list_all_weaker is_identifier has_name_bytes (slice_split (λ byte. eqb byte 46) word) (λ part is. (and_parts (begins_name (slice_index part 0)) (list_all is_of_name part) is).1) named)

-- no blank is such a byte
pub feature_no_blank : (byte : ℕ) → is_of_feature byte ≡ true → is_blank byte ≡ false
feature_no_blank byte is = grind (arith, nat_tests)

-- nor a byte that ends a line
pub feature_no_end : (byte : ℕ) → is_of_feature byte ≡ true → (not (eqb byte 10) && not (eqb byte 13)) ≡ true
feature_no_end byte is = grind (arith, nat_tests)

-- there is a first byte
pub feature_some : (word : List ℕ) → is_feature word ≡ true → eqb (length word) 0 ≡ false
feature_some [] named = sym named
feature_some (byte ∷ word) named = grind (arith, nat_tests)
