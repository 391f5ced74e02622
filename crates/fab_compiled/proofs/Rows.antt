-- Points that are led to points which follow one another have what these have.
use Rattle.std.proofs.Common.{◌≡◌, ℕ, zero, suc, ◌+◌, ◌-◌, ◌<◌, ◌≤◌, List, [], ◌∷◌, length, take, drop, slice_get, slice_index, refl, sym, ap, ap₂, ◌∙◌, arith}
use Rattle.std.proofs.lemmas.List.{get_or-drop, get_or-take, length-drop, length-take-le}
use Rattle.fab_systems_laws.specs.Ternary.{Tern}
use Rattle.fab_solutions_laws.specs.fab_ternary_laws_Shown.{first_terns}
use Rattle.fab_ternary.specs.declared.Tern.{Tern as Kept}
use Rattle.fab_compiled.specs.Terns.{seen, tern_or_unknown, IsView}
use Rattle.fab_compiled.proofs.Written.{plain}

-- bits of a list, from one of them on
range_terns : (terns : List Kept) (low count : ℕ) → low + count ≤ length terns → (f : ℕ → Tern) →
    ((k : ℕ) → k < count → tern_or_unknown (slice_get terns (low + k)) ≡ f k) → plain (take count (drop low terns)) ≡ first_terns count f
range_terns terns zero zero l f same = refl
range_terns [] zero (suc count) l f same = absurd (omega (arith, l))
range_terns (t ∷ terns) zero (suc count) l f same =
    ap₂ (λ x xs. x ∷ xs) (same 0 (omega arith))
    (range_terns terns zero count (omega (arith, l)) (λ k. f (suc k))
    (λ k b. let next : suc (0 + k) ≡ 0 + suc k = omega arith in ap (λ n. tern_or_unknown (slice_get (t ∷ terns) n)) next ∙ same (suc k) (omega (arith, b))))
range_terns [] (suc low) count l f same = absurd (omega (arith, l))
range_terns (t ∷ terns) (suc low) count l f same =
    range_terns terns low count (omega (arith, l)) f
    (λ k b. let next : suc (low + k) ≡ suc low + k = omega arith in ap (λ n. tern_or_unknown (slice_get (t ∷ terns) n)) next ∙ same k b)

-- the points from one on are led to those from another on
abbrev pub AreInRow : List ℕ → (begin low count : ℕ) → Type 0
AreInRow leads begin low count = (k : ℕ) → k < count → slice_index leads (begin + k) ≡ low + k

pub length_range : (leads : List ℕ) (begin count : ℕ) → begin + count ≤ length leads → length (take count (drop begin leads)) ≡ count
length_range leads begin count inside = length-take-le count (drop begin leads) (omega (arith, inside, length-drop begin leads))

pub range_row : (leads : List ℕ) (begin low count : ℕ) → begin + count ≤ length leads →
    ((k : ℕ) → k < length (take count (drop begin leads)) → slice_index (take count (drop begin leads)) k ≡ low + k) → AreInRow leads begin low count
range_row leads begin low count inside h =
    λ k l. sym (get_or-take count (drop begin leads) k 0 l ∙ get_or-drop begin leads k 0) ∙ h k (omega (arith, l, length_range leads begin count inside))

pub row_within : (terns : List Kept) (leads : List ℕ) (begin low count : ℕ) → IsView terns leads → begin + count ≤ length leads → 0 < count →
    AreInRow leads begin low count → low + count ≤ length terns
row_within terns leads begin low count view inside some row =
    omega (arith, some, row (count - 1) (omega (arith, some)), view (begin + (count - 1)) (omega (arith, some, inside)))

pub row_seen : (terns : List Kept) (leads : List ℕ) (begin low count : ℕ) → low + count ≤ length terns → AreInRow leads begin low count →
    plain (take count (drop low terns)) ≡ first_terns count (λ k. seen terns leads (begin + k))
row_seen terns leads begin low count within row =
    range_terns terns low count within (λ k. seen terns leads (begin + k)) (λ k l. ap (λ n. tern_or_unknown (slice_get terns n)) (sym (row k l)))
