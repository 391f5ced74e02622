-- The fields of a record, one after the other.
use Rattle.std.proofs.Common.{◌≡◌, ℕ, zero, suc, ◌+◌, ◌<◌, List, [], ◌∷◌, ◌++◌, length, map, take, Some, None, refl, ap, ◌∙◌, arith}
use Rattle.std.proofs.lemmas.List.{map_push}
use Rattle.csv.specs.Records.{field_at}

more : (fields : List (List ℕ)) (place : ℕ) (field : List ℕ) → field_at fields place ≡ Some field → (place < length fields) × (take (suc place) fields ≡ take place fields ++ field ∷ [])
unfolding field_at
more [] place field there = absurd cc
more (first ∷ fields) zero field there = (omega arith, let same : first ≡ field = cc in ap (λ f. f ∷ []) same)
more (first ∷ fields) (suc place) field there = let rest = more fields place field there in (omega (arith, rest.0), ap (λ fs. first ∷ fs) rest.1)

-- a field that is there is below the end
pub field_below : (fields : List (List ℕ)) (place : ℕ) (field : List ℕ) → field_at fields place ≡ Some field → place < length fields
field_below fields place field there = (more fields place field there).0

-- and comes after those that were taken
pub map_take_field : (f : List ℕ → List ℕ) (fields : List (List ℕ)) (place : ℕ) (field : List ℕ) → field_at fields place ≡ Some field
    → map f (take (place + 1) fields) ≡ map f (take place fields) ++ f field ∷ []
map_take_field f fields place field there =
    let rest = more fields place field there in
    let next : place + 1 ≡ suc place = omega arith in
    ap (λ n. map f (take n fields)) next ∙ ap (map f) rest.1 ∙ map_push f (take place fields) field

-- where there is no field, all were taken
pub take_all_fields : (fields : List (List ℕ)) (place : ℕ) → field_at fields place ≡ None → take place fields ≡ fields
unfolding field_at
take_all_fields [] zero none = refl
take_all_fields [] (suc place) none = refl
take_all_fields (field ∷ fields) zero none = absurd cc
take_all_fields (field ∷ fields) (suc place) none = ap (λ fs. field ∷ fs) (take_all_fields fields place none)
