-- Names as the keys of a set.
use Rattle.std.proofs.Common.{◌≡◌, ℕ, Bool, true, false, if◌then◌else◌, List, [], ◌∷◌, ◌++◌, Vec, cond, not, ◌+◌, position, refl, ap, ◌∙◌, inl, inr}
use Rattle.std.specs.List.{list_any, position_or_len}
use Rattle.std.specs.Str.{bytes_eq}
use Rattle.std.proofs.lemmas.Bool.{cases_Bool}
use Rattle.std.proofs.lemmas.List.{length-map, map-append}
use Rattle.indexmap.specs.IndexSet.{insert_key}
use Rattle.fab_blif_models.proofs.Sets.{any_of_names}
use Rattle.fab_bits.specs.Keys.{key_names}

first_of_names : {A : Type 0} (name : List ℕ) (keys : List (Vec ℕ A)) → position_or_len (λ key. bytes_eq name key.items) keys ≡ position_or_len (bytes_eq name) (key_names keys)
first_of_names name [] = refl
first_of_names name (key ∷ keys) = ap (λ n. cond (not (bytes_eq name key.items)) (1 + n) 0) (first_of_names name keys)

-- a key stands where its name stands
pub place_of_name : {A : Type 0} (name : List ℕ) (keys : List (Vec ℕ A)) → position (λ key. bytes_eq name key.items) keys ≡ position (bytes_eq name) (key_names keys)
place_of_name {A} name keys = rw (first_of_names name keys, length-map keys (λ (k : Vec ℕ A). k.items)) refl

-- the names of keys after one more, where it is told whether it is new
pub names_of_insert : {A : Type 0} (keys : List (Vec ℕ A)) (key : Vec ℕ A) (name : List ℕ) (added : Bool) → key.items ≡ name → added ≡ not (list_any (bytes_eq name) (key_names keys)) →
    key_names (insert_key (λ (a b : Vec ℕ A). bytes_eq a.items b.items) keys key) ≡ (if added then key_names keys ++ name ∷ [] else key_names keys)
names_of_insert {A} keys key name added is tells =
    let any : list_any (λ (k : Vec ℕ A). bytes_eq key.items k.items) keys ≡ list_any (bytes_eq name) (key_names keys) = any_of_names key.items keys ∙ ap (λ (n : List ℕ). list_any (bytes_eq n) (key_names keys)) is in
    elim (cases_Bool (list_any (bytes_eq name) (key_names keys))) [
      | inl t ↦ (let old : added ≡ false = tells ∙ ap not t in rw (any, t, old) refl)
      | inr f ↦ (let new : added ≡ true = tells ∙ ap not f in rw (any, f, new) (map-append (λ (k : Vec ℕ A). k.items) keys (key ∷ []) ∙ ap (λ (n : List ℕ). key_names keys ++ n ∷ []) is))
    ]
