-- Sets of words.
use Rattle.std.proofs.Common.{◌≡◌, ℕ, false, ◌||◌, ◌+◌, not, cond, position, List, [], ◌∷◌, ◌++◌, Vec, refl, ap, ◌∙◌}
use Rattle.std.specs.List.{list_any, position_or_len}
use Rattle.std.specs.Str.{bytes_eq}
use Rattle.std.proofs.lemmas.List.{map-append, length-map}
use Rattle.indexmap.specs.IndexSet.{insert_key}
use Rattle.fab_bits.specs.Keys.{key_names}
use Rattle.fab_lines.specs.Items.{is_among}

pub any_of_names : {A : Type 0} (name : List ℕ) (keys : List (Vec ℕ A)) → list_any (λ key. bytes_eq name key.items) keys ≡ is_among (key_names keys) name
any_of_names name [] = refl
any_of_names name (key ∷ keys) = ap (λ rest. bytes_eq name key.items || rest) (any_of_names name keys)

-- a new key goes last
pub key_added : {A : Type 0} (keys new : List (Vec ℕ A)) (key : Vec ℕ A) (now : List (List ℕ)) (word : List ℕ)
    → key_names keys ≡ now → new ≡ insert_key (λ (a b : Vec ℕ A). bytes_eq a.items b.items) keys key → key.items ≡ word → is_among now word ≡ false
    → key_names new ≡ now ++ word ∷ []
key_added {A} keys new key now word seen inserted is absent =
    let none : list_any (λ (k : Vec ℕ A). bytes_eq key.items k.items) keys ≡ false = any_of_names key.items keys ∙ ap (λ (w : List ℕ). is_among (key_names keys) w) is ∙ ap (λ (l : List (List ℕ)). is_among l word) seen ∙ absent in
    let last : new ≡ keys ++ key ∷ [] = inserted ∙ rw none refl in
    ap (key_names {A = A}) last ∙ map-append (λ (k : Vec ℕ A). k.items) keys (key ∷ []) ∙ ap (λ (w : List ℕ). key_names keys ++ w ∷ []) is ∙ ap (λ (l : List (List ℕ)). l ++ word ∷ []) seen

first_of_names : {A : Type 0} (name : List ℕ) (keys : List (Vec ℕ A)) → position_or_len (λ key. bytes_eq name key.items) keys ≡ position_or_len (bytes_eq name) (key_names keys)
first_of_names name [] = refl
first_of_names name (key ∷ keys) = ap (λ n. cond (not (bytes_eq name key.items)) (1 + n) 0) (first_of_names name keys)

-- a key stands where its name stands
pub place_of_name : {A : Type 0} (name : List ℕ) (keys : List (Vec ℕ A)) → position (λ key. bytes_eq name key.items) keys ≡ position (bytes_eq name) (key_names keys)
place_of_name {A} name keys = rw (first_of_names name keys, length-map keys (λ (k : Vec ℕ A). k.items)) refl
