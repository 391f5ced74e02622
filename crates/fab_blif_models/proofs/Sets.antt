-- Sets of names.
use Rattle.std.proofs.Common.{◌≡◌, ℕ, ◌+◌, ◌<◌, Bool, true, false, ◌||◌, List, [], ◌∷◌, ◌++◌, Vec, map, take, drop, length, get_or, refl, sym, ap, ◌∙◌, inl, inr, find, append_assoc, Some, add-one, drop-cons}
use Rattle.std.specs.List.{list_any}
use Rattle.std.specs.Str.{bytes_eq}
use Rattle.std.proofs.lemmas.Bool.{cases_Bool}
use Rattle.std.proofs.lemmas.List.{map-append, map_push, take_more}
use Rattle.std.proofs.lemmas.List.Folds.{list_any-append}
use Rattle.std.proofs.lemmas.List.Sums.{fold-append}
use Rattle.indexmap.specs.IndexSet.{insert_key, insert_all}
use Rattle.fab_bits.specs.Keys.{key_names}
use Rattle.fab_blif_models.specs.Judge.{names_twice}
use Rattle.fab_lines.specs.Items.{is_among}

pub any_of_names : {A : Type 0} (name : List ℕ) (keys : List (Vec ℕ A)) → list_any (λ key. bytes_eq name key.items) keys ≡ list_any (bytes_eq name) (key_names keys)
any_of_names name [] = refl
any_of_names name (key ∷ keys) = ap (λ rest. bytes_eq name key.items || rest) (any_of_names name keys)

pub insert_of_names : {A : Type 0} (keys : List (Vec ℕ A)) (key : Vec ℕ A) →
    key_names (insert_key (λ (a b : Vec ℕ A). bytes_eq a.items b.items) keys key) ≡ insert_key bytes_eq (key_names keys) key.items
insert_of_names {A} keys key =
    let any = any_of_names key.items keys in
    elim (cases_Bool (list_any (bytes_eq key.items) (key_names keys))) [
      | inl t ↦ rw (any, t) refl
      | inr f ↦ rw (any, f) (map-append (λ (k : Vec ℕ A). k.items) keys (key ∷ []))
    ]

-- one name more is inserted
pub insert_more : (keys names : List (List ℕ)) (name : List ℕ) → insert_key bytes_eq (insert_all bytes_eq keys names) name ≡ insert_all bytes_eq keys (names ++ name ∷ [])
insert_more keys names name = sym (fold-append (insert_key bytes_eq) keys names (name ∷ []))

pub insert_both : (keys names more : List (List ℕ)) → insert_all bytes_eq (insert_all bytes_eq keys names) more ≡ insert_all bytes_eq keys (names ++ more)
insert_both keys names more = sym (fold-append (insert_key bytes_eq) keys names more)

-- a new name goes last
pub insert_new : (keys : List (List ℕ)) (name : List ℕ) → is_among keys name ≡ false → insert_key bytes_eq keys name ≡ keys ++ name ∷ []
insert_new keys name new = rw new refl

-- one name more of a list is inserted
pub insert_step : {X : Type 0} (seen : X → List ℕ) (start now more : List (List ℕ)) (xs : List X) (i : ℕ) (d : X) (name : List ℕ)
    → now ≡ insert_all bytes_eq start (map seen (take i xs)) → more ≡ insert_key bytes_eq now name → name ≡ seen (get_or xs i d) → i < length xs
    → more ≡ insert_all bytes_eq start (map seen (take (i + 1) xs))
insert_step seen start now more xs i d name so_far inserted is within =
    inserted
    ∙ ap (insert_key bytes_eq now) is
    ∙ ap (λ (keys : List (List ℕ)). insert_key bytes_eq keys (seen (get_or xs i d))) so_far
    ∙ insert_more start (map seen (take i xs)) (seen (get_or xs i d))
    ∙ ap (insert_all bytes_eq start) (sym (ap (map seen) (take_more xs i d within) ∙ map_push seen (take i xs) (get_or xs i d)))

-- a map of a list from a place on
pub map_drop_cons : {X Y : Type 0} (f : X → Y) (xs : List X) (i : ℕ) (d : X) → i < length xs → map f (drop i xs) ≡ f (get_or xs i d) ∷ map f (drop (i + 1) xs)
map_drop_cons f xs i d within = ap (map f) (drop-cons xs i d within) ∙ ap (λ (k : ℕ). f (get_or xs i d) ∷ map f (drop k xs)) (sym (add-one i))

-- the next name stands among those before it
pub twice_here : (before seen : List (List ℕ)) (name : List ℕ) (names : List (List ℕ)) → (is_among before name || is_among seen name) ≡ true → names_twice (before ++ seen) (name ∷ names) ≡ true
twice_here before seen name names among = ap (λ (b : Bool). b || names_twice ((before ++ seen) ++ name ∷ []) names) (list_any-append (bytes_eq name) before seen ∙ among)

not_second : (a b : Bool) → (a || b) ≡ false → b ≡ false
not_second true b neither = absurd cc
not_second false b neither = neither

-- or not
pub twice_later : (before seen : List (List ℕ)) (name : List ℕ) (names : List (List ℕ)) → (is_among before name || is_among seen name) ≡ false
    → names_twice (before ++ seen) (name ∷ names) ≡ names_twice (before ++ insert_key bytes_eq seen name) names
twice_later before seen name names neither =
    ap (λ (b : Bool). b || names_twice ((before ++ seen) ++ name ∷ []) names) (list_any-append (bytes_eq name) before seen ∙ neither)
    ∙ ap (λ (l : List (List ℕ)). names_twice l names) (append_assoc before seen (name ∷ []) ∙ ap (λ (l : List (List ℕ)). before ++ l) (sym (insert_new seen name (not_second (is_among before name) (is_among seen name) neither))))

-- the first that passes is the next
pub find_here : {X Y : Type 0} (test : Y → Bool) (seen : X → Y) (xs : List X) (i : ℕ) (d : X) (b : Bool) → i < length xs → b ≡ test (seen (get_or xs i d)) → b ≡ true
    → find test (map seen (drop i xs)) ≡ find test (map seen xs) → Some (seen (get_or xs i d)) ≡ find test (map seen xs)
find_here test seen xs i d b within is passes so_far =
    let here : test (seen (get_or xs i d)) ≡ true = sym is ∙ passes in
    let found : find test (seen (get_or xs i d) ∷ map seen (drop (i + 1) xs)) ≡ Some (seen (get_or xs i d)) = rw here refl in
    sym found ∙ sym (ap (find test) (map_drop_cons seen xs i d within)) ∙ so_far

-- or it comes later
pub find_later : {X Y : Type 0} (test : Y → Bool) (seen : X → Y) (xs : List X) (i : ℕ) (d : X) (b : Bool) → i < length xs → b ≡ test (seen (get_or xs i d)) → b ≡ false
    → find test (map seen (drop i xs)) ≡ find test (map seen xs) → find test (map seen (drop (i + 1) xs)) ≡ find test (map seen xs)
find_later test seen xs i d b within is fails so_far =
    let here : test (seen (get_or xs i d)) ≡ false = sym is ∙ fails in
    let passed : find test (seen (get_or xs i d) ∷ map seen (drop (i + 1) xs)) ≡ find test (map seen (drop (i + 1) xs)) = rw here refl in
    sym passed ∙ sym (ap (find test) (map_drop_cons seen xs i d within)) ∙ so_far
