-- The places of keys in order of first appearance.
use Rattle.std.proofs.Common.{◌≡◌, ℕ, ◌+◌, ◌<◌, Bool, true, false, not, ◌||◌, cond, List, [], ◌∷◌, ◌++◌, Vec, map, length, get_or, refl, sym, ap, ◌∙◌, inl, inr, arith, All, subst, subst₂, take}
use Rattle.std.specs.List.{list_any, position_or_len}
use Rattle.std.specs.Str.{bytes_eq}
use Rattle.std.proofs.lemmas.Bool.{cases_Bool, false≢true}
use Rattle.std.proofs.lemmas.List.{map-append, map_push, get_or_push, get_or_append_left, length_push, map_more}
use Rattle.std.proofs.lemmas.List.Elements.{All-head, All-tail, All-push, All-weaker}
use Rattle.std.proofs.lemmas.List.Sums.{passes_at_first}
use Rattle.std.proofs.lemmas.Slice.Eq.{bytes_eq-Decides}
use Rattle.indexmap.specs.IndexSet.{insert_key}
use Rattle.fab_select.specs.declared.pair.Pair.{Pair}
use Rattle.fab_matrix.specs.Names.{Name}
use Rattle.fab_matrix.specs.inner.Grouped.{name_at}
use Rattle.fab_bits.specs.Keys.{key_names}
use Rattle.fab_matrix.specs.inner.Numbering.{AreNumbersOf}
use Rattle.fab_select.proofs.Firsts.{firsts_push}

-- the names of keys after an insert
abbrev same_keys : {A : Type 0} → Vec ℕ A → Vec ℕ A → Bool
same_keys a b = bytes_eq a.items b.items

any_of_names : {A : Type 0} (name : Name) (keys : List (Vec ℕ A)) → list_any (λ key. bytes_eq name key.items) keys ≡ list_any (bytes_eq name) (key_names keys)
any_of_names name [] = refl
any_of_names name (key ∷ keys) = ap (λ rest. bytes_eq name key.items || rest) (any_of_names name keys)

pub insert_of_names : {A : Type 0} (keys : List (Vec ℕ A)) (key : Vec ℕ A) →
    key_names (insert_key (λ (a b : Vec ℕ A). bytes_eq a.items b.items) keys key) ≡ insert_key bytes_eq (key_names keys) key.items
insert_of_names {A} keys key =
    let any = any_of_names key.items keys in
    elim (cases_Bool (list_any (bytes_eq key.items) (key_names keys))) [
      | inl t ↦ rw (any, t) refl
      | inr f ↦ rw (any, f) (map-append (λ (k : Vec ℕ A). k.items) keys (key ∷ []))
    ]

pub place_of_names : {A : Type 0} (name : Name) (keys : List (Vec ℕ A)) → position_or_len (λ key. bytes_eq name key.items) keys ≡ position_or_len (bytes_eq name) (key_names keys)
place_of_names name [] = refl
place_of_names name (key ∷ keys) = ap (λ n. cond (not (bytes_eq name key.items)) (1 + n) 0) (place_of_names name keys)

-- the place of what passes, and of what is new
place_in : {K : Type 0} (p : K → Bool) (xs : List K) → list_any p xs ≡ true → position_or_len p xs < length xs
place_in p [] there = absurd (false≢true there)
place_in p (x ∷ xs) there =
    elim (cases_Bool (p x)) [
      | inl t ↦ rw t (omega arith)
      | inr f ↦ (let rest : list_any p xs ≡ true = rw f at there in rw f (omega (arith, place_in p xs rest)))
    ]

place_out : {K : Type 0} (p : K → Bool) (xs : List K) → list_any p xs ≡ false → position_or_len p xs ≡ length xs
place_out p [] none = refl
place_out p (x ∷ xs) none =
    elim (cases_Bool (p x)) [
      | inl t ↦ absurd (false≢true (sym none ∙ ap (λ b. b || list_any p xs) t))
      | inr f ↦ (let rest : list_any p xs ≡ false = rw f at none in rw f (omega (arith, place_out p xs rest)))
    ]

-- a key that is inserted is found at its place
insert_finds : (keys : List Name) (x : Name) →
    (position_or_len (bytes_eq x) keys < length (insert_key bytes_eq keys x)) × (name_at (insert_key bytes_eq keys x) (position_or_len (bytes_eq x) keys) ≡ x)
insert_finds keys x =
    elim (cases_Bool (list_any (bytes_eq x) keys)) [
      | inl t ↦ (
          let within : position_or_len (bytes_eq x) keys < length keys = place_in (bytes_eq x) keys t in
          rw t (within, sym ((bytes_eq-Decides x _).0 (passes_at_first (bytes_eq x) keys [] within))))
      | inr f ↦ (
          let last : length keys ≡ position_or_len (bytes_eq x) keys = sym (place_out (bytes_eq x) keys f) in
          rw f (omega (arith, length_push keys x), get_or_push keys x [] (position_or_len (bytes_eq x) keys) last))
    ]

-- the keys before an insert stay at their places
insert_keeps : (keys : List Name) (x : Name) (k : ℕ) → k < length keys → (k < length (insert_key bytes_eq keys x)) × (name_at (insert_key bytes_eq keys x) k ≡ name_at keys k)
insert_keeps keys x k within =
    elim (cases_Bool (list_any (bytes_eq x) keys)) [
      | inl t ↦ rw t (within, refl)
      | inr f ↦ rw f (omega (arith, length_push keys x), get_or_append_left keys (x ∷ []) [] k within)
    ]

names_kept : (keys : List Name) (x : Name) (numbers : List ℕ) → All (λ number. number < length keys) numbers → map (name_at (insert_key bytes_eq keys x)) numbers ≡ map (name_at keys) numbers
names_kept keys x [] within = refl
names_kept keys x (number ∷ numbers) within =
    let here : name_at (insert_key bytes_eq keys x) number ≡ name_at keys number = (insert_keeps keys x number (All-head (λ n. n < length keys) number numbers within)).1 in
    let rest : map (name_at (insert_key bytes_eq keys x)) numbers ≡ map (name_at keys) numbers = names_kept keys x numbers (All-tail (λ n. n < length keys) number numbers within) in
    λ j. here j ∷ rest j

-- one name more
pub numbered_more : (names keys : List Name) (numbers : List ℕ) (x : Name) → AreNumbersOf names keys numbers →
    AreNumbersOf (names ++ x ∷ []) (insert_key bytes_eq keys x) (numbers ++ position_or_len (bytes_eq x) keys ∷ [])
numbered_more names keys numbers x so_far =
    let more = insert_key bytes_eq keys x in
    let place = position_or_len (bytes_eq x) keys in
    let found = insert_finds keys x in
    record {
      order = ap (λ ks. insert_key bytes_eq ks x) so_far.order ∙ sym (firsts_push bytes_eq bytes_eq-Decides names x);
      within =
          All-push (λ n. n < length more) numbers place
          (All-weaker (λ n. n < length keys) (λ n. n < length more) (λ n l. (insert_keeps keys x n l).0) numbers so_far.within) found.0;
      same =
          map_push (name_at more) numbers place
          ∙ (λ j. (names_kept keys x numbers so_far.within ∙ so_far.same) j ++ found.1 j ∷ []);
    }

-- one pair more, by one of its names
pub pair_numbered : (name_of : Name × Name → Name) (number_of : Pair → ℕ) (pairs : List (Name × Name)) (i : ℕ) (pair : Name × Name) (numbers more_numbers : List Pair) (new : Pair) (keys more_keys : List Name) →
    i < length pairs → pair ≡ get_or pairs i pair → more_numbers ≡ numbers ++ new ∷ [] →
    number_of new ≡ position_or_len (bytes_eq (name_of pair)) keys → more_keys ≡ insert_key bytes_eq keys (name_of pair) →
    AreNumbersOf (map name_of (take i pairs)) keys (map number_of numbers) → AreNumbersOf (map name_of (take (i + 1) pairs)) more_keys (map number_of more_numbers)
pair_numbered name_of number_of pairs i pair numbers more_numbers new keys more_keys within is pushed place inserted so_far =
    let names_are : map name_of (take (i + 1) pairs) ≡ map name_of (take i pairs) ++ name_of pair ∷ [] =
    map_more name_of pairs i pair within ∙ ap (λ p. map name_of (take i pairs) ++ name_of p ∷ []) (sym is) in
    let numbers_are : map number_of more_numbers ≡ map number_of numbers ++ position_or_len (bytes_eq (name_of pair)) keys ∷ [] =
    ap (map number_of) pushed ∙ map_push number_of numbers new ∙ ap (λ n. map number_of numbers ++ n ∷ []) place in
    subst (λ names. AreNumbersOf names more_keys (map number_of more_numbers)) (sym names_are)
    (subst₂ (AreNumbersOf (map name_of (take i pairs) ++ name_of pair ∷ [])) (sym inserted) (sym numbers_are)
    (numbered_more (map name_of (take i pairs)) keys (map number_of numbers) (name_of pair) so_far))
