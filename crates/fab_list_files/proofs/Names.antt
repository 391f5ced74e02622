-- Sets of names and of pairs, and counts by name.
use Rattle.std.proofs.Common.{◌≡◌, ℕ, ◌+◌, Bool, true, false, cond, ◌&&◌, ◌||◌, List, [], ◌∷◌, ◌++◌, Vec, Option, Some, None, map, filter, length, take, append-nil, refl, sym, ap, ◌∙◌, inl, inr, unwrap_or, arith, get_or, ◌<◌}
use Rattle.std.specs.List.{list_any}
use Rattle.std.specs.Str.{bytes_eq}
use Rattle.std.specs.Map.{lookup}
use Rattle.std.specs.Option.{SomeIff}
use Rattle.std.proofs.lemmas.Bool.{cases_Bool}
use Rattle.std.proofs.lemmas.List.{map-append, length-append, take_more}
use Rattle.std.proofs.lemmas.List.Elements.{filter-append}
use Rattle.std.proofs.lemmas.List.Sums.{fold-append}
use Rattle.std.proofs.lemmas.Slice.Eq.{bytes_eq-Decides}
use Rattle.indexmap.specs.IndexSet.{insert_key}
use Rattle.indexmap.specs.IndexMap.{insert_entry}
use Rattle.fab_select.specs.Selection.{inputs_of}
use Rattle.fab_select.proofs.Firsts.{told}
use Rattle.fab_tables.specs.Lists.{Pair}
use Rattle.fab_list_files.specs.Lists.{same_pair, with_pair, with_pairs}
use Rattle.fab_list_files.specs.Sides.{crosses, input_count}
use Rattle.fab_bits.specs.Keys.{key_names}
use Rattle.fab_list_files.specs.Keys.{key_pairs, crosses_sides, PlainSides, HasSides}

-- ---- sets of pairs

any_of_pairs : {A : Type 0} (key : Vec ℕ A × Vec ℕ A) (keys : List (Vec ℕ A × Vec ℕ A)) →
    list_any (λ other. bytes_eq key.0.items other.0.items && bytes_eq key.1.items other.1.items) keys ≡ list_any (same_pair (key.0.items, key.1.items)) (key_pairs keys)
any_of_pairs key [] = refl
any_of_pairs key (other ∷ keys) = ap (λ rest. (bytes_eq key.0.items other.0.items && bytes_eq key.1.items other.1.items) || rest) (any_of_pairs key keys)

-- the pairs of keys after one more
pub pairs_of_insert : {A : Type 0} (keys : List (Vec ℕ A × Vec ℕ A)) (key : Vec ℕ A × Vec ℕ A) →
    key_pairs (insert_key (λ (a b : Vec ℕ A × Vec ℕ A). bytes_eq a.0.items b.0.items && bytes_eq a.1.items b.1.items) keys key) ≡ with_pair (key_pairs keys) (key.0.items, key.1.items)
pairs_of_insert {A} keys key =
    let any = any_of_pairs key keys in
    elim (cases_Bool (list_any (same_pair (key.0.items, key.1.items)) (key_pairs keys))) [
      | inl t ↦ rw (any, t) refl
      | inr f ↦ rw (any, f) (map-append (λ (k : Vec ℕ A × Vec ℕ A). (k.0.items, k.1.items)) keys (key ∷ []))
    ]

pub with_pairs_push : (pairs new : List Pair) (pair : Pair) → with_pair (with_pairs pairs new) pair ≡ with_pairs pairs (new ++ pair ∷ [])
with_pairs_push pairs new pair = sym (fold-append with_pair pairs new (pair ∷ []))

-- ---- sets of names

pub any_of_names : {A : Type 0} (name : List ℕ) (keys : List (Vec ℕ A)) → list_any (λ key. bytes_eq name key.items) keys ≡ list_any (bytes_eq name) (key_names keys)
any_of_names name [] = refl
any_of_names name (key ∷ keys) = ap (λ rest. bytes_eq name key.items || rest) (any_of_names name keys)

names_of_insert : {A : Type 0} (keys : List (Vec ℕ A)) (key : Vec ℕ A) →
    key_names (insert_key (λ (a b : Vec ℕ A). bytes_eq a.items b.items) keys key) ≡ insert_key bytes_eq (key_names keys) key.items
names_of_insert {A} keys key =
    let any = any_of_names key.items keys in
    elim (cases_Bool (list_any (bytes_eq key.items) (key_names keys))) [
      | inl t ↦ rw (any, t) refl
      | inr f ↦ rw (any, f) (map-append (λ (k : Vec ℕ A). k.items) keys (key ∷ []))
    ]

any_push : {X : Type 0} (test : X → Bool) (xs : List X) (x : X) → list_any test (xs ++ x ∷ []) ≡ (list_any test xs || test x)
any_push test [] x = elim (cases_Bool (test x)) [ inl t ↦ rw t refl | inr f ↦ rw f refl ]
any_push test (y ∷ xs) x = elim (cases_Bool (test y)) [ inl t ↦ rw t refl | inr f ↦ rw f (any_push test xs x) ]

-- where a name stands among names, another that is the same stands there too
pub any_same : (other name : List ℕ) (names : List (List ℕ)) → list_any (bytes_eq name) names ≡ true → (list_any (bytes_eq other) names || bytes_eq other name) ≡ list_any (bytes_eq other) names
any_same other name names there =
    elim (told bytes_eq bytes_eq-Decides other name) [
      | inl t ↦ (let stands : list_any (bytes_eq other) names ≡ true = ap (λ (n : List ℕ). list_any (bytes_eq n) names) t.1 ∙ there in rw stands refl)
      | inr f ↦ elim (cases_Bool (list_any (bytes_eq other) names)) [ inl s ↦ rw s refl | inr n ↦ rw (n, f.0) refl ]
    ]

any_inserted : (other name : List ℕ) (names : List (List ℕ)) → list_any (bytes_eq other) (insert_key bytes_eq names name) ≡ (list_any (bytes_eq other) names || bytes_eq other name)
any_inserted other name names =
    elim (cases_Bool (list_any (bytes_eq name) names)) [
      | inl t ↦ rw t (sym (any_same other name names t))
      | inr f ↦ rw f (any_push (bytes_eq other) names name)
    ]

-- which names stand in a set after one more
pub any_of_insert : {A : Type 0} (keys more : List (Vec ℕ A)) (key : Vec ℕ A) (name other : List ℕ) → key.items ≡ name →
    more ≡ insert_key (λ (a b : Vec ℕ A). bytes_eq a.items b.items) keys key → list_any (bytes_eq other) (key_names more) ≡ (list_any (bytes_eq other) (key_names keys) || bytes_eq other name)
any_of_insert {A} keys more key name other is inserted =
    ap (λ (ks : List (Vec ℕ A)). list_any (bytes_eq other) (key_names ks)) inserted
    ∙ ap (list_any (bytes_eq other)) (names_of_insert keys key)
    ∙ any_inserted other key.items (key_names keys)
    ∙ ap (λ (n : List ℕ). list_any (bytes_eq other) (key_names keys) || bytes_eq other n) is

-- the sides of pairs and one more
pub sides_push : (old new : PlainSides) (pairs : List Pair) (pair : Pair) →
    ((name : List ℕ) → list_any (bytes_eq name) new.outputs ≡ (list_any (bytes_eq name) old.outputs || bytes_eq name pair.0)) →
    ((name : List ℕ) → list_any (bytes_eq name) new.inputs ≡ (list_any (bytes_eq name) old.inputs || bytes_eq name pair.1)) →
    HasSides old pairs → HasSides new (pairs ++ pair ∷ [])
sides_push old new pairs pair outputs inputs has = record {
  outputs = λ name. outputs name ∙ ap (λ b. b || bytes_eq name pair.0) (has.outputs name) ∙ sym (any_push (λ (p : Pair). bytes_eq name p.0) pairs pair);
  inputs = λ name. inputs name ∙ ap (λ b. b || bytes_eq name pair.1) (has.inputs name) ∙ sym (any_push (λ (p : Pair). bytes_eq name p.1) pairs pair);
}

-- ---- pairs at their first places have the same sides as all

and_left : (a b : Bool) → (a && b) ≡ true → a ≡ true
and_left true b h = refl
and_left false b h = h

and_right : (a b : Bool) → (a && b) ≡ true → b ≡ true
and_right true b h = h
and_right false b h = cc

same_is : (p q : Pair) → same_pair p q ≡ true → p ≡ q
same_is p q h =
    let first : p.0 ≡ q.0 = (bytes_eq-Decides p.0 q.0).0 (and_left (bytes_eq p.0 q.0) (bytes_eq p.1 q.1) h) in
    let second : p.1 ≡ q.1 = (bytes_eq-Decides p.1 q.1).0 (and_right (bytes_eq p.0 q.0) (bytes_eq p.1 q.1) h) in
    λ j. (first j, second j)

any_there : (test : Pair → Bool) (pair : Pair) (pairs : List Pair) → list_any (same_pair pair) pairs ≡ true → (list_any test pairs || test pair) ≡ list_any test pairs
any_there test pair [] there = absurd cc
any_there test pair (other ∷ pairs) there =
    elim (cases_Bool (same_pair pair other)) [
      | inl t ↦ (let same : test pair ≡ test other = ap test (same_is pair other t) in elim (cases_Bool (test other)) [
        | inl y ↦ rw y refl
        | inr n ↦ (let gone : test pair ≡ false = same ∙ n in rw (n, gone) (or_false (list_any test pairs)))
      ])
      | inr f ↦ elim (cases_Bool (test other)) [ inl y ↦ rw y refl | inr n ↦ rw n (any_there test pair pairs (rest (same_pair pair other) (list_any (same_pair pair) pairs) f there)) ]
    ]
  where
    or_false : (b : Bool) → (b || false) ≡ b
    or_false true = refl
    or_false false = refl

    rest : (a b : Bool) → a ≡ false → (a || b) ≡ true → b ≡ true
    rest true b no_a h = absurd cc
    rest false b no_a h = h

any_with_pair : (test : Pair → Bool) (pairs : List Pair) (pair : Pair) → list_any test (with_pair pairs pair) ≡ (list_any test pairs || test pair)
any_with_pair test pairs pair =
    elim (cases_Bool (list_any (same_pair pair) pairs)) [
      | inl t ↦ rw t (sym (any_there test pair pairs t))
      | inr f ↦ rw f (any_push test pairs pair)
    ]

any_append : (test : Pair → Bool) (pairs more : List Pair) → list_any test (pairs ++ more) ≡ (list_any test pairs || list_any test more)
any_append test [] more = refl
any_append test (pair ∷ pairs) more = elim (cases_Bool (test pair)) [ inl t ↦ rw t refl | inr f ↦ rw f (any_append test pairs more) ]

or_assoc : (a b c : Bool) → ((a || b) || c) ≡ (a || (b || c))
or_assoc true b c = refl
or_assoc false b c = refl

any_with_pairs : (test : Pair → Bool) (pairs new : List Pair) → list_any test (with_pairs pairs new) ≡ (list_any test pairs || list_any test new)
any_with_pairs test pairs [] = elim (cases_Bool (list_any test pairs)) [ inl t ↦ rw t refl | inr f ↦ rw f refl ]
any_with_pairs test pairs (pair ∷ new) =
    any_with_pairs test (with_pair pairs pair) new
    ∙ ap (λ b. b || list_any test new) (any_with_pair test pairs pair)
    ∙ or_assoc (list_any test pairs) (test pair) (list_any test new)

pub sides_of_all : (sides : PlainSides) (pairs new : List Pair) → HasSides sides (pairs ++ new) → HasSides sides (with_pairs pairs new)
sides_of_all sides pairs new has = record {
  outputs = λ name. has.outputs name ∙ any_append (λ (p : Pair). bytes_eq name p.0) pairs new ∙ sym (any_with_pairs (λ (p : Pair). bytes_eq name p.0) pairs new);
  inputs = λ name. has.inputs name ∙ any_append (λ (p : Pair). bytes_eq name p.1) pairs new ∙ sym (any_with_pairs (λ (p : Pair). bytes_eq name p.1) pairs new);
}

-- ---- counts

count_at : {A : Type 0} → List (Vec ℕ A × ℕ) → (name : List ℕ) → ℕ
count_at entries name = unwrap_or (lookup (λ key. bytes_eq name key.items) entries) 0

lookup_inserted : {A : Type 0} (entries : List (Vec ℕ A × ℕ)) (key : Vec ℕ A) (value : ℕ) (name : List ℕ) →
    lookup (λ other. bytes_eq name other.items) (insert_entry (λ (a b : Vec ℕ A). bytes_eq a.items b.items) entries key value)
    ≡ cond (bytes_eq name key.items) (Some value) (lookup (λ other. bytes_eq name other.items) entries)
lookup_inserted [] key value name = refl
lookup_inserted (entry ∷ entries) key value name =
    elim (told bytes_eq bytes_eq-Decides key.items entry.0.items) [
      | inl t ↦ (
          let same : bytes_eq name key.items ≡ bytes_eq name entry.0.items = ap (bytes_eq name) t.1 in
          rw (t.0, same) (elim (cases_Bool (bytes_eq name entry.0.items)) [ inl y ↦ rw y refl | inr n ↦ rw n refl ]))
      | inr f ↦ rw f.0 (elim (told bytes_eq bytes_eq-Decides name entry.0.items) [
        | inl y ↦ (
            let apart : bytes_eq name key.items ≡ false = not_key name key.items entry.0.items y.1 f.1 in
            rw (y.0, apart) refl)
        | inr n ↦ rw n.0 (lookup_inserted entries key value name)
      ])
    ]
  where
    not_key : (name key other : List ℕ) → name ≡ other → (key ≡ other → ⊥) → bytes_eq name key ≡ false
    not_key name key other is apart = elim (told bytes_eq bytes_eq-Decides name key) [ inl t ↦ absurd (apart (sym t.1 ∙ is)) | inr f ↦ f.0 ]

count_push : (pairs : List Pair) (pair : Pair) (name : List ℕ) → input_count bytes_eq (pairs ++ pair ∷ []) name ≡ cond (bytes_eq pair.0 name) (input_count bytes_eq pairs name + 1) (input_count bytes_eq pairs name)
count_push pairs pair name =
    ap (λ (ps : List Pair). length (map (λ (p : Pair). p.1) ps)) (filter-append (λ (p : Pair). bytes_eq p.0 name) pairs (pair ∷ []))
    ∙ elim (cases_Bool (bytes_eq pair.0 name)) [
      | inl t ↦ rw t (ap length (map-append (λ (p : Pair). p.1) (filter (λ (p : Pair). bytes_eq p.0 name) pairs) (pair ∷ [])) ∙ length-append (inputs_of bytes_eq pairs name) (pair.1 ∷ []))
      | inr f ↦ rw f (ap (λ (ps : List Pair). length (map (λ (p : Pair). p.1) ps)) (append-nil (filter (λ (p : Pair). bytes_eq p.0 name) pairs)))
    ]

-- counts of pairs and one more
pub counted_more : {A : Type 0} (entries more : List (Vec ℕ A × ℕ)) (key : Vec ℕ A) (value : ℕ) (pairs : List Pair) (i : ℕ) (pair : Pair) →
    more ≡ insert_entry (λ (a b : Vec ℕ A). bytes_eq a.items b.items) entries key value → key.items ≡ pair.0 → i < length pairs → pair ≡ get_or pairs i pair →
    value ≡ unwrap_or (lookup (λ other. bytes_eq pair.0 other.items) entries) 0 + 1 →
    ((name : List ℕ) → unwrap_or (lookup (λ other. bytes_eq name other.items) entries) 0 ≡ input_count bytes_eq (take i pairs) name) →
    (name : List ℕ) → unwrap_or (lookup (λ other. bytes_eq name other.items) more) 0 ≡ input_count bytes_eq (take (i + 1) pairs) name
counted_more {A} entries more key value pairs i pair inserted key_is below pair_is value_is counts name =
    let longer : take (i + 1) pairs ≡ take i pairs ++ pair ∷ [] = take_more pairs i pair below ∙ ap (λ (p : Pair). take i pairs ++ p ∷ []) (sym pair_is) in
    ap (λ (es : List (Vec ℕ A × ℕ)). unwrap_or (lookup (λ other. bytes_eq name other.items) es) 0) inserted
    ∙ ap (λ o. unwrap_or o 0) (lookup_inserted entries key value name)
    ∙ elim (told bytes_eq bytes_eq-Decides name key.items) [
      | inl t ↦ (
          let same : name ≡ pair.0 = t.1 ∙ key_is in
          let turned : bytes_eq pair.0 name ≡ true = (bytes_eq-Decides pair.0 name).1 (sym same) in
          rw t.0 (value_is
          ∙ ap (λ n. n + 1) (counts pair.0 ∙ ap (input_count bytes_eq (take i pairs)) (sym same))
          ∙ sym (ap (λ (ps : List Pair). input_count bytes_eq ps name) longer ∙ count_push (take i pairs) pair name ∙ rw turned refl)))
      | inr f ↦ (
          let turned : bytes_eq pair.0 name ≡ false = apart pair.0 name (λ e. f.1 (sym e ∙ sym key_is)) in
          rw f.0 (counts name ∙ sym (ap (λ (ps : List Pair). input_count bytes_eq ps name) longer ∙ count_push (take i pairs) pair name ∙ rw turned refl)))
    ]
  where
    apart : (a b : List ℕ) → (a ≡ b → ⊥) → bytes_eq a b ≡ false
    apart a b no_same = elim (told bytes_eq bytes_eq-Decides a b) [ inl t ↦ absurd (no_same t.1) | inr f ↦ f.0 ]

-- a count and one
pub one_more : (count : ℕ) (found : Option ℕ) (more limit : ℕ) → SomeIff found (count + 1 < limit) (count + 1) → found ≡ Some more → more ≡ count + 1
one_more count None more limit iff is = absurd cc
one_more count (Some other) more limit iff is = let same : other ≡ more = cc in omega (arith, same, iff.1)

-- ---- new pairs that cross

-- names on sides tell which pairs cross
pub any_crosses : (sides : PlainSides) (pairs tried : List Pair) → HasSides sides pairs → list_any (crosses_sides sides) tried ≡ list_any (crosses pairs) tried
any_crosses sides pairs [] has = refl
any_crosses sides pairs (pair ∷ tried) has = λ j. (has.inputs pair.0 j || has.outputs pair.1 j) || any_crosses sides pairs tried has j

pub or_true : (b : Bool) → (b || true) ≡ true
or_true true = refl
or_true false = refl

-- some pass one of two tests
pub any_either : {X : Type 0} (first second : X → Bool) (xs : List X) → list_any (λ x. first x || second x) xs ≡ (list_any first xs || list_any second xs)
any_either first second [] = refl
any_either first second (x ∷ xs) = elim (cases_Bool (first x)) [
  | inl t ↦ rw t refl
  | inr f ↦ rw f (elim (cases_Bool (second x)) [
    | inl y ↦ rw y (sym (or_true (list_any first xs)))
    | inr n ↦ rw n (any_either first second xs)
  ])
]
