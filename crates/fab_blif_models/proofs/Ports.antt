-- Names of ports: which stand among others, and how often.
use Rattle.std.proofs.Common.{◌≡◌, ℕ, ◌+◌, ◌≤◌, Bool, true, false, ◌||◌, cond, List, [], ◌∷◌, ◌++◌, Some, None, find, refl, sym, ap, ◌∙◌, inl, inr, arith}
use Rattle.std.specs.List.{count_by}
use Rattle.std.specs.Str.{bytes_eq}
use Rattle.std.proofs.lemmas.Bool.{cases_Bool, both_ways, or_parts, or_cases, or_left, or_right}
use Rattle.std.proofs.lemmas.List.Sums.{sum_by-cons, sum_by-append}
use Rattle.std.proofs.lemmas.Slice.Eq.{bytes_eq-Decides}
use Rattle.indexmap.specs.IndexSet.{insert_key, insert_all}
use Rattle.fab_blif_models.specs.Judge.{names_twice}
use Rattle.fab_lines.specs.Items.{is_among}
use Rattle.fab_blif_models.proofs.Parts.{any_push}

-- ---- how often a name stands in a list

count_first : (name x : List ℕ) (xs : List (List ℕ)) → bytes_eq name x ≡ true → count_by (bytes_eq name) (x ∷ xs) ≡ 1 + count_by (bytes_eq name) xs
count_first name x xs same = sum_by-cons (λ y. cond (bytes_eq name y) 1 0) x xs ∙ ap (λ (b : Bool). cond b 1 0 + count_by (bytes_eq name) xs) same

count_other : (name x : List ℕ) (xs : List (List ℕ)) → bytes_eq name x ≡ false → count_by (bytes_eq name) (x ∷ xs) ≡ 0 + count_by (bytes_eq name) xs
count_other name x xs other = sum_by-cons (λ y. cond (bytes_eq name y) 1 0) x xs ∙ ap (λ (b : Bool). cond b 1 0 + count_by (bytes_eq name) xs) other

pub count_both : (name : List ℕ) (xs ys : List (List ℕ)) → count_by (bytes_eq name) (xs ++ ys) ≡ count_by (bytes_eq name) xs + count_by (bytes_eq name) ys
count_both name xs ys = sum_by-append (λ y. cond (bytes_eq name y) 1 0) xs ys

pub count_none : (name : List ℕ) (xs : List (List ℕ)) → is_among xs name ≡ false → count_by (bytes_eq name) xs ≡ 0
count_none name [] none = refl
count_none name (x ∷ xs) none =
    let parts = or_parts (bytes_eq name x) (is_among xs name) none in
    omega (arith, count_other name x xs parts.0, count_none name xs parts.1)

-- ---- names that stand nowhere twice

-- a name of a list in which none stands twice, nor among those before them
pub record IsOnce (before names : List (List ℕ)) (name : List ℕ) : Type 0 where
  pub counted : count_by (bytes_eq name) names ≤ 1
  pub new : is_among names name ≡ true → is_among before name ≡ false

once_more : (before : List (List ℕ)) (x : List ℕ) (xs : List (List ℕ)) (name : List ℕ) → is_among before x ≡ false → IsOnce (before ++ x ∷ []) xs name → IsOnce before (x ∷ xs) name
once_more before x xs name here rest =
    let pushed : is_among (before ++ x ∷ []) name ≡ (is_among before name || bytes_eq name x) = any_push (bytes_eq name) before x in
    elim (cases_Bool (bytes_eq name x)) [
      | inl t ↦ (
          let same : name ≡ x = (bytes_eq-Decides name x).0 t in
          let none : is_among xs name ≡ false = not_both (is_among xs name) (is_among (before ++ x ∷ []) name) rest.new (pushed ∙ or_right (is_among before name) (bytes_eq name x) t) in
          record {
            counted = omega (arith, count_first name x xs t, count_none name xs none);
            new = λ among. ap (is_among before) same ∙ here;
          })
      | inr f ↦ record {
        counted = omega (arith, count_other name x xs f, rest.counted);
        new = λ among. (or_parts (is_among before name) (bytes_eq name x) (sym pushed ∙ rest.new (later (bytes_eq name x) (is_among xs name) f among))).0;
      }
    ]
  where
    not_both : (a b : Bool) → (a ≡ true → b ≡ false) → b ≡ true → a ≡ false
    not_both true b refuted holds = absurd (both_ways b (refuted refl) holds)
    not_both false b refuted holds = refl

    later : (a b : Bool) → a ≡ false → (a || b) ≡ true → b ≡ true
    later true b fails either = absurd cc
    later false b fails either = either

pub once : (before names : List (List ℕ)) (name : List ℕ) → names_twice before names ≡ false → IsOnce before names name
once before [] name fine = record { counted = omega arith; new = λ among. absurd cc }
once before (x ∷ xs) name fine =
    let parts = or_parts (is_among before x) (names_twice (before ++ x ∷ []) xs) fine in
    once_more before x xs name parts.0 (once (before ++ x ∷ []) xs name parts.1)

-- what no name of a list passes
pub not_found : (test : List ℕ → Bool) (names : List (List ℕ)) (name : List ℕ) → find test names ≡ None → is_among names name ≡ true → test name ≡ false
not_found test [] name none among = absurd cc
not_found test (x ∷ xs) name none among = elim (cases_Bool (test x)) [
  | inl t ↦ (let some : Some x ≡ None = rw t at none in absurd cc)
  | inr f ↦ (
      let rest : find test xs ≡ None = rw f at none in
      elim (or_cases (bytes_eq name x) (is_among xs name) among) [
        | inl here ↦ ap test ((bytes_eq-Decides name x).0 here) ∙ f
        | inr later ↦ not_found test xs name rest later
      ])
]

-- ---- names that are inserted

kept_by_one : (keys : List (List ℕ)) (key name : List ℕ) → is_among keys name ≡ true → is_among (insert_key bytes_eq keys key) name ≡ true
kept_by_one keys key name among = elim (cases_Bool (is_among keys key)) [
  | inl t ↦ rw t among
  | inr f ↦ rw f (any_push (bytes_eq name) keys key ∙ or_left (is_among keys name) (bytes_eq name key) among)
]

inserted : (keys : List (List ℕ)) (key name : List ℕ) → bytes_eq name key ≡ true → is_among (insert_key bytes_eq keys key) name ≡ true
inserted keys key name same = elim (cases_Bool (is_among keys key)) [
  | inl t ↦ rw t (ap (is_among keys) ((bytes_eq-Decides name key).0 same) ∙ t)
  | inr f ↦ rw f (any_push (bytes_eq name) keys key ∙ or_right (is_among keys name) (bytes_eq name key) same)
]

pub among_old : (keys more : List (List ℕ)) (name : List ℕ) → is_among keys name ≡ true → is_among (insert_all bytes_eq keys more) name ≡ true
among_old keys [] name among = among
among_old keys (x ∷ more) name among = among_old (insert_key bytes_eq keys x) more name (kept_by_one keys x name among)

pub among_new : (keys more : List (List ℕ)) (name : List ℕ) → is_among more name ≡ true → is_among (insert_all bytes_eq keys more) name ≡ true
among_new keys [] name among = absurd cc
among_new keys (x ∷ more) name among = elim (or_cases (bytes_eq name x) (is_among more name) among) [
  | inl here ↦ among_old (insert_key bytes_eq keys x) more name (inserted keys x name here)
  | inr later ↦ among_new (insert_key bytes_eq keys x) more name later
]
