-- Lists that hold the same names.
use Rattle.std.proofs.Common.{◌≡◌, ℕ, ◌+◌, ◌<◌, Bool, true, false, not, ◌||◌, if◌then◌else◌, List, [], ◌∷◌, ◌++◌, map, take, flat_map, length, get_or, refl, sym, ap, subst, ◌∙◌, inl, inr, arith, append_assoc}
use Rattle.std.specs.List.{list_any}
use Rattle.std.specs.Str.{bytes_eq}
use Rattle.std.proofs.lemmas.Bool.{cases_Bool, false≢true}
use Rattle.std.proofs.lemmas.Grind.{common_steps}
use Rattle.std.proofs.lemmas.List.{map_more, take_more, append-nil}
use Rattle.std.proofs.lemmas.Slice.Eq.{bytes_eq-Decides}
use Rattle.fab_instances.specs.Formals.{SameNames}

any_joined : (p : List ℕ → Bool) (xs ys : List (List ℕ)) → list_any p (xs ++ ys) ≡ (list_any p xs || list_any p ys)
any_joined p [] ys = refl
any_joined p (x ∷ xs) ys = ap (λ (b : Bool). p x || b) (any_joined p xs ys) ∙ shifted (p x) (list_any p xs) (list_any p ys)
  where
    shifted : (a b c : Bool) → (a || (b || c)) ≡ ((a || b) || c)
    shifted true b c = refl
    shifted false b c = refl

none_more : (a : Bool) → (a || false) ≡ a
none_more true = refl
none_more false = refl

or_true : (a b : Bool) → a ≡ true → (a || b) ≡ true
or_true true b is = refl
or_true false b is = absurd (false≢true is)

same_bytes : (a b : List ℕ) → bytes_eq a b ≡ true → a ≡ b
same_bytes a b same = grind (arith, common_steps, bytes_eq-Decides)

-- a name that is put behind names only where it is new
pub same_added : (names next : List (List ℕ)) (name : List ℕ) (added : Bool) → added ≡ not (list_any (bytes_eq name) names) → next ≡ (if added then names ++ name ∷ [] else names) →
    SameNames next (names ++ name ∷ [])
same_added names next name true told is other = ap (list_any (bytes_eq other)) is
same_added names next name false told is other = ap (list_any (bytes_eq other)) is ∙ sym (any_joined (bytes_eq other) names (name ∷ []) ∙ ap (λ (b : Bool). list_any (bytes_eq other) names || b) (none_more (bytes_eq other name)) ∙ there)
  where
    there : (list_any (bytes_eq other) names || bytes_eq other name) ≡ list_any (bytes_eq other) names
    there = elim (cases_Bool (bytes_eq other name)) [
      | inr f ↦ ap (λ (b : Bool). list_any (bytes_eq other) names || b) f ∙ none_more (list_any (bytes_eq other) names)
      | inl t ↦ (
          let same : other ≡ name = same_bytes other name t in
          let here : list_any (bytes_eq name) names ≡ true = held (list_any (bytes_eq name) names) told in
          let any : list_any (bytes_eq other) names ≡ true = ap (λ (n : List ℕ). list_any (bytes_eq n) names) same ∙ here in
          or_true (list_any (bytes_eq other) names) (bytes_eq other name) any ∙ sym any
          )
    ]
      where
        held : (b : Bool) → false ≡ not b → b ≡ true
        held true is = refl
        held false is = absurd (false≢true is)

-- names behind the same names
pub same_behind : (a b c more : List (List ℕ)) → SameNames a b → SameNames c (a ++ more) → SameNames c (b ++ more)
same_behind a b c more first second name =
    second name ∙ any_joined (bytes_eq name) a more ∙ ap (λ (x : Bool). x || list_any (bytes_eq name) more) (first name) ∙ sym (any_joined (bytes_eq name) b more)

pub same_more : (old a c names : List (List ℕ)) (at : ℕ) (name : List ℕ) → at < length names → name ≡ get_or names at name → SameNames a (old ++ take at names) → SameNames c (a ++ name ∷ []) →
    SameNames c (old ++ take (at + 1) names)
same_more old a c names at name within is first second =
    subst (SameNames c) (append_assoc old (take at names) (name ∷ []) ∙ ap (λ (n : List ℕ). old ++ (take at names ++ n ∷ [])) is ∙ ap (λ (list : List (List ℕ)). old ++ list) (sym (take_more names at name within)))
    (same_behind a (old ++ take at names) c (name ∷ []) first second)

pub flat_joined : {X : Type 0} (f : X → List (List ℕ)) (xs : List X) (x : X) → flat_map f (xs ++ x ∷ []) ≡ flat_map f xs ++ f x
flat_joined f [] x = append-nil (f x)
flat_joined f (y ∷ xs) x = ap (λ (list : List (List ℕ)). f y ++ list) (flat_joined f xs x) ∙ sym (append_assoc (f y) (flat_map f xs) (f x))

pub same_lines : {X Y : Type 0} (plain : X → Y) (f : Y → List (List ℕ)) (xs : List X) (a c : List (List ℕ)) (at : ℕ) (x : X) → at < length xs → x ≡ get_or xs at x →
    SameNames a (flat_map f (map plain (take at xs))) → SameNames c (a ++ f (plain x)) → SameNames c (flat_map f (map plain (take (at + 1) xs)))
same_lines plain f xs a c at x within is first second =
    subst (SameNames c)
    (ap (λ y. flat_map f (map plain (take at xs)) ++ f (plain y)) is ∙ sym (flat_joined f (map plain (take at xs)) (plain (get_or xs at x))) ∙ ap (flat_map f) (sym (map_more plain xs at x within)))
    (same_behind a (flat_map f (map plain (take at xs))) c (f (plain x)) first second)

-- the same, where the lines are held in another list
pub same_held : {X Y : Type 0} (plain : X → Y) (f : Y → List (List ℕ)) (xs held : List X) (a c : List (List ℕ)) (at : ℕ) (x : X) → held ≡ xs → at < length held → x ≡ get_or held at x →
    SameNames a (flat_map f (map plain (take at xs))) → SameNames c (a ++ f (plain x)) → SameNames c (flat_map f (map plain (take (at + 1) xs)))
same_held plain f xs held a c at x same within is first second =
    same_lines plain f xs a c at x (subst (λ list. at < length list) same within) (subst (λ list. x ≡ get_or list at x) same is) first second
