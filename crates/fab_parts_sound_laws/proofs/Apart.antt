-- Tests of names that compute, for names of which the first bytes are known.
use Rattle.std.proofs.Common.{◌≡◌, ℕ, Bool, true, false, ◌||◌, List, [], ◌∷◌, ◌++◌, refl, sym, All}
use Rattle.std.specs.List.{list_any}
use Rattle.std.specs.Str.{bytes_eq}
use Rattle.std.proofs.lemmas.List.Elements.{All-nil, All-cons, All-append}
use Rattle.std.proofs.lemmas.List.Kept.{AllPairs-cons}
use Rattle.fab_parts_sound_laws.proofs.Lists.{pairs_none}
use Rattle.fab_parts_sound_laws.proofs.Names.{Differ, AreApart, IsNoneOf, told_apart}

left_false : (a b : Bool) → (a || b) ≡ false → a ≡ false
left_false true b e = cc
left_false false b e = refl

right_false : (a b : Bool) → (a || b) ≡ false → b ≡ false
right_false true b e = cc
right_false false b e = e

-- none of the names passes a test
none_passes : (test : List ℕ → Bool) (names : List (List ℕ)) → list_any test names ≡ false → All (λ name. test name ≡ false) names
none_passes test [] none = All-nil (λ name. test name ≡ false)
none_passes test (name ∷ names) none =
    All-cons (λ name. test name ≡ false) name names (left_false (test name) (list_any test names) none) (none_passes test names (right_false (test name) (list_any test names) none))

-- no name of a list is this
pub none_is : (names : List (List ℕ)) (name : List ℕ) → list_any (λ other. bytes_eq other name) names ≡ false → IsNoneOf names name
none_is names name told k d within = told_apart _ name (none_passes (λ other. bytes_eq other name) names told k d within)

-- a name differs from each of a list
pub differs_from : (name : List ℕ) (names : List (List ℕ)) → list_any (bytes_eq name) names ≡ false → All (Differ name) names
differs_from name names told k d within = told_apart name _ (none_passes (bytes_eq name) names told k d within)

-- whether two names of a list are one
abbrev pub any_same : List (List ℕ) → Bool
any_same [] = false
any_same (name ∷ names) = list_any (bytes_eq name) names || any_same names

pub apart_if : (names : List (List ℕ)) → any_same names ≡ false → AreApart names
apart_if [] told = pairs_none Differ
apart_if (name ∷ names) told =
    AllPairs-cons Differ name names (differs_from name names (left_false (list_any (bytes_eq name) names) (any_same names) told))
    (apart_if names (right_false (list_any (bytes_eq name) names) (any_same names) told))

-- ---- the names of a list against those of another

abbrev pub Across : List (List ℕ) → List (List ℕ) → Type 0
Across names others = All (λ name. All (Differ name) others) names

pub across_turned : (names others : List (List ℕ)) → Across names others → Across others names
across_turned names others across k d within i e few same = across i e few k d within (sym same)

pub across_more : (names others more : List (List ℕ)) → Across names others → Across names more → Across names (others ++ more)
across_more names others more first second k d within = All-append (Differ _) others more (first k d within) (second k d within)

pub across_if : (names others : List (List ℕ)) → list_any (λ name. list_any (bytes_eq name) others) names ≡ false → Across names others
across_if names others told k d within = differs_from _ others (none_passes (λ name. list_any (bytes_eq name) others) names told k d within)
