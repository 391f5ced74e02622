-- Pins by their numbers.
use Rattle.std.proofs.Common.{◌≡◌, ℕ, ◌+◌, ◌-◌, ◌<◌, ◌≤◌, Bool, false, List, [], ◌∷◌, ◌++◌, map, length, get_or, take, drop, refl, sym, ap, ◌∙◌, arith, slice_range, slice_get, Some}
use Rattle.std.proofs.lemmas.List.{take_more, get_or-drop, get_or-map, get_or-append_right, length-append, length-drop}
use Rattle.std.proofs.lemmas.Option.{slice_get_within, get_or_from_slice_get}

-- one element more of a range
pub range_more : {X : Type 0} (xs : List X) (from i : ℕ) (x : X) → from ≤ i → slice_get xs i ≡ Some x →
    slice_range xs from (i + 1) ≡ slice_range xs from i ++ x ∷ []
range_more xs from i x low got =
    let within : i < length xs = slice_get_within xs i x got in
    let more : i + 1 - from ≡ i - from + 1 = omega arith in
    let place : from + (i - from) ≡ i = omega arith in
    let inside : i - from < length (drop from xs) = omega (arith, length-drop from xs) in
    let there : get_or (drop from xs) (i - from) x ≡ x =
    get_or-drop from xs (i - from) x ∙ ap (λ n. get_or xs n x) place ∙ get_or_from_slice_get xs i x x got in
    ap (λ n. take n (drop from xs)) more ∙ take_more (drop from xs) (i - from) x inside ∙ ap (λ y. take (i - from) (drop from xs) ++ y ∷ []) there

-- what a list of values has at a name of the second of two lists
pub value_at_name : (value : List ℕ → Bool) (names others : List (List ℕ)) (values : List Bool) (pin : ℕ) (name : List ℕ) → map value others ≡ values →
    length names ≤ pin → slice_get (names ++ others) pin ≡ Some name → value name ≡ get_or values (pin - length names) false
value_at_name value names others values pin name same past got =
    let within : pin < length (names ++ others) = slice_get_within (names ++ others) pin name got in
    let inside : pin - length names < length others = omega (arith, length-append names others) in
    let there : get_or others (pin - length names) [] ≡ name =
    sym (get_or-append_right names others (length names) pin [] refl past) ∙ get_or_from_slice_get (names ++ others) pin name [] got in
    ap value (sym there)
    ∙ sym (get_or-map value others (pin - length names) [] false inside)
    ∙ ap (λ vs. get_or vs (pin - length names) false) same
