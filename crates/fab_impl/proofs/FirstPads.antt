-- One pad more, and which pad is the first of its port.
use Rattle.std.proofs.Common.{◌≡◌, ℕ, suc, ◌+◌, ◌<◌, Bool, true, false, cond, ◌||◌, List, [], ◌∷◌, ◌++◌, length, get_or, position, Option, Some, None, refl, sym, ap, ◌∙◌, inl, inr, arith, length-append, ltb}
use Rattle.std.specs.Option.{option_map}
use Rattle.std.specs.List.{list_any, position_or_len}
use Rattle.std.specs.Str.{bytes_eq}
use Rattle.std.proofs.lemmas.Bool.{cases_Bool, cases_lt, lt-ltb, le-ltb}
use Rattle.std.proofs.lemmas.List.{map_push, get_or_append_left, length-map}
use Rattle.std.proofs.lemmas.List.Quantifiers.{position-Some}
use Rattle.std.proofs.Math.Seq.{get_or-append_seam}
use Rattle.std.proofs.lemmas.Slice.Eq.{bytes_eq-Decides}
use Rattle.fab_fabric.specs.declared.wire.Site.{Site}
use Rattle.fab_implementation.specs.Plain.{Pad, ports_of}
use Rattle.fab_texts.specs.Rows.{Word}
use Rattle.fab_lines.specs.Items.{is_among}
use Rattle.fab_impl.specs.FirstPlaces.{first_place}
use Rattle.fab_impl.specs.inner.Firsts.{HasFirsts}

-- the place where something stands first, by recursion
abbrev pub place_in : {X : Type 0} → (X → Bool) → List X → Option ℕ
place_in test [] = None
place_in test (x ∷ xs) = cond (test x) (Some 0) (option_map suc (place_in test xs))

later : (n count : ℕ) → cond (ltb (1 + n) (suc count)) (Some (1 + n)) None ≡ option_map suc (cond (ltb n count) (Some n) None)
later n count = elim (cases_lt n count) [
  | inl lt ↦ let one : 1 + n ≡ suc n = omega arith in rw (lt-ltb n count lt, lt-ltb (1 + n) (suc count) (omega arith)) (ap (λ (k : ℕ). Some k) one)
  | inr le ↦ rw (le-ltb n count le, le-ltb (1 + n) (suc count) (omega arith)) refl
]

pub position-in : {X : Type 0} (test : X → Bool) (xs : List X) → position test xs ≡ place_in test xs
position-in test [] = refl
position-in test (x ∷ xs) = elim (cases_Bool (test x)) [
  | inl passes ↦ rw (passes, lt-ltb 0 (suc (length xs)) (omega arith)) refl
  | inr fails ↦ rw fails (later (position_or_len test xs) (length xs) ∙ ap (option_map suc) (position-in test xs))
]

-- the first place in a list with one item more
abbrev or_last : Option ℕ → Bool → ℕ → Option ℕ
or_last (Some place) passes count = Some place
or_last None passes count = cond passes (Some count) None

last_later : (found : Option ℕ) (passes : Bool) (count : ℕ) → option_map suc (or_last found passes count) ≡ or_last (option_map suc found) passes (suc count)
last_later (Some place) passes count = refl
last_later None true count = refl
last_later None false count = refl

push_in : {X : Type 0} (test : X → Bool) (xs : List X) (y : X) → place_in test (xs ++ y ∷ []) ≡ or_last (place_in test xs) (test y) (length xs)
push_in test [] y = refl
push_in test (x ∷ xs) y = elim (cases_Bool (test x)) [
  | inl passes ↦ rw passes refl
  | inr fails ↦ rw fails (ap (option_map suc) (push_in test xs y) ∙ last_later (place_in test xs) (test y) (length xs))
]

place_push : {X : Type 0} (test : X → Bool) (xs : List X) (y : X) → position test (xs ++ y ∷ []) ≡ or_last (position test xs) (test y) (length xs)
place_push test xs y = position-in test (xs ++ y ∷ []) ∙ push_in test xs y ∙ ap (λ found. or_last found (test y) (length xs)) (sym (position-in test xs))

some_stands : {X : Type 0} (test : X → Bool) (xs : List X) → list_any test xs ≡ true → place_in test xs ≡ None → ⊥
some_stands test [] any none = cc
some_stands {X} test (x ∷ xs) any none = by_first (test x) (place_in test xs) any none (some_stands test xs)
  where
    by_first : (passes : Bool) (rest : Option ℕ) → (passes || list_any test xs) ≡ true → cond passes (Some 0) (option_map suc rest) ≡ None → (list_any test xs ≡ true → rest ≡ None → ⊥) → ⊥
    by_first true rest any none below = cc
    by_first false (Some place) any none below = cc
    by_first false None any none below = below any refl

abbrev place_at : List ℕ → ℕ → ℕ
place_at firsts known = get_or firsts known 0

-- the first pad of a port, where there is one pad more
first_push : (pads : List Pad) (port : Word) (site : Site) (sought : Word) → first_place (pads ++ (port, site) ∷ []) sought ≡ or_last (first_place pads sought) (bytes_eq sought port) (length pads)
first_push pads port site sought =
    ap (position (bytes_eq sought)) (map_push (λ (pad : Pad). pad.0) pads (port, site))
    ∙ place_push (bytes_eq sought) (ports_of pads) port
    ∙ ap (or_last (first_place pads sought) (bytes_eq sought port)) (length-map pads (λ (pad : Pad). pad.0))

new_by : (firsts : List ℕ) (known count : ℕ) (found first : Option ℕ) (passes : Bool) → length firsts ≡ known → ((place : ℕ) → found ≡ Some place → place < known) → option_map (place_at firsts) found ≡ first
    → option_map (place_at (firsts ++ count ∷ [])) (or_last found passes known) ≡ or_last first passes count
new_by firsts known count (Some place) first passes as_many below is =
    let within : place < length firsts = omega (arith, as_many, below place refl) in
    ap (λ (p : ℕ). Some p) (get_or_append_left firsts (count ∷ []) 0 place within) ∙ ap (λ (f : Option ℕ). or_last f passes count) is
new_by firsts known count None first true as_many below is =
    let last : place_at (firsts ++ count ∷ []) known ≡ count = ap (place_at (firsts ++ count ∷ [])) (sym as_many) ∙ get_or-append_seam firsts count [] 0 in
    ap (λ (p : ℕ). Some p) last ∙ ap (λ (f : Option ℕ). or_last f true count) is
new_by firsts known count None first false as_many below is = ap (λ (f : Option ℕ). or_last f false count) is

-- a pad whose port is new
pub push_new : (pads : List Pad) (names : List Word) (firsts : List ℕ) (port : Word) (site : Site) → HasFirsts pads names firsts → HasFirsts (pads ++ (port, site) ∷ []) (names ++ port ∷ []) (firsts ++ length pads ∷ [])
push_new pads names firsts port site has = record {
  as_many = let a = length-append firsts (length pads ∷ []) in let b = length-append names (port ∷ []) in omega (arith, a, b, has.as_many);
  each = λ sought.
      ap (option_map (place_at (firsts ++ length pads ∷ []))) (place_push (bytes_eq sought) names port)
      ∙ new_by firsts (length names) (length pads) (position (bytes_eq sought) names) (first_place pads sought) (bytes_eq sought port) has.as_many
      (λ place so. (position-Some (bytes_eq sought) names place port so).0) (has.each sought)
      ∙ sym (first_push pads port site sought);
}

old_by : (firsts : List ℕ) (count : ℕ) (found first : Option ℕ) (passes : Bool) → (found ≡ None → passes ≡ true → ⊥) → option_map (place_at firsts) found ≡ first → option_map (place_at firsts) found ≡ or_last first passes count
old_by firsts count (Some place) first passes other is = ap (λ (f : Option ℕ). or_last f passes count) is
old_by firsts count None first true other is = absurd (other refl refl)
old_by firsts count None first false other is = ap (λ (f : Option ℕ). or_last f false count) is

-- a pad whose port stood before
pub push_old : (pads : List Pad) (names : List Word) (firsts : List ℕ) (port : Word) (site : Site) → HasFirsts pads names firsts → is_among names port ≡ true → HasFirsts (pads ++ (port, site) ∷ []) names firsts
push_old pads names firsts port site has among = record {
  as_many = has.as_many;
  each = λ sought.
      old_by firsts (length pads) (position (bytes_eq sought) names) (first_place pads sought) (bytes_eq sought port)
      (λ none same.
      let equal : sought ≡ port = (bytes_eq-Decides sought port).0 same in
      some_stands (bytes_eq port) names among (sym (position-in (bytes_eq port) names) ∙ ap (λ (w : Word). position (bytes_eq w) names) (sym equal) ∙ none))
      (has.each sought)
      ∙ sym (first_push pads port site sought);
}
