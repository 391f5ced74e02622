-- Open brackets, the innermost first.
use Rattle.std.proofs.Common.{◌≡◌, ◌≤◌, ◌<◌, ℕ, suc, Bool, true, false, List, [], ◌∷◌, ◌++◌, length, map, reverse, refl, ap, sym, ◌∙◌, arith, append_assoc, append-nil, nat_lt, ◌+◌, Option, Some, None, MatchOption}
use Rattle.std.specs.Option.{option_to_list}
use Rattle.std.proofs.lemmas.Bool.Decides.{nat_tests}
use Rattle.std.proofs.lemmas.List.{map_push, reverse-append, length-reverse, length-append}
use Rattle.fab_vread.specs.declared.levels.Level.{Level}
use Rattle.fab_vread.specs.declared.levels.Passed.{Passed}
use Rattle.fab_vread.specs.inner.Expressions.{PlainLevel, Before, Opened, level, nothing, negation, left, test, choice, parenthesis, brace, index, plain_wanted, plain_bracket, plain_level, plain_passed, plain_levels, kept_before, kept_bracket, kept_level}

-- ---- how many there are

length-plain : {X : Type 0} (f : X → PlainLevel) (xs : List X) → length (map f xs) ≡ length xs
length-plain f [] = refl
length-plain f (x ∷ xs) = ap suc (length-plain f xs)

pub length_levels : (outer : List Level) (deep : List Passed) → length (plain_levels outer deep) ≡ length outer + length deep
unfolding plain_levels
length_levels outer deep =
    let a = length-reverse (map plain_level outer ++ map plain_passed deep) in
    let b = length-append (map plain_level outer) (map plain_passed deep) in
    let c = length-plain plain_level outer in
    let d = length-plain plain_passed deep in
    omega arith

-- where deep ones stand, the others are as many as may be
pub room_told : (outer : List Level) (deep : List Passed) → (length outer < 300 → length deep ≡ 0) →
    nat_lt (length outer) 300 ≡ nat_lt (length (plain_levels outer deep)) 300
room_told outer deep full = told (nat_lt (length outer) 300) refl where
  told : (b : Bool) → nat_lt (length outer) 300 ≡ b → nat_lt (length outer) 300 ≡ nat_lt (length (plain_levels outer deep)) 300
  told true e =
      let few : length outer < 300 = grind (arith, nat_tests) in
      let none = full few in
      let same = length_levels outer deep in
      ap (λ n. nat_lt n 300) (omega arith)
  told false e =
      let many : 300 ≤ length outer = grind (arith, nat_tests) in
      let same = length_levels outer deep in
      let above : nat_lt (length (plain_levels outer deep)) 300 ≡ false = grind (arith, nat_tests) in
      e ∙ sym above

-- ---- what is kept

below : (n : ℕ) → n < 300 → nat_lt n 300 ≡ true
below n h = grind (arith, nat_tests)

above : (n : ℕ) → 300 ≤ n → nat_lt n 300 ≡ false
above n h = grind (arith, nat_tests)

pub kept_before_is : (n : ℕ) (before : Before) → n < 300 → kept_before n before ≡ before
kept_before_is n nothing h = refl
kept_before_is n negation h = refl
kept_before_is n (left op e) h = rw (below n h) refl
kept_before_is n (test e) h = rw (below n h) refl
kept_before_is n (choice c a) h = rw (below n h) refl

pub kept_bracket_is : (n : ℕ) (bracket : Opened) → n < 300 → kept_bracket n bracket ≡ bracket
kept_bracket_is n parenthesis h = refl
kept_bracket_is n (brace parts) h = rw (below n h) refl
kept_bracket_is n (index name) h = rw (below n h) refl

level_same : (before other : Before) (bracket another : Opened) → before ≡ other → bracket ≡ another → level before bracket ≡ level other another
level_same before other bracket another p q = cc

pub kept_level_is : (n : ℕ) (before : Before) (bracket : Opened) → n < 300 → kept_level n before bracket ≡ level before bracket
kept_level_is n before bracket h = level_same _ _ _ _ (kept_before_is n before h) (kept_bracket_is n bracket h)

deep_before : (n : ℕ) (before : Before) → 300 ≤ n → kept_before n before ≡ kept_before 300 before
deep_before n nothing h = refl
deep_before n negation h = refl
deep_before n (left op e) h = rw (above n h) refl
deep_before n (test e) h = rw (above n h) refl
deep_before n (choice c a) h = rw (above n h) refl

deep_bracket : (n : ℕ) (bracket : Opened) → 300 ≤ n → kept_bracket n bracket ≡ kept_bracket 300 bracket
deep_bracket n parenthesis h = refl
deep_bracket n (brace parts) h = rw (above n h) refl
deep_bracket n (index name) h = rw (above n h) refl

deep_level : (n : ℕ) (before : Before) (bracket : Opened) → 300 ≤ n → kept_level n before bracket ≡ kept_level 300 before bracket
deep_level n before bracket h = level_same _ _ _ _ (deep_before n before h) (deep_bracket n bracket h)

-- ---- the innermost

-- a bracket with room for it is the innermost, where no deep one stands
outer_push : (outer : List Level) (deep : List Passed) (inner : Level) → length deep ≡ 0 →
    plain_levels (outer ++ inner ∷ []) deep ≡ plain_level inner ∷ plain_levels outer deep
unfolding plain_levels
outer_push outer [] inner none =
    ap reverse (append-nil (map plain_level (outer ++ inner ∷ [])) ∙ map_push plain_level outer inner)
    ∙ reverse-append (map plain_level outer) (plain_level inner ∷ [])
    ∙ ap (λ (ls : List PlainLevel). plain_level inner ∷ reverse ls) (sym (append-nil (map plain_level outer)))
outer_push outer (x ∷ deep) inner none = absurd (omega arith)

deep_push : (outer : List Level) (deep : List Passed) (inner : Passed) →
    plain_levels outer (deep ++ inner ∷ []) ≡ plain_passed inner ∷ plain_levels outer deep
unfolding plain_levels
deep_push outer deep inner =
    ap (λ (ls : List PlainLevel). reverse (map plain_level outer ++ ls)) (map_push plain_passed deep inner)
    ∙ ap reverse (sym (append_assoc (map plain_level outer) (map plain_passed deep) (plain_passed inner ∷ [])))
    ∙ reverse-append (map plain_level outer ++ map plain_passed deep) (plain_passed inner ∷ [])

pub kept_pushed : (outer : List Level) (deep : List Passed) (inner : Level) → (length outer < 300 → length deep ≡ 0) → length outer < 300 →
    plain_levels (outer ++ inner ∷ []) deep ≡ kept_level (length (plain_levels outer deep)) (plain_wanted inner.before) (plain_bracket inner.bracket) ∷ plain_levels outer deep
kept_pushed outer deep inner full few =
    let none = full few in
    let count = length_levels outer deep in
    outer_push outer deep inner none
    ∙ ap (λ (l : PlainLevel). l ∷ plain_levels outer deep) (sym (kept_level_is (length (plain_levels outer deep)) (plain_wanted inner.before) (plain_bracket inner.bracket) (omega arith)))

pub passed_pushed : (outer : List Level) (deep : List Passed) (inner : Passed) (before : Before) (bracket : Opened) → 300 ≤ length outer →
    plain_passed inner ≡ kept_level 300 before bracket →
    plain_levels outer (deep ++ inner ∷ []) ≡ kept_level (length (plain_levels outer deep)) before bracket ∷ plain_levels outer deep
passed_pushed outer deep inner before bracket many is =
    let count = length_levels outer deep in
    deep_push outer deep inner
    ∙ ap (λ (l : PlainLevel). l ∷ plain_levels outer deep) (is ∙ sym (deep_level (length (plain_levels outer deep)) before bracket (omega arith)))

pub passed_popped : (outer : List Level) (old new : List Passed) (inner : Passed) → old ≡ new ++ inner ∷ [] →
    plain_levels outer old ≡ plain_passed inner ∷ plain_levels outer new
passed_popped outer old new inner e = ap (plain_levels outer) e ∙ deep_push outer new inner

kept_popped : (old new : List Level) (deep : List Passed) (inner : Level) → old ≡ new ++ inner ∷ [] → length deep ≡ 0 →
    plain_levels old deep ≡ plain_level inner ∷ plain_levels new deep
kept_popped old new deep inner e none = ap (λ (ls : List Level). plain_levels ls deep) e ∙ outer_push new deep inner none

none_open : (outer : List Level) (deep : List Passed) → length outer ≡ 0 → length deep ≡ 0 → plain_levels outer deep ≡ []
unfolding plain_levels
none_open [] [] p q = refl
none_open (x ∷ outer) deep p q = absurd (omega arith)
none_open [] (x ∷ deep) p q = absurd (omega arith)

pub popped : (old new : List Level) (deep left_over : List Passed) (result : Option Level) → length deep ≡ 0 → length left_over ≡ 0 →
    old ≡ new ++ option_to_list result → MatchOption result ((length old ≡ 0) × (length new ≡ 0)) (λ _. length new + 1 ≡ length old) →
    MatchOption result (plain_levels old deep ≡ [] × plain_levels new left_over ≡ []) (λ inner. plain_levels old deep ≡ plain_level inner ∷ plain_levels new left_over)
popped old new [] [] None p q e h = (none_open old [] h.0 refl, none_open new [] h.1 refl)
popped old new [] [] (Some inner) p q e h = kept_popped old new [] inner e refl
popped old new (x ∷ deep) left_over result p q e h = absurd (omega arith)
popped old new [] (x ∷ left_over) result p q e h = absurd (omega arith)
