-- Lists before and after the items that pass a test, with one item more.
use Rattle.std.proofs.Common.{◌≡◌, ℕ, zero, suc, ◌+◌, ◌-◌, ◌<◌, Bool, true, false, not, ◌||◌, cond, eqb, List, [], ◌∷◌, ◌++◌, length, take, drop, filter, reverse, Option, Some, None, refl, sym, ap, ◌∙◌, inl, inr, arith, append-nil}
use Rattle.std.specs.List.{list_any, before_first, after_last, last_or, prefix_len, suffix_len, position_or_len}
use Rattle.std.proofs.lemmas.Bool.{cases_Bool, eq-eqb}
use Rattle.std.proofs.lemmas.List.{reverse-append, length-reverse}
use Rattle.std.proofs.lemmas.Bool.Decides.{eqb_tells}
use Rattle.std.proofs.lemmas.List.Folds.{list_any-append, prefix_len-append}
use Rattle.std.proofs.lemmas.List.Elements.{filter-append}
use Rattle.fab_lines.specs.Items.{with_last}

module _ {X : Type 0} (p : X → Bool) where
  -- ---- any

  pub any_push : (xs : List X) (x : X) → list_any p (xs ++ x ∷ []) ≡ (list_any p xs || p x)
  any_push xs x = list_any-append p xs (x ∷ []) ∙ ap (λ (b : Bool). list_any p xs || b) (or_false (p x))
    where
      or_false : (b : Bool) → (b || false) ≡ b
      or_false true = refl
      or_false false = refl

  pub any_within : (xs : List X) (x : X) (ys : List X) → p x ≡ true → list_any p (xs ++ x ∷ ys) ≡ true
  any_within [] x ys passes = rw passes refl
  any_within (z ∷ xs) x ys passes = elim (cases_Bool (p z)) [
    | inl t ↦ rw t refl
    | inr f ↦ rw f (any_within xs x ys passes)
  ]

  -- ---- before the first

  pub before_stop : (x : X) (xs : List X) → p x ≡ true → before_first p (x ∷ xs) ≡ []
  before_stop x xs passes = rw passes refl

  pub before_more : (x : X) (xs : List X) → p x ≡ false → before_first p (x ∷ xs) ≡ x ∷ before_first p xs
  before_more x xs fails =
      let more : 1 + position_or_len p xs ≡ suc (position_or_len p xs) = omega arith in
      rw fails (ap (λ n. take n (x ∷ xs)) more)

  -- what stands behind an item that passes does not matter
  pub before_within : (xs : List X) (x : X) (ys : List X) → p x ≡ true → before_first p (xs ++ x ∷ ys) ≡ before_first p xs
  before_within [] x ys passes = before_stop x ys passes
  before_within (z ∷ xs) x ys passes = elim (cases_Bool (p z)) [
    | inl t ↦ before_stop z (xs ++ x ∷ ys) t ∙ sym (before_stop z xs t)
    | inr f ↦ before_more z (xs ++ x ∷ ys) f ∙ ap (λ l. z ∷ l) (before_within xs x ys passes) ∙ sym (before_more z xs f)
  ]

  pub before_none : (xs : List X) → list_any p xs ≡ false → before_first p xs ≡ xs
  before_none [] none = refl
  before_none (z ∷ xs) none = elim (cases_Bool (p z)) [
    | inl t ↦ (let some : true ≡ false = rw t at none in absurd cc)
    | inr f ↦ (let rest : list_any p xs ≡ false = rw f at none in before_more z xs f ∙ ap (λ l. z ∷ l) (before_none xs rest))
  ]

  -- where an item passed before
  pub before_found : (xs ys : List X) → list_any p xs ≡ true → before_first p (xs ++ ys) ≡ before_first p xs
  before_found [] ys some = absurd cc
  before_found (z ∷ xs) ys some = elim (cases_Bool (p z)) [
    | inl t ↦ before_stop z (xs ++ ys) t ∙ sym (before_stop z xs t)
    | inr f ↦ (let rest : list_any p xs ≡ true = rw f at some in before_more z (xs ++ ys) f ∙ ap (λ l. z ∷ l) (before_found xs ys rest) ∙ sym (before_more z xs f))
  ]

  -- ---- after the last

  -- the same from the front
  pub since : List X → List X
  since [] = []
  since (x ∷ xs) = cond (list_any p xs) (since xs) (cond (p x) xs (x ∷ xs))

  pub since_none : (xs : List X) → list_any p xs ≡ false → since xs ≡ xs
  unfolding since
  since_none [] none = refl
  since_none (x ∷ xs) none = elim (cases_Bool (p x)) [
    | inl t ↦ (let some : true ≡ false = rw t at none in absurd cc)
    | inr f ↦ (let rest : list_any p xs ≡ false = rw f at none in rw (rest, f) refl)
  ]

  pub since_found : (x : X) (xs : List X) → list_any p xs ≡ true → since (x ∷ xs) ≡ since xs
  unfolding since
  since_found x xs some = rw some refl

  pub since_first : (x : X) (xs : List X) → list_any p xs ≡ false → p x ≡ true → since (x ∷ xs) ≡ xs
  unfolding since
  since_first x xs none passes = rw (none, passes) refl

  pub since_within : (xs : List X) (x : X) (ys : List X) → p x ≡ true → list_any p ys ≡ false → since (xs ++ x ∷ ys) ≡ ys
  since_within [] x ys passes none = since_first x ys none passes
  since_within (z ∷ xs) x ys passes none = since_found z (xs ++ x ∷ ys) (any_within xs x ys passes) ∙ since_within xs x ys passes none

  pub since_append : (xs ys : List X) → list_any p ys ≡ false → since (xs ++ ys) ≡ since xs ++ ys
  unfolding since
  since_append [] ys none = since_none ys none
  since_append (x ∷ xs) ys none =
      elim (cases_Bool (list_any p xs)) [
        | inl t ↦ (let any : list_any p (xs ++ ys) ≡ true = list_any-append p xs ys ∙ rw t refl in rw (any, t) (since_append xs ys none))
        | inr f ↦ (
            let any : list_any p (xs ++ ys) ≡ false = list_any-append p xs ys ∙ rw (f, none) refl in
            elim (cases_Bool (p x)) [
              | inl t ↦ rw (any, f, t) refl
              | inr g ↦ rw (any, f, g) refl
            ])
      ]

  -- how far the items at the end fail, with one item more in front
  suffix_more : (test : X → Bool) (x : X) (xs : List X) → suffix_len test (x ∷ xs) ≡ cond (eqb (suffix_len test xs) (length (reverse xs))) (length (reverse xs) + prefix_len test (x ∷ [])) (suffix_len test xs)
  suffix_more test x xs = ap (prefix_len test) (reverse-append (x ∷ []) xs) ∙ prefix_len-append test (reverse xs) (x ∷ [])

  -- how many items at the end fail
  abbrev behind : List X → ℕ
  behind xs = suffix_len (λ x. not (p x)) xs

  eqb_less : (a b : ℕ) → a < b → eqb a b ≡ false
  eqb_less a b less = elim (eqb_tells a b) [
    | inl t ↦ absurd (omega (arith, t.1))
    | inr f ↦ f.0
  ]

  behind_all : (x : X) (xs : List X) → behind xs ≡ length xs → behind (x ∷ xs) ≡ length xs + prefix_len (λ y. not (p y)) (x ∷ [])
  behind_all x xs all =
      let whole : eqb (behind xs) (length (reverse xs)) ≡ true = eq-eqb (behind xs) (length (reverse xs)) (all ∙ sym (length-reverse xs)) in
      suffix_more (λ y. not (p y)) x xs ∙ rw whole (ap (λ n. n + prefix_len (λ y. not (p y)) (x ∷ [])) (length-reverse xs))

  behind_some : (x : X) (xs : List X) → behind xs < length xs → behind (x ∷ xs) ≡ behind xs
  behind_some x xs some =
      let part : eqb (behind xs) (length (reverse xs)) ≡ false = eqb_less (behind xs) (length (reverse xs)) (omega (arith, length-reverse xs)) in
      suffix_more (λ y. not (p y)) x xs ∙ rw part refl

  behind_first : (x : X) (xs : List X) → behind xs ≡ length xs → p x ≡ true → behind (x ∷ xs) ≡ length xs
  behind_first x xs all passes =
      let none : prefix_len (λ y. not (p y)) (x ∷ []) ≡ 0 = rw passes refl in
      omega (arith, behind_all x xs all, none)

  behind_more : (x : X) (xs : List X) → behind xs ≡ length xs → p x ≡ false → behind (x ∷ xs) ≡ length xs + 1
  behind_more x xs all fails =
      let one : prefix_len (λ y. not (p y)) (x ∷ []) ≡ 1 = rw fails refl in
      omega (arith, behind_all x xs all, one)

  behind_none : (xs : List X) → list_any p xs ≡ false → behind xs ≡ length xs
  behind_none [] none = refl
  behind_none (x ∷ xs) none = elim (cases_Bool (p x)) [
    | inl t ↦ (let some : true ≡ false = rw t at none in absurd cc)
    | inr f ↦ (
        let rest : list_any p xs ≡ false = rw f at none in
        let more : length xs + 1 ≡ suc (length xs) = omega arith in
        behind_more x xs (behind_none xs rest) f ∙ more)
  ]

  behind_found : (xs : List X) → list_any p xs ≡ true → behind xs < length xs
  behind_found [] some = absurd cc
  behind_found (x ∷ xs) some = elim (cases_Bool (list_any p xs)) [
    | inl t ↦ (let less = behind_found xs t in let here = behind_some x xs less in let all : length (x ∷ xs) ≡ suc (length xs) = refl in omega (arith, less, here, all))
    | inr f ↦ elim (cases_Bool (p x)) [
      | inl t ↦ (let here = behind_first x xs (behind_none xs f) t in let all : length (x ∷ xs) ≡ suc (length xs) = refl in omega (arith, here, all))
      | inr g ↦ (let none : false ≡ true = rw (g, f) at some in absurd cc)
    ]
  ]

  pub after_last-since : (xs : List X) → after_last p xs ≡ since xs
  unfolding since
  after_last-since [] = refl
  after_last-since (x ∷ xs) = elim (cases_Bool (list_any p xs)) [
    | inl t ↦ (
        let less = behind_found xs t in
        let at : suc (length xs) - behind (x ∷ xs) ≡ suc (length xs - behind xs) = omega (arith, less, behind_some x xs less) in
        rw t (ap (λ n. drop n (x ∷ xs)) at ∙ after_last-since xs))
    | inr f ↦ elim (cases_Bool (p x)) [
      | inl g ↦ (let at : suc (length xs) - behind (x ∷ xs) ≡ suc zero = omega (arith, behind_first x xs (behind_none xs f) g) in rw (f, g) (ap (λ n. drop n (x ∷ xs)) at))
      | inr g ↦ (let at : suc (length xs) - behind (x ∷ xs) ≡ zero = omega (arith, behind_more x xs (behind_none xs f) g) in rw (f, g) (ap (λ n. drop n (x ∷ xs)) at))
    ]
  ]

  pub after_push : (xs : List X) (x : X) → p x ≡ false → after_last p (xs ++ x ∷ []) ≡ after_last p xs ++ x ∷ []
  after_push xs x fails = after_last-since (xs ++ x ∷ []) ∙ since_append xs (x ∷ []) (rw fails refl) ∙ ap (λ l. l ++ x ∷ []) (sym (after_last-since xs))

  pub after_passes : (xs : List X) (x : X) → p x ≡ true → after_last p (xs ++ x ∷ []) ≡ []
  after_passes xs x passes = after_last-since (xs ++ x ∷ []) ∙ since_within xs x [] passes refl

  -- ---- the items that pass

  pub filter_push : (xs : List X) (x : X) → p x ≡ true → filter p (xs ++ x ∷ []) ≡ filter p xs ++ x ∷ []
  filter_push xs x passes = filter-append p xs (x ∷ []) ∙ ap (λ l. filter p xs ++ l) (rw passes refl)

  pub filter_kept : (xs : List X) (x : X) → p x ≡ false → filter p (xs ++ x ∷ []) ≡ filter p xs
  filter_kept xs x fails = filter-append p xs (x ∷ []) ∙ ap (λ l. filter p xs ++ l) none ∙ append-nil (filter p xs)
    where
      none : filter p (x ∷ []) ≡ []
      none = rw fails refl

  pub filter_none : (xs : List X) → list_any p xs ≡ false → filter p xs ≡ []
  filter_none [] none = refl
  filter_none (x ∷ xs) none = elim (cases_Bool (p x)) [
    | inl t ↦ (let some : true ≡ false = rw t at none in absurd cc)
    | inr f ↦ (let rest : list_any p xs ≡ false = rw f at none in rw f (filter_none xs rest))
  ]

  -- the last item that passes, and what stands around it
  pub split_last : (xs : List X) (last : X) → last_or None (filter p xs) ≡ Some last
      → (front : List X) × (rest : List X) × (xs ≡ front ++ last ∷ rest) × (p last ≡ true) × (list_any p rest ≡ false)
  split_last [] last is = absurd cc
  split_last (x ∷ xs) last is = elim (cases_Bool (list_any p xs)) [
    | inl t ↦ (
        let later : last_or None (filter p xs) ≡ Some last = sym (last_of_some x xs t) ∙ is in
        let parts = split_last xs last later in
        (x ∷ parts.0, parts.1, ap (λ l. x ∷ l) parts.2, parts.3, parts.4))
    | inr f ↦ (let none = filter_none xs f in elim (cases_Bool (p x)) [
      | inl t ↦ (let here : Some x ≡ Some last = rw (t, none) at is in let same : x ≡ last = cc in ([], xs, ap (λ y. y ∷ xs) same, rw same at t, f))
      | inr g ↦ (let here : None ≡ Some last = rw (g, none) at is in absurd cc)
    ])
  ]
    where
      last_or-some : (o q : Option X) (ys : List X) → 0 < length ys → last_or o ys ≡ last_or q ys
      last_or-some o q [] some = absurd (omega arith)
      last_or-some o q (y ∷ ys) some = refl

      some_left : (ys : List X) → list_any p ys ≡ true → 0 < length (filter p ys)
      some_left [] some = absurd cc
      some_left (y ∷ ys) some = elim (cases_Bool (p y)) [
        | inl t ↦ rw t (omega arith)
        | inr f ↦ (let rest : list_any p ys ≡ true = rw f at some in rw f (some_left ys rest))
      ]

      last_of_some : (y : X) (ys : List X) → list_any p ys ≡ true → last_or None (filter p (y ∷ ys)) ≡ last_or None (filter p ys)
      last_of_some y ys some = elim (cases_Bool (p y)) [
        | inl t ↦ rw t (last_or-some (Some y) None (filter p ys) (some_left ys some))
        | inr f ↦ rw f refl
      ]

-- the last item after one more
pub last_or-push : {X : Type 0} (o : Option X) (xs : List X) (x : X) → last_or o (xs ++ x ∷ []) ≡ Some x
last_or-push o [] x = refl
last_or-push o (y ∷ xs) x = last_or-push (Some y) xs x

-- a change of the last item, behind another
pub with_last-behind : {X : Type 0} (change : X → X) (x : X) (xs : List X) → 0 < length xs → with_last change (x ∷ xs) ≡ x ∷ with_last change xs
with_last-behind change x [] some = absurd (omega arith)
with_last-behind change x (y ∷ xs) some = refl
