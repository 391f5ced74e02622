-- The first of the things at the least line, as `min_by_key` picks it.
use Rattle.std.proofs.Common.{◌≡◌, ◌⊎◌, ℕ, ◌<◌, ◌≤◌, true, false, List, [], ◌∷◌, map, min, find, nat_eq, fold, Option, Some, None, Ordering, Less, Equal, Greater, Bor, option_map, option_and_then, refl, sym, ap, subst, ◌∙◌, inl, inr, arith}
use Rattle.std.specs.Ordering.{MatchOrdering, nat_cmp, min_by_ordering}
use Rattle.std.specs.Fn.{CalledAt, Mut}
use Rattle.std.specs.Iterator.{KeyTurn, PicksMinByKey}
use Rattle.std.specs.List.{FoldsTo, reduce}
use Rattle.std.proofs.lemmas.Bool.{cases_Bool, cases_lt, false≢true}
use Rattle.std.proofs.lemmas.Bool.Decides.{nat_tests}
use Rattle.std.proofs.lemmas.Cmp.{ranked}
use Rattle.std.proofs.lemmas.Iterator.{YieldsList}
use Rattle.std.proofs.lemmas.Iterator.Consumers.{reduce_by_from_yields_List}
use Rattle.fab_blif.specs.Clocks.{first_at_least}
use Rattle.fab_blif.specs.Judged.{least, least_of}

eq_yes : (a b : ℕ) → a ≡ b → nat_eq a b ≡ true
eq_yes a b is = grind (arith, nat_tests)

below_no : (a b : ℕ) → a < b → nat_eq a b ≡ false
below_no a b lt = grind (arith, nat_tests)

above_no : (a b : ℕ) → b < a → nat_eq a b ≡ false
above_no a b lt = grind (arith, nat_tests)

-- what is no lesser line than one that is not the least is not the least
not_least : (a b l : ℕ) → a ≤ b → nat_eq a (min a l) ≡ false → nat_eq b (min a l) ≡ false
not_least a b l le other =
    elim (cases_lt (min a l) b) [
      | inl lt ↦ above_no b (min a l) lt
      | inr ge ↦ absurd (false≢true (sym other ∙ eq_yes a (min a l) (omega (arith, le, ge))))
    ]

module _ {X : Type 0} (line_of : X → ℕ) where
  -- the first of two at the lesser line
  abbrev pub first_of : X → X → X
  first_of a b = min_by_ordering (nat_cmp (line_of a) (line_of b)) a b

  by_order : (a b : X) (order : Ordering) → MatchOrdering order (line_of a < line_of b) (line_of a ≡ line_of b) (line_of b < line_of a) →
      ((line_of b < line_of a) × (min_by_ordering order a b ≡ b)) ⊎ ((line_of a ≤ line_of b) × (min_by_ordering order a b ≡ a))
  by_order a b Less lt = inr (omega (arith, lt), refl)
  by_order a b Equal same = inr (omega (arith, same), refl)
  by_order a b Greater gt = inl (gt, refl)

  abbrev at_line : (line : ℕ) → List X → Option X
  at_line line things = find (λ thing. nat_eq (line_of thing) line) things

  passed : (x : X) (rest : List X) (line : ℕ) → nat_eq (line_of x) line ≡ false → at_line line (x ∷ rest) ≡ at_line line rest
  passed x rest line other = rw other refl

  found : (x : X) (rest : List X) (line : ℕ) → nat_eq (line_of x) line ≡ true → at_line line (x ∷ rest) ≡ Some x
  found x rest line same = rw same refl

  -- where the second of two stands at a lesser line
  second_left : (a b : X) (xs : List X) (rest : Option ℕ) → line_of b < line_of a →
      option_and_then (λ line. at_line line (a ∷ b ∷ xs)) (least_of (Some (line_of a)) (least_of (Some (line_of b)) rest))
      ≡ option_and_then (λ line. at_line line (b ∷ xs)) (least_of (Some (line_of b)) rest)
  second_left a b xs None lt =
      let least_is : min (line_of a) (line_of b) ≡ line_of b = omega (arith, lt) in
      ap (λ (line : ℕ). at_line line (a ∷ b ∷ xs)) least_is ∙ passed a (b ∷ xs) (line_of b) (above_no (line_of a) (line_of b) lt)
  second_left a b xs (Some other) lt =
      let line = min (line_of b) other in
      let least_is : min (line_of a) line ≡ line = omega (arith, lt) in
      ap (λ (at : ℕ). at_line at (a ∷ b ∷ xs)) least_is ∙ passed a (b ∷ xs) line (above_no (line_of a) line (omega (arith, lt)))

  -- where it does not
  first_left : (a b : X) (xs : List X) (rest : Option ℕ) → line_of a ≤ line_of b →
      option_and_then (λ line. at_line line (a ∷ b ∷ xs)) (least_of (Some (line_of a)) (least_of (Some (line_of b)) rest))
      ≡ option_and_then (λ line. at_line line (a ∷ xs)) (least_of (Some (line_of a)) rest)
  first_left a b xs None le =
      let least_is : min (line_of a) (line_of b) ≡ line_of a = omega (arith, le) in
      let same = eq_yes (line_of a) (line_of a) refl in
      ap (λ (line : ℕ). at_line line (a ∷ b ∷ xs)) least_is ∙ found a (b ∷ xs) (line_of a) same ∙ sym (found a xs (line_of a) same)
  first_left a b xs (Some other) le =
      let line = min (line_of a) other in
      let least_is : min (line_of a) (min (line_of b) other) ≡ line = omega (arith, le) in
      ap (λ (at : ℕ). at_line at (a ∷ b ∷ xs)) least_is
      ∙ elim (cases_Bool (nat_eq (line_of a) line)) [
        | inl t ↦ found a (b ∷ xs) line t ∙ sym (found a xs line t)
        | inr f ↦ passed a (b ∷ xs) line f ∙ passed b xs line (not_least (line_of a) (line_of b) other le f) ∙ sym (passed a xs line f)
      ]

  two_first : (a b : X) (xs : List X) → first_at_least line_of (a ∷ b ∷ xs) ≡ first_at_least line_of (first_of a b ∷ xs)
  two_first a b xs =
      elim (by_order a b (nat_cmp (line_of a) (line_of b)) (ranked (line_of a) (line_of b) (nat_cmp (line_of a) (line_of b)) refl)) [
        | inl second ↦ second_left a b xs (least (map line_of xs)) second.0 ∙ ap (λ (x : X). first_at_least line_of (x ∷ xs)) (sym second.1)
        | inr first ↦ first_left a b xs (least (map line_of xs)) first.0 ∙ ap (λ (x : X). first_at_least line_of (x ∷ xs)) (sym first.1)
      ]

  first_folded : (x : X) (xs : List X) → first_at_least line_of (x ∷ xs) ≡ Some (fold first_of x xs)
  first_folded x [] = found x [] (line_of x) (eq_yes (line_of x) (line_of x) refl)
  first_folded x (y ∷ ys) = two_first x y ys ∙ first_folded (first_of x y) ys

  first_reduced : (xs : List X) → first_at_least line_of xs ≡ reduce first_of xs
  first_reduced [] = refl
  first_reduced (x ∷ xs) = first_folded x xs

  -- ---- by a key

  abbrev pick : Bor X → Bor X → Bor X
  pick p z = min_by_ordering (nat_cmp (line_of p.now) (line_of z.now)) p z

  picks : (order : Ordering) (p z : Bor X) → (min_by_ordering order p z).now ≡ min_by_ordering order p.now z.now
  picks Less p z = refl
  picks Equal p z = refl
  picks Greater p z = refl

  key_kept : (order : Ordering) (k other key : ℕ) (p z item : Bor X) → k ≡ line_of p.now → other ≡ line_of z.now → key ≡ min_by_ordering order k other → item ≡ min_by_ordering order p z → key ≡ line_of item.now
  key_kept Less k other key p z item is_k is_other is_key is_item = is_key ∙ is_k ∙ ap (λ (at : Bor X). line_of at.now) (sym is_item)
  key_kept Equal k other key p z item is_k is_other is_key is_item = is_key ∙ is_k ∙ ap (λ (at : Bor X). line_of at.now) (sym is_item)
  key_kept Greater k other key p z item is_k is_other is_key is_item = is_key ∙ is_other ∙ ap (λ (at : Bor X). line_of at.now) (sym is_item)

  module _ {F : Type 0} (g : Mut F (Bor (Bor X) × Unit {0}) ℕ) (f : F) (tells : (x : Bor X) (k : ℕ) (q : F) → CalledAt g f x k q → (q ≡ f) × (k ≡ line_of x.now)) where
    keyed : (zs : List (Bor X)) (at : F) (k : ℕ) (p y : Bor X) (q : F × ℕ) → at ≡ f → k ≡ line_of p.now →
        FoldsTo {P = (F × ℕ) × Bor X} (KeyTurn min_by_ordering min_by_ordering g nat_cmp) ((at, k), p) zs (q, y) → FoldsTo (λ a b c. c ≡ pick a b) p zs y
    keyed [] at k p y q is_f is_k ends = ap (λ (r : (F × ℕ) × Bor X). r.1) ends
    keyed (z ∷ zs) at k p y q is_f is_k (j, (other, order, called, compared, is_key, is_item), rest) =
        let told = tells z other j.0.0 (subst (λ (now : F). CalledAt g now z other j.0.0) is_f called) in
        let by_lines : nat_cmp (line_of p.now) (line_of z.now) ≡ order = (λ i. nat_cmp (sym is_k i) (sym told.1 i)) ∙ compared in
        (j.1, is_item ∙ ap (λ (o : Ordering). min_by_ordering o p z) (sym by_lines), keyed zs j.0.0 j.0.1 j.1 y q told.0 (key_kept order k other j.0.1 p z j.1 is_k told.1 is_key is_item) rest)

    -- what `min_by_key` picks where the key is the line
    pub picked : {S : Type 0} {steps : S → Option (Bor X) → S → Type 0} (s : S) (result : Option (Bor X)) (xs : List X) → PicksMinByKey steps g nat_cmp s f result → YieldsList steps (λ y. y.now) s xs →
        option_map (λ y. y.now) result ≡ first_at_least line_of xs
    picked s None xs ran yields = reduce_by_from_yields_List pick first_of s None (λ p z. picks _ p z) ran yields ∙ sym (first_reduced xs)
    picked s (Some y) xs (x, zs, k, now, q, drains, called, folds) yields =
        let told = tells x k now called in
        reduce_by_from_yields_List pick first_of s (Some y) (λ p z. picks _ p z) (x, zs, drains, keyed zs now k x y q told.0 told.1 folds) yields ∙ sym (first_reduced xs)
