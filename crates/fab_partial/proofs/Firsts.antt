-- First items: where a loop finds one, in the lists of several lists, and that there is one at most.
use Rattle.std.proofs.Common.{◌≡◌, ℕ, suc, ◌+◌, ◌<◌, ◌≤◌, ◌∙◌, List, [], ◌∷◌, ◌++◌, All, take, drop, length, get_or, sym, ap, subst}
use Rattle.std.specs.List.{flat_map}
use Rattle.std.proofs.Math.Seq.{split_at}
use Rattle.std.proofs.lemmas.Grind.{flat_map-append}
use Rattle.std.proofs.lemmas.List.{append_assoc, take_all, take_more}
use Rattle.std.proofs.lemmas.List.Elements.{All-append, All-cons, All-head, All-nil, All-tail}
use Rattle.fab_partial.specs.Use.{IsFirst}

-- ---- what a loop knows

module _ {X : Type 0} (Holds : X → Type 0) (xs : List X) where
  pub all_more : (n : ℕ) (d : X) → n < length xs → All Holds (take n xs) → Holds (get_or xs n d) → All Holds (take (n + 1) xs)
  all_more n d inside before here =
      subst (All Holds) (sym (take_more xs n d inside)) (All-append Holds (take n xs) (get_or xs n d ∷ []) before (All-cons Holds (get_or xs n d) [] here (All-nil Holds)))

  pub all_done : (n : ℕ) → length xs ≤ n → All Holds (take n xs) → All Holds xs
  all_done n long before = subst (All Holds) (take_all n xs long) before

module _ {X : Type 0} (Holds : X → Type 0) (xs : List X) where
  pub first_at : (n : ℕ) (d : X) → n < length xs → All (λ x. Holds x → ⊥) (take n xs) → Holds (get_or xs n d) → IsFirst Holds xs (get_or xs n d)
  first_at n d inside none here =
      record { before = take n xs; after = drop (suc n) xs; xs_are = split_at xs n d inside; holds = here; none_before = none }

-- ---- the lists of several lists

module _ {X Y : Type 0} (Holds : Y → Type 0) (f : X → List Y) where
  pub all_of_lists : (xs : List X) → All (λ x. All Holds (f x)) xs → All Holds (flat_map f xs)
  all_of_lists [] each = All-nil Holds
  all_of_lists (x ∷ xs) each =
      All-append Holds (f x) (flat_map f xs) (All-head (λ x. All Holds (f x)) x xs each) (all_of_lists xs (All-tail (λ x. All Holds (f x)) x xs each))

module _ {X Y : Type 0} (Holds : Y → Type 0) (f : X → List Y) where
  pub first_of_lists : (xs : List X) (n : ℕ) (d : X) (y : Y) → n < length xs → All (λ x. All (λ y. Holds y → ⊥) (f x)) (take n xs) → IsFirst Holds (f (get_or xs n d)) y
      → IsFirst Holds (flat_map f xs) y
  first_of_lists xs n d y inside none first =
      let before = flat_map f (take n xs) in
      let after = flat_map f (drop (suc n) xs) in
      record {
        before = before ++ first.before;
        after = first.after ++ after;
        xs_are =
            ap (flat_map f) (split_at xs n d inside)
            ∙ flat_map-append f (take n xs) (get_or xs n d ∷ drop (suc n) xs)
            ∙ ap (λ here. before ++ (here ++ after)) first.xs_are
            ∙ ap (λ rest. before ++ rest) (append_assoc first.before (y ∷ first.after) after)
            ∙ sym (append_assoc before first.before (y ∷ (first.after ++ after)));
        holds = first.holds;
        none_before = All-append (λ y. Holds y → ⊥) before first.before (all_of_lists (λ y. Holds y → ⊥) f (take n xs) none) first.none_before;
      }

-- ---- one at most

head_is : {X : Type 0} (x y : X) (xs ys : List X) → x ∷ xs ≡ y ∷ ys → x ≡ y
head_is x y xs ys e = cc

tail_is : {X : Type 0} (x y : X) (xs ys : List X) → x ∷ xs ≡ y ∷ ys → xs ≡ ys
tail_is x y xs ys e = cc

module _ {X : Type 0} (Holds : X → Type 0) where
  -- the fronts of one list, behind which stand two first items
  same_first : (xs b c after more : List X) (x y : X) → xs ≡ b ++ x ∷ after → xs ≡ c ++ y ∷ more → Holds x → Holds y → All (λ z. Holds z → ⊥) b → All (λ z. Holds z → ⊥) c → x ≡ y
  same_first xs [] [] after more x y first second here there none never = cc
  same_first xs [] (z ∷ c) after more x y first second here there none never =
      absurd (All-head (λ z. Holds z → ⊥) z c never (subst Holds (head_is x z after (c ++ y ∷ more) (sym first ∙ second)) here))
  same_first xs (z ∷ b) [] after more x y first second here there none never =
      absurd (All-head (λ z. Holds z → ⊥) z b none (subst Holds (head_is y z more (b ++ x ∷ after) (sym second ∙ first)) there))
  same_first [] (z ∷ b) (w ∷ c) after more x y first second here there none never = absurd (no_item first)
    where
      no_item : [] ≡ z ∷ (b ++ x ∷ after) → ⊥
      no_item e = cc
  same_first (v ∷ xs) (z ∷ b) (w ∷ c) after more x y first second here there none never =
      same_first xs b c after more x y (tail_is v z xs (b ++ x ∷ after) first) (tail_is v w xs (c ++ y ∷ more) second) here there
      (All-tail (λ z. Holds z → ⊥) z b none) (All-tail (λ z. Holds z → ⊥) w c never)

  pub one_first : (xs : List X) (x y : X) → IsFirst Holds xs x → IsFirst Holds xs y → x ≡ y
  one_first xs x y first second =
      same_first xs first.before second.before first.after second.after x y first.xs_are second.xs_are first.holds second.holds first.none_before second.none_before

  -- the first item is an item
  pub first_has : (P : X → Type 0) (xs : List X) (x : X) → IsFirst Holds xs x → All P xs → P x
  first_has P xs x first all = all_at first.before first.after (subst (All P) first.xs_are all)
    where
      all_at : (before after : List X) → All P (before ++ x ∷ after) → P x
      all_at [] after all = All-head P x after all
      all_at (z ∷ before) after all = all_at before after (All-tail P z (before ++ x ∷ after) all)

  -- where none holds, none is the first
  pub no_first : (xs : List X) (x : X) → All (λ z. Holds z → ⊥) xs → IsFirst Holds xs x → ⊥
  no_first xs x none first = first_has (λ z. Holds z → ⊥) xs x first none first.holds
