-- Passes that add.
use Rattle.std.proofs.Common.{◌≡◌, ◌⊎◌, ◌↔◌, ◌<◌, ◌≤◌, ◌+◌, ℕ, zero, suc, List, [], ◌∷◌, ◌++◌, take, length, get_or, Contains, refl, sym, ap, ◌∙◌, subst, inl, inr, arith}
use Rattle.std.proofs.lemmas.List.{take_more, take_all, length-take-le}
use Rattle.std.proofs.lemmas.List.Elements.{Contains-append_left, Contains-append_right, Contains-append_cases}
use Rattle.std.proofs.lemmas.Bool.{cases_lt}
use Rattle.fab_timing.specs.inner.Adding.{Adds, AddedBy, AddedBelow}

-- nothing yet
pub none_added : {X Y : Type 0} (IsAdded : X → Y → Type 0) (xs : List X) (Was : Y → Type 0) → Adds (AddedBy IsAdded (take 0 xs)) Was Was
none_added {X} {Y} IsAdded xs Was y = (inl, λ both. elim both [ inl was ↦ was | inr added ↦ absurd (omega (arith, added.1.1, length-take-le 0 xs (omega arith))) ])

pub none_below : {Y : Type 0} (IsAdded : ℕ → Y → Type 0) (Was : Y → Type 0) → Adds (AddedBelow IsAdded 0) Was Was
none_below {Y} IsAdded Was y = (inl, λ both. elim both [ inl was ↦ was | inr added ↦ absurd (omega (arith, added.1)) ])

pub one_more : {X : Type 0} (xs : List X) (y x : X) → Contains (xs ++ y ∷ []) x → Contains xs x ⊎ (y ≡ x)
one_more {X} xs y x here =
    elim (Contains-append_cases xs (y ∷ []) x here) [
      | inl left ↦ inl left
      | inr right ↦ inr (only y x right)
    ]
  where
    only : (a b : X) → Contains (a ∷ []) b → a ≡ b
    only a b (zero, within, same) = same
    only a b (suc place, within, same) = absurd (omega (arith, within))

-- one item more
pub item_added : {X Y : Type 0} (IsAdded : X → Y → Type 0) (xs : List X) (k : ℕ) (x : X) (Was IsThere After : Y → Type 0) → k < length xs → get_or xs k x ≡ x →
    Adds (AddedBy IsAdded (take k xs)) Was IsThere → Adds (IsAdded x) IsThere After → Adds (AddedBy IsAdded (take (k + 1) xs)) Was After
item_added {X} {Y} IsAdded xs k x Was IsThere After within at first second y = (forth, back)
  where
    taken : take (k + 1) xs ≡ take k xs ++ x ∷ []
    taken = take_more xs k x within ∙ ap (λ (z : X). take k xs ++ z ∷ []) at

    before : AddedBy IsAdded (take k xs) y → AddedBy IsAdded (take (k + 1) xs) y
    before added = (added.0, subst (λ (zs : List X). Contains zs added.0) (sym taken) (Contains-append_left (take k xs) (x ∷ []) added.0 added.1), added.2)

    here : IsAdded x y → AddedBy IsAdded (take (k + 1) xs) y
    here is = (x, subst (λ (zs : List X). Contains zs x) (sym taken) (Contains-append_right (take k xs) (x ∷ []) x (0, omega arith, refl)), is)

    forth : After y → Was y ⊎ AddedBy IsAdded (take (k + 1) xs) y
    forth after =
        elim ((second y).0 after) [
          | inl there ↦ elim ((first y).0 there) [ inl was ↦ inl was | inr added ↦ inr (before added) ]
          | inr is ↦ inr (here is)
        ]

    split : AddedBy IsAdded (take (k + 1) xs) y → After y
    split added =
        elim (one_more (take k xs) x added.0 (subst (λ (zs : List X). Contains zs added.0) taken added.1)) [
          | inl earlier ↦ (second y).1 (inl ((first y).1 (inr (added.0, earlier, added.2))))
          | inr same ↦ (second y).1 (inr (subst (λ (z : X). IsAdded z y) (sym same) added.2))
        ]

    back : Was y ⊎ AddedBy IsAdded (take (k + 1) xs) y → After y
    back both = elim both [ inl was ↦ (second y).1 (inl ((first y).1 (inl was))) | inr added ↦ split added ]

-- one number more
pub number_added : {Y : Type 0} (IsAdded : ℕ → Y → Type 0) (k : ℕ) (Was IsThere After : Y → Type 0) →
    Adds (AddedBelow IsAdded k) Was IsThere → Adds (IsAdded k) IsThere After → Adds (AddedBelow IsAdded (k + 1)) Was After
number_added {Y} IsAdded k Was IsThere After first second y = (forth, back)
  where
    forth : After y → Was y ⊎ AddedBelow IsAdded (k + 1) y
    forth after =
        elim ((second y).0 after) [
          | inl there ↦ elim ((first y).0 there) [ inl was ↦ inl was | inr added ↦ inr (added.0, omega (arith, added.1), added.2) ]
          | inr is ↦ inr (k, omega arith, is)
        ]

    split : AddedBelow IsAdded (k + 1) y → After y
    split added =
        elim (cases_lt added.0 k) [
          | inl less ↦ (second y).1 (inl ((first y).1 (inr (added.0, less, added.2))))
          | inr least ↦ (
              let same : added.0 ≡ k = omega (arith, added.1, least) in
              (second y).1 (inr (subst (λ (n : ℕ). IsAdded n y) same added.2)))
        ]

    back : Was y ⊎ AddedBelow IsAdded (k + 1) y → After y
    back both = elim both [ inl was ↦ (second y).1 (inl ((first y).1 (inl was))) | inr added ↦ split added ]

-- the same, said otherwise
pub added_as : {Y : Type 0} (IsAdded Other Was IsThere : Y → Type 0) → ((y : Y) → IsAdded y ↔ Other y) → Adds IsAdded Was IsThere → Adds Other Was IsThere
added_as {Y} IsAdded Other Was IsThere same adds y = (
  (λ there. elim ((adds y).0 there) [ inl was ↦ inl was | inr added ↦ inr ((same y).0 added) ]),
  λ both. elim both [ inl was ↦ (adds y).1 (inl was) | inr added ↦ (adds y).1 (inr ((same y).1 added)) ],
)

-- one pass after another
pub both_added : {Y : Type 0} (First Second Was IsThere After : Y → Type 0) → Adds First Was IsThere → Adds Second IsThere After → Adds (λ y. First y ⊎ Second y) Was After
both_added {Y} First Second Was IsThere After first second y = (forth, back)
  where
    forth : After y → Was y ⊎ (First y ⊎ Second y)
    forth after =
        elim ((second y).0 after) [
          | inl there ↦ elim ((first y).0 there) [ inl was ↦ inl was | inr added ↦ inr (inl added) ]
          | inr is ↦ inr (inr is)
        ]

    either : First y ⊎ Second y → After y
    either both = elim both [ inl one ↦ (second y).1 (inl ((first y).1 (inr one))) | inr two ↦ (second y).1 (inr two) ]

    back : Was y ⊎ (First y ⊎ Second y) → After y
    back both = elim both [ inl was ↦ (second y).1 (inl ((first y).1 (inl was))) | inr added ↦ either added ]

-- an item that is pushed
pub pushed : {Y : Type 0} (old new : List Y) (x : Y) → new ≡ old ++ x ∷ [] → Adds (λ y. y ≡ x) (Contains old) (Contains new)
pushed {Y} old new x is y = (
  (λ there. elim (one_more old x y (subst (λ (zs : List Y). Contains zs y) is there)) [ inl was ↦ inl was | inr same ↦ inr (sym same) ]),
  λ both. subst (λ (zs : List Y). Contains zs y) (sym is)
      (elim both [ inl was ↦ Contains-append_left old (x ∷ []) y was | inr same ↦ Contains-append_right old (x ∷ []) y (0, omega arith, sym same) ]),
)

-- all items
pub all_added : {X Y : Type 0} (IsAdded : X → Y → Type 0) (xs : List X) (k : ℕ) (Was IsThere : Y → Type 0) → length xs ≤ k → Adds (AddedBy IsAdded (take k xs)) Was IsThere → Adds (AddedBy IsAdded xs) Was IsThere
all_added {X} {Y} IsAdded xs k Was IsThere long adds = subst (λ (zs : List X). Adds (AddedBy IsAdded zs) Was IsThere) (take_all k xs long) adds
