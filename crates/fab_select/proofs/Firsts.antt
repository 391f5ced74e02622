-- Laws of the first places of the items of a list.
use Rattle.std.proofs.Common.{◌≡◌, ◌≢◌, ◌⊎◌, Bool, true, false, not, ◌||◌, List, [], ◌∷◌, ◌++◌, refl, sym, ap, ◌∙◌, inl, inr, filter, Decides, append-nil, arith}
use Rattle.std.specs.List.{list_any, IsDistinct, All}
use Rattle.std.proofs.lemmas.Bool.{cases_Bool, false≢true}
use Rattle.std.proofs.lemmas.Bool.Decides.{not_from_Decides}
use Rattle.std.proofs.lemmas.List.Elements.{filter-append, filter_passes, All-nil, All-cons, All-head, All-tail, All-weaker, All-filter, All-from_recursion, recursion_from_All}
use Rattle.std.proofs.lemmas.Map.Keys.{IsDistinct-head, IsDistinct-tail, IsDistinct-cons, IsDistinct-from_apart}
use Rattle.indexmap.specs.IndexSet.{insert_key}
use Rattle.fab_select.specs.Selection.{firsts}

-- what holds of all items holds of those at their first places
pub firsts_all : {K : Type 0} (P : K → Type 0) (same : K → K → Bool) (xs : List K) → All P xs → All P (firsts same xs)
firsts_all P same [] h = h
firsts_all P same (x ∷ xs) h =
    All-cons P x (filter (λ y. not (same x y)) (firsts same xs)) (All-head P x xs h)
    (All-filter (λ y. not (same x y)) P (firsts same xs) (firsts_all P same xs (All-tail P x xs h)))

module _ {K : Type 0} (same : K → K → Bool) (tells : (a b : K) → Decides (same a b) (a ≡ b)) where
  -- a test with what it tells
  pub told : (a b : K) → ((same a b ≡ true) × (a ≡ b)) ⊎ ((same a b ≡ false) × (a ≢ b))
  told a b = elim (cases_Bool (same a b)) [ inl t ↦ inl (t, (tells a b).0 t) | inr f ↦ inr (f, not_from_Decides (same a b) (tells a b) f) ]

  pub same_itself : (a : K) → same a a ≡ true
  same_itself a = (tells a a).1 refl

  pub same_apart : (a b : K) → a ≢ b → same a b ≡ false
  same_apart a b apart = elim (told a b) [ inl t ↦ absurd (apart t.1) | inr f ↦ f.0 ]

  -- leaving out an item that fails a test does not change whether some item passes
  pub any_kept : (test : K → Bool) (y : K) (zs : List K) → test y ≡ false → list_any test (filter (λ z. not (same y z)) zs) ≡ list_any test zs
  any_kept test y [] fails = refl
  any_kept test y (z ∷ zs) fails =
      elim (told y z) [
        | inl t ↦ (let f : test z ≡ false = ap test (sym t.1) ∙ fails in rw (t.0, f) (any_kept test y zs fails))
        | inr f ↦ rw f.0 (ap (λ rest. test z || rest) (any_kept test y zs fails))
      ]

  -- one more item goes last where it is new
  pub firsts_push : (xs : List K) (x : K) → firsts same (xs ++ x ∷ []) ≡ insert_key same (firsts same xs) x
  firsts_push [] x = refl
  firsts_push (y ∷ ys) x =
      let others : K → Bool = λ z. not (same y z) in
      let step : firsts same (ys ++ x ∷ []) ≡ insert_key same (firsts same ys) x = firsts_push ys x in
      ap (λ zs. y ∷ filter others zs) step
      ∙ elim (told x y) [
        | inl t ↦ (
            let back : same y x ≡ true = (tells y x).1 (sym t.1) in
            rw t.0 (elim (cases_Bool (list_any (same x) (firsts same ys))) [
              | inl a ↦ rw a refl
              | inr a ↦ rw a (ap (λ zs. y ∷ zs) (filter-append others (firsts same ys) (x ∷ []) ∙ rw back (append-nil (filter others (firsts same ys)))))
            ]))
        | inr f ↦ (
            let back : same y x ≡ false = same_apart y x (λ e. f.1 (sym e)) in
            rw (f.0, any_kept (same x) y (firsts same ys) f.0) (elim (cases_Bool (list_any (same x) (firsts same ys))) [
              | inl a ↦ rw a refl
              | inr a ↦ rw a (ap (λ zs. y ∷ zs) (filter-append others (firsts same ys) (x ∷ []) ∙ rw back refl))
            ]))
      ]

  -- each item stands at its first place
  pub firsts_hold : (xs : List K) → All (λ x. list_any (same x) (firsts same xs) ≡ true) xs
  firsts_hold [] = All-nil (λ x. false ≡ true)
  firsts_hold (x ∷ xs) =
      let others : List K = filter (λ z. not (same x z)) (firsts same xs) in
      All-cons (λ y. list_any (same y) (x ∷ others) ≡ true) x xs (rw same_itself refl)
      (All-weaker (λ y. list_any (same y) (firsts same xs) ≡ true) (λ y. list_any (same y) (x ∷ others) ≡ true) (λ y there.
      elim (told y x) [ inl t ↦ rw t.0 refl | inr f ↦ rw f.0 (any_kept (same y) x (firsts same xs) f.0 ∙ there) ]) xs (firsts_hold xs))

  none_distinct : IsDistinct same []
  none_distinct = IsDistinct-from_apart same [] (λ i j d l h. absurd (omega arith))

  filter_distinct : (p : K → Bool) (xs : List K) → IsDistinct same xs → IsDistinct same (filter p xs)
  filter_distinct p [] apart = apart
  filter_distinct p (x ∷ xs) apart =
      let P : K → Type 0 = λ y. same x y ≡ false in
      let rest : IsDistinct same (filter p xs) = filter_distinct p xs (IsDistinct-tail same x xs apart) in
      elim (cases_Bool (p x)) [
        | inl t ↦ rw t (IsDistinct-cons same x (filter p xs) (recursion_from_All P (filter p xs) (All-filter p P xs (All-from_recursion P xs (IsDistinct-head same x xs apart)))) rest)
        | inr f ↦ rw f rest
      ]

  -- no item comes twice
  pub firsts_distinct : (xs : List K) → IsDistinct same (firsts same xs)
  firsts_distinct [] = none_distinct
  firsts_distinct (x ∷ xs) =
      let p : K → Bool = λ y. not (same x y) in
      let others : List K = filter p (firsts same xs) in
      IsDistinct-cons same x others
      (recursion_from_All (λ y. same x y ≡ false) others (All-weaker (λ y. p y ≡ true) (λ y. same x y ≡ false) (λ y passes.
      elim (cases_Bool (same x y)) [ inl t ↦ absurd (false≢true (sym (ap not t) ∙ passes)) | inr f ↦ f ]) others (filter_passes p (firsts same xs))))
      (filter_distinct p (firsts same xs) (firsts_distinct xs))
