-- Sets in the order of insertion.
use Rattle.std.proofs.Common.{◌≡◌, ◌⊎◌, ℕ, ◌+◌, Bool, true, false, List, [], ◌∷◌, map, take, Contains, Decides, refl, sym, ap, ◌∙◌, subst, inl, inr}
use Rattle.std.specs.List.{list_any}
use Rattle.std.proofs.lemmas.Bool.{cases_Bool, false≢true}
use Rattle.std.proofs.lemmas.List.{map-append}
use Rattle.std.proofs.lemmas.List.Sums.{fold-append}
use Rattle.indexmap.specs.IndexSet.{insert_key, insert_all}
use Rattle.fab_implementation.specs.fab_netlist.specs.Plain.{IsAt}
use Rattle.fab_implementation.specs.fab_netlist.proofs.Members.{in_none, first_or_later, first_in, later_in, any_by, any_gives}
use Rattle.fab_legal.proofs.Members.{in_pushed, still_in, last_in, taken_more}

module _ {K : Type 0} (same : K → K → Bool) (tells : (a b : K) → Decides (same a b) (a ≡ b)) where
  pub any_in : (keys : List K) (k : K) → list_any (same k) keys ≡ true → Contains keys k
  any_in keys k passes =
      let found = any_gives (same k) keys passes in
      subst (λ (x : K). Contains keys x) (sym ((tells k found.0).0 found.2)) found.1

  pub in_any : (keys : List K) (k : K) → Contains keys k → list_any (same k) keys ≡ true
  in_any keys k here = any_by (same k) keys k here ((tells k k).1 refl)

  pub none_in : (keys : List K) (k : K) → list_any (same k) keys ≡ false → Contains keys k → ⊥
  none_in keys k fails here = false≢true (sym fails ∙ in_any keys k here)

  pub put_in : (keys : List K) (k x : K) → Contains (insert_key same keys k) x → Contains keys x ⊎ (k ≡ x)
  put_in keys k x here =
      elim (cases_Bool (list_any (same k) keys)) [
        | inl there ↦ (let kept = rw there at here in inl kept)
        | inr new ↦ (let more = rw new at here in in_pushed keys k x more)
      ]

  pub put_stays : (keys : List K) (k x : K) → Contains keys x → Contains (insert_key same keys k) x
  put_stays keys k x here =
      elim (cases_Bool (list_any (same k) keys)) [ inl there ↦ rw there here | inr new ↦ rw new (still_in keys k x here) ]

  pub put_here : (keys : List K) (k : K) → Contains (insert_key same keys k) k
  put_here keys k =
      elim (cases_Bool (list_any (same k) keys)) [ inl there ↦ rw there (any_in keys k there) | inr new ↦ rw new (last_in keys k) ]

  pub all_in : (keys xs : List K) (x : K) → Contains (insert_all same keys xs) x → Contains keys x ⊎ Contains xs x
  all_in keys [] x here = inl here
  all_in keys (y ∷ xs) x here =
      elim (all_in (insert_key same keys y) xs x here) [
        | inl first ↦ elim (put_in keys y x first) [ inl old ↦ inl old | inr now ↦ inr (first_in y xs x now) ]
        | inr later ↦ inr (later_in y xs x later)
      ]

  pub old_in : (keys xs : List K) (x : K) → Contains keys x → Contains (insert_all same keys xs) x
  old_in keys [] x here = here
  old_in keys (y ∷ xs) x here = old_in (insert_key same keys y) xs x (put_stays keys y x here)

  pub new_in : (keys xs : List K) (x : K) → Contains xs x → Contains (insert_all same keys xs) x
  new_in keys [] x here = absurd (in_none x here)
  new_in keys (y ∷ xs) x here =
      elim (first_or_later y xs x here) [
        | inl now ↦ old_in (insert_key same keys y) xs x (subst (λ (z : K). Contains (insert_key same keys y) z) now (put_here keys y))
        | inr later ↦ new_in (insert_key same keys y) xs x later
      ]

-- one more key
pub keys_more : {K X : Type 0} (same : K → K → Bool) (f : X → K) (xs : List X) (n : ℕ) (x : X) (keys more : List K) → IsAt xs n x → keys ≡ insert_all same [] (map f (take n xs)) →
    more ≡ insert_key same keys (f x) → more ≡ insert_all same [] (map f (take (n + 1) xs))
keys_more {K} same f xs n x keys more at so_far is =
    is ∙ ap (λ (ks : List K). insert_key same ks (f x)) so_far ∙ sym (fold-append (insert_key same) [] (map f (take n xs)) (f x ∷ []))
    ∙ ap (λ (ks : List K). insert_all same [] ks) (sym (ap (map f) (taken_more xs n x at) ∙ map-append f (take n xs) (x ∷ [])))
