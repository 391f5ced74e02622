-- How lists whose items differ are made.
use Rattle.std.proofs.Common.{◌≡◌, ◌≢◌, zero, suc, Bool, true, false, List, [], ◌∷◌, ◌++◌, Contains, Option, Some, None, refl, sym, ◌∙◌, subst, inl, inr, arith}
use Rattle.std.specs.List.{cons_option, filter_map, list_any}
use Rattle.std.proofs.lemmas.Bool.{false≢true}
use Rattle.std.proofs.lemmas.List.Kept.{AllPairs-cons}
use Rattle.fab_netlist.proofs.Members.{any_by, first_in, first_or_later, in_none, later_in}
use Rattle.fab_legal.proofs.Lists.{at_default}
use Rattle.fab_legal.proofs.Members.{in_either}
use Rattle.fab_flow_laws.proofs.fab_features_DesignLines.{from_found}
use Rattle.fab_spelled_designs_laws.proofs.Apart.{Differ}

-- what passes no test is not there
pub not_any : {X : Type 0} (test : X → Bool) (xs : List X) (x : X) → list_any test xs ≡ false → test x ≡ true → Contains xs x → ⊥
not_any test xs x none passes here = false≢true (sym none ∙ any_by test xs x here passes)

-- ---- one item more

pub differ_none : {X : Type 0} → Differ {X = X} []
differ_none = λ i j d less inside. absurd (omega (arith, inside))

pub differ_cons : {X : Type 0} (x : X) (xs : List X) → (Contains xs x → ⊥) → Differ xs → Differ (x ∷ xs)
differ_cons x xs new differ = AllPairs-cons (λ first second. first ≢ second) x xs
    (λ k d few same. (let at = at_default xs k d few in new (subst (Contains xs) (sym same) (k, at.0, at.1)))) differ

pub differ_head : {X : Type 0} (x : X) (xs : List X) → Differ (x ∷ xs) → Contains xs x → ⊥
differ_head x xs differ here = differ zero (suc here.0) x (omega arith) (omega (arith, here.1)) (sym here.2)

pub differ_tail : {X : Type 0} (x : X) (xs : List X) → Differ (x ∷ xs) → Differ xs
differ_tail x xs differ = λ i j d less inside. differ (suc i) (suc j) d (omega (arith, less)) (omega (arith, inside))

-- ---- lists of lists

pub differ_append : {X : Type 0} (xs ys : List X) → Differ xs → Differ ys → ((z : X) → Contains xs z → Contains ys z → ⊥) → Differ (xs ++ ys)
differ_append [] ys first second apart = second
differ_append (x ∷ xs) ys first second apart =
    differ_cons x (xs ++ ys) (λ here. elim (in_either xs ys x here) [
      | inl there ↦ differ_head x xs first there
      | inr there ↦ apart x (first_in x xs x refl) there
    ]) (differ_append xs ys (differ_tail x xs first) second (λ z here there. apart z (later_in x xs z here) there))

pub differ_push : {X : Type 0} (xs : List X) (x : X) → Differ xs → (Contains xs x → ⊥) → Differ (xs ++ x ∷ [])
differ_push xs x differ new =
    differ_append xs (x ∷ []) differ (differ_cons x [] (in_none x) differ_none) (λ z here there. elim (first_or_later x [] z there) [
      | inl same ↦ new (subst (Contains xs) (sym same) here)
      | inr none ↦ in_none z none
    ])

-- ---- what is found

-- what comes of one item alone
pub found_differ : {X Y : Type 0} (f : X → Option Y) → ((a b : X) (y : Y) → f a ≡ Some y → f b ≡ Some y → a ≡ b) → (xs : List X) → Differ xs →
    Differ (filter_map f xs)
found_differ f tells [] differ = differ_none
found_differ {X} {Y} f tells (x ∷ xs) differ = by (f x) refl (found_differ f tells xs (differ_tail x xs differ))
  where
    by : (found : Option Y) → f x ≡ found → Differ (filter_map f xs) → Differ (cons_option found (filter_map f xs))
    by None is rest = rest
    by (Some y) is rest =
        differ_cons y (filter_map f xs)
        (λ here. (let other = from_found f xs y here in differ_head x xs differ (subst (Contains xs) (tells other.0 x y other.2 is) other.1))) rest
