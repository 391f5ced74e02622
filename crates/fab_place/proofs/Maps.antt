-- Maps that are filled entry by entry.
use Rattle.std.proofs.Common.{◌≡◌, ◌⊎◌, ◌↔◌, Bool, false, cond, List, [], ◌∷◌, Option, Some, None, Decides, refl, sym, ◌∙◌, ap, subst, inl, inr}
use Rattle.std.specs.Map.{lookup}
use Rattle.std.proofs.lemmas.Bool.{cases_Bool, false≢true}
use Rattle.indexmap.specs.IndexMap.{insert_entry}

same_some : {V : Type 0} (a b : V) → Some a ≡ Some b → a ≡ b
same_some a b e = cc

no_some : {V : Type 0} (a : V) → None ≡ Some a → ⊥
no_some a e = cc

pub differs : {X : Type 0} (test : X → X → Bool) → ((a b : X) → Decides (test a b) (a ≡ b)) → (a b : X) → (a ≡ b → ⊥) → test a b ≡ false
differs test tells a b apart = elim (cases_Bool (test a b)) [ inl t ↦ absurd (apart ((tells a b).0 t)) | inr f ↦ f ]

-- keys are told apart by what they stand for
module _ {K X V : Type 0} (key : K → X) (test : X → X → Bool) (tells : (a b : X) → Decides (test a b) (a ≡ b)) where
  abbrev pub found_at : List (K × V) → X → Option V
  found_at entries x = lookup (λ other. test x (key other)) entries

  abbrev pub put_at : List (K × V) → K → V → List (K × V)
  put_at entries k v = insert_entry (λ a b. test (key a) (key b)) entries k v

  found_put : (entries : List (K × V)) (k : K) (v : V) (x : X) → found_at (put_at entries k v) x ≡ cond (test x (key k)) (Some v) (found_at entries x)
  found_put [] k v x = refl
  found_put (entry ∷ entries) k v x = elim (cases_Bool (test (key k) (key entry.0))) [
    | inl t ↦ (
        let same : test x (key k) ≡ test x (key entry.0) = ap (test x) ((tells (key k) (key entry.0)).0 t) in
        rw (t, same) (elim (cases_Bool (test x (key entry.0))) [ inl y ↦ rw y refl | inr n ↦ rw n refl ]))
    | inr f ↦ rw f (elim (cases_Bool (test x (key entry.0))) [
      | inl y ↦ (
          let apart : test x (key k) ≡ false = differs test tells x (key k) (λ e. false≢true (sym f ∙ (tells (key k) (key entry.0)).1 (sym e ∙ (tells x (key entry.0)).0 y))) in
          rw (y, apart) refl)
      | inr n ↦ rw n (found_put entries k v x)
    ])
  ]

  -- a map has what a relation has, and one entry more
  pub map_more : (R S : X → V → Type 0) (entries more : List (K × V)) (k : K) (v : V) → more ≡ put_at entries k v → ((x : X) (w : V) → (found_at entries x ≡ Some w) ↔ R x w) → ((w : V) → R (key k) w → ⊥)
      → ((x : X) (w : V) → S x w → R x w ⊎ ((key k ≡ x) × (v ≡ w))) → ((x : X) (w : V) → R x w → S x w) → S (key k) v → (x : X) (w : V) → (found_at more x ≡ Some w) ↔ S x w
  map_more R S entries more k v is has absent split stays here x w =
      let read : found_at more x ≡ cond (test x (key k)) (Some v) (found_at entries x) = ap (λ (es : List (K × V)). found_at es x) is ∙ found_put entries k v x in
      elim (cases_Bool (test x (key k))) [
        | inl t ↦ (
            let same = (tells x (key k)).0 t in
            let now : found_at more x ≡ Some v = read ∙ ap (λ b. cond b (Some v) (found_at entries x)) t in (
              λ e. subst (λ (u : V). S x u) (same_some v w (sym now ∙ e)) (subst (λ (y : X). S y v) (sym same) here),
              λ s. elim (split x w s) [
                | inl r ↦ absurd (absent w (subst (λ (y : X). R y w) same r))
                | inr both ↦ now ∙ ap (λ (u : V). Some u) both.1
              ],
            ))
        | inr f ↦ (
            let now : found_at more x ≡ found_at entries x = read ∙ ap (λ b. cond b (Some v) (found_at entries x)) f in (
              λ e. stays x w ((has x w).0 (sym now ∙ e)),
              λ s. elim (split x w s) [
                | inl r ↦ now ∙ (has x w).1 r
                | inr both ↦ absurd (false≢true (sym f ∙ (tells x (key k)).1 (sym both.0)))
              ],
            ))
      ]

  pub map_none : (R : X → V → Type 0) (entries : List (K × V)) → entries ≡ [] → ((x : X) (w : V) → R x w → ⊥) → (x : X) (w : V) → (found_at entries x ≡ Some w) ↔ R x w
  map_none R entries is none x w =
      (λ e. absurd (no_some w (sym (ap (λ (es : List (K × V)). found_at es x) is) ∙ e)), λ r. absurd (none x w r))
