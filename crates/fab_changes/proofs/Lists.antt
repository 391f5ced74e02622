-- Lists that grow at their end, by their indices.
use Rattle.std.proofs.Common.{◌≡◌, ◌⊎◌, ℕ, zero, suc, ◌<◌, List, [], ◌∷◌, ◌++◌, Some, length, refl, ap, inl, inr, arith, slice_get, slice_index, slice_index_or}
use Rattle.fab_ternary.specs.declared.Tern.{Tern}
use Rattle.fab_ternary.specs.Terns.{plain_tern}
use Rattle.fab_network.specs.Passes.{kept_tern}

pub get_left : {X : Type 0} (xs ys : List X) (k : ℕ) (x : X) → slice_get xs k ≡ Some x → slice_get (xs ++ ys) k ≡ Some x
get_left [] ys k x e = cc
get_left (y ∷ xs) ys zero x e = e
get_left (y ∷ xs) ys (suc k) x e = get_left xs ys k x e

pub get_last : {X : Type 0} (xs : List X) (x : X) → slice_get (xs ++ x ∷ []) (length xs) ≡ Some x
get_last [] x = refl
get_last (y ∷ xs) x = get_last xs x

pub get_either : {X : Type 0} (xs : List X) (y : X) (k : ℕ) (x : X) → slice_get (xs ++ y ∷ []) k ≡ Some x →
    (slice_get xs k ≡ Some x) ⊎ ((k ≡ length xs) × (x ≡ y))
get_either [] y zero x e = inr (refl, cc)
get_either [] y (suc k) x e = cc
get_either (z ∷ xs) y zero x e = inl e
get_either (z ∷ xs) y (suc k) x e = elim (get_either xs y k x e) [ inl there ↦ inl there | inr last ↦ inr (ap suc last.0, last.1) ]

pub index_there : (xs : List ℕ) (k : ℕ) → k < length xs → slice_get xs k ≡ Some (slice_index xs k)
index_there [] k l = absurd (omega arith)
index_there (x ∷ xs) zero l = refl
index_there (x ∷ xs) (suc k) l = index_there xs k (omega arith)

pub kept_read : (terns : List Tern) (k : ℕ) (d : Tern) → k < length terns → plain_tern (slice_index_or terns k d) ≡ kept_tern terns k
kept_read [] k d l = absurd (omega arith)
kept_read (t ∷ terns) zero d l = refl
kept_read (t ∷ terns) (suc k) d l = kept_read terns k d (omega arith)
