-- One item more is kept for one more item of a list.
use Rattle.std.proofs.Common.{◌≡◌, ℕ, suc, zero, ◌+◌, ◌<◌, ◌≤◌, List, [], ◌∷◌, ◌++◌, length, get_or, slice_get, Some, ap, ◌∙◌, sym, refl, subst, arith, inl, inr}
use Rattle.std.proofs.lemmas.Bool.{cases_lt}
use Rattle.fab_model.specs.Tiles.{PlainTile}
use Rattle.fab_features.specs.inner.Matrices.{IsMatrixOf, AreMatricesOf}
use Rattle.fab_features.specs.declared.matrices.Matrix.{Matrix}

get_left : {X : Type 0} (xs ys : List X) (i : ℕ) → i < length xs → slice_get (xs ++ ys) i ≡ slice_get xs i
get_left [] ys i few = absurd (omega (arith, few))
get_left (x ∷ xs) ys zero few = refl
get_left (x ∷ xs) ys (suc i) few = get_left xs ys i (omega (arith, few))

get_last : {X : Type 0} (xs : List X) (x : X) (i : ℕ) → i ≡ length xs → slice_get (xs ++ x ∷ []) i ≡ Some x
get_last [] x i is = ap (slice_get (x ∷ [])) is
get_last (y ∷ xs) x zero is = absurd (omega (arith, is))
get_last (y ∷ xs) x (suc i) is = get_last xs x i (omega (arith, is))

get_read : {X : Type 0} (xs : List X) (i : ℕ) (x : X) → i < length xs → x ≡ get_or xs i x → slice_get xs i ≡ Some x
get_read [] i x few is = absurd (omega (arith, few))
get_read (y ∷ xs) zero x few is = ap (λ z. Some z) (sym is)
get_read (y ∷ xs) (suc i) x few is = get_read xs i x (omega (arith, few)) is

get_within : {X : Type 0} (xs : List X) (i : ℕ) (x : X) → slice_get xs i ≡ Some x → i < length xs
get_within [] i x is = absurd cc
get_within (y ∷ xs) zero x is = omega arith
get_within (y ∷ xs) (suc i) x is = omega (arith, get_within xs i x is)

-- the matrices of the first types
abbrev pub HaveSome : List PlainTile → List Matrix → (n : ℕ) → Type 0
HaveSome types matrices n = (number : ℕ) (tile : PlainTile) → number < n → slice_get types number ≡ Some tile → (matrix : Matrix) × (slice_get matrices number ≡ Some matrix) × IsMatrixOf tile matrix

same_tile : (a b : PlainTile) → Some a ≡ Some b → a ≡ b
same_tile a b e = cc

pub have_more : (types : List PlainTile) (matrices new : List Matrix) (n : ℕ) (tile : PlainTile) (matrix : Matrix) → length matrices ≡ n → n < length types → tile ≡ get_or types n tile →
    new ≡ matrices ++ matrix ∷ [] → IsMatrixOf tile matrix → HaveSome types matrices n → HaveSome types new (n + 1)
have_more types matrices new n tile matrix as_many within is new_is has so_far number other few other_is =
    elim (cases_lt number n) [
      | inl less ↦ (
          let g = so_far number other less other_is in
          (g.0, ap (λ is. slice_get is number) new_is ∙ get_left matrices (matrix ∷ []) number (omega (arith, less, as_many)) ∙ g.1, g.2))
      | inr past ↦ (
          let last : number ≡ n = omega (arith, few, past) in
          let same : tile ≡ other = same_tile tile other (sym (ap (slice_get types) last ∙ get_read types n tile within is) ∙ other_is) in
          (matrix, ap (λ is. slice_get is number) new_is ∙ get_last matrices matrix number (omega (arith, last, as_many)), subst (λ tile. IsMatrixOf tile matrix) same has))
    ]

pub have_all : (types : List PlainTile) (matrices : List Matrix) (n : ℕ) → length types ≤ n → HaveSome types matrices n → AreMatricesOf types matrices
have_all types matrices n all have number tile is = have number tile (omega (arith, all, get_within types number tile is)) is
