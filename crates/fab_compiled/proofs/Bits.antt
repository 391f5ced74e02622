-- Bits of the ternary values of operators.
use Rattle.std.proofs.Common.{◌≡◌, ℕ, zero, suc, ◌+◌, ◌<◌, ◌≤◌, true, false, List, [], ◌∷◌, ◌++◌, length, get_or, map, take, drop, refl, sym, ap, ap₂, ◌∙◌, arith}
use Rattle.std.proofs.lemmas.Bool.{false≢true}
use Rattle.std.proofs.lemmas.List.{drop_more}
use Rattle.fab_systems_laws.specs.Ternary.{Tern, no, yes, unknown}
use Rattle.fab_solutions_laws.specs.fab_ternary_laws_Operators.{tern_at, inverse, both, differs, each_tern, same_terns}
use Rattle.fab_solutions_laws.specs.fab_ternary_laws_Shown.{first_terns}
use Rattle.fab_ternary.specs.declared.Tern.{Tern as Kept}
use Rattle.fab_ternary.specs.declared.Tern.TheVariants.{No}
use Rattle.fab_ternary.specs.Terns.{plain_tern, is_known, is_one}
use Rattle.fab_compiled.specs.Evaluation.{all_known}

pub first_at : (n : ℕ) (f : ℕ → Tern) (i : ℕ) → i < n → tern_at (first_terns n f) i ≡ f i
first_at zero f i l = absurd (omega arith)
first_at (suc n) f zero l = refl
first_at (suc n) f (suc i) l = first_at n (λ k. f (suc k)) i (omega arith)

pub each_at : (f : Tern → Tern → Tern) (ts us : List Tern) (i : ℕ) → i < length ts → length ts ≡ length us → tern_at (each_tern f ts us) i ≡ f (tern_at ts i) (tern_at us i)
each_at f [] us i l e = absurd (omega arith)
each_at f (t ∷ ts) [] i l e = absurd (omega (arith, e))
each_at f (t ∷ ts) (u ∷ us) zero l e = refl
each_at f (t ∷ ts) (u ∷ us) (suc i) l e = each_at f ts us i (omega arith) (omega (arith, e))

pub inverse_at : (ts : List Tern) (i : ℕ) → i < length ts → tern_at (map inverse ts) i ≡ inverse (tern_at ts i)
inverse_at [] i l = absurd (omega arith)
inverse_at (t ∷ ts) zero l = refl
inverse_at (t ∷ ts) (suc i) l = inverse_at ts i (omega arith)

pub low_at : (ts us : List Tern) (i : ℕ) → i < length ts → tern_at (ts ++ us) i ≡ tern_at ts i
low_at [] us i l = absurd (omega arith)
low_at (t ∷ ts) us zero l = refl
low_at (t ∷ ts) us (suc i) l = low_at ts us i (omega arith)

pub high_at : (ts us : List Tern) (i : ℕ) → tern_at (ts ++ us) (length ts + i) ≡ tern_at us i
high_at [] us i = let e : 0 + i ≡ i = omega arith in ap (tern_at us) e
high_at (t ∷ ts) us i = let e : suc (length ts) + i ≡ suc (length ts + i) = omega arith in ap (tern_at (t ∷ (ts ++ us))) e ∙ high_at ts us i

-- one bit more of an equality
pub same_more : (ts us : List Tern) (i : ℕ) → i < length ts → length ts ≡ length us →
    same_terns (drop i ts) (drop i us) ≡ both (inverse (differs (tern_at ts i) (tern_at us i))) (same_terns (drop (i + 1) ts) (drop (i + 1) us))
same_more ts us i l e = ap₂ same_terns (drop_more ts i no l) (drop_more us i no (omega (arith, e)))

pub one_at : (ts : List Tern) (i : ℕ) → is_one (tern_at ts i) ≡ get_or (map is_one ts) i false
one_at [] i = refl
one_at (t ∷ ts) zero = refl
one_at (t ∷ ts) (suc i) = one_at ts i

pub all_from : (ts : List Tern) → ((k : ℕ) → k < length ts → is_known (tern_at ts k) ≡ true) → true ≡ all_known ts
all_from [] h = refl
all_from (no ∷ ts) h = all_from ts (λ k l. h (suc k) (omega arith))
all_from (yes ∷ ts) h = all_from ts (λ k l. h (suc k) (omega arith))
all_from (unknown ∷ ts) h = absurd (false≢true (h 0 (omega arith)))

pub not_all : (ts : List Tern) (k : ℕ) → k < length ts → is_known (tern_at ts k) ≡ false → false ≡ all_known ts
not_all [] k l h = absurd (omega arith)
not_all (no ∷ ts) zero l h = absurd (false≢true (sym h))
not_all (yes ∷ ts) zero l h = absurd (false≢true (sym h))
not_all (unknown ∷ ts) k l h = refl
not_all (no ∷ ts) (suc k) l h = not_all ts k (omega arith) h
not_all (yes ∷ ts) (suc k) l h = not_all ts k (omega arith) h

pub open_at : (ts : List Tern) (i : ℕ) → i < length ts → tern_at (map (λ t. unknown) ts) i ≡ unknown
open_at [] i l = absurd (omega arith)
open_at (t ∷ ts) zero l = refl
open_at (t ∷ ts) (suc i) l = open_at ts i (omega arith)

-- kept bits that are those of a value, bit by bit
pub kept_are : (kept : List Kept) (ts : List Tern) (n : ℕ) → n ≤ length kept → length ts ≡ n → ((k : ℕ) → k < n → plain_tern (get_or kept k No) ≡ tern_at ts k) →
    map plain_tern (take n kept) ≡ ts
kept_are kept [] zero l e h = refl
kept_are kept [] (suc n) l e h = absurd (omega (arith, e))
kept_are kept (t ∷ ts) zero l e h = absurd (omega (arith, e))
kept_are [] (t ∷ ts) (suc n) l e h = absurd (omega arith)
kept_are (b ∷ kept) (t ∷ ts) (suc n) l e h = ap₂ (λ u us. u ∷ us) (h 0 (omega arith)) (kept_are kept ts n (omega arith) (omega (arith, e)) (λ k m. h (suc k) (omega arith)))
